-- The way back along the trail, place by place.
use Rattle.std.proofs.Common.{◌≡◌, ℕ, ◌+◌, ◌-◌, Bool, true, false, ◌&&◌, List, [], ◌∷◌, ◌++◌, take, Some, inl, inr, refl, subst, sym, ap, ◌∙◌, arith, rules, length-take, ◌==◌}
use Rattle.std.specs.Prelude.{slice_set}
use Rattle.std.proofs.lemmas.List.Sums.{count_by-le-length}
use Rattle.nz_log.specs.declared.lits.Lit.{Lit}
use Rattle.nz_log.specs.declared.origins.Link.{Link}
use Rattle.nz_log.specs.Logs.{literals_at}
use Rattle.nz_sat.specs.declared.trail.Assigned.{Assigned}
use Rattle.nz_sat.specs.Conflicts.{IsOnWayBack, MarksCounted, is_marked}
use Rattle.nz_sat.specs.Trails.{depth}
use Rattle.nz_sat.proofs.ConflictChains.{counted_over, link_of, way_on, way_past, way_ends, way_over, way_starts}
use Rattle.nz_sat.proofs.analyze.chain_back.Goals as goal
use Rattle.nz_sat.proofs.analyze.chain_back.Goals.{in_default-via-in-Some+else-left-gt1, in_default-via-in_default}

abbrev is_marked_of : List Bool → ℕ → Assigned → Bool
is_marked_of marks level e = is_marked marks e.literal.atom && (e.level == level)

pub loop-i-init : goal.loop-i-init
loop-i-init c =
    let s = c.args.log.now in
    let es = c.args.trail.now.entries in
    let made = counted_over es _ (literals_at s c.args.falsified) _ (depth es) _ _ _ c.clause.ensures.literals c.level-level.ensures.level c.mark-left.ensures.marks in
    subst (λ (ks : List Link). IsOnWayBack s es c.args.falsified c.len-count.result c.mark-left.new.seen ks c.mark-left.result) (sym c.new-links.ensures.items)
    (way_starts s c.args.trail.now.size es c.len-count.ensures.trail c.args.falsified c.args.seen.now c.mark-left.new.seen c.mark-left.result c.len-count.result
    c.len-count.ensures.count c.requires.falsified c.requires.unmarked made c.requires.two)

pub bounds-seen-atom : goal.bounds-seen-atom
bounds-seen-atom c =
    let is = c.loop-i.i - 1 in
    let within = (c.len-count.ensures.trail is c.entry-entry.result c.entry-entry.ensures.entry).within in
    omega (arith, within, c.requires.size, c.loop-i.auto.seen, c.atom-atom.ensures.atom)

pub overflow_add-left : goal.overflow_add-left
overflow_add-left c =
    let s = c.args.log.now in
    let es = c.args.trail.now.entries in
    let e = c.entry-entry.result in
    let reason : e.reason ≡ Some c.in-Some.clause = search rules in
    let at = c.atom-atom.ensures.atom in
    let seen : is_marked c.loop-i.seen e.literal.atom ≡ true = subst (λ (a : ℕ). is_marked c.loop-i.seen a ≡ true) at c.if-seen-atom.true in
    let made : MarksCounted es (literals_at s c.in-Some.clause) (depth es) (slice_set c.loop-i.seen e.literal.atom false) c.mark-left-in-Some.new.seen c.mark-left-in-Some.result =
    subst (λ (a : ℕ). MarksCounted es (literals_at s c.in-Some.clause) (depth es) (slice_set c.loop-i.seen a false) c.mark-left-in-Some.new.seen c.mark-left-in-Some.result) at
    (counted_over es _ (literals_at s c.in-Some.clause) _ (depth es) _ _ _ c.clause-in-Some.ensures.literals c.level-level.ensures.level c.mark-left-in-Some.ensures.marks)
    in
    let next = way_on s c.args.trail.now.size es c.len-count.ensures.trail c.args.falsified c.loop-i.i (c.loop-i.i - 1) (omega arith) e c.entry-entry.ensures.entry
    c.loop-i.seen c.loop-i.links.items c.loop-i.left c.loop-i.invariant seen c.tells_lits.ensures.tells c.in-Some.clause reason
    (c.requires.implied (c.loop-i.i - 1) e c.entry-entry.ensures.entry) c.mark-left-in-Some.new.seen c.mark-left-in-Some.result made c.if-left-gt1.true in
    let n = c.loop-i.i - 1 in
    let less = count_by-le-length (is_marked_of c.mark-left-in-Some.new.seen (depth es)) (take n es) in
    omega (arith, next.count, less, length-take n es, c.len-count.ensures.count, c.len-count.type_inv)

pub loop-i-preserved-then-left-gt1 : goal.loop-i-preserved-then-left-gt1
loop-i-preserved-then-left-gt1 c =
    let s = c.args.log.now in
    let es = c.args.trail.now.entries in
    let e = c.entry-entry.result in
    let reason : e.reason ≡ Some c.in-Some.clause = search rules in
    let at = c.atom-atom.ensures.atom in
    let seen : is_marked c.loop-i.seen e.literal.atom ≡ true = subst (λ (a : ℕ). is_marked c.loop-i.seen a ≡ true) at c.if-seen-atom.true in
    let made : MarksCounted es (literals_at s c.in-Some.clause) (depth es) (slice_set c.loop-i.seen e.literal.atom false) c.mark-left-in-Some.new.seen c.mark-left-in-Some.result =
    subst (λ (a : ℕ). MarksCounted es (literals_at s c.in-Some.clause) (depth es) (slice_set c.loop-i.seen a false) c.mark-left-in-Some.new.seen c.mark-left-in-Some.result) at
    (counted_over es _ (literals_at s c.in-Some.clause) _ (depth es) _ _ _ c.clause-in-Some.ensures.literals c.level-level.ensures.level c.mark-left-in-Some.ensures.marks)
    in
    let next = way_on s c.args.trail.now.size es c.len-count.ensures.trail c.args.falsified c.loop-i.i (c.loop-i.i - 1) (omega arith) e c.entry-entry.ensures.entry
    c.loop-i.seen c.loop-i.links.items c.loop-i.left c.loop-i.invariant seen c.tells_lits.ensures.tells c.in-Some.clause reason
    (c.requires.implied (c.loop-i.i - 1) e c.entry-entry.ensures.entry) c.mark-left-in-Some.new.seen c.mark-left-in-Some.result made c.if-left-gt1.true in
    let longer : c.push.new.self.items ≡ c.loop-i.links.items ++ link_of e c.in-Some.clause ∷ [] =
    c.in_ok-push-in-Some.ensures.items ∙ ap (λ (l : Lit). c.loop-i.links.items ++ record { clause = c.in-Some.clause; literal = l } ∷ []) c.not-literal.ensures.negation in
    subst (λ (ks : List Link). IsOnWayBack s es c.args.falsified (c.loop-i.i - 1) c.mark-left-in-Some.new.seen ks (c.loop-i.left - 1 + c.mark-left-in-Some.result))
    (sym longer) next

pub returns-in_default : goal.returns-in_default
returns-in_default c =
    let ends = way_ends c.args.log.now c.args.trail.now.size c.args.trail.now.entries c.len-count.ensures.trail c.args.falsified c.loop-i.i (c.loop-i.i - 1) (omega arith) c.entry-entry.result
    c.entry-entry.ensures.entry c.loop-i.seen c.loop-i.links.items c.loop-i.left c.loop-i.invariant (subst (λ (a : ℕ). is_marked c.loop-i.seen a ≡ true) c.atom-atom.ensures.atom c.if-seen-atom.true) (record { links = c.loop-i.links; literal = c.not-literal.result })
    refl c.not-literal.ensures.negation c.requires.decided in
    record {
      chain =
          elim c.in_default.branch [
            | in_default-via-in-Some+else-left-gt1 w ↦ ends (inl w.if-left-gt1.false)
            | in_default-via-in_default w ↦ ends (inr w.in_default.is)
          ];
    }

pub loop-i-preserved : goal.loop-i-preserved
loop-i-preserved c =
    way_past c.args.log.now c.args.trail.now.size c.args.trail.now.entries c.len-count.ensures.trail c.args.falsified c.loop-i.i (c.loop-i.i - 1) (omega arith) c.entry-entry.result
    c.entry-entry.ensures.entry c.loop-i.seen c.loop-i.links.items c.loop-i.left c.loop-i.invariant (subst (λ (a : ℕ). is_marked c.loop-i.seen a ≡ false) c.atom-atom.ensures.atom c.if-seen-atom.false)

pub unreachable-requires : goal.unreachable-requires
unreachable-requires c =
    way_over c.args.log.now c.args.trail.now.entries c.args.falsified c.loop-i.seen c.loop-i.links.items c.loop-i.left c.loop-i.i (omega arith) c.loop-i.invariant
