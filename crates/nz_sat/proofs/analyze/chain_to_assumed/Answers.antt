-- The way back along the trail, place by place.
use Rattle.std.proofs.Common.{◌≡◌, ◌-◌, ℕ, false, List, [], ◌∷◌, ◌++◌, Some, subst, sym, ap, ◌∙◌, arith, rules}
use Rattle.nz_log.specs.declared.lits.Lit.{Lit}
use Rattle.nz_log.specs.Logs.{literals_at}
use Rattle.nz_sat.specs.Conflicts.{IsOnWayToAssumed, MarksFalse, is_marked}
use Rattle.nz_sat.proofs.ConflictChains.{assumed_ends, assumed_here, assumed_on, assumed_past, assumed_starts, link_of}
use Rattle.nz_sat.proofs.analyze.chain_to_assumed.Goals as goal

pub loop-i-init : goal.loop-i-init
loop-i-init c =
    let s = c.args.log.now in
    let es = c.args.trail.now.entries in
    let new = c.mark.new.seen in
    let made : MarksFalse es (literals_at s c.args.falsified) c.args.seen.now new =
    subst (λ (l : List Lit). MarksFalse es l c.args.seen.now new) c.clause.ensures.literals c.mark.ensures.marks.marks in
    subst (IsOnWayToAssumed s es c.args.falsified c.len-count.result new) (sym c.new-links.ensures.items)
    (assumed_starts s es c.args.falsified c.len-count.result c.len-count.ensures.count c.args.seen.now new made)

pub bounds-seen-atom : goal.bounds-seen-atom
bounds-seen-atom c =
    let within = (c.len-count.ensures.trail (c.loop-i.i - 1) c.entry-entry.result c.entry-entry.ensures.entry).within in
    omega (arith, within, c.requires.size, c.loop-i.auto.seen, c.atom-atom.ensures.atom)

pub loop-i-preserved-in-Continue-1 : goal.loop-i-preserved-in-Continue-1
loop-i-preserved-in-Continue-1 c =
    let s = c.args.log.now in
    let es = c.args.trail.now.entries in
    let e = c.entry-entry.result in
    let i = c.loop-i.i - 1 in
    let new = c.mark-in-Some.new.seen in
    let reason : e.reason ≡ Some c.in-Some.clause = search rules in
    let made : MarksFalse es (literals_at s c.in-Some.clause) c.loop-i.seen new =
    subst (λ (l : List Lit). MarksFalse es l c.loop-i.seen new) c.clause-in-Some.ensures.literals c.mark-in-Some.ensures.marks.marks in
    let longer : c.push.new.self.items ≡ c.loop-i.links.items ++ link_of e c.in-Some.clause ∷ [] =
    c.in_ok-push.ensures.items ∙ ap (λ (l : Lit). c.loop-i.links.items ++ record { clause = c.in-Some.clause; literal = l } ∷ []) c.not.ensures.negation in
    subst (IsOnWayToAssumed s es c.args.falsified i new) (sym longer)
    (assumed_on s c.args.trail.now.size es c.len-count.ensures.trail c.args.falsified c.loop-i.i i (omega arith) e c.entry-entry.ensures.entry c.loop-i.seen c.loop-i.links.items
    c.loop-i.invariant c.tells_lits.ensures.tells c.in-Some.clause reason (c.requires.implied i e c.entry-entry.ensures.entry) new made)

pub loop-i-preserved-in_default : goal.loop-i-preserved-in_default
loop-i-preserved-in_default c =
    assumed_here c.args.log.now c.args.trail.now.size c.args.trail.now.entries c.len-count.ensures.trail c.args.falsified c.loop-i.i (c.loop-i.i - 1) (omega arith)
    c.entry-entry.result c.entry-entry.ensures.entry c.loop-i.seen c.loop-i.links.items c.loop-i.invariant c.in_default.is c.requires.undecided

pub loop-i-preserved : goal.loop-i-preserved
loop-i-preserved c =
    assumed_past c.args.log.now c.args.trail.now.size c.args.trail.now.entries c.len-count.ensures.trail c.args.falsified c.loop-i.i (c.loop-i.i - 1) (omega arith)
    c.entry-entry.result c.entry-entry.ensures.entry c.loop-i.seen c.loop-i.links.items c.loop-i.invariant (subst (λ (a : ℕ). is_marked c.loop-i.seen a ≡ false) c.atom-atom.ensures.atom c.if-seen-atom.false)

pub returns-clause-refutes : goal.returns-clause-refutes
returns-clause-refutes c =
    assumed_ends c.args.log.now c.args.trail.now.entries c.args.falsified c.loop-i.i (omega arith) c.loop-i.seen c.loop-i.links.items c.loop-i.invariant
