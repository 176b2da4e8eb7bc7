-- One entry more.
use Rattle.std.proofs.Common.{◌≡◌, ℕ, ◌+◌, true, false, None, Option, Err, Ok, sym, subst, arith, rules, is_some}
use Rattle.nz_spec.specs.search.Work.{WorkList}
use Rattle.nz_search.specs.declared.note.Note.{Note}
use Rattle.nz_log.specs.Logs.{LogState}
use Rattle.nz_sat.specs.Conflicts.{is_marked}
use Rattle.nz_sat.specs.Theories.{Consults, TellsOne, TheoryState, state_of}
use Rattle.nz_sat.proofs.ToldTrails.{consults_clash, consults_err, consults_more, consults_none, consults_same, consults_skip, next_atom}
use Rattle.nz_sat.proofs.AtomTrails.{marked_bound}
use Rattle.nz_sat.proofs.consult.tell.Goals.{then-has+in_ok-clash+else-is_some, else-has}
use Rattle.nz_sat.proofs.consult.tell.Goals as goal

pub loop-bounds-init : goal.loop-bounds-init
loop-bounds-init g c =
    consults_none (state_of g.T.Theory.is_over g.T.Theory.has_told g.T.Theory.is_feasible g.T.Theory.is_of g.T.Theory.is_at c.args.theory.now) c.args.log.now c.args.atoms.now c.args.bounds.now
    c.args.trail.now c.args.work.now c.requires.trail c.requires.told c.requires.noted

pub tell_one-requires-clause-named : goal.tell_one-requires-clause-named
tell_one-requires-clause-named g c =
    next_atom c.loop-bounds.log c.args.atoms.now c.loop-bounds.bounds c.args.trail.now c.loop-bounds.invariant.trail c.entry-literal.result c.entry-literal.ensures.entry

pub tell_one-requires-clause-bound : goal.tell_one-requires-clause-bound
tell_one-requires-clause-bound g c =
    let b = c.loop-bounds.bounds in
    let marked : is_marked b.marks.items c.entry-literal.result.literal.atom ≡ true = search rules in
    marked_bound c.loop-bounds.log c.args.atoms.now b.marks.items c.loop-bounds.invariant.trail.marked c.entry-literal.result.literal
    (next_atom c.loop-bounds.log c.args.atoms.now b c.args.trail.now c.loop-bounds.invariant.trail c.entry-literal.result c.entry-literal.ensures.entry) marked

pub tell_one-requires-clause-of : goal.tell_one-requires-clause-of
tell_one-requires-clause-of g c =
    g.T.Theory.stays c.loop-bounds.theory c.args.log.now.atoms c.loop-bounds.log.atoms c.args.atoms.now (c.loop-bounds.invariant.keeps.of c.args.log.now.atoms c.args.atoms.now c.requires.of)
    c.loop-bounds.invariant.grows.atoms

pub returns-in_err-clash-clause-comes : goal.returns-in_err-clash-clause-comes
returns-in_err-clash-clause-comes g c =
    let same : Err c.in_err-clash.field-0.0 ≡ c.from_residual.result = search rules in
    consults_same same
    (consults_err c.loop-bounds.invariant c.entry-literal.result c.entry-literal.ensures.entry c.in_err-clash.ensures.comes (record {
      tells = c.tells_lits.ensures.tells;
      clauses = c.clauses_are_true.ensures.clauses;
      other = c.negation_is_other.ensures.other;
      repeats = c.legal_work_does_not_repeat.ensures.repeats;
    }))

pub returns-then-is_some-clause-comes : goal.returns-then-is_some-clause-comes
returns-then-is_some-clause-comes g c =
    let some : is_some c.in_ok-clash.clash ≡ true = search rules in
    consults_clash c.loop-bounds.invariant c.entry-literal.result c.entry-literal.ensures.entry c.in_ok-clash.clash some c.in_ok-clash.ensures.comes (record {
      tells = c.tells_lits.ensures.tells;
      clauses = c.clauses_are_true.ensures.clauses;
      other = c.negation_is_other.ensures.other;
      repeats = c.legal_work_does_not_repeat.ensures.repeats;
    })

pub loop-bounds-smaller : goal.loop-bounds-smaller
loop-bounds-smaller g c =
    let count = c.len.ensures.count in
    let more = c.loop-bounds-test.true in
    omega arith

pub loop-bounds-preserved : goal.loop-bounds-preserved
loop-bounds-preserved g c =
    let b = c.loop-bounds.bounds in
    let e = c.entry-literal.result in
    let at = c.entry-literal.ensures.entry in
    let theory : g.row.T.Denot → TheoryState = state_of g.T.Theory.is_over g.T.Theory.has_told g.T.Theory.is_feasible g.T.Theory.is_of g.T.Theory.is_at in
    let F : LogState → g.row.T.Denot → WorkList Note → Type 0 =
    λ log t work. Consults (theory c.args.theory.now) (theory t) c.args.log.now log c.args.atoms.now c.args.bounds.now (record b { told = b.told + 1 }) c.args.trail.now c.args.work.now work (Ok None) in
    elim c.if-has.branch [
      | then-has+in_ok-clash+else-is_some w ↦
          let marked : is_marked b.marks.items e.literal.atom ≡ true = search rules in
          let none : w.in_ok-clash.clash ≡ None = search rules in
          let log = w.tell_one.new.log in
          let t = w.tell_one.new.theory in
          let work = w.tell_one.new.work in
          let one : TellsOne (theory c.loop-bounds.theory) (theory t) c.loop-bounds.log log c.args.atoms.now e.literal c.loop-bounds.work work (Ok None) =
          subst (λ (o : Option ℕ). TellsOne (theory c.loop-bounds.theory) (theory t) c.loop-bounds.log log c.args.atoms.now e.literal c.loop-bounds.work work (Ok o)) none
          w.in_ok-clash.ensures.comes in
          let made : F log t work =
          consults_more c.loop-bounds.invariant e at one
          (record {
            tells = c.tells_lits.ensures.tells;
            clauses = c.clauses_are_true.ensures.clauses;
            other = c.negation_is_other.ensures.other;
            repeats = c.legal_work_does_not_repeat.ensures.repeats;
          }) marked in
          subst (λ (x : LogState). F x c.if-has.theory c.if-has.work) (sym w.log-is)
          (subst (λ (x : g.row.T.Denot). F log x c.if-has.work) (sym w.theory-is) (subst (λ (x : WorkList Note). F log t x) (sym w.work-is) made))
      | else-has w ↦
          let unmarked : is_marked b.marks.items e.literal.atom ≡ false = search rules in
          let made : F c.loop-bounds.log c.loop-bounds.theory c.loop-bounds.work = consults_skip c.loop-bounds.invariant e at unmarked in
          subst (λ (x : LogState). F x c.if-has.theory c.if-has.work) (sym w.log-is)
          (subst (λ (x : g.row.T.Denot). F c.loop-bounds.log x c.if-has.work) (sym w.theory-is)
          (subst (λ (x : WorkList Note). F c.loop-bounds.log c.loop-bounds.theory x) (sym w.work-is) made))
    ]

pub returns-clause-comes : goal.returns-clause-comes
returns-clause-comes g c = c.loop-bounds.invariant

pub returns-clause-all : goal.returns-clause-all
returns-clause-all g c none =
    let count = c.len.ensures.count in
    let less = c.loop-bounds-test.false in
    let inside = c.loop-bounds.invariant.trail.inside in
    omega arith
