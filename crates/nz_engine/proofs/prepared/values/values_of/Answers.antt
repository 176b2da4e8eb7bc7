use Rattle.std.proofs.Common.{rules, ◌≡◌, ℕ, ◌≤◌, Err, IfErr, List, length, ap, arith, subst, sym, ◌∙◌}
use Rattle.std.specs.Prelude.{flat_map}
use Rattle.std.proofs.lemmas.List.{take_all}
use Rattle.nz_spec.specs.terms.Term.{Value}
use Rattle.nz_search.specs.declared.stop.Stop.{Stop}
use Rattle.nz_search.specs.Places.{OnWide}
use Rattle.nz_reals.specs.Chosen.{HasWorths}
use Rattle.nz_reals.specs.Constants.{AreMarkedAmong}
use Rattle.nz_engine.specs.declared.prepared.Prepared.TheInside.{Inside}
use Rattle.nz_engine.specs.Checking.{AreMarksOf, IsStopOf, value_at}
use Rattle.nz_engine.specs.Preparing.{PreparedState}
use Rattle.nz_engine.proofs.prepared.values.values_of.Goals as goal

pub returns-in_err-add_values-clause-place : goal.returns-in_err-add_values-clause-place
returns-in_err-add_values-clause-place c = λ ts among.
    let same : Err c.in_err-add_values.field-0.0 ≡ c.from_residual-in_err-add_values.result = search rules in
    let ns = c.args.terms.now in
    let e : Stop = c.in_err-add_values.field-0.0 in
    let marks : AreMarksOf c.args.covered.now c.deref.result.now = subst (AreMarksOf c.args.covered.now) (sym c.deref.ensures.value) c.in_ok-is_covered.ensures.marks in
    let marked : AreMarkedAmong ns c.deref.result.now ts = λ u is. among u (marks.right u is) in
    subst (λ r. IfErr r (λ (s : Stop). OnWide s (IsStopOf ns ts c.args.prepared.now.sat.theory))) same
    (subst (λ (p : PreparedState). OnWide e (IsStopOf ns ts p.sat.theory)) c.prepared.view_is
    (subst (λ (i : Inside). OnWide e (IsStopOf ns ts i.sat.theory)) c.prepared-inside.view_is (c.in_err-add_values.ensures.place ts marked)))

pub returns-clause-worths : goal.returns-clause-worths
returns-clause-worths c =
    let ns = c.args.terms.now in
    let p = c.args.prepared.now in
    let covered = c.args.covered.now in
    let old = c.loop-term.values in
    let new = c.add_values.new.values in
    let marks : AreMarksOf covered c.deref.result.now = subst (AreMarksOf covered) (sym c.deref.ensures.value) c.in_ok-is_covered.ensures.marks in
    let past : length covered ≤ c.loop-term.term-index = omega (arith, c.loop-term-test.false) in
    let before : old ≡ flat_map (value_at ns p) covered = c.loop-term.invariant ∙ ap (λ (ts : List ℕ). flat_map (value_at ns p) ts) (take_all c.loop-term.term-index covered past) in
    let worths : HasWorths p.sat.theory ns c.deref.result.now old new =
    subst (λ (s : PreparedState). HasWorths s.sat.theory ns c.deref.result.now old new) c.prepared.view_is
    (subst (λ (i : Inside). HasWorths i.sat.theory ns c.deref.result.now old new) c.prepared-inside.view_is c.in_ok-add_values.ensures.worths) in
    (c.deref.result.now, marks, subst (λ (vs : List (ℕ × Value)). HasWorths p.sat.theory ns c.deref.result.now vs new) before worths)
