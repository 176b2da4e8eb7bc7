use Rattle.std.proofs.Common.{◌≤◌, refl, subst}
use Rattle.std.proofs.lemmas.Bool.{OnTrue_at, OnTrue_from}
use Rattle.nz_reals.specs.State.{told_lits}
use Rattle.nz_reals_tests.proofs.TheoryOverLog.{order_undone}
use Rattle.nz_reals_tests.proofs.system.System.undo.Goals as goal

pub invariant_of-self : goal.invariant_of-self
invariant_of-self c =
    let s = c.self.inside in
    OnTrue_from s.known _ (λ known.
    let h = OnTrue_at known c.self.invariant in
    let less = subst (λ n. c.args.mark ≤ n) (c.mark.ensures.count (told_lits s.reals) refl) c.if-mark.true in
    order_undone s.terms s.log s.reals c.undo.new.self s.atoms.items c.args.mark h (c.undo.ensures.over s.terms h.over) (c.undo.ensures.of s.log.atoms s.atoms.items h.of) (c.undo.ensures.told (told_lits s.reals) refl less))
