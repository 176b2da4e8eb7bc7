use Rattle.std.proofs.Common.{ap, ◌∙◌, subst, IsFalse}
use Rattle.nz_fractions.specs.Fraction.{Fraction, ◌-ℚ◌, is_wide_sum, is_wide, outcome, exact, Sum}
use Rattle.nz_frac.proofs.WideLemmas.{not_wide, some_wide}
use Rattle.nz_frac.proofs.frac.Frac.sub.Goals as goal

pub returns-in-Some-clause-difference : goal.returns-in-Some-clause-difference
unfolding outcome exact ◌-ℚ◌
returns-in-Some-clause-difference c = c.in-Some.ensures.1 ∙ ap (λ (x : Fraction). outcome Sum c.args.self x) c.neg.ensures

pub returns-in-Some-clause-wide : goal.returns-in-Some-clause-wide
unfolding is_wide
returns-in-Some-clause-wide c =
    not_wide _ (subst (λ (x : Fraction). IsFalse (is_wide_sum c.args.self x)) c.neg.ensures c.in-Some.ensures.0)

pub returns-in-None-clause-wide : goal.returns-in-None-clause-wide
unfolding is_wide
returns-in-None-clause-wide c =
    some_wide _
    (subst (λ (x : Fraction). IsFalse (is_wide_sum c.args.self x) → ⊥) c.neg.ensures c.in-None.ensures)
