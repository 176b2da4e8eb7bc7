use Rattle.std.proofs.Common.{ap, ◌∙◌, subst, IsFalse}
use Rattle.nz_fractions.specs.Fraction.{Fraction, ◌/ℚ◌, is_wide_product, is_wide, outcome, exact, Product}
use Rattle.nz_frac.proofs.WideLemmas.{not_wide, some_wide}
use Rattle.nz_frac.proofs.frac.Frac.div.Goals as goal

pub returns-in-Some-clause-quotient : goal.returns-in-Some-clause-quotient
unfolding outcome exact ◌/ℚ◌
returns-in-Some-clause-quotient c = c.in-Some.ensures.1 ∙ ap (λ (x : Fraction). outcome Product c.args.self x) c.turned.ensures

pub returns-in-Some-clause-wide : goal.returns-in-Some-clause-wide
unfolding is_wide
returns-in-Some-clause-wide c =
    not_wide _ (subst (λ (x : Fraction). IsFalse (is_wide_product c.args.self x)) c.turned.ensures c.in-Some.ensures.0)

pub returns-in-None-clause-wide : goal.returns-in-None-clause-wide
unfolding is_wide
returns-in-None-clause-wide c =
    some_wide _
    (subst (λ (x : Fraction). IsFalse (is_wide_product c.args.self x) → ⊥) c.turned.ensures c.in-None.ensures)
