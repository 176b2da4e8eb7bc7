-- The product stops first, and then the sum.
use Rattle.std.proofs.Common.{◌≡◌, refl, sym, ap, ◌∙◌}
use Rattle.std.proofs.lemmas.Result.{err_from_is_err_and, IfOk-weaker}
use Rattle.nz_lists.proofs.Tests.{told_false, told_true}
use Rattle.nz_fractions.specs.Fraction.{Fraction, Sum, first_wide, outcome, ◌=ℚ◌}
use Rattle.nz_spec.specs.numbers.Infinitesimal as infinitesimal
use Rattle.nz_delta.specs.DeltaSpace.{infinitesimal_of}
use Rattle.nz_delta.specs.Operations.{alone}
use Rattle.nz_delta.proofs.WideLemmas.{first_here, first_later, refused_alone, refused_is}
use Rattle.nz_reals.proofs.InfinitesimalLimits.{value_is}
use Rattle.nz_reals.proofs.model.at.Goals as goal

pub returns-in_err-product-clause-stops : goal.returns-in_err-product-clause-stops
returns-in_err-product-clause-stops c =
    let p = err_from_is_err_and c.from_residual.result c.from_residual.ensures.1 in
    refused_is c.from_residual.result p.0 _ p.1 (p.2 ∙ c.in_err-product.ensures.named) ∙ sym (first_here _ _ (told_true c.in_err-product.ensures.wide))

pub returns-clause-value : goal.returns-clause-value
returns-clause-value c =
    let product = c.in_ok-product.product in
    IfOk-weaker c.add.result (λ (q : Fraction). q ≡ outcome Sum c.args.value.c product) (λ (q : Fraction). q =ℚ infinitesimal.at (infinitesimal_of c.args.value) c.args.delta)
    (λ q is. value_is (infinitesimal_of c.args.value) c.args.delta product q c.in_ok-product.ensures.product is) c.add.ensures.sum

pub returns-clause-stops : goal.returns-clause-stops
returns-clause-stops c =
    refused_alone c.add.result Sum c.args.value.c c.in_ok-product.product _ refl c.add.ensures.wide c.add.ensures.named
    ∙ ap (λ (x : Fraction). first_wide (alone Sum c.args.value.c x)) c.in_ok-product.ensures.product
    ∙ sym (first_later _ _ (told_false c.in_ok-product.ensures.wide))
