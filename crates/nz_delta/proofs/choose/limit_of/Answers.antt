use Rattle.std.proofs.Common.{◌≡◌, ◌∙◌, sym, refl, ap₂}
use Rattle.std.proofs.lemmas.Result.{err_from_is_err_and, IfOk-weaker}
use Rattle.nz_lists.proofs.Tests.{told_false, told_true}
use Rattle.nz_fractions.specs.Fraction.{Fraction, outcome, Quotient, first_wide}
use Rattle.nz_delta.specs.Operations.{alone}
use Rattle.nz_spec.specs.numbers.Infinitesimal.{limit, limit_operations}
use Rattle.nz_delta.proofs.WideLemmas.{refused_is, first_here, first_later, refused_alone}
use Rattle.nz_delta.proofs.LimitLemmas.{nonzero_difference}
use Rattle.nz_delta.proofs.choose.limit_of.Goals as goal

pub returns-in_err-rise-clause-wide : goal.returns-in_err-rise-clause-wide
unfolding limit_operations
returns-in_err-rise-clause-wide c =
    let p = err_from_is_err_and c.from_residual.result c.from_residual.ensures.1 in
    refused_is c.from_residual.result p.0 _ p.1 (p.2 ∙ c.in_err-rise.ensures.named) ∙ sym (first_here _ _ (told_true c.in_err-rise.ensures.wide))

pub returns-in_err-fall-clause-wide : goal.returns-in_err-fall-clause-wide
unfolding limit_operations
returns-in_err-fall-clause-wide c =
    let p = err_from_is_err_and c.from_residual-in_err-fall.result c.from_residual-in_err-fall.ensures.1 in
    refused_is c.from_residual-in_err-fall.result p.0 _ p.1 (p.2 ∙ c.in_err-fall.ensures.named)
    ∙ sym (first_later _ _ (told_false c.in_ok-rise.ensures.wide) ∙ first_here _ _ (told_true c.in_err-fall.ensures.wide))

pub div-requires : goal.div-requires
div-requires c =
    record { nonzero = rw c.in_ok-fall.ensures.difference (nonzero_difference c.requires) }

pub returns-clause-limit : goal.returns-clause-limit
unfolding limit
returns-clause-limit c =
    IfOk-weaker c.div.result (λ (e : Fraction). e ≡ outcome Quotient c.in_ok-rise.rise c.in_ok-fall.fall) _
    (λ e h. h ∙ ap₂ (λ (x y : Fraction). outcome Quotient x y) c.in_ok-rise.ensures.difference c.in_ok-fall.ensures.difference)
    c.div.ensures.quotient

pub returns-clause-wide : goal.returns-clause-wide
unfolding limit_operations
returns-clause-wide c =
    refused_alone c.div.result Quotient c.in_ok-rise.rise c.in_ok-fall.fall _ refl c.div.ensures.wide c.div.ensures.named
    ∙ ap₂ (λ (x y : Fraction). first_wide (alone Quotient x y)) c.in_ok-rise.ensures.difference c.in_ok-fall.ensures.difference
    ∙ sym (first_later _ _ (told_false c.in_ok-rise.ensures.wide) ∙ first_later _ _ (told_false c.in_ok-fall.ensures.wide))
