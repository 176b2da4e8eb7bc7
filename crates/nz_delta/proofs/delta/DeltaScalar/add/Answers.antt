use Rattle.std.proofs.Common.{◌∙◌, sym}
use Rattle.std.proofs.lemmas.Result.{err_from_is_err_and}
use Rattle.nz_lists.proofs.Tests.{told_false, told_true}
use Rattle.nz_delta.proofs.WideLemmas.{refused_is, first_here, first_later, first_none}
use Rattle.nz_delta.proofs.delta.DeltaScalar.add.Goals as goal

pub returns-in_err-c-clause-wide : goal.returns-in_err-c-clause-wide
returns-in_err-c-clause-wide c =
    let p = err_from_is_err_and c.from_residual.result c.from_residual.ensures.1 in
    refused_is c.from_residual.result p.0 _ p.1 (p.2 ∙ c.in_err-c.ensures.named) ∙ sym (first_here _ _ (told_true c.in_err-c.ensures.wide))

pub returns-in_err-k-clause-wide : goal.returns-in_err-k-clause-wide
returns-in_err-k-clause-wide c =
    let p = err_from_is_err_and c.from_residual-in_err-k.result c.from_residual-in_err-k.ensures.1 in
    refused_is c.from_residual-in_err-k.result p.0 _ p.1 (p.2 ∙ c.in_err-k.ensures.named)
    ∙ sym (first_later _ _ (told_false c.in_ok-c.ensures.wide) ∙ first_here _ _ (told_true c.in_err-k.ensures.wide))

pub returns-clause-wide : goal.returns-clause-wide
returns-clause-wide c =
    sym (first_later _ _ (told_false c.in_ok-c.ensures.wide) ∙ first_later _ _ (told_false c.in_ok-k.ensures.wide) ∙ first_none)
