use Rattle.std.proofs.Common.{◌++◌, List, append_assoc, subst}
use Rattle.std.proofs.lemmas.Result.{IfOk-weaker}
use Rattle.nz_fractions.specs.Fraction.{Fraction}
use Rattle.nz_spec.specs.numbers.Infinitesimal.{IsLeastLimit, Pair}
use Rattle.nz_trail.specs.declared.limits.Side.TheVariants.{Lower, Upper}
use Rattle.nz_reals.specs.Limits.{listed, pair_on, pairs_of}
use Rattle.nz_reals.proofs.reals.Reals.limited.Goals as goal

pub returns-clause-least : goal.returns-clause-least
returns-clause-least c =
    let t = c.args.self.now in
    let low = listed (pair_on t c.args.var Lower) in
    let high = listed (pair_on t c.args.var Upper) in
    IfOk-weaker c.limited_on-2.result (λ (e : Fraction). (ps : List Pair) → IsLeastLimit ps c.in_ok-above.above → IsLeastLimit (ps ++ high) e)
    (λ (e : Fraction). (ps : List Pair) → IsLeastLimit ps c.args.least → IsLeastLimit (ps ++ pairs_of t c.args.var) e)
    (λ e after ps first. subst (λ (l : List Pair). IsLeastLimit l e) (append_assoc ps low high) (after (ps ++ low) (c.in_ok-above.ensures.least ps first)))
    c.limited_on-2.ensures.least
