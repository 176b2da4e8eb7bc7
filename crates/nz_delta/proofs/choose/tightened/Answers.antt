use Rattle.std.proofs.Common.{◌∙◌, sym, ap}
use Rattle.nz_fractions.specs.Fraction.{Fraction, fraction_min}
use Rattle.nz_delta.specs.Pairs.{pair_of}
use Rattle.nz_delta.proofs.LimitLemmas.{below-from_cmp, least-limited, least-free, operations-limited, operations-free}
use Rattle.nz_delta.proofs.choose.tightened.Goals as goal

pub limit_of-requires : goal.limit_of-requires
limit_of-requires c = below-from_cmp _ _ c.if-lt.ensures

pub returns-in-Ok-clause-least : goal.returns-in-Ok-clause-least
returns-in-Ok-clause-least c =
    c.lesser.ensures
    ∙ ap (λ (e : Fraction). fraction_min c.args.delta e) c.in-Ok.ensures.limit
    ∙ sym (least-limited (pair_of c.args.pair.now) c.args.delta c.if-lt.ensures)

pub returns-in-Ok-clause-wide : goal.returns-in-Ok-clause-wide
returns-in-Ok-clause-wide c = c.in-Ok.ensures.wide ∙ sym (operations-limited (pair_of c.args.pair.now) c.if-lt.ensures)

pub returns-in-Err-clause-wide : goal.returns-in-Err-clause-wide
returns-in-Err-clause-wide c = c.in-Err.ensures.wide ∙ sym (operations-limited (pair_of c.args.pair.now) c.if-lt.ensures)

pub returns-else-lt-clause-least : goal.returns-else-lt-clause-least
returns-else-lt-clause-least c = sym (least-free (pair_of c.args.pair.now) c.args.delta c.if-lt.ensures)

pub returns-else-lt-clause-wide : goal.returns-else-lt-clause-wide
returns-else-lt-clause-wide c = sym (operations-free (pair_of c.args.pair.now) c.if-lt.ensures)
