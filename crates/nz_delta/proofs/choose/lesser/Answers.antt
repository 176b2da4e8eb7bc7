use Rattle.nz_delta.proofs.LimitLemmas.{min_first, min_second}
use Rattle.nz_delta.proofs.choose.lesser.Goals as goal

pub returns-then-lt : goal.returns-then-lt
returns-then-lt c = min_second c.args.a c.args.b c.if-lt.ensures

pub returns-else-lt : goal.returns-else-lt
returns-else-lt c = min_first c.args.a c.args.b c.if-lt.ensures
