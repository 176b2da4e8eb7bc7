use Rattle.std.proofs.Common.{inl}
use Rattle.nz_number_tests.proofs.Order.{below-from_cmp}
use Rattle.nz_number_tests.proofs.delta.pair.Goals as goal

pub returns-then-lt : goal.returns-then-lt
returns-then-lt c = inl (below-from_cmp _ _ c.if-lt.ensures)
