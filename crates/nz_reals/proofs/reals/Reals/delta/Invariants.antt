use Rattle.nz_spec.specs.numbers.Infinitesimal.{IsLeastLimit}
use Rattle.nz_spec.specs.laws.ToldBounds.{AreNumbers}
use Rattle.nz_reals.specs.Limits.{pairs_below, value_of}
use Rattle.nz_reals.proofs.reals.Reals.delta.Given as goal

abbrev pub invariant-loop-var : goal.invariant-loop-var
invariant-loop-var l = record {
  least : IsLeastLimit (pairs_below l.self l.var) l.least;
  numbers : AreNumbers l.var (value_of l.self);
}
