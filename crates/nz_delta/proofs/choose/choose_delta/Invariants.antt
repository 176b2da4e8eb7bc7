use Rattle.std.proofs.Common.{◌≡◌, map, drop}
use Rattle.nz_fractions.specs.Fraction.{first_wide}
use Rattle.nz_spec.specs.numbers.Infinitesimal.{limits, least_from, chosen_delta, delta_operations}
use Rattle.nz_delta.specs.Pairs.{pair_of}
use Rattle.nz_delta.proofs.choose.choose_delta.Given as goal

abbrev pub invariant-loop-pair : goal.invariant-loop-pair
invariant-loop-pair l = record {
  value : chosen_delta (map pair_of l.pairs) ≡ least_from l.delta (limits (map pair_of (drop l.pair-index l.pairs)));
  wide : first_wide (delta_operations (map pair_of l.pairs)) ≡ first_wide (delta_operations (map pair_of (drop l.pair-index l.pairs)));
}
