-- The values so far, and then those of what is left, are the whole, and what is left decides.
use Rattle.std.proofs.Common.{◌≡◌, ◌++◌, drop, map}
use Rattle.nz_truth.specs.Outcomes.{first_stop, outcome_in, values_in}
use Rattle.nz_truth.proofs.walk.gather.Given as goal

abbrev pub invariant-loop-id : goal.invariant-loop-id
invariant-loop-id l = record {
  stop : first_stop (map (outcome_in l.outcomes) (drop l.id-index l.ids)) ≡ first_stop (map (outcome_in l.outcomes) l.ids);
  values : l.values.items ++ values_in (map (outcome_in l.outcomes) (drop l.id-index l.ids)) ≡ values_in (map (outcome_in l.outcomes) l.ids);
}
