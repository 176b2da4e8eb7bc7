-- The arguments so far are chained, so those that are left decide.
use Rattle.std.proofs.Common.{◌≡◌, drop, map}
use Rattle.nz_spec.specs.terms.Term.{are_chained}
use Rattle.nz_term.specs.Values.{value_of}
use Rattle.nz_truth.specs.Relations.{relation_of}
use Rattle.nz_truth.proofs.chains.are_chained.Given as goal

abbrev pub invariant-loop-i : goal.invariant-loop-i
invariant-loop-i l = are_chained (relation_of l.relation) (map value_of (drop l.i l.args)) ≡ are_chained (relation_of l.relation) (map value_of l.args)
