use Rattle.std.proofs.Common.{List, drop}
use Rattle.std.specs.List.{AllByRecursion}
use Rattle.nz_spec.specs.clauses.Farkas as farkas
use Rattle.nz_spec.specs.terms.FormOf.{number_in}
use Rattle.nz_spec.specs.terms.Table.{IsTable, Node}
use Rattle.nz_lin.specs.declared.bound.BoundMultiple.{BoundMultiple}
use Rattle.nz_lin.specs.Bounds.{HasUnits, bound_over, multiples_over}
use Rattle.nz_spec.specs.numbers.Computation.{IsSame}
use Rattle.nz_lin.proofs.bound.sum_of_multiples.Given as goal

-- to add the multiples that are left to the sum so far is to add the whole
abbrev pub invariant-loop-multiple : goal.invariant-loop-multiple
invariant-loop-multiple l = record {
  joined : (ns : List Node) → IsTable ns → AllByRecursion (λ (m : BoundMultiple). HasUnits ns m.bound) l.multiples
      → IsSame (farkas.multiples_onto (number_in ns) (bound_over ns l.sum) (multiples_over ns (drop l.multiple-index l.multiples))) (farkas.sum_of_multiples (number_in ns) (multiples_over ns l.multiples));
  units : (ns : List Node) → AllByRecursion (λ (m : BoundMultiple). HasUnits ns m.bound) l.multiples → HasUnits ns l.sum;
}
