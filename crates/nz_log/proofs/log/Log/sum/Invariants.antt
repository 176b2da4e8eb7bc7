use Rattle.std.proofs.Common.{List, drop}
use Rattle.nz_spec.specs.clauses.Farkas.{multiples_onto}
use Rattle.nz_spec.specs.terms.FormOf.{number_in}
use Rattle.nz_spec.specs.terms.Table.{Node, IsTable}
use Rattle.nz_lin.specs.Bounds.{HasUnits, bound_over}
use Rattle.nz_log.specs.Axioms.{AreMultiplesIn, multiples_in, sum_in}
use Rattle.nz_spec.specs.numbers.Computation.{IsSame}
use Rattle.nz_log.proofs.log.Log.sum.Given as goal

-- the sum so far, with the multiples that are left, comes to the same as all of them, and stops at the same
abbrev pub invariant-loop-multiple : goal.invariant-loop-multiple
invariant-loop-multiple l =
    record {
      units : (ns : List Node) → AreMultiplesIn ns l.self.atoms l.multiples → HasUnits ns l.sum;
      left : (ns : List Node) → IsTable ns → AreMultiplesIn ns l.self.atoms l.multiples
          → IsSame (multiples_onto (number_in ns) (bound_over ns l.sum) (multiples_in ns l.self.atoms (drop l.multiple-index l.multiples))) (sum_in ns l.self.atoms l.multiples);
    }
