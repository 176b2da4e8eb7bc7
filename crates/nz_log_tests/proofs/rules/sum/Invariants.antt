-- The sum so far, with the multiples that are left, comes to the same as all of them.
use Rattle.std.proofs.Common.{◌≡◌, List, drop}
use Rattle.nz_spec.specs.clauses.Farkas.{multiples_onto}
use Rattle.nz_spec.specs.terms.FormOf.{number_in}
use Rattle.nz_spec.specs.terms.Table.{Node, IsTable}
use Rattle.nz_lin.specs.Bounds.{HasUnits, bound_over}
use Rattle.nz_log.specs.Axioms.{AreMultiplesIn, multiples_in, sum_in}
use Rattle.nz_log_tests.proofs.rules.sum.Given as goal

abbrev pub invariant-loop-multiple : goal.invariant-loop-multiple
invariant-loop-multiple l =
    record {
      units : (ns : List Node) → IsTable ns → AreMultiplesIn ns l.log.atoms l.multiples → HasUnits ns l.sum;
      left : (ns : List Node) → IsTable ns → AreMultiplesIn ns l.log.atoms l.multiples
          → (multiples_onto (number_in ns) (bound_over ns l.sum) (multiples_in ns l.log.atoms (drop l.multiple-index l.multiples))).result ≡ (sum_in ns l.log.atoms l.multiples).result;
    }
