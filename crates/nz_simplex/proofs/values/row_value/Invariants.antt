-- What is left comes to the same, and stops at the same, as the whole.
use Rattle.std.proofs.Common.{◌≡◌, drop}
use Rattle.nz_spec.specs.simplex.Bland.{value_onto, zero_infinitesimal}
use Rattle.nz_fractions.specs.Fraction.{first_wide}
use Rattle.nz_simplex.specs.Choices.{numbers_in}
use Rattle.nz_simplex.specs.Tabled.{coefficients_in}
use Rattle.nz_simplex.proofs.values.row_value.Given as goal

abbrev pub invariant-loop-var : goal.invariant-loop-var
invariant-loop-var g l =
    let stands = g.S.Coordinate.stands_for in
    let x = numbers_in stands l.values in
    let c = coefficients_in l.row in
    record {
      value : (value_onto c x (stands l.sum) (drop l.var-index l.nonbasic)).result ≡ (value_onto c x zero_infinitesimal l.nonbasic).result;
      stops : first_wide (value_onto c x (stands l.sum) (drop l.var-index l.nonbasic)).operations ≡ first_wide (value_onto c x zero_infinitesimal l.nonbasic).operations;
    }
