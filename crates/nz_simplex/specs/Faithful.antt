-- Scalars that stand for infinitesimal numbers.
use Rattle.std.specs.Prelude.{◌≡◌, List}
use Rattle.std.specs.declared.cmp.Ordering.{Ordering}
use Rattle.nz_fractions.specs.Fraction.{Fraction, Operation, first_wide}
use Rattle.nz_spec.specs.numbers.Infinitesimal as spec
use Rattle.nz_spec.specs.numbers.Infinitesimal.{Infinitesimal, ◌=δ◌, ◌+δ◌, ◌-δ◌, infinitesimal_cmp}
use Rattle.nz_spec.specs.simplex.Bland.{zero_infinitesimal, times, plus}

-- Zero, sums, products and the order are those of the numbers that the scalars stand for, and an operation stops at the same operation on fractions. A
-- difference, and a sum with a multiple, have the value of those of the numbers.
pub record IsFaithful {S : Type 0} (stands_for : S → Infinitesimal) (origin : S) (sum_of minus : S → S → S) (scaled : S → Fraction → S) (order : S → S → Ordering)
    (sum_operations minus_operations : S → S → List Operation) (scaled_operations : S → Fraction → List Operation) : Type 0 where
  pub zero : stands_for origin ≡ zero_infinitesimal
  pub sum : (x y : S) → stands_for (sum_of x y) ≡ (plus (stands_for x) (stands_for y)).result
  pub difference : (x y : S) → stands_for (minus x y) =δ (stands_for x -δ stands_for y)
  pub product : (x : S) (q : Fraction) → stands_for (scaled x q) ≡ (times (stands_for x) q).result
  pub followed : (x d : S) (q : Fraction) → stands_for (sum_of x (scaled d q)) =δ (stands_for x +δ spec.scaled (stands_for d) q)
  pub compares : (x y : S) → order x y ≡ infinitesimal_cmp (stands_for x) (stands_for y)
  pub sum_stops : (x y : S) → first_wide (sum_operations x y) ≡ first_wide (plus (stands_for x) (stands_for y)).operations
  pub product_stops : (x : S) (q : Fraction) → first_wide (scaled_operations x q) ≡ first_wide (times (stands_for x) q).operations
