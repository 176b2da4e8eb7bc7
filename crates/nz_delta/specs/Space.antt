-- Ordered vector spaces over the fractions, up to what the order does not tell apart.
use Rattle.std.specs.Prelude.{◌≡◌, pos}
use Rattle.std.specs.declared.cmp.Ordering.{Ordering}
use Rattle.std.specs.declared.cmp.Ordering.TheVariants.{Equal}
use Rattle.std.specs.Cmp.{IsTotalOrder}
use Rattle.nz_fractions.specs.Fraction.{Fraction, whole, ◌=ℚ◌, ◌<ℚ◌, ◌+ℚ◌, ◌*ℚ◌}

pub record IsOrderedSpace {V : Type 0} (zero : V) (plus minus : V → V → V) (scaled : V → Fraction → V) (order : V → V → Ordering) : Type 0 where
  pub ordered : IsTotalOrder order
  -- a commutative group
  pub plus_comm : (x y : V) → order (plus x y) (plus y x) ≡ Equal
  pub plus_assoc : (x y z : V) → order (plus (plus x y) z) (plus x (plus y z)) ≡ Equal
  pub plus_zero : (x : V) → order (plus x zero) x ≡ Equal
  pub minus_plus : (x y : V) → order (plus (minus x y) y) x ≡ Equal
  -- scaling
  pub scaled_one : (x : V) → order (scaled x (whole (pos 1))) x ≡ Equal
  pub scaled_plus : (x y : V) (q : Fraction) → order (scaled (plus x y) q) (plus (scaled x q) (scaled y q)) ≡ Equal
  pub scaled_sum : (x : V) (p q : Fraction) → order (scaled x (p +ℚ q)) (plus (scaled x p) (scaled x q)) ≡ Equal
  pub scaled_product : (x : V) (p q : Fraction) → order (scaled x (p *ℚ q)) (scaled (scaled x p) q) ≡ Equal
  pub scaled_same : (x y : V) (p q : Fraction) → order x y ≡ Equal → p =ℚ q → order (scaled x p) (scaled y q) ≡ Equal
  -- the order
  pub moved : (x y z : V) → order (plus x z) (plus y z) ≡ order x y
  pub kept : (x y : V) (q : Fraction) → whole (pos 0) <ℚ q → order (scaled x q) (scaled y q) ≡ order x y
  pub turned : (x y : V) (q : Fraction) → q <ℚ whole (pos 0) → order (scaled x q) (scaled y q) ≡ order y x
