-- Fractions and pairs of them are faithful to the infinitesimal numbers that they stand for.
use Rattle.std.specs.Prelude.{◌≡◌, Bool, false, [], ◌∷◌, pos, refl, Some, None, if◌then◌else◌}
use Rattle.std.specs.Ordering.{ordering_then}
use Rattle.std.specs.declared.cmp.Ordering.{Ordering}
use Rattle.std.specs.declared.cmp.Ordering.TheVariants.{Less, Equal, Greater}
use Rattle.std.proofs.Common.{sym, ap, subst, ◌∙◌, lit≤}
use Rattle.nz_ints.specs.Division.{gcd, gcd_within}
use Rattle.nz_fractions.specs.Fraction.{Fraction, denominator, whole, ◌=ℚ◌, ◌+ℚ◌, ◌-ℚ◌, ◌*ℚ◌, fraction_cmp, outcome, Sum, Difference, Product, Operation, first_wide, is_wide, IsNumber}
use Rattle.nz_spec.specs.numbers.Infinitesimal as spec
use Rattle.nz_spec.specs.numbers.Infinitesimal.{Infinitesimal, ◌+δ◌, ◌-δ◌, infinitesimal_cmp}
use Rattle.nz_spec.specs.simplex.Bland.{standing}
use Rattle.nz_fractions.proofs.Laws.{=ℚ_refl, =ℚ_sym}
use Rattle.nz_fractions.proofs.Order.{fraction_cmp_is}
use Rattle.nz_fractions.proofs.Arithmetic.{outcome-difference, outcome-product, +ℚ-neg}
use Rattle.nz_fractions.proofs.Zeros.{zeros_are_never_wide}
use Rattle.nz_delta.specs.FractionSpace.{sums}
use Rattle.nz_delta.specs.Operations.{alone}
use Rattle.nz_delta.specs.DeltaSpace.{infinitesimal_of, delta_zero, delta_plus, delta_minus, delta_scaled, delta_cmp, delta_plus_operations, delta_minus_operations, delta_scaled_operations}
use Rattle.nz_simplex.specs.Faithful.{IsFaithful}

abbrev zero : Fraction
zero = whole (pos 0)

-- ---- Beside 0

zero_number : IsNumber zero
unfolding gcd gcd_within denominator
zero_number = record { lowest = refl; numerator_fits = lit≤ tt; denominator_fits = lit≤ tt }

zero_sum : outcome Sum zero zero ≡ zero
zero_sum = (zeros_are_never_wide.sum_left zero zero_number).1

zero_product : (q : Fraction) → outcome Product zero q ≡ zero
zero_product q = (zeros_are_never_wide.product_left q).1

-- an operation that never leaves the numbers doesn't stop behind another one
stops_alone : (o p : Operation) → is_wide p.operator p.left p.right ≡ false → first_wide (o ∷ []) ≡ first_wide (o ∷ p ∷ [])
unfolding first_wide
stops_alone o p narrow = ap (λ (b : Bool). if is_wide o.operator o.left o.right then Some o else if b then Some p else None) (sym narrow)

same_then : (o : Ordering) → o ≡ ordering_then o Equal
same_then Less = refl
same_then Equal = refl
same_then Greater = refl

zero_equal : fraction_cmp zero zero ≡ Equal
zero_equal = sym (fraction_cmp_is zero zero Equal (=ℚ_refl zero))

fraction_followed : (q : Fraction) → zero =ℚ (zero +ℚ zero *ℚ q)
fraction_followed q =
    subst (λ (z : Fraction). z =ℚ (zero +ℚ zero *ℚ q)) (ap (outcome Sum zero) (zero_product q) ∙ zero_sum) (sums (=ℚ_refl zero) (outcome-product zero q))

-- ---- Fractions

fraction_compares : (x y : Fraction) → fraction_cmp x y ≡ infinitesimal_cmp (standing x) (standing y)
unfolding infinitesimal_cmp
fraction_compares x y = same_then (fraction_cmp x y) ∙ ap (ordering_then (fraction_cmp x y)) (sym zero_equal)

followed_fraction : (x d q : Fraction) → spec.◌=δ◌ (standing (outcome Sum x (outcome Product d q))) (standing x +δ spec.scaled (standing d) q)
unfolding ◌+δ◌ spec.scaled
followed_fraction x d q = record { standard = sums (=ℚ_refl x) (outcome-product d q); coefficient = fraction_followed q }

fraction_difference : (x y : Fraction) → spec.◌=δ◌ (standing (outcome Difference x y)) (standing x -δ standing y)
unfolding ◌-δ◌ ◌-ℚ◌
fraction_difference x y = record { standard = outcome-difference x y; coefficient = =ℚ_sym (+ℚ-neg zero) }

pub faithful_fraction : IsFaithful standing (whole (pos 0)) (outcome Sum) (outcome Difference) (outcome Product) fraction_cmp (alone Sum) (alone Difference) (alone Product)
faithful_fraction = record {
  zero = refl;
  sum = λ x y. ap (λ (z : Fraction). let n : Infinitesimal = record { standard = outcome Sum x y; coefficient = z } in n) (sym zero_sum);
  product = λ x q. ap (λ (z : Fraction). let n : Infinitesimal = record { standard = outcome Product x q; coefficient = z } in n) (sym (zero_product q));
  followed = followed_fraction;
  difference = fraction_difference;
  compares = fraction_compares;
  sum_stops = λ x y. stops_alone (record { operator = Sum; left = x; right = y }) (record { operator = Sum; left = zero; right = zero })
      (zeros_are_never_wide.sum_left zero zero_number).0;
  product_stops = λ x q. stops_alone (record { operator = Product; left = x; right = q }) (record { operator = Product; left = zero; right = q })
      (zeros_are_never_wide.product_left q).0;
}

-- ---- Pairs

pub faithful_delta : IsFaithful infinitesimal_of delta_zero delta_plus delta_minus delta_scaled delta_cmp delta_plus_operations delta_minus_operations delta_scaled_operations
unfolding infinitesimal_cmp ◌+δ◌ ◌-δ◌ ◌-ℚ◌ spec.scaled
faithful_delta = record {
  zero = refl;
  sum = λ x y. refl;
  product = λ x q. refl;
  followed = λ x d q. record { standard = sums (=ℚ_refl x.c) (outcome-product d.c q); coefficient = sums (=ℚ_refl x.k) (outcome-product d.k q) };
  difference = λ x y. record { standard = outcome-difference x.c y.c; coefficient = outcome-difference x.k y.k };
  compares = λ x y. refl;
  sum_stops = λ x y. refl;
  product_stops = λ x q. refl;
}
