-- `div` and `mod` are the only two numbers with m = n*q + r and 0 <= r < |n|.
use Rattle.std.proofs.Common.{◌≡◌, ℕ, zero, suc, refl, ℤ, pos, negsuc, ◌+ℤ◌, ◌*ℤ◌, neg_ℤ, ◌≤ℤ◌, ◌<ℤ◌, arith, ap, ◌∙◌, ◌<◌}
use Rattle.std.proofs.Math.IntN.{*ℤ_comm}
use Rattle.std.proofs.lemmas.Int.{ints}
use Rattle.nz_ints.specs.Division.{floor_div}
use Rattle.nz_ints.proofs.Products.{one-mul, add-mul, neg-mul, lt_of_mul-lt-mul_pos}
use Rattle.nz_ints.proofs.FloorDivision.{floor_div-at_most, floor_div-greatest}
use Rattle.nz_spec.specs.terms.Term.{div_of, mod_of, Divides, DividesOnce}

-- the floor's multiple is at most m, and the next multiple above it
record Floors (m : ℤ) (k : ℕ) (f : ℤ) : Type 0 where
  pub at_most : (f *ℤ pos k) ≤ℤ m
  pub below : m <ℤ (f *ℤ pos k +ℤ pos k)

floors : (m : ℤ) (k : ℕ) → 0 < k → Floors m k (floor_div m k)
floors m k p =
    let f : ℤ = floor_div m k in
    let high = floor_div-greatest m k p in
    let above = add-mul f (pos 1) (pos k) in
    let unit = one-mul (pos k) in
    record { at_most = floor_div-at_most m k p; below = omega (arith, ints, high, above, unit) }

-- there is only one such floor
one_floor : (m : ℤ) (k : ℕ) (f g : ℤ) → Floors m k f → Floors m k g → f ≡ g
one_floor m k f g p q =
    let unit = one-mul (pos k) in
    let above_f = add-mul f (pos 1) (pos k) in
    let above_g = add-mul g (pos 1) (pos k) in
    let f_low = p.at_most in
    let f_high = p.below in
    let g_low = q.at_most in
    let g_high = q.below in
    let a : f <ℤ (g +ℤ pos 1) = lt_of_mul-lt-mul_pos f (g +ℤ pos 1) k (omega (arith, ints, unit, above_g, f_low, g_high)) in
    let b : g <ℤ (f +ℤ pos 1) = lt_of_mul-lt-mul_pos g (f +ℤ pos 1) k (omega (arith, ints, unit, above_f, g_low, f_high)) in
    omega (arith, ints, a, b)

-- the product of n and q by the absolute value of n
negative_product : (k : ℕ) (q : ℤ) → negsuc k *ℤ q ≡ neg_ℤ q *ℤ pos (suc k)
negative_product k q =
    let turned : negsuc k *ℤ q ≡ neg_ℤ (pos (suc k) *ℤ q) = neg-mul (pos (suc k)) q in
    let placed : pos (suc k) *ℤ q ≡ q *ℤ pos (suc k) = *ℤ_comm (pos (suc k)) q in
    let other : neg_ℤ q *ℤ pos (suc k) ≡ neg_ℤ (q *ℤ pos (suc k)) = neg-mul q (pos (suc k)) in
    omega (arith, ints, turned, placed, other)

pub divides : Divides
unfolding div_of mod_of
divides m (pos zero) other = absurd (other refl)
divides m (pos (suc k)) other =
    let f : ℤ = floor_div m (suc k) in
    let near : Floors m (suc k) f = floors m (suc k) (omega arith) in
    let low = near.at_most in
    let high = near.below in
    let placed : pos (suc k) *ℤ f ≡ f *ℤ pos (suc k) = *ℤ_comm (pos (suc k)) f in
    record {
      whole_of = omega (arith, ints);
      at_least_zero = omega (arith, ints, low, placed);
      below = omega (arith, ints, high, placed);
    }
divides m (negsuc k) other =
    let f : ℤ = floor_div m (suc k) in
    let near : Floors m (suc k) f = floors m (suc k) (omega arith) in
    let low = near.at_most in
    let high = near.below in
    let twice : neg_ℤ (neg_ℤ f) ≡ f = omega (arith, ints) in
    let placed : negsuc k *ℤ neg_ℤ f ≡ f *ℤ pos (suc k) = negative_product k (neg_ℤ f) ∙ ap (λ (z : ℤ). z *ℤ pos (suc k)) twice in
    record {
      whole_of = omega (arith, ints);
      at_least_zero = omega (arith, ints, low, placed);
      below = omega (arith, ints, high, placed);
    }

-- the remainder is what the product leaves
remainder_is : (m n q r : ℤ) → m ≡ n *ℤ q +ℤ r → r ≡ m +ℤ neg_ℤ (n *ℤ q)
remainder_is m n q r e = omega (arith, ints, e)

pub divides_once : DividesOnce
unfolding div_of mod_of
divides_once m (pos zero) q r d =
    let low = d.at_least_zero in
    let high = d.below in
    absurd (omega (arith, ints, low, high))
divides_once m (pos (suc k)) q r d =
    let whole = d.whole_of in
    let low = d.at_least_zero in
    let high = d.below in
    let placed : pos (suc k) *ℤ q ≡ q *ℤ pos (suc k) = *ℤ_comm (pos (suc k)) q in
    let near : Floors m (suc k) q = record { at_most = omega (arith, ints, whole, low, placed); below = omega (arith, ints, whole, high, placed) } in
    let same : q ≡ floor_div m (suc k) = one_floor m (suc k) q (floor_div m (suc k)) near (floors m (suc k) (omega arith)) in
    (same, remainder_is m (pos (suc k)) q r whole ∙ ap (λ (z : ℤ). m +ℤ neg_ℤ (pos (suc k) *ℤ z)) same)
divides_once m (negsuc k) q r d =
    let whole = d.whole_of in
    let low = d.at_least_zero in
    let high = d.below in
    let placed : negsuc k *ℤ q ≡ neg_ℤ q *ℤ pos (suc k) = negative_product k q in
    let near : Floors m (suc k) (neg_ℤ q) = record { at_most = omega (arith, ints, whole, low, placed); below = omega (arith, ints, whole, high, placed) } in
    let turned : neg_ℤ q ≡ floor_div m (suc k) = one_floor m (suc k) (neg_ℤ q) (floor_div m (suc k)) near (floors m (suc k) (omega arith)) in
    let twice : q ≡ neg_ℤ (neg_ℤ q) = omega (arith, ints) in
    let same : q ≡ neg_ℤ (floor_div m (suc k)) = twice ∙ ap neg_ℤ turned in
    (same, remainder_is m (negsuc k) q r whole ∙ ap (λ (z : ℤ). m +ℤ neg_ℤ (negsuc k *ℤ z)) same)
