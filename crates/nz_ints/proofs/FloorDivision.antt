-- Division that rounds down: the greatest integer whose multiple is not above.
use Rattle.std.proofs.Common.{◌≡◌, ℕ, suc, refl, unsigned_abs, int_div, ◌+◌, ◌*◌, ◌/◌, ◌<◌, ℤ, pos, negsuc, ◌+ℤ◌, ◌*ℤ◌, neg_ℤ, ◌≤ℤ◌, ◌<ℤ◌, arith, ap, ◌∙◌, mod-lt, div-add-mod'}
use Rattle.std.specs.Int.{◌∣◌}
use Rattle.std.proofs.Math.Nat.{div-mul_cancel}
use Rattle.std.proofs.lemmas.Int.{ints}
use borrow.Author.Differences.{product_is, below_in, at_most_in}
use Rattle.nz_ints.specs.Division.{floor_div}
use Rattle.nz_ints.proofs.Products.{neg-mul}

pub floor_div-at_most : (n : ℤ) (d : ℕ) → 0 < d → (floor_div n d *ℤ pos d) ≤ℤ n
unfolding floor_div
floor_div-at_most (pos n) d p = at_most_in _ _ (omega (arith, product_is (pos (n / d)) (pos d), div-add-mod' n d))
floor_div-at_most (negsuc n) d p =
    at_most_in _ _ (omega (arith, product_is (negsuc (n / d)) (pos d), div-add-mod' n d, mod-lt n p))

pub floor_div-greatest : (n : ℤ) (d : ℕ) → 0 < d → n <ℤ ((floor_div n d +ℤ pos 1) *ℤ pos d)
unfolding floor_div
floor_div-greatest (pos n) d p =
    below_in _ _ (omega (arith, product_is (pos (n / d + 1)) (pos d), div-add-mod' n d, mod-lt n p))
floor_div-greatest (negsuc n) d p =
    let e : negsuc (n / d) +ℤ pos 1 ≡ neg_ℤ (pos (n / d)) = omega (arith, ints) in
    let f : (negsuc (n / d) +ℤ pos 1) *ℤ pos d ≡ neg_ℤ (pos (n / d * d)) =
    ap (λ (z : ℤ). z *ℤ pos d) e ∙ neg-mul (pos (n / d)) (pos d)
    in
    rw f (omega (arith, div-add-mod' n d, ints))

-- ---- exact quotients of an integer by a natural number

pub int_div-mul_cancel : (z : ℤ) (g : ℕ) → g ∣ unsigned_abs z → int_div z (pos g) *ℤ pos g ≡ z
int_div-mul_cancel (pos n) g h = ap pos (div-mul_cancel g h)
int_div-mul_cancel (negsuc n) g h =
    neg-mul (pos (suc n / g)) (pos g) ∙ ap (λ (m : ℕ). neg_ℤ (pos m)) (div-mul_cancel g h)

pub unsigned_abs-int_div : (z : ℤ) (g : ℕ) → unsigned_abs (int_div z (pos g)) ≡ unsigned_abs z / g
unsigned_abs-int_div (pos n) g = refl
unsigned_abs-int_div (negsuc n) g = unsigned_abs-neg (suc n / g)
  where
    unsigned_abs-neg : (m : ℕ) → unsigned_abs (neg_ℤ (pos m)) ≡ m
    unsigned_abs-neg m = omega (arith, ints)
