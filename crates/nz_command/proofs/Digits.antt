-- Lemmas of the numbers that digits spell.
use Rattle.std.proofs.Common.{◌≡◌, ℕ, ◌+◌, ◌-◌, ◌*◌, ◌<◌, ◌≤◌, suc, List, [], ◌∷◌, ◌++◌, length, drop, get_or, Option, None, Some, IfSome, IfNone, refl, sym, ap, ◌∙◌, drop-cons, arith, subst}
use Rattle.nz_script.specs.text.Bounds.{value_onto}

-- further digits spell no smaller number
pub value_grows : (n : ℕ) (bs : List ℕ) → n ≤ value_onto n bs
value_grows n [] = omega arith
value_grows n (b ∷ bs) = omega (arith, value_grows (10 * n + (b - 48)) bs)

pub value_append : (n : ℕ) (xs ys : List ℕ) → value_onto n (xs ++ ys) ≡ value_onto (value_onto n xs) ys
value_append n [] ys = refl
value_append n (x ∷ xs) ys = value_append (10 * n + (x - 48)) xs ys

value_next : (n : ℕ) (bs : List ℕ) (i : ℕ) → i < length bs → value_onto n (drop i bs) ≡ value_onto (10 * n + (get_or bs i 0 - 48)) (drop (suc i) bs)
value_next n bs i below = ap (value_onto n) (drop-cons bs i 0 below)

-- a number above a tenth of the greatest is too great with one more digit
pub wide_next : (m q v n : ℕ) (bs : List ℕ) (i : ℕ) → v ≡ value_onto n (drop i bs) → i < length bs → m < 10 * suc q → q < n → m < v
wide_next m q v n bs i is below tenth above =
    omega (arith, is, value_next n bs i below, value_grows (10 * n + (get_or bs i 0 - 48)) (drop (suc i) bs))

-- and so is one that is above the greatest with the next digit
pub wide_then : (m v n : ℕ) (bs : List ℕ) (i : ℕ) → v ≡ value_onto n (drop i bs) → i < length bs → m < 10 * n + (get_or bs i 0 - 48) → m < v
wide_then m v n bs i is below above =
    omega (arith, is, value_next n bs i below, value_grows (10 * n + (get_or bs i 0 - 48)) (drop (suc i) bs))

-- digits that spell a great number do so before others
pub wide_before : (m : ℕ) (front places : List ℕ) → m < value_onto 0 front → m < value_onto 0 (front ++ places)
wide_before m front places above = omega (arith, above, value_append 0 front places, value_grows (value_onto 0 front) places)

spelled : (front places : List ℕ) (start : ℕ) → start ≡ value_onto 0 front → value_onto start places ≡ value_onto 0 (front ++ places)
spelled front places start is = ap (λ n. value_onto n places) is ∙ sym (value_append 0 front places)

pub value_whole : (r : Option ℕ) (front places : List ℕ) (start : ℕ) → start ≡ value_onto 0 front → IfSome r (λ v. v ≡ value_onto start places)
    → IfSome r (λ v. v ≡ value_onto 0 (front ++ places))
value_whole None front places start is e = tt
value_whole (Some v) front places start is e = e ∙ spelled front places start is

pub wide_whole : (r : Option ℕ) (m : ℕ) (front places : List ℕ) (start : ℕ) → start ≡ value_onto 0 front → IfNone r (m < value_onto start places)
    → IfNone r (m < value_onto 0 (front ++ places))
wide_whole None m front places start is above = subst (λ n. m < n) (spelled front places start is) above
wide_whole (Some v) m front places start is above = tt
