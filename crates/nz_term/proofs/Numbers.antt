-- Numbers of facts: powers of ten, decimals, and operations.
use Rattle.std.proofs.Common.{◌≡◌, ℕ, Bool, true, Result, Ok, Err, refl, ◌^◌, ◌<◌, ◌≤◌, false, not, IsTrue, nat_le, ℤ, pos, to_z, of_z, unsigned_abs, Option, Some, None, sym, ap, subst, ◌∙◌, arith, true≢false}
use Rattle.std.specs.Prelude.{◌≢◌, ◌↔◌, ◌||◌, IsSome, IfSome, IfOk, IfErr, if◌then◌else◌}
use Rattle.std.specs.Result.{result_ok}
use Rattle.std.specs.Cmp.{first_so, second_so}
use Rattle.std.specs.Int.{w128}
use Rattle.std.proofs.Math.Nat.{one-le-pow, pow-le-pow_right}
use Rattle.std.proofs.lemmas.Bool.Decides.{nat_tests}
use Rattle.std.proofs.lemmas.Int.{to_z_pos}
use Rattle.nz_spec.specs.terms.Term.{place_limit}
use Rattle.nz_fractions.specs.Fraction.{Fraction, Arithmetic, IsNumber, exceeds, first_wide, is_wide, largest, outcome, ratio}
use Rattle.nz_spec.specs.terms.Linear.{folded_step}
use Rattle.nz_spec.specs.terms.Operations.{operation_on}
use Rattle.nz_spec.specs.terms.Term.{decimal_number, head_fits, is_undefined, number as as_number, number_of, whole_number, decimal_value}
use Rattle.nz_frac.specs.Operations.{IsCarriedOut, IsStopped}
use Rattle.nz_frac.specs.declared.frac.Wide.{Wide}

-- one of so few places fits
pub power_below : (places : ℕ) → places ≤ place_limit → 10 ^ places < 2 ^ 127
power_below places h =
    let most : 10 ^ places ≤ 10 ^ 38 = pow-le-pow_right {n = 10} (omega arith) h in
    omega arith

-- a decimal that is a number, as it is made of its digits and its power of ten
pub of_is : (o : Option Fraction) (num den : ℤ) (n p : ℕ) → (IsSome o ↔ ((den ≢ pos 0) × IsNumber (ratio num den))) → IfSome o (λ q. q ≡ ratio num den)
    → num ≡ pos n → den ≡ pos (10 ^ p) → IsNumber (decimal_value n p) → o ≡ Some (decimal_value n p)
of_is (Some q) num den n p some value over under number = ap Some (value ∙ ap (λ z. ratio z den) over ∙ ap (ratio (pos n)) under)
of_is None num den n p some value over under number =
    let one : 1 ≤ 10 ^ p = one-le-pow p 10 (omega arith) in
    let nonzero : den ≢ pos 0 = λ z. (let none : 10 ^ p ≡ 0 = ap unsigned_abs (sym under ∙ z) in omega arith) in
    let is : IsNumber (ratio num den) = subst (λ z. IsNumber (ratio z den)) (sym over) (subst (λ z. IsNumber (ratio (pos n) z)) (sym under) number) in
    absurd (true≢false (sym (some.1 (nonzero, is))))

within_largest : (n : ℕ) → IsTrue (not (exceeds n)) → n ≤ largest
within_largest n h = grind (arith, nat_tests)

within_places : (p : ℕ) → IsTrue (nat_le p place_limit) → p ≤ place_limit
within_places p h = grind (arith, nat_tests)

-- the parts of a decimal that fits
pub digits_below : (n p : ℕ) → IsTrue (head_fits (decimal_number n p)) → n < 2 ^ 127
digits_below n p fits =
    let few = within_largest n (first_so (not (exceeds n)) (nat_le p place_limit) fits) in
    omega arith

pub places_within : (n p : ℕ) → IsTrue (head_fits (decimal_number n p)) → p ≤ place_limit
places_within n p fits = within_places p (second_so (not (exceeds n)) (nat_le p place_limit) fits)

-- a number that is written and read back
pub read_back : (z : ℤ) (n : ℕ) → z ≡ pos n → n < 2 ^ 127 → to_z w128 (of_z w128 z) ≡ pos n
read_back z n e below = ap (λ x. to_z w128 (of_z w128 x)) e ∙ to_z_pos w128 n below

-- an operation on two constants that is one: whether it leaves the numbers tells whether it has a value
first_of_one : (op : Arithmetic) (p q : Fraction) → is_undefined op q ≡ false → first_wide (operation_on op p q) ≡ (if is_wide op p q then Some (record { operator = op; left = p; right = q }) else None)
unfolding first_wide
first_of_one op p q d = rw d refl

step_is : (op : Arithmetic) (p q : Fraction) (w : Bool) → is_undefined op q ≡ false → is_wide op p q ≡ w → folded_step op (Some p) (Some q) ≡ (if w then None else Some (outcome op p q))
step_is op p q w d e = ap (λ b. if b || is_wide op p q then None else Some (outcome op p q)) d ∙ ap (λ b. if b then None else Some (outcome op p q)) e

operated : (op : Arithmetic) (p q : Fraction) (r : Result Fraction Wide) (w : Bool) → is_undefined op q ≡ false → is_wide op p q ≡ w
    → first_wide (operation_on op p q) ≡ (if w then Some (record { operator = op; left = p; right = q }) else None) → IfOk r (IsCarriedOut op p q) → IfErr r (IsStopped op p q)
    → result_ok r ≡ (if w then None else Some (outcome op p q))
operated op p q (Ok x) true d e first carried stopped = let no = sym first ∙ carried.0 in cc
operated op p q (Ok x) false d e first carried stopped = ap Some (ap number_of (carried.1 ∙ ap (λ b. if b then whole_number (pos 0) else as_number (outcome op p q)) d))
operated op p q (Err x) true d e first carried stopped = refl
operated op p q (Err x) false d e first carried stopped = let no = sym first ∙ stopped in cc

pub folded_by : (op : Arithmetic) (p q : Fraction) (r : Result Fraction Wide) → is_undefined op q ≡ false → IfOk r (IsCarriedOut op p q) → IfErr r (IsStopped op p q)
    → result_ok r ≡ folded_step op (Some p) (Some q)
folded_by op p q r d carried stopped =
    operated op p q r (is_wide op p q) d refl (first_of_one op p q d) carried stopped ∙ sym (step_is op p q (is_wide op p q) d refl)
