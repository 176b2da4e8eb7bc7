-- Exact fractions, which of them are numbers of 128 bits, and when an operation on numbers is Wide.
-- A fraction is a pair of integers of any size whose second one is above 0; two pairs that are equal by cross products are one value.
-- Sources: SMT-LIB 2.6, theory Reals_Ints (the values of sort Real are quotients in lowest terms; `to_int` rounds down).
-- The limit M and the word Wide are this solver's own: a number has at most 128 bits, and an operation that would pass them is named.
use Rattle.std.specs.Prelude.{◌≡◌, ℕ, suc, pred, ◌*◌, ◌/◌, ◌≤◌, Bool, false, ◌||◌, nat_lt, List, [], ◌∷◌, Option, Some, None, if◌then◌else◌, ℤ, pos, negsuc, ◌+ℤ◌, ◌*ℤ◌, neg_ℤ, ◌≤ℤ◌, ◌<ℤ◌, unsigned_abs, int_lt, int_le, int_div}
use Rattle.std.specs.Ordering.{int_cmp, int_eq}
use Rattle.std.specs.declared.cmp.Ordering.{Ordering}
unfoldable pub use Rattle.nz_ints.specs.Division.{gcd, lcm, floor_div}

-- ---- fractions

-- numerator / (below + 1): the denominator is above 0 whatever the two are
pub record Fraction : Type 0 where
  pub numerator : ℤ
  pub below : ℕ

unfoldable pub denominator : Fraction → ℕ
denominator q = suc q.below

-- n / d, for d above 0
unfoldable pub over : ℤ → ℕ → Fraction
over n d = record { numerator = n; below = pred d }

-- an integer as a fraction
abbrev pub whole : ℤ → Fraction
whole n = record { numerator = n; below = 0 }

-- the value is an integer as it stands
abbrev pub IsWhole : Fraction → Type 0
IsWhole q = q.below ≡ 0

-- ---- comparison, by cross products

-- a/b and c/d are one value where a*d is c*b
pub record ◌=ℚ◌ (p q : Fraction) : Type 0 where
  pub cross : p.numerator *ℤ pos (denominator q) ≡ q.numerator *ℤ pos (denominator p)

pub record ◌≤ℚ◌ (p q : Fraction) : Type 0 where
  pub cross : (p.numerator *ℤ pos (denominator q)) ≤ℤ (q.numerator *ℤ pos (denominator p))

pub record ◌<ℚ◌ (p q : Fraction) : Type 0 where
  pub cross : (p.numerator *ℤ pos (denominator q)) <ℤ (q.numerator *ℤ pos (denominator p))

infix 4 ◌=ℚ◌ ◌≤ℚ◌ ◌<ℚ◌
-- the same as tests
unfoldable pub fraction_eq : Fraction → Fraction → Bool
fraction_eq p q = int_eq (p.numerator *ℤ pos (denominator q)) (q.numerator *ℤ pos (denominator p))

unfoldable pub fraction_le : Fraction → Fraction → Bool
fraction_le p q = int_le (p.numerator *ℤ pos (denominator q)) (q.numerator *ℤ pos (denominator p))

unfoldable pub fraction_lt : Fraction → Fraction → Bool
fraction_lt p q = int_lt (p.numerator *ℤ pos (denominator q)) (q.numerator *ℤ pos (denominator p))

unfoldable pub fraction_cmp : Fraction → Fraction → Ordering
fraction_cmp p q = int_cmp (p.numerator *ℤ pos (denominator q)) (q.numerator *ℤ pos (denominator p))

-- the lesser of two, the first where they are one value
unfoldable pub fraction_min : Fraction → Fraction → Fraction
fraction_min p q = if fraction_le p q then p else q

-- ---- arithmetic, over integers of any size

infixl 6 ◌+ℚ◌ ◌-ℚ◌
infixl 7 ◌*ℚ◌ ◌/ℚ◌
unfoldable pub ◌+ℚ◌ : Fraction → Fraction → Fraction
p +ℚ q =
    over
    (p.numerator *ℤ pos (denominator q) +ℤ q.numerator *ℤ pos (denominator p))
    (denominator p * denominator q)

unfoldable pub neg_ℚ : Fraction → Fraction
neg_ℚ q = record { numerator = neg_ℤ q.numerator; below = q.below }

unfoldable pub ◌-ℚ◌ : Fraction → Fraction → Fraction
p -ℚ q = p +ℚ neg_ℚ q

unfoldable pub ◌*ℚ◌ : Fraction → Fraction → Fraction
p *ℚ q = over (p.numerator *ℤ q.numerator) (denominator p * denominator q)

-- d/n of n/d, the sign in the numerator; it stands for nothing where n is 0
unfoldable pub flipped : ℤ → ℕ → Fraction
flipped (pos n) below = over (pos (suc below)) n
flipped (negsuc n) below = over (negsuc below) (suc n)

unfoldable pub reciprocal : Fraction → Fraction
reciprocal q = flipped q.numerator q.below

unfoldable pub ◌/ℚ◌ : Fraction → Fraction → Fraction
p /ℚ q = p *ℚ reciprocal q

-- `to_int`: the greatest integer that is at most the value
unfoldable pub floor : Fraction → ℤ
floor q = floor_div q.numerator (denominator q)

-- the least integer that is at least the value
unfoldable pub ceiling : Fraction → ℤ
ceiling q = neg_ℤ (floor (neg_ℚ q))

-- n is the greatest integer that is at most q
pub record IsFloor (q : Fraction) (n : ℤ) : Type 0 where
  pub at_most : whole n ≤ℚ q
  pub greatest : q <ℚ whole (n +ℤ pos 1)

-- n is the least integer that is at least q
pub record IsCeiling (q : Fraction) (n : ℤ) : Type 0 where
  pub at_least : q ≤ℚ whole n
  pub least : whole (n +ℤ negsuc 0) <ℚ q

-- `floor` and `ceiling` compute these.
abbrev pub Rounds : Type 0
Rounds = (q : Fraction) → IsFloor q (floor q) × IsCeiling q (ceiling q)

-- ---- lowest terms

-- the same value in lowest terms
unfoldable pub reduce : Fraction → Fraction
reduce q =
    let common = gcd (unsigned_abs q.numerator) (denominator q) in
    over (int_div q.numerator (pos common)) (denominator q / common)

-- n / d as a fraction in lowest terms, the sign in the numerator, for d other than 0
unfoldable pub ratio : ℤ → ℤ → Fraction
ratio n d = reduce (whole n /ℚ whole d)

-- ---- numbers

-- M, the largest numerator and denominator of a number
abbrev pub largest : ℕ
largest = 170141183460469231731687303715884105727

abbrev pub exceeds : ℕ → Bool
exceeds n = nat_lt largest n

-- a number: in lowest terms, with a numerator and a denominator of at most M; so -2 ^ 127 is none
pub record IsNumber (q : Fraction) : Type 0 where
  pub lowest : gcd (unsigned_abs q.numerator) (denominator q) ≡ 1
  pub numerator_fits : unsigned_abs q.numerator ≤ largest
  pub denominator_fits : denominator q ≤ largest

-- ---- Wide

-- a/b + c/d with L the least common multiple of b and d: L, a*(L/b), c*(L/d) or their sum is beyond M or -M
unfoldable pub is_wide_sum : Fraction → Fraction → Bool
is_wide_sum p q =
    let common = lcm (denominator p) (denominator q) in
    let left = p.numerator *ℤ pos (common / denominator p) in
    let right = q.numerator *ℤ pos (common / denominator q) in
    exceeds common || exceeds (unsigned_abs left) || exceeds (unsigned_abs right) || exceeds (unsigned_abs (left +ℤ right))

-- the reduced numerator is beyond M or -M, or the reduced denominator beyond M
unfoldable pub is_wide_product : Fraction → Fraction → Bool
is_wide_product p q =
    let reduced = reduce (p *ℚ q) in
    exceeds (unsigned_abs reduced.numerator) || exceeds (denominator reduced)

-- the four operations that can be Wide
pub data Arithmetic : Type 0 where
  Sum : Arithmetic
  Difference : Arithmetic
  Product : Arithmetic
  Quotient : Arithmetic

-- the exact value; a quotient's divisor is not 0
unfoldable pub exact : Arithmetic → Fraction → Fraction → Fraction
exact Sum p q = p +ℚ q
exact Difference p q = p -ℚ q
exact Product p q = p *ℚ q
exact Quotient p q = p /ℚ q

-- what an operation on numbers answers where it is not Wide: the exact value in lowest terms
unfoldable pub outcome : Arithmetic → Fraction → Fraction → Fraction
outcome op p q = reduce (exact op p q)

-- a difference is the sum with the negated second operand, a quotient the product with the reciprocal
unfoldable pub is_wide : Arithmetic → Fraction → Fraction → Bool
is_wide Sum p q = is_wide_sum p q
is_wide Difference p q = is_wide_sum p (neg_ℚ q)
is_wide Product p q = is_wide_product p q
is_wide Quotient p q = is_wide_product p (reciprocal q)

-- an operation with the operands that it was handed
pub record Operation : Type 0 where
  pub operator : Arithmetic
  pub left : Fraction
  pub right : Fraction

-- the first operation of a computation that is Wide; its later ones are not carried out
unfoldable pub first_wide : List Operation → Option Operation
first_wide [] = None
first_wide (x ∷ xs) = if is_wide x.operator x.left x.right then Some x else first_wide xs

-- ---- Laws

-- What a number comes to beside 0: nothing leaves the numbers there, so a coefficient that is 0 may be passed over.
pub record ZerosAreNeverWide : Type 0 where
  pub sum_left : (q : Fraction) → IsNumber q → (is_wide Sum (whole (pos 0)) q ≡ false) × (outcome Sum (whole (pos 0)) q ≡ q)
  pub sum_right : (q : Fraction) → IsNumber q → (is_wide Sum q (whole (pos 0)) ≡ false) × (outcome Sum q (whole (pos 0)) ≡ q)
  pub product_left : (q : Fraction) → (is_wide Product (whole (pos 0)) q ≡ false) × (outcome Product (whole (pos 0)) q ≡ whole (pos 0))
  pub product_right : (q : Fraction) → (is_wide Product q (whole (pos 0)) ≡ false) × (outcome Product q (whole (pos 0)) ≡ whole (pos 0))
  pub quotient : (q : Fraction) → (is_wide Quotient (whole (pos 0)) q ≡ false) × (outcome Quotient (whole (pos 0)) q ≡ whole (pos 0))
