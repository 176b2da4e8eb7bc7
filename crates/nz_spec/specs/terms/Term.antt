-- Terms, sorts and values (SMT-LIB 2.6, section 3.6, terms, and the theories Core and Reals_Ints).
use Rattle.std.specs.Prelude.{◌≡◌, ℕ, suc, bytes_eq, ◌^◌, ◌&&◌, ◌||◌, Bool, true, false, not, IsTrue, nat_le, List, [], ◌∷◌, ℤ, pos, negsuc, ◌+ℤ◌, ◌*ℤ◌, neg_ℤ, ◌≤ℤ◌, ◌<ℤ◌, unsigned_abs, ⊤, Option, Some, None, if◌then◌else◌}
use Rattle.std.specs.List.{list_all, list_any}
use Rattle.nz_fractions.specs.Fraction.{Fraction, whole, IsWhole, IsNumber, ratio, fraction_eq, fraction_le, fraction_lt, neg_ℚ, floor, floor_div, Arithmetic, Sum, Difference, Product, Quotient, outcome, exceeds}

pub data Sort : Type 0 where
  bool_sort : Sort
  int_sort : Sort
  real_sort : Sort

-- the sorts of numbers, over which an operator may be
pub data NumberSort : Type 0 where
  over_int : NumberSort
  over_real : NumberSort

abbrev pub sort_over : NumberSort → Sort
sort_over over_int = int_sort
sort_over over_real = real_sort

abbrev pub are_same_sort : Sort → Sort → Bool
are_same_sort bool_sort bool_sort = true
are_same_sort int_sort int_sort = true
are_same_sort real_sort real_sort = true
are_same_sort s t = false

-- a declared constant
pub record Constant : Type 0 where
  pub name : List ℕ
  pub sort : Sort

-- the same name and the same sort
abbrev pub are_same_constant : Constant → Constant → Bool
are_same_constant c d = bytes_eq c.name d.name && are_same_sort c.sort d.sort

-- What a term is of: an operator, a constant, or a number.
pub data Head : Type 0 where
  constant : Constant → Head
  parameter : ℕ → Sort → Head  -- of a definition, by its place; it stands in the definition's body alone
  integer : ℕ → Head  -- a numeral
  decimal_number : ℕ → ℕ → Head  -- a decimal: its digits as one number, and how many stand after the point
  verum : Head  -- true
  falsum : Head  -- false
  negation : Head  -- not
  conjunction : Head  -- and
  disjunction : Head  -- or
  implication : Head  -- =>
  exclusion : Head  -- xor
  equality : Head  -- =
  distinction : Head  -- distinct
  choice : Sort → Head  -- ite, over branches of this sort
  less : Head  -- <
  at_most : Head  -- <=
  greater : Head  -- >
  at_least : Head  -- >=
  sum : NumberSort → Head  -- +, over Int or over Real
  difference : NumberSort → Head  -- -, of one argument too
  product : NumberSort → Head  -- *
  quotient : Head  -- /
  integer_quotient : Head  -- div
  modulus : Head  -- mod
  magnitude : Head  -- abs
  to_real : Head
  to_int : Head
  is_int : Head

abbrev pub constant_of : Head → Option Constant
constant_of (constant c) = Some c
constant_of h = None

-- how many digits a decimal may have after its point
abbrev pub place_limit : ℕ
place_limit = 38

-- A numeral is a number where it is at most M; a decimal where its digits are, and at most 38 of them stand after the point.
abbrev pub head_fits : Head → Bool
head_fits (integer n) = not (exceeds n)
head_fits (decimal_number n places) = not (exceeds n) && nat_le places place_limit
head_fits h = true

-- the sort of a term, which its head tells
abbrev pub head_sort : Head → Sort
head_sort (constant c) = c.sort
head_sort (parameter i s) = s
head_sort (integer n) = int_sort
head_sort (decimal_number n places) = real_sort
head_sort (choice s) = s
head_sort (sum s) = sort_over s
head_sort (difference s) = sort_over s
head_sort (product s) = sort_over s
head_sort quotient = real_sort
head_sort integer_quotient = int_sort
head_sort modulus = int_sort
head_sort magnitude = int_sort
head_sort to_real = real_sort
head_sort to_int = int_sort
head_sort h = bool_sort

mutual
  pub data Term : Type 0 where
    apply : Head → Terms → Term

  pub data Terms : Type 0 where
    no_terms : Terms
    terms : Term → Terms → Terms

abbrev pub sort_of : Term → Sort
sort_of (apply h ts) = head_sort h

abbrev pub is_bool : Sort → Bool
is_bool bool_sort = true
is_bool s = false

abbrev pub is_int_sort : Sort → Bool
is_int_sort int_sort = true
is_int_sort s = false

-- a term of this head is of sort Int or Real, or asks something of one that is
abbrev pub is_numeric : Head → Bool
is_numeric is_int = true
is_numeric h = not (is_bool (head_sort h))

-- the term, or one that it is made of, is so
abbrev mutual
  pub holds_number : Term → Bool
  holds_number (apply h ts) = is_numeric h || hold_number ts

  pub hold_number : Terms → Bool
  hold_number no_terms = false
  hold_number (terms t ts) = holds_number t || hold_number ts

-- a term of this head is of sort Int and one that arithmetic takes as it is, or asks something of such a term
abbrev pub is_integral : Head → Bool
is_integral (constant c) = is_int_sort c.sort
is_integral (choice s) = is_int_sort s
is_integral integer_quotient = true
is_integral modulus = true
is_integral magnitude = true
is_integral to_int = true
is_integral is_int = true
is_integral h = false

abbrev mutual
  pub holds_integer : Term → Bool
  holds_integer (apply h ts) = is_integral h || hold_integer ts

  pub hold_integer : Terms → Bool
  hold_integer no_terms = false
  hold_integer (terms t ts) = holds_integer t || hold_integer ts

-- ---- Values

-- A value of sort Int is a fraction too, a whole one.
pub data Value : Type 0 where
  truth : Bool → Value
  number : Fraction → Value

-- what each constant stands for
abbrev pub Assignment : Type 0
Assignment = Constant → Value

abbrev pub is_true : Value → Bool
is_true (truth b) = b
is_true (number q) = false

abbrev pub number_of : Value → Fraction
number_of (truth b) = whole (pos 0)
number_of (number q) = q

-- the value is one of the sort
abbrev pub IsOfSort : Sort → Value → Type 0
IsOfSort bool_sort (truth b) = ⊤
IsOfSort bool_sort (number q) = ⊥
IsOfSort int_sort (truth b) = ⊥
IsOfSort int_sort (number q) = IsWhole q
IsOfSort real_sort (truth b) = ⊥
IsOfSort real_sort (number q) = ⊤

-- where the value is a number, it is one of 128 bits, in lowest terms
abbrev pub ValueFits : Value → Type 0
ValueFits (truth b) = ⊤
ValueFits (number q) = IsNumber q

abbrev pub are_equal : Value → Value → Bool
are_equal (truth true) v = is_true v
are_equal (truth false) v = not (is_true v)
are_equal (number q) v = fraction_eq q (number_of v)

abbrev pub is_less : Value → Value → Bool
is_less v w = fraction_lt (number_of v) (number_of w)

abbrev pub is_at_most : Value → Value → Bool
is_at_most v w = fraction_le (number_of v) (number_of w)

-- `and` and `or` of one value are that value
abbrev pub all_true : List Value → Value
all_true [] = truth true
all_true (v ∷ []) = v
all_true (v ∷ w ∷ vs) = truth (list_all is_true (v ∷ w ∷ vs))

abbrev pub some_true : List Value → Value
some_true [] = truth false
some_true (v ∷ []) = v
some_true (v ∷ w ∷ vs) = truth (list_any is_true (v ∷ w ∷ vs))

-- `=>` groups to the right: what comes before the last implies it, one after another
abbrev pub implied : List Value → Value
implied [] = truth true
implied (v ∷ []) = v
implied (v ∷ w ∷ vs) = truth (not (is_true v) || is_true (implied (w ∷ vs)))

-- `xor` of two
abbrev pub excluded : Value → Value → Value
excluded v w = truth (not (are_equal v w))

-- `=` and the comparisons are chainable: each value is so to the next
abbrev pub are_chained : (Value → Value → Bool) → List Value → Bool
are_chained related [] = true
are_chained related (v ∷ []) = true
are_chained related (v ∷ w ∷ vs) = related v w && are_chained related (w ∷ vs)

-- `distinct` is pairwise: no two values are equal
abbrev pub are_distinct : List Value → Bool
are_distinct [] = true
are_distinct (v ∷ vs) = not (list_any (are_equal v) vs) && are_distinct vs

-- a value with the others, one after another, from the left
abbrev pub combined : (Value → Value → Value) → Value → List Value → Value
combined f v [] = v
combined f v (w ∷ ws) = combined f (f v w) ws

abbrev pub whole_number : ℤ → Value
whole_number n = number (whole n)

abbrev pub is_zero : Fraction → Bool
is_zero q = fraction_eq q (whole (pos 0))

-- a quotient by 0 is no operation
abbrev pub is_undefined : Arithmetic → Fraction → Bool
is_undefined Quotient q = is_zero q
is_undefined op q = false

-- an operation on two numbers, of any size; a quotient by 0, which no linear term has, is 0
abbrev pub carried_out : Arithmetic → Value → Value → Value
carried_out op v w = if is_undefined op (number_of w) then whole_number (pos 0) else number (outcome op (number_of v) (number_of w))

-- `div` and `mod` by n other than 0: of m the q and the r with m = n*q + r and 0 <= r < |n|
unfoldable pub div_of : ℤ → ℤ → ℤ
div_of m (pos n) = floor_div m n
div_of m (negsuc n) = neg_ℤ (floor_div m (suc n))

unfoldable pub mod_of : ℤ → ℤ → ℤ
mod_of m n = m +ℤ neg_ℤ (n *ℤ div_of m n)

pub record IsDivision (m n q r : ℤ) : Type 0 where
  pub whole_of : m ≡ n *ℤ q +ℤ r
  pub at_least_zero : pos 0 ≤ℤ r
  pub below : r <ℤ pos (unsigned_abs n)

-- `div_of` and `mod_of` compute these, and no other two numbers are so.
abbrev pub Divides : Type 0
Divides = (m n : ℤ) → (n ≡ pos 0 → ⊥) → IsDivision m n (div_of m n) (mod_of m n)

abbrev pub DividesOnce : Type 0
DividesOnce = (m n q r : ℤ) → IsDivision m n q r → (q ≡ div_of m n) × (r ≡ mod_of m n)

-- the integer that a value of sort Int is
abbrev pub integer_of : Value → ℤ
integer_of v = floor (number_of v)

abbrev pub divided : Value → Value → Value
divided v w = whole_number (div_of (integer_of v) (integer_of w))

-- a number of so many decimal places
abbrev pub decimal_value : ℕ → ℕ → Fraction
decimal_value digits places = ratio (pos digits) (pos (10 ^ places))

-- A decimal that fits is a number.
abbrev pub DecimalsAreNumbers : Type 0
DecimalsAreNumbers = (digits places : ℕ) → IsTrue (head_fits (decimal_number digits places)) → IsNumber (decimal_value digits places)

-- what a constant stands for where nothing is said, and a parameter where nothing is put in its place
abbrev pub default_value : Sort → Value
default_value bool_sort = truth false
default_value int_sort = whole_number (pos 0)
default_value real_sort = whole_number (pos 0)

-- what an operator makes of the values of its arguments
abbrev pub head_value : Assignment → Head → List Value → Value
head_value a (constant c) vs = a c
head_value a (parameter i s) vs = default_value s
head_value a (integer n) vs = whole_number (pos n)
head_value a (decimal_number n places) vs = number (decimal_value n places)
head_value a verum vs = truth true
head_value a falsum vs = truth false
head_value a negation [] = truth false
head_value a negation (v ∷ vs) = truth (not (is_true v))
head_value a conjunction vs = all_true vs
head_value a disjunction vs = some_true vs
head_value a implication vs = implied vs
head_value a exclusion [] = truth false
head_value a exclusion (v ∷ vs) = combined excluded v vs
head_value a equality vs = truth (are_chained are_equal vs)
head_value a distinction vs = truth (are_distinct vs)
head_value a (choice s) (c ∷ v ∷ w ∷ []) = if is_true c then v else w
head_value a (choice s) vs = truth false
head_value a less vs = truth (are_chained is_less vs)
head_value a at_most vs = truth (are_chained is_at_most vs)
head_value a greater vs = truth (are_chained (λ v w. is_less w v) vs)
head_value a at_least vs = truth (are_chained (λ v w. is_at_most w v) vs)
head_value a (sum s) [] = whole_number (pos 0)
head_value a (sum s) (v ∷ vs) = combined (carried_out Sum) v vs
head_value a (difference s) [] = whole_number (pos 0)
head_value a (difference s) (v ∷ []) = number (neg_ℚ (number_of v))
head_value a (difference s) (v ∷ w ∷ vs) = combined (carried_out Difference) v (w ∷ vs)
head_value a (product s) [] = whole_number (pos 1)
head_value a (product s) (v ∷ vs) = combined (carried_out Product) v vs
head_value a quotient [] = whole_number (pos 1)
head_value a quotient (v ∷ vs) = combined (carried_out Quotient) v vs
head_value a integer_quotient [] = whole_number (pos 1)
head_value a integer_quotient (v ∷ vs) = combined divided v vs
head_value a modulus (v ∷ w ∷ []) = whole_number (mod_of (integer_of v) (integer_of w))
head_value a modulus vs = whole_number (pos 0)
head_value a magnitude (v ∷ []) = whole_number (pos (unsigned_abs (integer_of v)))
head_value a magnitude vs = whole_number (pos 0)
head_value a to_real (v ∷ []) = v
head_value a to_real vs = whole_number (pos 0)
head_value a to_int (v ∷ []) = whole_number (integer_of v)
head_value a to_int vs = whole_number (pos 0)
head_value a is_int (v ∷ []) = truth (fraction_eq (number_of v) (whole (integer_of v)))
head_value a is_int vs = truth false

-- the value of a term under an assignment
abbrev mutual
  pub value_of : Assignment → Term → Value
  value_of a (apply h ts) = head_value a h (values_of a ts)

  pub values_of : Assignment → Terms → List Value
  values_of a no_terms = []
  values_of a (terms t ts) = value_of a t ∷ values_of a ts

abbrev pub IsTrueUnder : Assignment → Term → Type 0
IsTrueUnder a t = IsTrue (is_true (value_of a t))
