-- Steady families: of their members each Boolean term has one truth, and each unit keeps to a line. What terms are worth along a family, and the operations
-- that takes.
-- Source: Bjørner, Phan and Fleckenstein, νZ - An Optimizing SMT Solver, TACAS 2015 (values that a goal comes near, or passes all). The order of the
-- operations is this solver's own.
use Rattle.std.specs.Prelude.{◌≡◌, Bool, true, false, not, ◌&&◌, ◌⊎◌, List, [], ◌∷◌, ◌++◌, map, All, Contains, Some, ⊤, ℤ, pos, if◌then◌else◌}
use Rattle.nz_fractions.specs.Fraction.{Fraction, denominator, whole, over, ◌=ℚ◌, ◌<ℚ◌, ◌-ℚ◌, ◌*ℚ◌, ◌/ℚ◌, reduce, Arithmetic, Sum, Difference, Product, Quotient, outcome, Operation}
use Rattle.nz_spec.specs.numbers.Computation.{Computation, operated, at_once, and_then, in_turn}
use Rattle.nz_spec.specs.terms.Term.{Sort, bool_sort, int_sort, real_sort, Constant, Head, sum, difference, product, quotient, integer_quotient, modulus, Term, apply, Terms, no_terms, terms, sort_of, Assignment, truth, value_of, is_zero, is_undefined}
use Rattle.nz_spec.specs.terms.Linear.{constant_value}
use Rattle.nz_spec.specs.terms.Operations.{operation_on}
use Rattle.nz_spec.specs.terms.Form.{Part, Form, unit_value}
use Rattle.nz_spec.specs.terms.FormOf.{is_taken_whole}
use Rattle.nz_spec.specs.clauses.LinearLiteral.{is_whole}
use Rattle.nz_spec.specs.clauses.Gates.{is_boolean_term}
use Rattle.nz_spec.specs.simplex.Climb.{Line, line_at, Range, up_to, naturals, IsInRange, Course, steady, along, Family, member, unit_of}

-- ---- What terms are worth along a family

-- the line on which a value is y at s and z at t
abbrev pub line_through : (s y t z : Fraction) → Line
line_through s y t z =
    let slope = reduce ((z -ℚ y) /ℚ (t -ℚ s)) in
    record { start = reduce (y -ℚ slope *ℚ s); slope = slope }

abbrev pub half_of : Fraction → Fraction
half_of q = q *ℚ over (pos 1) 2

-- the line through a term's values at two numbers of the range
abbrev pub line_in : Range → (Fraction → Fraction) → Line
line_in (up_to limit) value = line_through (half_of limit) (value (half_of limit)) limit (value limit)
line_in naturals value = line_through (whole (pos 0)) (value (whole (pos 0))) (whole (pos 1)) (value (whole (pos 1)))

abbrev pub line_of : Family → Term → Line
line_of f t = line_in f.range (λ s. unit_value (member f s) t)

-- At each member the term is worth what the line says.
abbrev pub KeepsTo : Family → Term → Line → Type 0
KeepsTo f t l = (s : Fraction) → IsInRange f.range s → unit_value (member f s) t =ℚ line_at l s

-- ---- Steady families

-- some number is in the range
abbrev pub IsReached : Range → Type 0
IsReached (up_to limit) = whole (pos 0) <ℚ limit
IsReached naturals = ⊤

-- an integer stays as it is, or goes by an integer with each natural number
abbrev pub IsIntegerLine : Range → Line → Type 0
IsIntegerLine (up_to limit) l = (is_whole l.start ≡ true) × (l.slope =ℚ whole (pos 0))
IsIntegerLine naturals l = (is_whole l.start ≡ true) × (is_whole l.slope ≡ true)

-- a course of a constant of this sort
abbrev pub IsCourseOf : Range → Sort → Course → Type 0
IsCourseOf range bool_sort (steady b) = ⊤
IsCourseOf range int_sort (along l) = IsIntegerLine range l
IsCourseOf range real_sort (along l) = ⊤
IsCourseOf range s course = ⊥

-- a number whose value arithmetic takes as it is
abbrev pub is_number_unit : Term → Bool
is_number_unit t = is_taken_whole t && not (is_boolean_term t)

-- A constant divisor divides the slope of what it divides.
abbrev pub DividesSlope : Family → (dividend divisor : Term) → Type 0
DividesSlope f t u = (k : Fraction) → constant_value u ≡ Some k → (n : ℤ) × ((line_of f t).slope =ℚ (k *ℚ whole n))

-- So it is where the term is a quotient or a remainder of integers.
abbrev pub HasDividedSlope : Family → Term → Type 0
HasDividedSlope f (apply integer_quotient (terms t (terms u no_terms))) = DividesSlope f t u
HasDividedSlope f (apply modulus (terms t (terms u no_terms))) = DividesSlope f t u
HasDividedSlope f t = ⊤

-- Each member is an assignment that counts. Over all of them each Boolean one of these terms has one truth, and each unit keeps to a line. Each constant of these
-- has a course.
pub record IsSteady (Counts : Assignment → Type 0) (ts : List Term) (f : Family) : Type 0 where
  pub reached : IsReached f.range
  pub courses : All (λ (p : Constant × Course). IsCourseOf f.range p.0.sort p.1) f.courses
  pub members : (s : Fraction) → IsInRange f.range s → Counts (member f s)
  pub truths : (t : Term) → Contains ts t → is_boolean_term t ≡ true → (b : Bool) × ((s : Fraction) → IsInRange f.range s → value_of (member f s) t ≡ truth b)
  pub units : (t : Term) → Contains ts t → is_number_unit t ≡ true → KeepsTo f t (line_of f t)
  pub integers : (t : Term) → Contains ts t → is_number_unit t ≡ true → sort_of t ≡ int_sort → IsIntegerLine f.range (line_of f t)
  pub divisors : (t : Term) → Contains ts t → HasDividedSlope f t
  pub all : (c : Constant) → Contains ts (unit_of c) → (course : Course) × Contains f.courses (c, course)

-- ---- The operations that takes

-- An operation on two lines is one on their starts, and then one on their slopes. Of the factors of a product one stays, and so does a divisor.
abbrev pub line_operations : Arithmetic → Line → Line → List Operation
line_operations Product l m = operation_on Product l.start m.start ++ operation_on Product l.slope m.start ++ operation_on Product l.start m.slope
line_operations Quotient l m = operation_on Quotient l.start m.start ++ operation_on Quotient l.slope m.start
line_operations op l m = operation_on op l.start m.start ++ operation_on op l.slope m.slope

-- the line that it comes to; a quotient by 0 is 0
abbrev pub line_outcome : Arithmetic → Line → Line → Line
line_outcome Product l m = record {
  start = outcome Product l.start m.start;
  slope = outcome Sum (outcome Product l.slope m.start) (outcome Product l.start m.slope);
}
line_outcome Quotient l m =
    if is_zero m.start then record { start = whole (pos 0); slope = whole (pos 0) }
    else record { start = outcome Quotient l.start m.start; slope = outcome Quotient l.slope m.start }
line_outcome op l m = record { start = outcome op l.start m.start; slope = outcome op l.slope m.slope }

-- one line with each of the others, from the left
abbrev pub operations_by_lines : Arithmetic → Line → List Line → List Operation
operations_by_lines op l [] = []
operations_by_lines op l (m ∷ ms) = line_operations op l m ++ operations_by_lines op (line_outcome op l m) ms

-- what an operator does with the lines of its arguments; no other one leaves the numbers
abbrev pub head_line_operations : Head → List Line → List Operation
head_line_operations (sum s) (l ∷ ls) = operations_by_lines Sum l ls
head_line_operations (difference s) (l ∷ ls) = operations_by_lines Difference l ls
head_line_operations (product s) (l ∷ ls) = operations_by_lines Product l ls
head_line_operations quotient (l ∷ ls) = operations_by_lines Quotient l ls
head_line_operations h ls = []

abbrev pub lines_of : Family → Terms → List Line
lines_of f no_terms = []
lines_of f (terms t ts) = line_of f t ∷ lines_of f ts

-- those of the arguments, from the left, and then the term's own
abbrev mutual
  pub operations_along : Family → Term → List Operation
  operations_along f (apply h ts) = operations_of_each f ts ++ head_line_operations h (lines_of f ts)

  pub operations_of_each : Family → Terms → List Operation
  operations_of_each f no_terms = []
  operations_of_each f (terms t ts) = operations_along f t ++ operations_of_each f ts

-- ---- The line of a form

-- a number that stays
abbrev pub still : Fraction → Line
still q = record { start = q; slope = whole (pos 0) }

-- onto a line, one part after another: the line of its unit times the coefficient, and then the sum with it
abbrev pub operations_onto : (Term → Line) → Line → List Part → List Operation
operations_onto lines l [] = []
operations_onto lines l (p ∷ ps) =
    let m = line_outcome Product (still p.coefficient) (lines p.unit) in
    line_operations Product (still p.coefficient) (lines p.unit) ++ line_operations Sum l m ++ operations_onto lines (line_outcome Sum l m) ps

-- from what is added on
abbrev pub form_line_operations : (Term → Line) → Form → List Operation
form_line_operations lines f = operations_onto lines (still f.offset) f.parts

-- ---- Scaling to integers

-- What makes integers of these numbers: what makes such of those behind, times the denominator that is left.
abbrev pub scale_of : List Fraction → Computation Fraction
scale_of [] = at_once (whole (pos 1))
scale_of (q ∷ qs) = and_then (scale_of qs) (λ m. and_then (operated Product q m) (λ r. operated Product m (whole (pos (denominator r)))))

-- each of them times that
abbrev pub scaled_to_integers : List Fraction → Computation (List Fraction)
scaled_to_integers qs = and_then (scale_of qs) (λ m. in_turn (map (λ q. operated Product q m) qs))

-- ---- Laws

-- a factor of a product stays, and so does a divisor
abbrev pub StaysFor : Arithmetic → Line → Line → Type 0
StaysFor Product l m = (l.slope =ℚ whole (pos 0)) ⊎ (m.slope =ℚ whole (pos 0))
StaysFor Quotient l m = m.slope =ℚ whole (pos 0)
StaysFor op l m = ⊤

-- A term that keeps to a line keeps to the one through two of its values, which is the same. What an operation on two lines comes to is what it comes to at
-- each number.
pub record LinesTell : Type 0 where
  pub same : (f : Family) (t : Term) (l : Line) → IsReached f.range → KeepsTo f t l → ((line_of f t).start =ℚ l.start) × ((line_of f t).slope =ℚ l.slope)
  pub carried : (op : Arithmetic) (l m : Line) (s : Fraction) → StaysFor op l m → is_undefined op m.start ≡ false
      → line_at (line_outcome op l m) s =ℚ outcome op (line_at l s) (line_at m s)
