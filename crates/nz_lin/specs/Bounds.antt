-- What bounds of the code are: linear literals over a table, and their multiples.
use Rattle.std.specs.Prelude.{Bool, true, false, List, map, Result, Ok, Err}
use Rattle.nz_fractions.specs.Fraction.{Fraction, first_wide}
use Rattle.nz_spec.specs.numbers.Computation.{Computation, turned_into, and_then}
use Rattle.nz_spec.specs.clauses.Cuts.{rounded_limit}
use Rattle.nz_spec.specs.clauses.Farkas as farkas
use Rattle.nz_spec.specs.terms.Form as spec
use Rattle.nz_spec.specs.clauses.LinearLiteral.{is_whole}
use Rattle.nz_spec.specs.clauses.Literal.{Literal, is_at_most, is_below}
use Rattle.nz_spec.specs.terms.Table.{Node}
use Rattle.nz_term.specs.declared.heads.Sort.{Sort}
use Rattle.nz_term.specs.declared.heads.Sort.TheVariants.{Int}
use Rattle.nz_lin.specs.declared.bound.Bound.{Bound}
use Rattle.nz_lin.specs.declared.bound.BoundMultiple.{BoundMultiple}
use Rattle.nz_term.specs.declared.stops.ArithmeticStop.{ArithmeticStop}
use Rattle.nz_lin.specs.declared.form.Part.{Part}
use Rattle.nz_lin.specs.Comes.{IsDone}
use Rattle.nz_lin.specs.Forms.{AreUnits, parts_over}
use Rattle.nz_term.specs.Stops.{IsStopAt}

-- ---- Over a table

-- a sum of units is below a number, or at most it
abbrev pub bounded : Bool → List spec.Part → Fraction → Literal
bounded true ps b = is_below ps b
bounded false ps b = is_at_most ps b

abbrev pub literal_over : List Node → Bound → Literal
literal_over ns b = bounded b.strict (parts_over ns b.sides.parts) b.sides.offset

abbrev pub bound_over : List Node → Bound → farkas.Bound
bound_over ns b = record { parts = parts_over ns b.sides.parts; limit = b.sides.offset; is_strict = b.strict }

abbrev pub multiple_over : List Node → BoundMultiple → farkas.Multiple
multiple_over ns m = record { literal = literal_over ns m.bound; multiplier = m.multiplier }

abbrev pub multiples_over : List Node → List BoundMultiple → List farkas.Multiple
multiples_over ns ms = map (multiple_over ns) ms

-- the parts of a bound over this table
abbrev pub HasUnits : List Node → Bound → Type 0
HasUnits ns b = AreUnits ns b.sides.parts

-- ---- Results

-- of a bound over a table
abbrev pub IsBounded : List Node → Computation farkas.Bound → Result Bound ArithmeticStop → Type 0
IsBounded ns c (Ok b) = IsDone c (bound_over ns b) × HasUnits ns b
IsBounded ns c (Err s) = IsStopAt (first_wide c.operations) s

-- of a linear literal over a table
abbrev pub IsLiteral : List Node → Computation Literal → Result Bound ArithmeticStop → Type 0
IsLiteral ns c (Ok b) = IsDone c (literal_over ns b) × HasUnits ns b
IsLiteral ns c (Err s) = IsStopAt (first_wide c.operations) s

-- ---- Integers

-- the coefficient is an integer, where the unit is of sort Int
abbrev pub is_integral_of : Sort → Fraction → Bool
is_integral_of Int c = is_whole c
is_integral_of s c = false

abbrev pub is_integral : Part → Bool
is_integral p = is_integral_of p.sort p.coefficient

-- a bound times a number, with the greatest integer within its limit then
abbrev pub rounded_bound : Fraction → farkas.Bound → Computation Literal
rounded_bound m x = and_then (farkas.bound_scaled m x) (λ y. turned_into (λ c. is_at_most y.parts c) (rounded_limit y))
