-- What comes of computations: a value, or the first operation that leaves the numbers, or want of memory.
use Rattle.std.specs.Prelude.{◌≡◌, List, Some, None, Result, Ok, Err}
use Rattle.std.specs.declared.vec.Vec.{Vec}
use Rattle.std.specs.declared.alloc.Global.{Global}
use Rattle.nz_fractions.specs.Fraction.{Fraction, Arithmetic, Sum, Difference, Product, first_wide}
use Rattle.nz_spec.specs.numbers.Computation.{Computation, operated}
use Rattle.nz_spec.specs.terms.Form as spec
use Rattle.nz_spec.specs.terms.Table.{Node}
use Rattle.nz_frac.specs.Operations.{operation_of}
use Rattle.nz_frac.specs.declared.frac.Wide.{Wide}
use Rattle.nz_term.specs.declared.stops.ArithmeticStop.{ArithmeticStop}
use Rattle.nz_lin.specs.declared.form.Part.{Part}
use Rattle.nz_lin.specs.declared.form.Side.{Side}
use Rattle.nz_lin.specs.declared.form.Side.TheVariants.{Left, Right}
use Rattle.nz_lin.specs.declared.form.Sign.{Sign}
use Rattle.nz_lin.specs.declared.form.Sign.TheVariants.{Plus, Minus}
use Rattle.nz_lin.specs.Forms.{Numbered, form_over, parts_over, negated, AreUnits}
use Rattle.nz_term.specs.Stops.{IsStopAt}

-- ---- Operations

-- what is added or subtracted
abbrev pub arithmetic_of : Sign → Arithmetic
arithmetic_of Plus = Sum
arithmetic_of Minus = Difference

-- a part that is added to nothing, or subtracted from it
abbrev pub alone : Sign → Part → Part
alone Plus p = p
alone Minus p = negated p

-- the product of a number with a factor, which stands on this side
abbrev pub times : Side → Fraction → Fraction → Computation Fraction
times Left factor c = operated Product factor c
times Right factor c = operated Product c factor

-- ---- Results

-- it came to this, and none of its operations leaves the numbers
pub record IsDone {A : Type 0} (c : Computation A) (x : A) : Type 0 where
  pub result : x ≡ c.result
  pub fits : first_wide c.operations ≡ None

-- of operations on numbers
abbrev pub IsOperated : Computation Fraction → Result Fraction Wide → Type 0
IsOperated c (Ok q) = IsDone c q
IsOperated c (Err w) = first_wide c.operations ≡ Some (operation_of w)

-- of what is changed in place, and is this then
abbrev pub Comes : {A X : Type 0} → Computation A → A → Result X ArithmeticStop → Type 0
Comes c now (Ok x) = IsDone c now
Comes c now (Err s) = IsStopAt (first_wide c.operations) s

-- of a number
abbrev pub IsNumbered : Computation Fraction → Result Fraction ArithmeticStop → Type 0
IsNumbered c (Ok q) = IsDone c q
IsNumbered c (Err s) = IsStopAt (first_wide c.operations) s

-- of parts over a table
abbrev pub AreFormed : List Node → Computation (List spec.Part) → Result (Vec Part Global) ArithmeticStop → Type 0
AreFormed ns c (Ok v) = IsDone c (parts_over ns v.items)
AreFormed ns c (Err s) = IsStopAt (first_wide c.operations) s

-- of a form over a table
abbrev pub IsFormed : List Node → Computation spec.Form → Result Numbered ArithmeticStop → Type 0
IsFormed ns c (Ok f) = IsDone c (form_over ns f) × AreUnits ns f.parts
IsFormed ns c (Err s) = IsStopAt (first_wide c.operations) s
