-- Why an exact computation over terms has no result.
use Rattle.std.specs.Prelude.{◌≡◌, ⊤, Option, Some}
use Rattle.nz_fractions.specs.Fraction.{Operation}
use Rattle.nz_frac.specs.Operations.{operation_of}
use Rattle.nz_term.specs.declared.stops.ArithmeticStop.{ArithmeticStop}
use Rattle.nz_term.specs.declared.stops.ArithmeticStop.TheVariants.{Wide, Memory}

-- where it is an operation that leaves the numbers, it is the first of them
abbrev pub IsStopAt : Option Operation → ArithmeticStop → Type 0
IsStopAt first (Wide w) = first ≡ Some (operation_of w)
IsStopAt first Memory = ⊤
