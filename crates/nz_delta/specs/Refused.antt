-- The operation that a refusal names.
use Rattle.std.specs.Prelude.{Option, Some, None, Result, Ok, Err}
use Rattle.nz_fractions.specs.Fraction.{Operation}
use Rattle.nz_frac.specs.Operations.{operation_of}
use Rattle.nz_frac.specs.declared.frac.Wide.{Wide}

-- None where there is none
abbrev pub refused : {T : Type 0} → Result T Wide → Option Operation
refused (Ok x) = None
refused (Err w) = Some (operation_of w)
