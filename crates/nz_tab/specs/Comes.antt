-- What comes of computations on lists of coefficients: a list, or the first operation that leaves the numbers.
use Rattle.std.specs.Prelude.{◌≡◌, Some, None, Result, Ok, Err}
use Rattle.nz_fractions.specs.Fraction.{Fraction, first_wide}
use Rattle.nz_spec.specs.numbers.Computation.{Computation}
use Rattle.nz_frac.specs.Operations.{operation_of}
use Rattle.nz_frac.specs.declared.frac.Wide.{Wide}

-- it came to this, and none of its operations leaves the numbers
pub record IsDone {A : Type 0} (c : Computation A) (x : A) : Type 0 where
  pub result : x ≡ c.result
  pub fits : first_wide c.operations ≡ None

-- of what is changed in place, and is this then
abbrev pub Comes : {A X : Type 0} → Computation A → A → Result X Wide → Type 0
Comes c now (Ok x) = IsDone c now
Comes c now (Err w) = first_wide c.operations ≡ Some (operation_of w)

-- of a number
abbrev pub IsOperated : Computation Fraction → Result Fraction Wide → Type 0
IsOperated c (Ok q) = IsDone c q
IsOperated c (Err w) = first_wide c.operations ≡ Some (operation_of w)

-- of what changes as a whole or not at all
abbrev pub Stops : {A X : Type 0} → Computation A → Result X Wide → Type 0
Stops c (Ok x) = first_wide c.operations ≡ None
Stops c (Err w) = first_wide c.operations ≡ Some (operation_of w)
