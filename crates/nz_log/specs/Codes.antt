-- A literal as one number.
use Rattle.std.specs.Prelude.{ℕ, ◌+◌, ◌*◌, ◌/◌, ◌%◌, ◌==◌, Bool, if◌then◌else◌}

-- an atom, by its number, or its negation
pub record SignedAtom : Type 0 where
  pub atom : ℕ
  pub sign : Bool

-- 1 for the atom itself
abbrev pub sign_bit : Bool → ℕ
sign_bit sign = if sign then 1 else 0

-- the number that stands for a literal
abbrev pub code_of : SignedAtom → ℕ
code_of l = 2 * l.atom + sign_bit l.sign

-- the literal that a number stands for
abbrev pub of_code : ℕ → SignedAtom
of_code n = record { atom = n / 2; sign = n % 2 == 1 }
