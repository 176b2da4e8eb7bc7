-- Numerals as numbers.
use Rattle.std.specs.Prelude.{◌≡◌, ℕ, pos}
use Rattle.nz_fractions.specs.Fraction.{whole}
use Rattle.nz_spec.specs.terms.Term.{decimal_value}

-- A number of no decimal places is the integer that its digits spell.
abbrev pub NumeralsAreWhole : Type 0
NumeralsAreWhole = (n : ℕ) → decimal_value n 0 ≡ whole (pos n)
