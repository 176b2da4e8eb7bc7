-- The operations on fractions that an operation takes, in order.
use Rattle.std.specs.Prelude.{List, [], ◌∷◌}
use Rattle.nz_fractions.specs.Fraction.{Fraction, Arithmetic, Operation}

-- one operation
abbrev pub alone : Arithmetic → Fraction → Fraction → List Operation
alone op p q = record { operator = op; left = p; right = q } ∷ []
