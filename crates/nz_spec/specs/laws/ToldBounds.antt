-- What values within bounds are worth to the literals that say the bounds, where a fraction stands for δ.
-- Source: Dutertre and de Moura, A Fast Linear-Arithmetic Solver for DPLL(T), CAV 2006, section 5 (strict bounds).
use Rattle.std.specs.Prelude.{◌≡◌, ℕ, ◌<◌, Bool, List, Option, Some, pos, IsSome, Contains, length}
use Rattle.nz_fractions.specs.Fraction.{Fraction, whole, ◌≤ℚ◌, ◌<ℚ◌, IsNumber}
use Rattle.nz_spec.specs.numbers.Infinitesimal.{Infinitesimal, at}
use Rattle.nz_spec.specs.terms.Term.{Term}
use Rattle.nz_spec.specs.terms.Form.{Part}
use Rattle.nz_spec.specs.clauses.Literal.{Literal}
use Rattle.nz_spec.specs.simplex.BasisMoves.{AreNumbered}
use Rattle.nz_spec.specs.simplex.Bland.{Point, Position, HasBasis, HasValue, Side, lower_side, upper_side, bound_on, NonbasicFormsFit, MeetsBounds, IsWithinBounds}
use Rattle.nz_spec.specs.search.Places.{IsChosen}
use Rattle.nz_spec.specs.clauses.Farkas.{bound_of}
use Rattle.nz_spec.specs.simplex.LiteralBounds.{bound_said, position_under}
use Rattle.nz_spec.specs.clauses.Met.{IsMet}

-- a value is past no bound of a side where this fraction stands for δ
abbrev pub IsWithinAt : Fraction → Side → Infinitesimal → Infinitesimal → Type 0
IsWithinAt e lower_side bound x = at bound e ≤ℚ at x e
IsWithinAt e upper_side bound x = at x e ≤ℚ at bound e

-- these values are the forms' at a position, and are within its bounds where this fraction stands for δ
pub record AreWithinAt (p : Position) (y : ℕ → Infinitesimal) (e : Fraction) : Type 0 where
  pub values : (k : ℕ) → k < length p.forms → HasValue p k (y k)
  pub within : (side : Side) (k : ℕ) (bound : Infinitesimal) → k < length p.forms → bound_on side p k ≡ Some bound → IsWithinAt e side bound (y k)

-- ---- Laws

-- Literals that say the bounds are met where each unit is worth the value of its form, and a fraction above 0 stands for δ.
abbrev pub ToldBoundsAreMet : Type 0
ToldBoundsAreMet = (truths : Term → Option Bool) (fs : List (List Part)) (x : Point) (ls : List Literal) (y : ℕ → Infinitesimal) (e : Fraction) (number : Term → ℕ) (l : Literal)
    → HasBasis (position_under fs x ls) → AreWithinAt (position_under fs x ls) y e → whole (pos 0) <ℚ e
    → Contains ls l → IsSome (bound_said fs l) → AreNumbered fs number (bound_of l).parts → IsMet truths (λ u. at (y (number u)) e) l

-- values in lowest terms, of the size of numbers
abbrev pub AreNumbers : ℕ → (ℕ → Infinitesimal) → Type 0
AreNumbers n y = (k : ℕ) → k < n → IsNumber (y k).standard × IsNumber (y k).coefficient

-- The fraction that is chosen for δ is above 0, and keeps values that meet the bounds within them.
pub record ChosenFractionsKeepBounds : Type 0 where
  pub above_zero : (p : Position) (e : Fraction) → HasBasis p → IsWithinBounds p → NonbasicFormsFit p → IsChosen p e → whole (pos 0) <ℚ e
  pub within : (p : Position) (y : ℕ → Infinitesimal) (e : Fraction) → HasBasis p → IsChosen p e → ((k : ℕ) → k < length p.forms → HasValue p k (y k)) → AreNumbers (length p.forms) y
      → MeetsBounds p y → AreWithinAt p y e
