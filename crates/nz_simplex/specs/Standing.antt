-- Which bound of a form stands: the tightest that was asserted and not undone, the first one of its value.
use Rattle.std.specs.Prelude.{ℕ, ◌==◌, Bool, true, false, ◌&&◌, List, fold, Option, Some, None, option_map, unwrap_or, if◌then◌else◌}
use Rattle.nz_spec.specs.numbers.Infinitesimal.{Infinitesimal}
use Rattle.nz_spec.specs.simplex.PositionMoves.{is_outside}
pub use Rattle.nz_place.specs.Places.{half}
use Rattle.nz_trail.specs.Bounds.{Asserted}
use Rattle.nz_trail.specs.declared.limits.Limit.{Limit}
use Rattle.nz_trail.specs.declared.limits.Side.{Side}
use Rattle.nz_trail.specs.declared.limits.Side.TheVariants.{Lower, Upper}

-- a bound with the number that it stands for
abbrev pub Held : Type 0
Held = Asserted Infinitesimal

abbrev pub is_side : Side → Side → Bool
is_side Lower Lower = true
is_side Lower Upper = false
is_side Upper Lower = false
is_side Upper Upper = true

abbrev pub is_bound_of : ℕ → Side → Held → Bool
is_bound_of v side b = (b.var == v) && is_side side b.side

-- whether a bound is tighter than what stands
abbrev pub is_news : Side → Infinitesimal → Option Held → Bool
is_news side x None = true
is_news side x (Some b) = is_outside (half side) x b.value

-- what stands of a form on a side when one more bound was asserted
abbrev pub standing_with : ℕ → Side → Option Held → Held → Option Held
standing_with v side found b = if is_bound_of v side b && is_news side b.value found then Some b else found

-- what stands of a form on a side
abbrev pub standing : List Held → ℕ → Side → Option Held
standing bs v side = fold (standing_with v side) None bs

abbrev pub bound_in : List Held → Side → ℕ → Option Infinitesimal
bound_in bs side v = option_map (λ (b : Held). b.value) (standing bs v side)

abbrev pub reason_in : List Held → Side → ℕ → ℕ
reason_in bs side v = unwrap_or (option_map (λ (b : Held). b.reason) (standing bs v side)) 0

module _ {S : Type 0} (stands_for : S → Infinitesimal) where
  -- a bound of the code
  abbrev pub told : Asserted S → Held
  told b = record { var = b.var; side = b.side; value = stands_for b.value; reason = b.reason }

  -- what stands of a form on a side, as it is answered
  abbrev pub told_on : ℕ → Side → Limit S → Held
  told_on v side l = record { var = v; side = side; value = stands_for l.value; reason = l.reason }
