-- How the forms of a step are chosen, by tests, and how values follow.
use Rattle.std.specs.Prelude.{◌≡◌, ℕ, Bool, true, false, ◌&&◌, List, slice_index_or, pos, int_lt, Option, Some, None, IfSome, option_map, unwrap_or, if◌then◌else◌}
use Rattle.nz_fractions.specs.Fraction.{Fraction, neg_ℚ}
use Rattle.nz_spec.specs.numbers.Infinitesimal.{Infinitesimal, ◌=δ◌, ◌+δ◌, ◌-δ◌, scaled}
use Rattle.nz_spec.specs.terms.Term.{is_zero}
use Rattle.nz_spec.specs.numbers.Computation.{Computation, and_then}
use Rattle.nz_spec.specs.simplex.Bland.{zero_infinitesimal, times, plus}
use Rattle.nz_spec.specs.simplex.PositionMoves.{is_outside}
use Rattle.nz_trail.specs.Bounds.{other_side}
use Rattle.nz_trail.specs.declared.limits.Limit.{Limit}
use Rattle.nz_trail.specs.declared.limits.Side.{Side}
use Rattle.nz_trail.specs.declared.limits.Side.TheVariants.{Lower, Upper}
use Rattle.nz_simplex.specs.Standing.{half}

-- one of two by the side
abbrev pub on : {A : Type 0} → Side → A → A → A
on Lower lower upper = lower
on Upper lower upper = upper

-- ---- Signs

abbrev pub is_below_zero : Fraction → Bool
is_below_zero c = int_lt c.numerator (pos 0)

-- a number without its sign
abbrev pub size_of : Fraction → Fraction
size_of c = if is_below_zero c then neg_ℚ c else c

-- to which side a nonbasic form with this coefficient moves so that the form of the row moves to a side
abbrev pub way_of : Side → Fraction → Option Side
way_of side c = if is_zero c then None else if is_below_zero c then Some (other_side side) else Some side

-- ---- Room and bounds that are broken

module _ {S : Type 0} (stands_for : S → Infinitesimal) where
  -- a value breaks a bound of this side
  abbrev pub is_past : Side → S → S → Bool
  is_past side bound x = is_outside (half side) (stands_for bound) (stands_for x)

  abbrev pub is_past_known : Side → S → Option S → Bool
  is_past_known side bound None = false
  is_past_known side bound (Some x) = is_past side bound x

  -- whether a form is nonbasic, and its value breaks a bound of this side
  abbrev pub is_moving : List Bool → List (Option S) → ℕ → Side → S → Bool
  is_moving marks values v side bound = slice_index_or marks v false && is_past_known side bound (slice_index_or values v None)

  abbrev pub has_room : Side → Option (Limit S) → S → Bool
  has_room side None x = true
  has_room side (Some limit) x = is_past (other_side side) limit.value x

  -- no bound on this side is broken
  abbrev pub is_kept : Side → Option (Limit S) → S → Type 0
  is_kept side None x = Unit {0}
  is_kept side (Some limit) x = is_past side limit.value x ≡ false

  -- the numbers that values stand for, at their places; 0 where none is known
  abbrev pub numbers_in : List (Option S) → ℕ → Infinitesimal
  numbers_in values k = unwrap_or (option_map stands_for (slice_index_or values k None)) zero_infinitesimal

-- ---- Values

-- onto a sum, the product of a value and a coefficient
abbrev pub multiple_onto : Infinitesimal → Infinitesimal → Fraction → Computation Infinitesimal
multiple_onto t x c = and_then (times x c) (λ p. plus t p)

-- A value follows one that moves from somewhere to a target, by its coefficient there: where it is known after, it was known before.
abbrev pub IsFollowed : {S : Type 0} → (S → Infinitesimal) → Option S → S → Fraction → Option S → Option S → Type 0
IsFollowed stands_for from target c old None = Unit {0}
IsFollowed {S} stands_for from target c old (Some y) =
    (w x : S) × (from ≡ Some w) × (old ≡ Some x) × (stands_for y =δ (stands_for x +δ scaled (stands_for target -δ stands_for w) c))

-- What becomes of a value when a nonbasic form moves by a distance: that of a nonbasic one stays, and that of a basic one follows by its coefficient there.
pub record IsAfter {S : Type 0} (stands_for : S → Infinitesimal) (mark : Bool) (distance : Option S) (c : Fraction) (old new : Option S) : Type 0 where
  pub stays : mark ≡ true → new ≡ old
  pub still : mark ≡ false → is_zero c ≡ true → new ≡ old
  pub follows : mark ≡ false → is_zero c ≡ false → IfSome new (λ y. (x d : S) × (old ≡ Some x) × (distance ≡ Some d)
      × (stands_for y =δ (stands_for x +δ scaled (stands_for d) c)))
