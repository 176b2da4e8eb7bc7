-- Units among forms, and the numbers of the forms that a sum is made of.
use Rattle.std.specs.Prelude.{◌≡◌, ℕ, suc, ◌==◌, Bool, false, ◌&&◌, List, [], ◌∷◌, ◌++◌, Option, Some, None, option_map, is_some, pos, if◌then◌else◌}
use Rattle.std.specs.Ordering.{int_eq}
use Rattle.nz_fractions.specs.Fraction.{Fraction, whole}
use Rattle.nz_lin.specs.declared.form.Part.{Part}

-- ---- Units

abbrev pub is_one : Fraction → Bool
is_one q = int_eq q.numerator (pos 1) && (q.below == 0)

-- a unit alone
abbrev pub is_unit_form : List Part → Bool
is_unit_form (p ∷ []) = is_one p.coefficient
is_unit_form ps = false

abbrev pub is_form_of : ℕ → List Part → Bool
is_form_of u (p ∷ []) = (p.unit == u) && is_one p.coefficient
is_form_of u ps = false

-- the number of a unit among forms
abbrev pub unit_number : List (List Part) → ℕ → Option ℕ
unit_number [] u = None
unit_number (f ∷ fs) u = if is_form_of u f then Some 0 else option_map suc (unit_number fs u)

-- these are the numbers of all units among forms
abbrev pub AreNumbers : (ℕ → Option ℕ) → List (List Part) → Type 0
AreNumbers unit_at fs = (u : ℕ) → unit_at u ≡ unit_number fs u

-- the form of the unit of a part
abbrev pub unit_of : Part → List Part
unit_of p = record { unit = p.unit; sort = p.sort; coefficient = whole (pos 1) } ∷ []

-- the forms of the units that aren't among others
abbrev pub new_units : List (List Part) → List Part → List (List Part)
new_units fs [] = []
new_units fs (p ∷ ps) = if is_some (unit_number fs p.unit) then new_units fs ps else unit_of p ∷ new_units fs ps

-- the forms when the units of a form have joined
abbrev pub with_units : List (List Part) → List Part → List (List Part)
with_units fs f = fs ++ new_units fs f

-- ---- Sums of forms

-- the numbers of the units of a form, with its coefficients: units that aren't among the forms get the next numbers
abbrev pub addends : List (List Part) → ℕ → List Part → List (ℕ × Fraction)
addends fs next [] = []
addends fs next (p ∷ ps) =
    elim (unit_number fs p.unit) [
      | Some k ↦ (k, p.coefficient) ∷ addends fs next ps
      | None ↦ (next, p.coefficient) ∷ addends fs (suc next) ps
    ]
