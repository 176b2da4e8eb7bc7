-- Sums of units as they join a simplex: with a first coefficient that isn't below 0.
use Rattle.std.specs.Prelude.{◌≡◌, Bool, false, List, [], ◌∷◌, map, pos, if◌then◌else◌}
use Rattle.std.specs.List.{AllByRecursion}
use Rattle.nz_fractions.specs.Fraction.{whole, fraction_lt}
use Rattle.nz_spec.specs.terms.Term.{is_zero}
use Rattle.nz_lin.specs.declared.bound.Bound.{Bound}
use Rattle.nz_lin.specs.declared.form.Part.{Part}
use Rattle.nz_lin.specs.Forms.{negated}

-- the first coefficient is below 0
abbrev pub is_turned : List Part → Bool
is_turned [] = false
is_turned (p ∷ ps) = fraction_lt p.coefficient (whole (pos 0))

-- the sum, or the sum with the other signs, whose first coefficient isn't below 0
abbrev pub turned_sum : List Part → List Part
turned_sum ps = if is_turned ps then map negated ps else ps

-- no coefficient is 0
abbrev pub AreNonzero : List Part → Type 0
AreNonzero ps = AllByRecursion (λ (p : Part). is_zero p.coefficient ≡ false) ps

-- A sum that is a form: no coefficient is 0, and the first one is above 0.
pub record IsFormSum (ps : List Part) : Type 0 where
  pub nonzero : AreNonzero ps
  pub straight : is_turned ps ≡ false

-- that the sum is at most 0
abbrev pub zero_bound : List Part → Bound
zero_bound ps = record { sides = record { parts = ps; offset = whole (pos 0) }; strict = false }
