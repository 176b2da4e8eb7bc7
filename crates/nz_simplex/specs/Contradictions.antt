-- What a clash is worth: where each bound that was asserted has a literal that says the same, the literals of the clashing bounds, with the multipliers that
-- are told, sum to a contradiction.
use Rattle.std.specs.Prelude.{◌≡◌, ℕ, Bool, true, List, [], ◌∷◌, pos, negsuc, IsTrue, ⊤, if◌then◌else◌}
use Rattle.std.specs.List.{list_all, AllByRecursion}
use Rattle.nz_fractions.specs.Fraction.{Fraction, whole, ◌=ℚ◌, ◌<ℚ◌, ◌*ℚ◌, neg_ℚ}
use Rattle.nz_spec.specs.numbers.Infinitesimal.{Infinitesimal, infinitesimal_cmp}
use Rattle.nz_spec.specs.terms.Form.{Numbering, Part, IsSum}
use Rattle.nz_spec.specs.clauses.Literal.{Literal}
use Rattle.nz_spec.specs.clauses.Farkas.{Multiple, bound_of, is_linear_literal, is_multiple, sum_of_multiples, is_contradiction}
use Rattle.nz_spec.specs.simplex.Basis.{Valuation, worth, form_at}
use Rattle.nz_spec.specs.terms.Table.{Node}
use Rattle.nz_trail.specs.Bounds.{ClashesWith}
use Rattle.nz_trail.specs.declared.limits.Side.{Side}
use Rattle.nz_trail.specs.declared.limits.Side.TheVariants.{Lower, Upper}
use Rattle.nz_simplex.specs.Checks.{IsRefuted}
use Rattle.nz_simplex.specs.Standing.{Held}
use Rattle.nz_simplex.specs.State.{State, position_over}

-- ---- Literals that say what bounds say

-- a literal bounds its sum from above, so a lower bound stands in it with the other sign
abbrev pub signed : Side → Fraction → Fraction
signed Lower q = neg_ℚ q
signed Upper q = q

-- the infinitesimal part of an upper bound
abbrev pub strictness : Bool → Fraction
strictness strict = if strict then whole (negsuc 0) else whole (pos 0)

-- Each unit stands once, in order, with a coefficient other than 0.
abbrev pub AreSum : Numbering → List Part → Type 0
AreSum number ps = IsSum number (record { parts = ps; offset = whole (pos 0) })

-- The literal says of a form, times a number above 0, what the bound says of the form. Its infinitesimal part is that it is strict.
pub record SaysBound (number : Numbering) (f : List Part) (side : Side) (x : Infinitesimal) (factor : Fraction) (l : Literal) : Type 0 where
  pub linear : is_linear_literal l ≡ true
  pub sum : AreSum number (bound_of l).parts
  pub positive : whole (pos 0) <ℚ factor
  pub parts : (v : Valuation) → worth v (bound_of l).parts =ℚ (factor *ℚ signed side (worth v f))
  pub limit : (bound_of l).limit =ℚ (factor *ℚ signed side x.standard)
  pub strict : signed side x.coefficient =ℚ strictness (bound_of l).is_strict

-- A caller's literals and factors, by the reasons of bounds.
module _ (number : Numbering) (literal : ℕ → Literal) (factor : ℕ → Fraction) where
  -- a bound of a form of the state
  abbrev pub IsSaid : List Node → State → Held → Type 0
  IsSaid ns s b = SaysBound number (form_at (position_over ns s).forms b.var) b.side b.value (factor b.reason) (literal b.reason)

  -- each bound that was asserted and not undone
  abbrev pub AreSaid : List Node → State → Type 0
  AreSaid ns s = AllByRecursion (IsSaid ns s) s.asserted

module _ (literal : ℕ → Literal) (factor : ℕ → Fraction) where
  -- Multiples of the literals of these reasons: what is told for a bound is the multiplier times the literal's factor.
  abbrev pub AreMultiplesFor : List (ℕ × Fraction) → List Multiple → Type 0
  AreMultiplesFor [] [] = ⊤
  AreMultiplesFor (w ∷ ws) (m ∷ ms) = (m.literal ≡ literal w.0) × ((m.multiplier *ℚ factor w.0) =ℚ w.1) × AreMultiplesFor ws ms
  AreMultiplesFor ws ms = ⊥

-- ---- Contradictions

-- what the rule of Farkas asks
pub record Contradicts (number : Numbering) (ms : List Multiple) : Type 0 where
  pub multiples : IsTrue (list_all is_multiple ms)
  pub contradiction : IsTrue (is_contradiction (sum_of_multiples number ms).result)

-- the reasons of two bounds, each with 1
abbrev pub both_once : ℕ → ℕ → List (ℕ × Fraction)
both_once r s = (r, whole (pos 1)) ∷ (s, whole (pos 1)) ∷ []

-- ---- Laws

-- The multiples that are told where a check clashes contradict, and so do two bounds that leave a form no value.
pub record ClashesContradict : Type 0 where
  pub check : (number : Numbering) (literal : ℕ → Literal) (factor : ℕ → Fraction) (ns : List Node) (s : State) (ms : List Multiple) → IsRefuted ns s
      → AreSaid number literal factor ns s → AreMultiplesFor literal factor s.why ms → Contradicts number ms
  pub assert : (number : Numbering) (literal : ℕ → Literal) (factor : ℕ → Fraction) (ns : List Node) (s : State) (b : Held) (other : ℕ) (ms : List Multiple)
      → ClashesWith infinitesimal_cmp s.asserted b other → AreSaid number literal factor ns s → IsSaid number literal factor ns s b
      → AreMultiplesFor literal factor (both_once b.reason other) ms → Contradicts number ms
