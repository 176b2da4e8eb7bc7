-- The forms of a simplex, and what literals say of them: a literal on a sum bounds the first form that is the sum, or the sum with the other signs.
-- Source: Dutertre and de Moura, A Fast Linear-Arithmetic Solver for DPLL(T), CAV 2006, sections 3 to 5 (atoms are bounds; asserting bounds).
use Rattle.std.specs.Prelude.{◌≡◌, ℕ, suc, ◌==◌, Bool, true, false, ◌&&◌, List, [], ◌∷◌, ◌++◌, map, take, fold, Option, Some, None, option_map, pos, if◌then◌else◌}
use Rattle.std.specs.List.{list_any}
use Rattle.nz_fractions.specs.Fraction.{Fraction, whole, neg_ℚ, fraction_lt}
use Rattle.nz_spec.specs.numbers.Infinitesimal.{Infinitesimal}
use Rattle.nz_spec.specs.terms.Term.{Term}
use Rattle.nz_spec.specs.terms.Form.{Part, unit_form, negated_part}
use Rattle.nz_spec.specs.clauses.Literal.{Literal, term_literal, is_at_most, is_below, are_same_parts}
use Rattle.nz_spec.specs.simplex.Bland.{Point, Position, Side, lower_side, upper_side, bound_on, at_most_bound, at_least_bound, NonbasicFormsFit}
use Rattle.nz_spec.specs.simplex.PositionMoves.{with_unit, with_form, is_outside, moved_within, with_bound, AreLooser}

-- ---- Forms that join

-- the sum, or the sum with the other signs, whose first coefficient isn't below 0
abbrev pub turned : List Part → List Part
turned [] = []
turned (p ∷ ps) = if fraction_lt p.coefficient (whole (pos 0)) then map negated_part (p ∷ ps) else p ∷ ps

-- the form is this unit alone
abbrev pub is_unit_alone : List Part → Term → Bool
is_unit_alone f u = are_same_parts f (unit_form u).parts

-- whether a form is a unit alone
abbrev pub is_unit_form : List Part → Bool
is_unit_form [] = false
is_unit_form (p ∷ ps) = is_unit_alone (p ∷ ps) p.unit

-- a unit joins as nonbasic, at 0, unless it is there
abbrev pub with_new_unit : Position → Part → Position
with_new_unit s p = if list_any (λ f. is_unit_alone f p.unit) s.forms then s else with_unit s p.unit

-- The units of a form join, and then the form as basic; a unit alone is its own form.
abbrev pub joined : Position → List Part → Position
joined s f = if is_unit_form f then fold with_new_unit s f else with_form (fold with_new_unit s f) f

-- ---- Bounds that literals say

-- a form, by its number, is bounded on a side
pub record FormBound : Type 0 where
  pub form : ℕ
  pub side : Side
  pub bound : Infinitesimal

-- the first form that is this sum, or the sum with the other signs, of those that are numbered from here; and the side on which it is
-- bounded where the sum is bounded from above
abbrev pub bounded_from : ℕ → List (List Part) → List Part → Option (ℕ × Side)
bounded_from k [] ps = None
bounded_from k (f ∷ fs) ps =
    if are_same_parts f ps then Some (k, upper_side)
    else if are_same_parts f (map negated_part ps) then Some (k, lower_side)
    else bounded_from (suc k) fs ps

-- the bound on the form where the sum is at most b, or below it
abbrev pub bound_on_side : Side → Bool → Fraction → Infinitesimal
bound_on_side upper_side strict b = at_most_bound strict b
bound_on_side lower_side strict b = at_least_bound strict (neg_ℚ b)

abbrev pub sum_bound : List (List Part) → List Part → Bool → Fraction → Option FormBound
sum_bound fs ps strict b =
    option_map (λ (k : ℕ × Side). let x : FormBound = record { form = k.0; side = k.1; bound = bound_on_side k.1 strict b } in x) (bounded_from 0 fs ps)

-- what a literal says of the forms
abbrev pub bound_said : List (List Part) → Literal → Option FormBound
bound_said fs (term_literal t sign) = None
bound_said fs (is_at_most ps b) = sum_bound fs ps false b
bound_said fs (is_below ps b) = sum_bound fs ps true b

-- ---- The bounds that stand

abbrev pub are_same_side : Side → Side → Bool
are_same_side lower_side lower_side = true
are_same_side lower_side upper_side = false
are_same_side upper_side lower_side = false
are_same_side upper_side upper_side = true

-- a bound in place of a looser one, or of none
abbrev pub tighter_of : Side → Infinitesimal → Option Infinitesimal → Infinitesimal
tighter_of side x None = x
tighter_of side x (Some y) = if is_outside side x y then x else y

-- the bound of a form on a side, where a literal says one more
abbrev pub with_bound_said : List (List Part) → Side → ℕ → Option Infinitesimal → Literal → Option Infinitesimal
with_bound_said fs side k found l =
    elim (bound_said fs l) [
      | Some b ↦ if (b.form == k) && are_same_side b.side side then Some (tighter_of side b.bound found) else found
      | None ↦ found
    ]

-- the tightest bound of a form on a side that these literals say
abbrev pub tightest : List (List Part) → List Literal → Side → ℕ → Option Infinitesimal
tightest fs ls side k = fold (with_bound_said fs side k) None ls

-- the position of these forms at a point, under the bounds that these literals say
abbrev pub position_under : List (List Part) → Point → List Literal → Position
position_under fs x ls = record { forms = fs; point = x; lower = tightest fs ls lower_side; upper = tightest fs ls upper_side }

-- where the point is when a literal is told: a nonbasic form outside of its bound moves to it
abbrev pub moved_by : List (List Part) → Literal → Point → Point
moved_by fs l x =
    elim (bound_said fs l) [
      | Some b ↦ λ k. if k == b.form then option_map (moved_within b.side b.bound) (x k) else x k
      | None ↦ x
    ]

-- ---- Laws

-- this bound stands of its form and side, or none does
abbrev pub stands_of : Position → FormBound → Option Infinitesimal
stands_of s b = bound_on b.side s b.form

-- a bound is tighter than what stands
abbrev pub is_news : Position → FormBound → Bool
is_news s b = elim (stands_of s b) [ Some y ↦ is_outside b.side b.bound y | None ↦ true ]

-- What a literal does to a position when it is told: where it says a tighter bound, that is set; where what it says is looser or nothing, the position stays,
-- if its nonbasic forms fit. Where the last literals are taken back, the bounds become looser. A form that joins bounds nothing.
pub record TellingSetsBounds : Type 0 where
  pub tighter : (fs : List (List Part)) (x : Point) (ls : List Literal) (l : Literal) (b : FormBound) → bound_said fs l ≡ Some b → is_news (position_under fs x ls) b ≡ true
      → position_under fs (moved_by fs l x) (ls ++ l ∷ []) ≡ with_bound (position_under fs x ls) b.side b.form b.bound
  pub looser : (fs : List (List Part)) (x : Point) (ls : List Literal) (l : Literal) (b : FormBound) → bound_said fs l ≡ Some b → is_news (position_under fs x ls) b ≡ false
      → NonbasicFormsFit (position_under fs x ls) → position_under fs (moved_by fs l x) (ls ++ l ∷ []) ≡ position_under fs x ls
  pub nothing : (fs : List (List Part)) (x : Point) (ls : List Literal) (l : Literal) → bound_said fs l ≡ None
      → position_under fs (moved_by fs l x) (ls ++ l ∷ []) ≡ position_under fs x ls
  pub back : (fs : List (List Part)) (x : Point) (ls : List Literal) (n : ℕ) → AreLooser (position_under fs x (take n ls)) (position_under fs x ls)
  pub join : (fs : List (List Part)) (x : Point) (f : List Part)
      → let p = joined (position_under fs x []) f in position_under p.forms p.point [] ≡ p
