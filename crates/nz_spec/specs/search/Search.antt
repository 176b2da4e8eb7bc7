-- Where a check stands in its list of work: what it was asked, what it has named, learned and found, and what its present search decided and told
-- its simplex. A list holds many searches and climbs, one after another.
-- Sources: Marques-Silva and Sakallah 1999 (clause learning); Dutertre and de Moura, A Fast Linear-Arithmetic Solver for DPLL(T), CAV 2006, section 4
-- (asserted bounds); Bjørner, Phan and Fleckenstein, νZ - An Optimizing SMT Solver, TACAS 2015 (goals in order).
use Rattle.std.specs.Prelude.{◌≡◌, ℕ, ◌<◌, ◌==◌, Bool, true, false, List, [], ◌∷◌, ◌++◌, length, map, fold, All, Contains, Option, Some, None, slice_get, slice_index_or, if◌then◌else◌}
use Rattle.nz_fractions.specs.Fraction.{Fraction, ◌=ℚ◌}
use Rattle.nz_spec.specs.numbers.Infinitesimal.{Infinitesimal, ◌=δ◌}
use Rattle.nz_spec.specs.terms.Term.{Term, apply, falsum, no_terms, Assignment}
use Rattle.nz_spec.specs.terms.Model.{IsModel}
use Rattle.nz_spec.specs.terms.Form.{Numbering, Part}
use Rattle.nz_spec.specs.clauses.Literal.{Literal, negation_of, AreTrueLiterals}
use Rattle.nz_spec.specs.clauses.LinearLiteral.{tight_form}
use Rattle.nz_spec.specs.clauses.Gates.{holds}
use Rattle.nz_spec.specs.simplex.Basis.{Coefficients, IsZeroAtBasic, Valuation, worth, mix}
use Rattle.nz_spec.specs.simplex.Bland.{Point, Position, is_nonbasic, value_in, sum_at}
use Rattle.nz_spec.specs.simplex.LiteralBounds.{position_under}
use Rattle.nz_spec.specs.search.Notes.{Telling, told_atom, told_under}
use Rattle.nz_spec.specs.search.Branches.{Branch}
use Rattle.nz_spec.specs.clauses.Goals.{Goal, goal_value}
use Rattle.nz_spec.specs.clauses.Wishes.{Group}

-- ---- What is asked

-- Whether the asserted terms and the assumed literals can be true together, and what the goals' best values are, in order. All live items are made of
-- the listed terms. The groups of wishes name their goals by number. The checks before were asked of earlier terms and goals. In the forms of terms and in their
-- tables units stand in the order of their numbers.
pub record Task : Type 0 where
  pub asserted : List Term
  pub assumed : List Literal
  pub goals : List Goal
  pub groups : List Group
  pub listed : List Term
  pub numbering : Numbering
  pub earlier : List Term
  pub earlier_goals : List Goal

-- the terms and the goals of this check and of those before
abbrev pub terms_known : Task → List Term
terms_known q = q.earlier ++ q.listed

abbrev pub goals_known : Task → List Goal
goals_known q = q.earlier_goals ++ q.goals

-- what is asserted and what is assumed, as literals
abbrev pub literals_asked : Task → List Literal
literals_asked q = map holds q.asserted ++ q.assumed

-- ---- Where it stands

-- a literal that the simplex was told, and behind how many decisions that was
pub record ToldLiteral : Type 0 where
  pub depth : ℕ
  pub literal : Literal

-- a value of the goal of this number
pub record Found : Type 0 where
  pub goal : ℕ
  pub value : Fraction

-- Of the whole check: the atoms that are named, the forms of its simplex, the clauses that were learned, how many searches and climbs began under
-- literals, where it branched, and the values that were found. Of the present search or climb: the literals under which it goes, its decisions, the oldest
-- first, and what its simplex was told. Decisions and clauses hold atoms by their numbers, each with a sign.
pub record Search : Type 0 where
  pub atoms : List Literal
  pub forms : List (List Part)
  pub learned : List (List (ℕ × Bool))
  pub begun : ℕ
  pub branches : List Branch
  pub found : List Found
  pub under : List Literal
  pub decided : List (ℕ × Bool)
  pub told : List ToldLiteral

-- before the first line; its simplex has no point
abbrev pub at_first : Search
at_first = record { atoms = []; forms = []; learned = []; begun = 0; branches = []; found = []; under = []; decided = []; told = [] }

abbrev pub no_point : Point
no_point k = None

-- the point of these places, by the numbers of the forms
abbrev pub point_at : List (Option Infinitesimal) → Point
point_at places k = slice_index_or places k None

-- ---- Literals by numbers

-- a literal, or its negation
abbrev pub signed_literal : Literal → Bool → Literal
signed_literal l true = l
signed_literal l false = negation_of l

-- `false`, which stands for what isn't there
abbrev pub never : Literal
never = holds (apply falsum no_terms)

-- what a numbered atom with a sign says
abbrev pub literal_by : List Literal → ℕ × Bool → Literal
literal_by atoms p = signed_literal (slice_index_or atoms p.0 never) p.1

abbrev pub literals_by : List Literal → List (ℕ × Bool) → List Literal
literals_by atoms ps = map (literal_by atoms) ps

-- each has an atom's number
abbrev pub AreNamed : List Literal → List (ℕ × Bool) → Type 0
AreNamed atoms ps = All (λ (p : ℕ × Bool). p.0 < length atoms) ps

-- a literal as it is, or in its tight form
abbrev pub tight_if : Bool → Literal → Literal
tight_if is_tight l = if is_tight then (tight_form l).result else l

-- which literal the simplex is told
abbrev pub literal_told : Search → Telling → Literal
literal_told s (told_atom atom sign is_tight) = tight_if is_tight (literal_by s.atoms (atom, sign))
literal_told s (told_under place) = slice_index_or s.under place never

abbrev pub told_literals : Search → List Literal
told_literals s = map (λ (t : ToldLiteral). t.literal) s.told

-- ---- Its simplex

-- the position at a point, under the literals that were told
abbrev pub position_of : Search → Point → Position
position_of s x = position_under s.forms x (told_literals s)

-- What a sum of units is worth at a position: it is one sum of the nonbasic forms.
pub record HasWorth (p : Position) (ps : List Part) (x : Infinitesimal) : Type 0 where
  pub row : Coefficients
  pub at_basic : IsZeroAtBasic (is_nonbasic p.point) row
  pub equal : (v : Valuation) → worth v ps =ℚ mix p.forms row v
  pub at : x =δ sum_at (length p.forms) row (value_in p.point)

-- what is asserted and what the search goes under, as literals
abbrev pub literals_held : Task → Search → List Literal
literals_held q s = map holds q.asserted ++ s.under

-- The search goes under all that is assumed.
abbrev pub IsUnderAll : Task → Search → Type 0
IsUnderAll q s = All (Contains s.under) q.assumed

-- ---- What can be true

-- An assignment that makes true what is asserted, what the search goes under, and what it decided.
pub record MayBe (q : Task) (s : Search) (a : Assignment) : Type 0 where
  pub model : IsModel q.asserted s.under a
  pub decided : AreTrueLiterals a (literals_by s.atoms s.decided)

-- the value of a goal that was found last
abbrev pub last_value : ℕ → List Found → Option Fraction
last_value i fs = fold (λ o (f : Found). if f.goal == i then Some f.value else o) None fs

-- A model of what is asked, at which each goal before the i-th has the value that was found last.
pub record IsHeld (q : Task) (found : List Found) (i : ℕ) (a : Assignment) : Type 0 where
  pub model : IsModel q.asserted q.assumed a
  pub held : (j : ℕ) (g : Goal) (v : Fraction) → j < i → slice_get q.goals j ≡ Some g → last_value j found ≡ Some v → goal_value a g =ℚ v

-- The last value that was found, at such a model.
pub record IsMember (q : Task) (s : Search) (g : Goal) (v : Fraction) (a : Assignment) : Type 0 where
  pub before : List Found
  pub last : Found
  pub found : s.found ≡ before ++ last ∷ []
  pub listed : slice_get q.goals last.goal ≡ Some g
  pub value : last.value ≡ v
  pub held : IsHeld q s.found last.goal a
  pub has : goal_value a g =ℚ v
