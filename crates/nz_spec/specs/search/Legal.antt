-- Legal work: what the next line of a check's list may be, where the check stands.
-- Sources: Marques-Silva and Sakallah 1999 (clause learning); Dutertre and de Moura, A Fast Linear-Arithmetic Solver for DPLL(T), CAV 2006, section 4
-- (bounds and pivots); Bjørner, Phan and Fleckenstein, νZ - An Optimizing SMT Solver, TACAS 2015 (better values of a goal).
use Rattle.std.specs.Prelude.{◌≡◌, ℕ, suc, ◌<◌, ◌≤◌, ◌+◌, ◌*◌, ◌==◌, nat_le, ◌≢◌, Bool, true, false, not, ◌&&◌, ◌||◌, ◌⊎◌, List, [], ◌∷◌, ◌++◌, length, map, filter, take, fold, count_by, All, Contains, Some, IsTrue, slice_get, slice_index_or}
use Rattle.std.specs.List.{list_all}
use Rattle.nz_fractions.specs.Fraction.{Fraction, ◌=ℚ◌, fraction_eq}
use Rattle.nz_spec.specs.terms.Term.{Term, Assignment, is_true, value_of, int_sort, are_same_sort, sort_of}
use Rattle.nz_spec.specs.terms.Model.{IsModel}
use Rattle.nz_spec.specs.terms.Form.{Part, unit_value}
use Rattle.nz_spec.specs.clauses.Literal.{Literal, are_same_sign, is_literal_true, IsClauseTrue, AreSameSet, StandOnce}
use Rattle.nz_spec.specs.clauses.Gates.{is_boolean_term}
use Rattle.nz_spec.specs.simplex.Bland.{Point, Side, lower_side, upper_side, IsWithinBounds, IsCheckStep, IsClimbStep}
use Rattle.nz_spec.specs.simplex.PositionMoves.{AreConsistent}
use Rattle.nz_spec.specs.simplex.LiteralBounds.{bounded_from, joined, moved_by}
use Rattle.nz_spec.specs.simplex.Climb.{linear_literals}
use Rattle.nz_spec.specs.search.Work.{WorkEntry, DecisionEntry, LearnedEntry, PivotEntry, BranchEntry, FoundEntry, WorkLine, UnitLine, NoteLine, WorkList, IsSpent}
use Rattle.nz_spec.specs.search.Notes.{Telling, told_atom, told_under, Note, start_note, atom_note, form_note, goal_note, under_note, told_note}
use Rattle.nz_spec.specs.clauses.Goals.{Goal, goal_value, IsBest, IsBetter}
use Rattle.nz_spec.specs.search.Search.{Task, ToldLiteral, Found, Search, at_first, no_point, point_at, never, literal_by, literals_by, AreNamed, literal_told, told_literals, position_of, literals_held, IsUnderAll, MayBe, last_value, IsHeld}
use Rattle.nz_spec.specs.search.Atoms.{IsTruth, IsBoundOf, branch_by, MayName, MayBranchOn}
use Rattle.nz_spec.specs.search.Beginnings.{sum_of_atom, MayStart, MayJoin, MayJoinGoal, MayGoUnder}

-- ---- Decisions, clauses, and what is told

-- What is decided is an atom that isn't decided yet, and of which neither sign is asserted or a literal that the search goes under.
pub record MayDecide (q : Task) (s : Search) (atom : ℕ) : Type 0 where
  pub named : atom < length s.atoms
  pub undecided : All (λ (p : ℕ × Bool). p.0 ≢ atom) s.decided
  pub free : (sign : Bool) → Contains (literals_held q s) (literal_by s.atoms (atom, sign)) → ⊥

-- No assignment makes true what is asserted, what the search goes under and what it decided.
abbrev pub IsDeadEnd : Task → Search → Type 0
IsDeadEnd q s = (a : Assignment) → MayBe q s a → ⊥

abbrev pub IsThere : Search → Telling → Type 0
IsThere s (told_atom atom sign is_tight) = atom < length s.atoms
IsThere s (told_under place) = place < length s.under

-- What the simplex is told follows from them, and it wasn't told that.
pub record MayTell (q : Task) (s : Search) (t : Telling) : Type 0 where
  pub there : IsThere s t
  pub new : Contains (told_literals s) (literal_told s t) → ⊥
  pub follows : (a : Assignment) → MayBe q s a → IsTrue (is_literal_true a (literal_told s t))

-- A clause is learned at a dead end, and fewer decisions are kept. It is true wherever the asserted terms are, names no atom twice, and is
-- none that was learned before.
pub record MayLearn (q : Task) (s : Search) (keep : ℕ) (clause : List (ℕ × Bool)) : Type 0 where
  pub fewer : keep < length s.decided
  pub dead_end : IsDeadEnd q s
  pub follows : (a : Assignment) → IsModel q.asserted [] a → IsClauseTrue a (literals_by s.atoms clause)
  pub named : AreNamed s.atoms clause
  pub once : StandOnce (map (λ (p : ℕ × Bool). p.0) clause)
  pub new : All (λ (c : List (ℕ × Bool)). AreSameSet c clause → ⊥) s.learned

-- ---- Steps of the simplex

-- the way on which a form makes a goal better: the form is the goal's sum, or that with the other signs
abbrev pub way_to : Bool → Side → Side
way_to true upper_side = upper_side
way_to true lower_side = lower_side
way_to false upper_side = lower_side
way_to false lower_side = upper_side

-- the form, and the way, that make the goal of the value better that was found last
pub record IsSought (q : Task) (s : Search) (form : ℕ) (way : Side) : Type 0 where
  pub before : List Found
  pub last : Found
  pub found : s.found ≡ before ++ last ∷ []
  pub goal : Goal
  pub listed : slice_get q.goals last.goal ≡ Some goal
  pub side : Side
  pub form_is : bounded_from 0 s.forms goal.form.parts ≡ Some (form, side)
  pub way_is : way ≡ way_to goal.up side

-- A climb step towards it, where no bound is broken. Where i is j, the form moves and stays nonbasic.
pub record IsClimbing (q : Task) (s : Search) (x y : Point) (i j : ℕ) : Type 0 where
  pub within : IsWithinBounds (position_of s x)
  pub form : ℕ
  pub way : Side
  pub sought : IsSought q s form way
  pub step : IsClimbStep (position_of s x) (position_of s y) form way i j

-- Forms 1, 2, .. of these move so, of which no line tells.
abbrev pub Drifts : Task → Search → Point → List ℕ → Point → Type 0
Drifts q s x [] y = y ≡ x
Drifts q s x (j ∷ js) y = (mid : Point) × IsClimbing q s x mid j j × Drifts q s mid js y

abbrev pub MayDrift : Task → Search → Point → Point → Type 0
MayDrift q s x y = (js : List ℕ) × Drifts q s x js y

-- Forms are exchanged by a check step under bounds that leave each form a value, or by a climb step.
abbrev pub IsExchange : Task → Search → Point → Point → ℕ → ℕ → Type 0
IsExchange q s x y i j =
    (AreConsistent (position_of s x) × IsCheckStep (position_of s x) (position_of s y) i j) ⊎ ((i ≢ j) × IsClimbing q s x y i j)

-- ---- Better values

-- A value of the goal at a model at which the goals before have their last values, which are their best; it is better than those that were found of
-- the goal.
pub record MayImprove (q : Task) (s : Search) (f : Found) : Type 0 where
  pub goal : Goal
  pub listed : slice_get q.goals f.goal ≡ Some goal
  pub in_order : All (λ (e : Found). e.goal ≤ f.goal) s.found
  pub better : All (λ (e : Found). e.goal ≡ f.goal → IsBetter goal.up f.value e.value) s.found
  pub before : (j : ℕ) (g : Goal) → j < f.goal → slice_get q.goals j ≡ Some g
      → (v : Fraction) × (last_value j s.found ≡ Some v) × IsBest (IsHeld q s.found j) g v
  pub member : Assignment
  pub held : IsHeld q s.found f.goal member
  pub has : goal_value member goal =ℚ f.value

-- ---- Lines

abbrev pub found_at : ℕ → Fraction → Found
found_at goal value = record { goal = goal; value = value }

abbrev pub with_form_joined : Search → List Part → Search
with_form_joined s f = record s { forms = (joined (position_of s no_point) f).forms }

-- where the check stands after a line; with fewer decisions, what was told behind the next one is taken back
abbrev pub after_line : Search → WorkLine Note → Search
after_line s (NoteLine (start_note fs places)) = record s { forms = fs }
after_line s (NoteLine (atom_note l)) = record s { atoms = s.atoms ++ l ∷ [] }
after_line s (NoteLine (form_note atom)) = with_form_joined s (sum_of_atom s atom)
after_line s (NoteLine (goal_note sum)) = with_form_joined s sum
after_line s (NoteLine (under_note ls)) = record s { begun = suc s.begun; under = ls; decided = []; told = [] }
after_line s (NoteLine (told_note t)) =
    let new : ToldLiteral = record { depth = length s.decided; literal = literal_told s t } in
    record s { told = s.told ++ new ∷ [] }
after_line s (UnitLine (DecisionEntry atom sign)) = record s { decided = s.decided ++ (atom, sign) ∷ [] }
after_line s (UnitLine (LearnedEntry keep clause)) = record s {
  decided = take keep s.decided;
  learned = s.learned ++ clause ∷ [];
  told = filter (λ (t : ToldLiteral). nat_le t.depth keep) s.told;
}
after_line s (UnitLine (PivotEntry i j)) = s
after_line s (UnitLine (BranchEntry atom)) = record s { branches = s.branches ++ branch_by (slice_index_or s.atoms atom never) ∷ [] }
after_line s (UnitLine (FoundEntry goal value)) = record s { found = s.found ++ found_at goal value ∷ [] }

-- where it stands after these
abbrev pub after_lines : Search → List (WorkLine Note) → Search
after_lines s lines = fold after_line s lines

-- What the next line may be, and to which point it leads. The first one may give a point; units and forms join at 0, what is told moves the forms that
-- it bounds, and forms are exchanged.
abbrev pub MayFollow : Task → Search → Point → WorkLine Note → Point → Type 0
MayFollow q s x (NoteLine (start_note fs places)) y = MayStart q s fs places × (y ≡ point_at places)
MayFollow q s x (NoteLine (atom_note l)) y = MayName q s x l × (y ≡ x)
MayFollow q s x (NoteLine (form_note atom)) y = MayJoin s atom × (y ≡ (joined (position_of s x) (sum_of_atom s atom)).point)
MayFollow q s x (NoteLine (goal_note sum)) y = MayJoinGoal q s sum × (y ≡ (joined (position_of s x) sum).point)
MayFollow q s x (NoteLine (under_note ls)) y = MayGoUnder q s x ls × (y ≡ x)
MayFollow q s x (NoteLine (told_note t)) y = MayTell q s t × (y ≡ moved_by s.forms (literal_told s t) x)
MayFollow q s x (UnitLine (DecisionEntry atom sign)) y = MayDecide q s atom × (y ≡ x)
MayFollow q s x (UnitLine (LearnedEntry keep clause)) y = MayLearn q s keep clause × (y ≡ x)
MayFollow q s x (UnitLine (PivotEntry i j)) y = IsExchange q s x y i j
MayFollow q s x (UnitLine (BranchEntry atom)) y = MayBranchOn q s x atom × (y ≡ x)
MayFollow q s x (UnitLine (FoundEntry goal value)) y = MayImprove q s (found_at goal value) × (y ≡ x)

-- From where a check stands, at a point, each line is one that may follow, and they lead to a point. Before each line, and at the end, forms may move
-- that stay nonbasic.
abbrev pub Lead : Task → Search → Point → List (WorkLine Note) → Point → Type 0
Lead q s x [] y = MayDrift q s x y
Lead q s x (line ∷ lines) y = (start end : Point) × MayDrift q s x start × MayFollow q s start line end × Lead q (after_line s line) end lines y

-- ---- The list as a whole

-- whether two assignments agree in every Boolean term, linear literal and integer unit of the listed terms
abbrev pub are_alike : Task → Assignment → Assignment → Bool
are_alike q a b =
    list_all (λ (t : Term). not (is_boolean_term t) || are_same_sign (is_true (value_of a t)) (is_true (value_of b t))) q.listed
    && list_all (λ (l : Literal). are_same_sign (is_literal_true a l) (is_literal_true b l)) (linear_literals q.numbering q.listed)
    && list_all (λ (u : Term). not (are_same_sort (sort_of u) int_sort) || fraction_eq (unit_value a u) (unit_value b u)) q.listed

-- The values were found at models of which no five of one goal are alike.
pub record AreSpread (q : Task) (found : List Found) : Type 0 where
  pub members : List (Found × Assignment)
  pub values : map (λ (m : Found × Assignment). m.0) members ≡ found
  pub held : All (λ (m : Found × Assignment). IsHeld q found m.0.goal m.1) members
  pub has : All (λ (m : Found × Assignment). (g : Goal) → slice_get q.goals m.0.goal ≡ Some g → goal_value m.1 g =ℚ m.0.value) members
  pub few : All (λ (m : Found × Assignment). count_by (λ (n : Found × Assignment). (m.0.goal == n.0.goal) && are_alike q m.1 n.1) members ≤ 4) members

-- how many branches, values and goals there are
abbrev pub events : Task → Search → ℕ
events q s = length s.branches + length s.found + length q.goals

-- Of the atoms that aren't of the listed terms and their tables there are at most two for each branch, each value and each goal; at most four searches
-- and climbs began for each value and goal, and one more.
pub record AreFew (q : Task) (s : Search) : Type 0 where
  pub atoms : (others : List Literal) → StandOnce others
      → All (λ (l : Literal). Contains s.atoms l × (IsTruth q.listed l ⊎ IsBoundOf q.numbering q.listed l → ⊥)) others → length others ≤ 2 * events q s
  pub begun : s.begun ≤ 4 * (length s.found + length q.goals) + 1
  pub spread : AreSpread q s.found

-- A check may go on so from its beginning.
pub record AreLegal (q : Task) (lines : List (WorkLine Note)) : Type 0 where
  pub point : Point
  pub lead : Lead q at_first no_point lines point
  pub few : AreFew q (after_lines at_first lines)

-- The list of a check that used each of its units, step by step, where one more may follow. Where no goal is asked of, the search that wants it goes under
-- all that is assumed.
pub record IsSpentLegally (q : Task) (work : WorkList Note) : Type 0 where
  pub spent : IsSpent work
  pub legal : AreLegal q work.lines
  pub wanted : WorkEntry
  pub after : Point
  pub may : MayFollow q (after_lines at_first work.lines) legal.point (UnitLine wanted) after
  pub under : q.goals ≡ [] → IsUnderAll q (after_lines at_first work.lines)
