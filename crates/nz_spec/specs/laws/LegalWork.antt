-- Laws of legal work: how it goes on, that it repeats nothing, and that it leads to a basis.
use Rattle.std.specs.Prelude.{◌≡◌, ℕ, ◌≤◌, ◌+◌, ◌*◌, Bool, true, false, ◌⊎◌, List, [], ◌∷◌, ◌++◌, map, count_by, All, Contains, Some, slice_get}
use Rattle.nz_fractions.specs.Fraction.{whole}
use Rattle.nz_spec.specs.numbers.Infinitesimal.{Infinitesimal}
use Rattle.nz_spec.specs.numbers.Computation.{at_once}
use Rattle.nz_spec.specs.terms.Term.{negation, Term, apply, at_most, Terms, terms, no_terms}
use Rattle.nz_spec.specs.terms.Form.{Numbering, Part, constant_form, unit_form}
use Rattle.nz_spec.specs.terms.FormOf.{form_of}
use Rattle.nz_spec.specs.clauses.Literal.{Literal, term_literal, negation_of, SayTheSame, AreSameSet, StandOnce}
use Rattle.nz_spec.specs.clauses.Links.{link_clauses}
use Rattle.nz_spec.specs.clauses.Units.{unit_clauses}
use Rattle.nz_spec.specs.simplex.Basis.{IsBasis}
use Rattle.nz_spec.specs.simplex.Bland.{Point, Position, is_nonbasic}
use Rattle.nz_spec.specs.simplex.PositionMoves.{AreConsistent}
use Rattle.nz_spec.specs.simplex.Pivots as pivots
use Rattle.nz_spec.specs.simplex.Pivots.{Pivot}
use Rattle.nz_spec.specs.search.Work.{PivotEntry, BranchEntry, WorkLine, UnitLine, WorkList}
use Rattle.nz_spec.specs.search.Notes.{Note, Place}
use Rattle.nz_spec.specs.clauses.Goals.{Goal}
use Rattle.nz_spec.specs.search.Branches.{is_integer_of, Range, total_width}
use Rattle.nz_spec.specs.search.Search.{Task, terms_known, goals_known, Search, at_first, no_point, literal_by, told_literals, position_of}
use Rattle.nz_spec.specs.search.Atoms.{IsTruth, IsTabled}
use Rattle.nz_spec.specs.search.Beginnings.{IsKnownForm, IsKnownPlace, MayBegin}
use Rattle.nz_spec.specs.search.Legal.{after_lines, MayFollow, Lead, AreLegal, IsSpentLegally}
use Rattle.nz_spec.specs.search.Places.{IsStoppedLegally}
use Rattle.nz_spec.specs.laws.Renumbering.{MayRenumber}

-- ---- Lists that go on

-- A list goes on by a line that may follow, and one that leads somewhere by one that leads on from there.
pub record LegalWorkGoesOn : Type 0 where
  pub line : (q : Task) (s : Search) (x y z : Point) (lines : List (WorkLine Note)) (line : WorkLine Note)
      → Lead q s x lines y → MayFollow q (after_lines s lines) y line z → Lead q s x (lines ++ line ∷ []) z
  pub lines : (q : Task) (s : Search) (x y z : Point) (lines more : List (WorkLine Note))
      → Lead q s x lines y → Lead q (after_lines s lines) y more z → Lead q s x (lines ++ more) z

-- the pivots that lead a position somewhere are lines at it
abbrev pub pivot_lines : List Pivot → List (WorkLine Note)
pivot_lines ps = map (λ (p : Pivot). UnitLine (PivotEntry p.leaves p.enters)) ps

-- The check stays where it stands.
pub record PivotsAreLegal : Type 0 where
  pub lead : (q : Task) (s : Search) (x : Point) (ps : List Pivot) (p : Position) → AreConsistent (position_of s x) → pivots.Lead (position_of s x) ps p
      → (p ≡ position_of s p.point) × Lead q s x (pivot_lines ps) p.point
  pub stays : (s : Search) (ps : List Pivot) → after_lines s (pivot_lines ps) ≡ s

-- ---- What stands once

-- Of atoms, negated or not, just those of one number say the same.
abbrev pub AreNamedApart : List Literal → Type 0
AreNamedApart atoms = (i j : ℕ) (a b : Bool) (l m : Literal) → slice_get atoms i ≡ Some l → slice_get atoms j ≡ Some m
    → SayTheSame (literal_by atoms (i, a)) (literal_by atoms (j, b)) → i ≡ j

-- nothing stands twice where a check stands
pub record IsWithoutRepeats (s : Search) : Type 0 where
  pub atoms : AreNamedApart s.atoms
  pub decided : StandOnce (map (λ (p : ℕ × Bool). p.0) s.decided)
  pub told : StandOnce (told_literals s)
  pub learned : (i j : ℕ) (c d : List (ℕ × Bool)) → slice_get s.learned i ≡ Some c → slice_get s.learned j ≡ Some d → AreSameSet c d → i ≡ j

-- No atom is named twice, none is decided twice at a time, no bound is told twice at a time, and no clause is learned twice.
abbrev pub LegalWorkDoesNotRepeat : Type 0
LegalWorkDoesNotRepeat = (q : Task) (lines : List (WorkLine Note)) (y : Point) → Lead q at_first no_point lines y → IsWithoutRepeats (after_lines at_first lines)

-- ---- Where a later check may begin

-- the same forms are nonbasic, and each stands where one may that begins
pub record IsSettled (ts : List Term) (fs : List (List Part)) (x y : Point) : Type 0 where
  pub nonbasic : is_nonbasic x ≡ is_nonbasic y
  pub places : (k : ℕ) (v : Infinitesimal) → y k ≡ Some v → IsKnownPlace ts fs k v

-- the literal is on a term
abbrev pub IsOnTerm : Literal → Type 0
IsOnTerm l = (t : Term) × (sign : Bool) × (l ≡ term_literal t sign)

-- A legal list leads to a basis, and no form stands twice. Where all forms are of tables and goals, a later check may begin with them, settled. Where
-- all atoms are of the tables, no goal was asked of and what was assumed is on terms, it may begin at the point as it is.
pub record LegalWorkMayBegin : Type 0 where
  pub basis : (q : Task) (lines : List (WorkLine Note)) (y : Point) → Lead q at_first no_point lines y → IsBasis (after_lines at_first lines).forms (is_nonbasic y)
  pub settled : (q : Task) (lines : List (WorkLine Note)) (y z : Point) → Lead q at_first no_point lines y
      → let fs = (after_lines at_first lines).forms in
      All (λ (f : List Part). (f ≡ []) ⊎ IsKnownForm (terms_known q) (goals_known q) f) fs → IsSettled (terms_known q) fs y z → MayBegin (terms_known q) (goals_known q) fs z
  pub plain : (q : Task) (lines : List (WorkLine Note)) (y : Point) → Lead q at_first no_point lines y
      → q.goals ≡ [] → All IsOnTerm q.assumed
      → All (λ (l : Literal). IsTruth q.listed l ⊎ IsTabled q.numbering q.listed l) (after_lines at_first lines).atoms
      → MayBegin (terms_known q) (goals_known q) (after_lines at_first lines).forms y

-- Where no goal is asked of, all atoms are of the tables, and at most one search began under literals, a list that leads somewhere is legal.
abbrev pub PlainWorkIsLegal : Type 0
PlainWorkIsLegal = (q : Task) (lines : List (WorkLine Note)) (y : Point) → Lead q at_first no_point lines y → q.goals ≡ []
    → All (λ (l : Literal). IsTruth q.listed l ⊎ IsTabled q.numbering q.listed l) (after_lines at_first lines).atoms → (after_lines at_first lines).begun ≤ 1
    → AreLegal q lines

-- More terms and goals allow what fewer do.
pub record MoreTermsMayBegin : Type 0 where
  pub begin : (ts us : List Term) (gs hs : List Goal) (fs : List (List Part)) (x : Point) → ((t : Term) → Contains ts t → Contains us t)
      → ((g : Goal) → Contains gs g → Contains hs g) → MayBegin ts gs fs x → MayBegin us hs fs x
  pub legal : (q : Task) (listed earlier : List Term) (earlier_goals : List Goal) (lines : List (WorkLine Note)) → ((t : Term) → Contains q.listed t → Contains listed t)
      → ((t : Term) → Contains q.earlier t → Contains earlier t) → ((g : Goal) → Contains q.earlier_goals g → Contains earlier_goals g)
      → AreLegal q lines → AreLegal (record q { listed = listed; earlier = earlier; earlier_goals = earlier_goals }) lines

-- ---- Other numberings

-- By any numbering the term's form is the term alone, and the tables have no row of it.
pub record HasNoRows (t : Term) : Type 0 where
  pub form : (number : Numbering) → form_of number t ≡ at_once (unit_form t)
  pub rows : (number : Numbering) → link_clauses number t ++ unit_clauses number t ≡ []

-- A negation is such a term.
abbrev pub NegationsHaveNoRows : Type 0
NegationsHaveNoRows = (ts : Terms) → HasNoRows (apply negation ts)

-- Another numbering, which tells terms apart as the task's does. What is asserted is among them, and each listed term is, or has no rows.
pub record MayRenumberTask (q : Task) (numbering : Numbering) : Type 0 where
  pub terms : List Term
  pub may : MayRenumber q.numbering numbering terms
  pub asserted : All (Contains terms) q.asserted
  pub listed : All (λ (t : Term). Contains terms t ⊎ HasNoRows t) q.listed

-- Where the numbers tell the terms apart, truths of terms and literals of their tables that say the same are one, and so are one of them and the negation of
-- another.
pub record PlainAtomsAreOne : Type 0 where
  pub same : (number : Numbering) (us ts : List Term) → MayRenumber number number us → All (λ (t : Term). Contains us t ⊎ HasNoRows t) ts
      → (l m : Literal) → IsTruth ts l ⊎ IsTabled number ts l → IsTruth ts m ⊎ IsTabled number ts m → SayTheSame l m → l ≡ m
  pub negation : (number : Numbering) (us ts : List Term) → MayRenumber number number us → All (λ (t : Term). Contains us t ⊎ HasNoRows t) ts
      → (l m : Literal) → IsTruth ts l ⊎ IsTabled number ts l → IsTruth ts m ⊎ IsTabled number ts m → SayTheSame l (negation_of m) → l ≡ negation_of m

-- What is legal by one numbering is legal by another.
pub record RenumberedWorkIsLegal : Type 0 where
  pub legal : (q : Task) (numbering : Numbering) (lines : List (WorkLine Note)) → MayRenumberTask q numbering
      → AreLegal q lines → AreLegal (record q { numbering = numbering }) lines
  pub spent : (q : Task) (numbering : Numbering) (work : WorkList Note) → MayRenumberTask q numbering
      → IsSpentLegally q work → IsSpentLegally (record q { numbering = numbering }) work
  pub stopped : (q : Task) (numbering : Numbering) (work : WorkList Note) (place : Place) → MayRenumberTask q numbering
      → IsStoppedLegally q work place → IsStoppedLegally (record q { numbering = numbering }) work place

-- ---- How many branches

abbrev pub is_branch : WorkLine Note → Bool
is_branch (UnitLine (BranchEntry atom)) = true
is_branch line = false

-- asserted are a `(<= low u)` and a `(<= u high)`, where low and high are integers
pub record IsAssertedRange (q : Task) (r : Range) : Type 0 where
  pub low : Term
  pub low_is : (form_of q.numbering low).result ≡ constant_form (whole r.low)
  pub low_asserted : Contains q.asserted (apply at_most (terms low (terms r.unit no_terms)))
  pub high : Term
  pub high_is : (form_of q.numbering high).result ≡ constant_form (whole r.high)
  pub high_asserted : Contains q.asserted (apply at_most (terms r.unit (terms high no_terms)))

-- Where each integer unit of the listed terms has such a range, there are at most two branches for each gap, and one more.
abbrev pub LegalBranchesAreFew : Type 0
LegalBranchesAreFew = (q : Task) (ranges : List Range) (lines : List (WorkLine Note)) (y : Point) → All (IsAssertedRange q) ranges
    → ((u : Term) → is_integer_of q.listed u ≡ true → (r : Range) × Contains ranges r × (r.unit ≡ u))
    → Lead q at_first no_point lines y → count_by is_branch lines ≤ 2 * total_width ranges + 1
