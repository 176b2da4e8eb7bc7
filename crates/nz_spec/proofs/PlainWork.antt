-- Lists of one search without goals: what the list as a whole asks is so of them.
use Rattle.std.proofs.Common.{◌≡◌, ◌≤◌, ◌*◌, false, ◌⊎◌, inl, inr, List, [], ◌∷◌, All, Contains, length, Some, refl, sym, subst, arith}
use Rattle.std.specs.Prelude.{slice_get}
use Rattle.std.proofs.lemmas.List.Elements.{All-contains, All-nil}
use Rattle.nz_lists.proofs.Members.{has_first}
use Rattle.nz_spec.specs.clauses.Literal.{Literal}
use Rattle.nz_spec.specs.clauses.Goals.{Goal}
use Rattle.nz_spec.specs.simplex.Bland.{Point}
use Rattle.nz_spec.specs.search.Work.{DecisionEntry, LearnedEntry, PivotEntry, BranchEntry, FoundEntry, WorkLine, UnitLine, NoteLine}
use Rattle.nz_spec.specs.search.Notes.{Note, start_note, atom_note, form_note, goal_note, under_note, told_note}
use Rattle.nz_spec.specs.search.Search.{Task, Found, Search, at_first, no_point}
use Rattle.nz_spec.specs.search.Atoms.{IsTruth, IsTabled, IsBoundOf}
use Rattle.nz_spec.specs.search.Legal.{MayFollow, after_line, after_lines, Lead, events, AreSpread}
use Rattle.nz_spec.specs.laws.LegalWork.{PlainWorkIsLegal}
use Rattle.nz_spec.proofs.KnownStarts.{nothing-at}
use Rattle.nz_spec.proofs.SameSums.{say_itself}

-- without a goal no value is found
line_finds : (q : Task) → q.goals ≡ [] → (s : Search) (x y : Point) (line : WorkLine Note) → MayFollow q s x line y → s.found ≡ [] → (after_line s line).found ≡ []
line_finds q none s x y (NoteLine (start_note fs places)) may e = e
line_finds q none s x y (NoteLine (atom_note l)) may e = e
line_finds q none s x y (NoteLine (form_note atom)) may e = e
line_finds q none s x y (NoteLine (goal_note sum)) may e = e
line_finds q none s x y (NoteLine (under_note ls)) may e = e
line_finds q none s x y (NoteLine (told_note t)) may e = e
line_finds q none s x y (UnitLine (DecisionEntry atom sign)) may e = e
line_finds q none s x y (UnitLine (LearnedEntry keep clause)) may e = e
line_finds q none s x y (UnitLine (PivotEntry i j)) may e = e
line_finds q none s x y (UnitLine (BranchEntry atom)) may e = e
line_finds q none s x y (UnitLine (FoundEntry goal value)) may e = absurd (nothing-at goal may.0.goal (subst (λ (gs : List Goal). slice_get gs goal ≡ Some may.0.goal) none may.0.listed))

pub lines_find : (q : Task) → q.goals ≡ [] → (s : Search) (x y : Point) (lines : List (WorkLine Note)) → Lead q s x lines y → s.found ≡ [] → (after_lines s lines).found ≡ []
lines_find q none s x y [] legal e = e
lines_find q none s x y (line ∷ lines) (start, end, drift, may, legal) e = lines_find q none (after_line s line) end y lines legal (line_finds q none s start end line may e)

-- each atom is of the tables
none_other : (q : Task) (s : Search) → All (λ (l : Literal). IsTruth q.listed l ⊎ IsTabled q.numbering q.listed l) s.atoms → (others : List Literal)
    → All (λ (l : Literal). Contains s.atoms l × (IsTruth q.listed l ⊎ IsBoundOf q.numbering q.listed l → ⊥)) others → length others ≤ 2 * events q s
none_other q s all [] each = omega arith
none_other q s all (l ∷ others) each =
    let other = All-contains (λ (l : Literal). Contains s.atoms l × (IsTruth q.listed l ⊎ IsBoundOf q.numbering q.listed l → ⊥)) (l ∷ others) l each (has_first l others) in
    absurd (other.1 (elim (All-contains (λ (l : Literal). IsTruth q.listed l ⊎ IsTabled q.numbering q.listed l) s.atoms l all other.0) [
      | inl truth ↦ inl truth
      | inr tabled ↦ inr (record { plain = l; tabled = tabled; written = l; same = say_itself l; is_tight = false; is = refl })
    ]))

none_spread : (q : Task) (found : List Found) → found ≡ [] → AreSpread q found
none_spread q found e = record {
  members = [];
  values = sym e;
  held = All-nil _;
  has = All-nil _;
  few = All-nil _;
}

pub plain_work_is_legal : PlainWorkIsLegal
plain_work_is_legal q lines y lead none atoms begun = record {
  point = y;
  lead = lead;
  few = record {
    atoms = λ others once each. none_other q (after_lines at_first lines) atoms others each;
    begun = omega (arith, begun);
    spread = none_spread q (after_lines at_first lines).found (lines_find q none at_first no_point y lines lead refl);
  };
}
