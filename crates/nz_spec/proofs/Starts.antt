-- Legal lists of work lead to a basis in which no form stands twice, and a later check may begin there.
use Rattle.std.proofs.Common.{◌≡◌, ℕ, List, [], ◌∷◌, slice_get, slice_index_or, Some, None, refl, sym, subst, inl, inr}
use Rattle.std.specs.Prelude.{Option}
use Rattle.std.proofs.lemmas.Option.{get_or_from_slice_get}
use Rattle.std.proofs.lemmas.List.Elements.{Contains-get_or}
use Rattle.nz_spec.specs.terms.Form.{Part}
use Rattle.nz_spec.specs.clauses.Literal.{Literal}
use Rattle.nz_spec.specs.clauses.LinearLiteral.{parts_of}
use Rattle.nz_spec.specs.simplex.Basis.{IsBasis}
use Rattle.nz_spec.specs.simplex.Bland.{Point, is_nonbasic}
use Rattle.nz_spec.specs.simplex.LiteralBounds.{FormBound, turned, bounded_from, bound_said, joined, moved_by, position_under}
use Rattle.nz_spec.specs.search.Work.{DecisionEntry, LearnedEntry, PivotEntry, BranchEntry, FoundEntry, WorkLine, UnitLine, NoteLine}
use Rattle.nz_spec.specs.search.Notes.{Note, start_note, atom_note, form_note, goal_note, under_note, told_note}
use Rattle.nz_spec.specs.search.Search.{Task, Search, at_first, no_point, never, literal_told, position_of}
use Rattle.nz_spec.specs.search.Beginnings.{sum_of_atom}
use Rattle.nz_spec.specs.search.Legal.{IsClimbing, Drifts, IsExchange, MayFollow, after_line, after_lines, with_form_joined, Lead}
use Rattle.nz_spec.specs.laws.LegalWork.{LegalWorkMayBegin}
use Rattle.nz_spec.proofs.BasisJoins.{joins_keep_basis}
use Rattle.nz_spec.proofs.BlandSteps.{check_steps_keep_basis}
use Rattle.nz_spec.proofs.ClimbSteps.{climb_steps_keep_basis}
use Rattle.nz_spec.proofs.PositionMovesKeep.{bound-tests}
use Rattle.nz_spec.proofs.BoundChanges.{moved_where}
use Rattle.nz_spec.proofs.KnownStarts.{lists-known}
use Rattle.nz_spec.proofs.JoinedForms.{FormsStandOnce, IsBased, joined-based, joined-forms}

-- the forms of a search have a basis at a point, and none stands twice
abbrev pub IsBasedAt : Search → Point → Type 0
IsBasedAt s x = IsBased (position_of s x)

same-point : (s : Search) (x y : Point) → y ≡ x → IsBasedAt s x → IsBasedAt s y
same-point s x y same h = subst (IsBasedAt s) (sym same) h

-- the bounds don't matter
pub based : (s : Search) (x : Point) → IsBasis s.forms (is_nonbasic x) → FormsStandOnce s.forms → IsBasedAt s x
based s x basis once = record { basis = basis; once = once }

pub told-nonbasic : (fs : List (List Part)) (x : Point) (l : Literal) → is_nonbasic x ≡ is_nonbasic (moved_by fs l x)
told-nonbasic fs x l = by_said (bound_said fs l)
  where
    by_said : (o : Option FormBound) → is_nonbasic x ≡ is_nonbasic (moved_where x o)
    by_said None = refl
    by_said (Some b) = bound-tests (position_under fs x []) b.side b.form b.bound

same-new : (s : Search) (atom : ℕ) (l : Literal) → slice_get s.atoms atom ≡ Some l → bounded_from 0 s.forms (turned (parts_of l)) ≡ None
    → bounded_from 0 s.forms (sum_of_atom s atom) ≡ None
same-new s atom l named new =
    subst (λ (m : Literal). bounded_from 0 s.forms (turned (parts_of m)) ≡ None) (sym (get_or_from_slice_get s.atoms atom l never named)) new

form-based : (s : Search) (x y : Point) (f : List Part) → bounded_from 0 s.forms f ≡ None → y ≡ (joined (position_of s x) f).point → IsBasedAt s x → IsBasedAt (with_form_joined s f) y
form-based s x y f new at h =
    let p = joined (position_of s x) f in
    let j : IsBased p = joined-based (position_of s x) f new h in
    let forms : p.forms ≡ (with_form_joined s f).forms = joined-forms (position_of s x) (position_of s no_point) f refl in
    based (with_form_joined s f) y
    (subst (λ (z : Point). IsBasis (with_form_joined s f).forms (is_nonbasic z)) (sym at) (subst (λ (fs : List (List Part)). IsBasis fs (is_nonbasic p.point)) forms j.basis))
    (subst FormsStandOnce forms j.once)

climbing-based : (q : Task) (s : Search) (x y : Point) (i j : ℕ) → IsClimbing q s x y i j → IsBasedAt s x → IsBasedAt s y
climbing-based q s x y i j climbing h =
    record { basis = climb_steps_keep_basis.basis (position_of s x) (position_of s y) climbing.form climbing.way i j h.basis climbing.step; once = h.once }

exchange-based : (q : Task) (s : Search) (x y : Point) (i j : ℕ) → IsExchange q s x y i j → IsBasedAt s x → IsBasedAt s y
exchange-based q s x y i j (inl (agree, step)) h =
    record { basis = check_steps_keep_basis.basis (position_of s x) (position_of s y) i j h.basis step; once = h.once }
exchange-based q s x y i j (inr (apart, climbing)) h = climbing-based q s x y i j climbing h

pub drifts-based : (q : Task) (s : Search) (x y : Point) (js : List ℕ) → Drifts q s x js y → IsBasedAt s x → IsBasedAt s y
drifts-based q s x y [] same h = same-point s x y same h
drifts-based q s x y (j ∷ js) (mid, climbing, rest) h = drifts-based q s mid y js rest (climbing-based q s x mid j j climbing h)

pub line-based : (q : Task) (s : Search) (x y : Point) (line : WorkLine Note) → MayFollow q s x line y → IsBasedAt s x → IsBasedAt (after_line s line) y
line-based q s x y (NoteLine (start_note fs places)) may h =
    let t = after_line s (NoteLine (start_note fs places)) in
    based t y (subst (λ (z : Point). IsBasis fs (is_nonbasic z)) (sym may.1) may.0.may_begin.basis) may.0.may_begin.once
line-based q s x y (NoteLine (atom_note l)) may h = same-point s x y may.1 h
line-based q s x y (NoteLine (form_note atom)) may h =
    form-based s x y (sum_of_atom s atom) (same-new s atom may.0.bound may.0.named may.0.new) may.1 h
line-based q s x y (NoteLine (goal_note sum)) may h = form-based s x y sum may.0.new may.1 h
line-based q s x y (NoteLine (under_note ls)) may h = let g = same-point s x y may.1 h in record { basis = g.basis; once = g.once }
line-based q s x y (NoteLine (told_note t)) may h =
    let moved = moved_by s.forms (literal_told s t) x in
    based (after_line s (NoteLine (told_note t))) y
    (subst (λ (z : Point). IsBasis s.forms (is_nonbasic z)) (sym may.1) (subst (IsBasis s.forms) (told-nonbasic s.forms x (literal_told s t)) h.basis)) h.once
line-based q s x y (UnitLine (DecisionEntry atom sign)) may h = same-point s x y may.1 h
line-based q s x y (UnitLine (LearnedEntry keep clause)) may h = let g = same-point s x y may.1 h in record { basis = g.basis; once = g.once }
line-based q s x y (UnitLine (PivotEntry i j)) may h = exchange-based q s x y i j may h
line-based q s x y (UnitLine (BranchEntry atom)) may h = same-point s x y may.1 h
line-based q s x y (UnitLine (FoundEntry goal value)) may h = same-point s x y may.1 h

leads-based : (q : Task) (s : Search) (x y : Point) (lines : List (WorkLine Note)) → Lead q s x lines y → IsBasedAt s x → IsBasedAt (after_lines s lines) y
leads-based q s x y [] (js, drift) h = drifts-based q s x y js drift h
leads-based q s x y (line ∷ lines) (start, end, (js, drift), may, legal) h =
    leads-based q (after_line s line) end y lines legal (line-based q s start end line may (drifts-based q s x start js drift h))

pub lists-based : (q : Task) (lines : List (WorkLine Note)) (y : Point) → Lead q at_first no_point lines y → IsBasedAt (after_lines at_first lines) y
lists-based q lines y legal = leads-based q at_first no_point y lines legal (based at_first no_point joins_keep_basis.empty (λ i j f at_i. cc))

pub legal_work_may_begin : LegalWorkMayBegin
legal_work_may_begin = record {
  basis = λ q lines y legal. (lists-based q lines y legal).basis;
  settled = λ q lines y z legal known settled.
      let based = lists-based q lines y legal in
      let fs = (after_lines at_first lines).forms in
      record {
        known = known;
        once = based.once;
        basis = subst (IsBasis fs) settled.nonbasic based.basis;
        places = settled.places;
      };
  plain = λ q lines y legal none assumed atoms.
      let based = lists-based q lines y legal in
      let known = lists-known q none assumed lines y legal atoms in
      let fs = (after_lines at_first lines).forms in
      record { known = λ i d within. known.forms (slice_index_or fs i d) (Contains-get_or fs i d within); once = based.once; basis = based.basis; places = known.places };
}
