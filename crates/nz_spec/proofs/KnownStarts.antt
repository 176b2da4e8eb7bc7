-- Where forms of a check stand when no goal is asked of and each atom is of the tables: at 0, or at a bound of a literal of the tables.
use Rattle.std.proofs.Common.{◌≡◌, ℕ, suc, ◌<◌, Bool, true, false, ◌⊎◌, inl, inr, List, [], ◌∷◌, ◌++◌, All, Contains, length, nat_le, map, filter, slice_get, slice_index_or, Option, Some, None, refl, sym, ap, ◌∙◌, subst, true≢false}
use Rattle.std.specs.Prelude.{◌==◌, ◌&&◌, IsTrue, fold, is_some, option_map, unwrap_or, if◌then◌else◌}
use Rattle.std.specs.List.{list_any}
use Rattle.std.proofs.lemmas.Bool.{and_parts}
use Rattle.std.proofs.lemmas.Option.{get_or_from_slice_get}
use Rattle.std.proofs.lemmas.List.Elements.{All-contains, Contains-append_left, Contains-append_right, Contains-get_or, Contains-push_cases, All-filter}
use Rattle.nz_lists.proofs.Numbers.{same-number}
use Rattle.nz_lists.proofs.Members.{has_first, has_found, has_more, has_none, map_from, map_has}
use Rattle.nz_fractions.specs.Fraction.{Fraction}
use Rattle.nz_spec.specs.numbers.Infinitesimal.{Infinitesimal}
use Rattle.nz_spec.specs.terms.Term.{Term}
use Rattle.nz_spec.specs.terms.Form.{Numbering, Part, unit_form, negated_part}
use Rattle.nz_spec.specs.clauses.Literal.{Literal, term_literal, is_at_most, is_below, negation_of, are_same_parts}
use Rattle.nz_spec.specs.clauses.LinearLiteral.{parts_of}
use Rattle.nz_spec.specs.clauses.Farkas.{is_linear_literal}
use Rattle.nz_spec.specs.simplex.Bland.{Point, zero_infinitesimal, Position, Side, lower_side, upper_side, exchanged_point}
use Rattle.nz_spec.specs.simplex.PositionMoves.{with_unit, with_form, is_outside, moved_within}
use Rattle.nz_spec.specs.simplex.LiteralBounds.{turned, is_unit_alone, is_unit_form, with_new_unit, FormBound, bounded_from, bound_on_side, sum_bound, bound_said, are_same_side, tighter_of, with_bound_said, tightest, joined, moved_by}
use Rattle.nz_spec.specs.search.Work.{DecisionEntry, LearnedEntry, PivotEntry, BranchEntry, FoundEntry, WorkLine, UnitLine, NoteLine}
use Rattle.nz_spec.specs.search.Notes.{Telling, told_atom, told_under, Note, start_note, atom_note, form_note, goal_note, under_note, told_note}
use Rattle.nz_spec.specs.clauses.Goals.{Goal}
use Rattle.nz_spec.specs.search.Search.{Task, terms_known, goals_known, ToldLiteral, Search, at_first, no_point, never, signed_literal, literal_by, tight_if, literal_told, told_literals, position_of}
use Rattle.nz_spec.specs.search.Atoms.{IsTruth, IsTabled, IsBoundOf}
use Rattle.nz_spec.specs.search.Beginnings.{IsSumOf, IsKnownForm, of_bound, IsKnownPlace, at_zero, at_bound, MaySearchUnder, MayClimbUnder, MayGoUnder, IsComparison}
use Rattle.nz_spec.specs.search.Legal.{IsThere, IsClimbing, IsExchange, Drifts, MayFollow, after_line, after_lines, with_form_joined, Lead}
use Rattle.nz_spec.specs.laws.LegalWork.{IsOnTerm}
use Rattle.nz_spec.proofs.ToldBounds.{after, bound-is}
use Rattle.nz_spec.proofs.BoundChanges.{moved_where}
use Rattle.nz_spec.proofs.Negations.{literal-back, negation-linear}
use Rattle.nz_spec.proofs.SameSums.{say_itself}
use Rattle.nz_spec.proofs.JoinedForms.{joined-all, joined-forms}

none_some : {A : Type 0} {x : A} → None ≡ Some x → ⊥
none_some e = true≢false (sym (ap is_some e))

some_same : {A : Type 0} (x y : A) → Some x ≡ Some y → x ≡ y
some_same x y e = ap (λ (o : Option _). unwrap_or o x) e

said-linear : (fs : List (List Part)) (l : Literal) (b : FormBound) → bound_said fs l ≡ Some b → IsTrue (is_linear_literal l)
said-linear fs (term_literal t sign) b e = absurd (none_some e)
said-linear fs (is_at_most ps c) b e = refl
said-linear fs (is_below ps c) b e = refl

-- ---- What literals say of more forms

longer-bounded : (k : ℕ) (fs gs : List (List Part)) (ps : List Part) (r : ℕ × Side) → bounded_from k fs ps ≡ Some r → bounded_from k (fs ++ gs) ps ≡ Some r
longer-bounded k [] gs ps r e = absurd (none_some e)
longer-bounded k (f ∷ fs) gs ps r e =
    by_tests (are_same_parts f ps) (are_same_parts f (map negated_part ps)) (longer-bounded (suc k) fs gs ps r) e
  where
    by_tests : (a b : Bool) → (bounded_from (suc k) fs ps ≡ Some r → bounded_from (suc k) (fs ++ gs) ps ≡ Some r)
        → (if a then Some (k, upper_side) else if b then Some (k, lower_side) else bounded_from (suc k) fs ps) ≡ Some r
        → (if a then Some (k, upper_side) else if b then Some (k, lower_side) else bounded_from (suc k) (fs ++ gs) ps) ≡ Some r
    by_tests true b behind g = g
    by_tests false true behind g = g
    by_tests false false behind g = behind g

mapped-too : {A B : Type 0} (f : A → B) (o p : Option A) (b : B) → ((a : A) → o ≡ Some a → p ≡ Some a) → option_map f o ≡ Some b → option_map f p ≡ Some b
mapped-too f None p b h e = absurd (none_some e)
mapped-too f (Some a) p b h e = ap (option_map f) (h a refl) ∙ e

longer-sum : (fs gs : List (List Part)) (ps : List Part) (strict : Bool) (c : Fraction) (b : FormBound) → sum_bound fs ps strict c ≡ Some b
    → sum_bound (fs ++ gs) ps strict c ≡ Some b
longer-sum fs gs ps strict c b e =
    mapped-too (λ (k : ℕ × Side). let x : FormBound = record { form = k.0; side = k.1; bound = bound_on_side k.1 strict c } in x)
    (bounded_from 0 fs ps) (bounded_from 0 (fs ++ gs) ps) b (λ r g. longer-bounded 0 fs gs ps r g) e

longer-said : (fs gs : List (List Part)) (l : Literal) (b : FormBound) → bound_said fs l ≡ Some b → bound_said (fs ++ gs) l ≡ Some b
longer-said fs gs (term_literal t sign) b e = absurd (none_some e)
longer-said fs gs (is_at_most ps c) b e = longer-sum fs gs ps false c b e
longer-said fs gs (is_below ps c) b e = longer-sum fs gs ps true c b e

-- ---- Places

module _ (number : Numbering) (ts : List Term) (fs : List (List Part)) where
  abbrev IsPlace : ℕ → Infinitesimal → Type 0
  IsPlace k v = IsKnownPlace ts fs k v

  -- a literal that bounds a sum is one of these terms' tables
  abbrev IsKnown : Literal → Type 0
  IsKnown l = IsTrue (is_linear_literal l) → IsBoundOf number ts l

  -- where there is a value, it is such a one
  abbrev HasPlace : ℕ → Option Infinitesimal → Type 0
  HasPlace k o = (v : Infinitesimal) → o ≡ Some v → IsPlace k v

  -- each nonbasic form stands at such a value
  abbrev AreAtPlaces : Point → Type 0
  AreAtPlaces x = (k : ℕ) → HasPlace k (x k)

  said-place : (l : Literal) (b : FormBound) (k : ℕ) → IsKnown l → bound_said fs l ≡ Some b → b.form ≡ k → IsPlace k b.bound
  said-place l b k known said here =
      subst (λ (n : ℕ). IsPlace n b.bound) here (at_bound number l b.side (known (said-linear fs l b said)) said)

  -- of two such values, by a test
  either-place : (k : ℕ) (a : Bool) (x y : Infinitesimal) → IsPlace k x → HasPlace k (Some y) → HasPlace k (Some (if a then x else y))
  either-place k true x y first second v e = subst (IsPlace k) (some_same x v e) first
  either-place k false x y first second v e = second v e

  tighter-place : (side : Side) (k : ℕ) (x : Infinitesimal) (found : Option Infinitesimal) → IsPlace k x → HasPlace k found → HasPlace k (Some (tighter_of side x found))
  tighter-place side k x None first second v e = subst (IsPlace k) (some_same x v e) first
  tighter-place side k x (Some y) first second v e = either-place k (is_outside side x y) x y first second v e

  one-place : (side : Side) (k : ℕ) (found : Option Infinitesimal) (l : Literal) → IsKnown l → HasPlace k found → HasPlace k (with_bound_said fs side k found l)
  one-place side k found l known h = by_said (bound_said fs l) refl
    where
      by_test : (b : FormBound) → bound_said fs l ≡ Some b → (a : Bool) → ((b.form == k) && are_same_side b.side side) ≡ a
          → HasPlace k (if a then Some (tighter_of side b.bound found) else found)
      by_test b said true e =
          tighter-place side k b.bound found
          (said-place l b k known said (same-number b.form k ((and_parts (b.form == k) (are_same_side b.side side) e).0))) h
      by_test b said false e = h

      by_said : (o : Option FormBound) → bound_said fs l ≡ o → HasPlace k (after side k found o)
      by_said None said = h
      by_said (Some b) said = by_test b said ((b.form == k) && are_same_side b.side side) refl

  all_places : (side : Side) (k : ℕ) (found : Option Infinitesimal) (ls : List Literal) → ((l : Literal) → Contains ls l → IsKnown l) → HasPlace k found
      → HasPlace k (fold (with_bound_said fs side k) found ls)
  all_places side k found [] known h = h
  all_places side k found (l ∷ ls) known h =
      all_places side k (with_bound_said fs side k found l) ls (λ m has. known m (has_more l m ls has))
      (one-place side k found l (known l (has_first l ls)) h)

  -- the tightest bound is said by one of the literals
  tightest-place : (side : Side) (k : ℕ) (ls : List Literal) → ((l : Literal) → Contains ls l → IsKnown l) → HasPlace k (tightest fs ls side k)
  tightest-place side k ls known = all_places side k None ls known (λ v e. absurd (none_some e))

  moved-place : (side : Side) (bound : Infinitesimal) (k : ℕ) (o : Option Infinitesimal) → IsPlace k bound → HasPlace k o
      → HasPlace k (option_map (moved_within side bound) o)
  moved-place side bound k None first second v e = absurd (none_some e)
  moved-place side bound k (Some y) first second v e = either-place k (is_outside side bound y) bound y first second v e

  told-places : (x : Point) (l : Literal) → IsKnown l → AreAtPlaces x → AreAtPlaces (moved_by fs l x)
  told-places x l known h k = by_said (bound_said fs l) refl
    where
      by_test : (b : FormBound) → bound_said fs l ≡ Some b → (a : Bool) → (k == b.form) ≡ a
          → HasPlace k (if a then option_map (moved_within b.side b.bound) (x k) else x k)
      by_test b said true e = moved-place b.side b.bound k (x k) (said-place l b k known said (sym (same-number k b.form e))) (h k)
      by_test b said false e = h k

      by_said : (o : Option FormBound) → bound_said fs l ≡ o → HasPlace k (moved_where x o k)
      by_said None said = h k
      by_said (Some b) said = by_test b said (k == b.form) refl

  stepped-places : (x : Point) (i j : ℕ) (bound : Infinitesimal) → IsPlace i bound → AreAtPlaces x → AreAtPlaces (exchanged_point x i j bound)
  stepped-places x i j bound first h k = by_tests (k == i) (k == j) refl
    where
      by_tests : (a b : Bool) → (k == i) ≡ a → HasPlace k (if a then Some bound else if b then None else x k)
      by_tests true b e v g =
          subst (λ (n : ℕ). IsPlace n v) (sym (same-number k i e)) (subst (IsPlace i) (some_same bound v g) first)
      by_tests false true e v g = absurd (none_some g)
      by_tests false false e v g = h k v g

-- a place stays one over more forms
longer-place : (ts : List Term) (fs gs : List (List Part)) (k : ℕ) (v : Infinitesimal) → IsKnownPlace ts fs k v → IsKnownPlace ts (fs ++ gs) k v
longer-place ts fs gs k v (at_zero e) = at_zero e
longer-place ts fs gs k v (at_bound number l side h e) = at_bound number l side h (longer-said fs gs l (record { form = k; side = side; bound = v }) e)

-- ---- Forms that join

-- what stands where a form joins: where it stood, or at 0
abbrev HasPlaces : List Term → Position → Type 0
HasPlaces ts p = (k : ℕ) (v : Infinitesimal) → p.point k ≡ Some v → IsKnownPlace ts p.forms k v

unit-places : (ts : List Term) (p : Position) (u : Term) → HasPlaces ts p → HasPlaces ts (with_unit p u)
unit-places ts p u h k = by_test (k == length p.forms)
  where
    by_test : (a : Bool) (v : Infinitesimal) → (if a then Some zero_infinitesimal else p.point k) ≡ Some v → IsKnownPlace ts (p.forms ++ (unit_form u).parts ∷ []) k v
    by_test true v e = at_zero (sym (some_same zero_infinitesimal v e))
    by_test false v e = longer-place ts p.forms ((unit_form u).parts ∷ []) k v (h k v e)

new-unit-places : (ts : List Term) (p : Position) (r : Part) → HasPlaces ts p → HasPlaces ts (with_new_unit p r)
new-unit-places ts p r h = by_test (list_any (λ f. is_unit_alone f r.unit) p.forms)
  where
    by_test : (a : Bool) → HasPlaces ts (if a then p else with_unit p r.unit)
    by_test true = h
    by_test false = unit-places ts p r.unit h

units-places : (ts : List Term) (p : Position) (rs : List Part) → HasPlaces ts p → HasPlaces ts (fold with_new_unit p rs)
units-places ts p [] h = h
units-places ts p (r ∷ rs) h = units-places ts (with_new_unit p r) rs (new-unit-places ts p r h)

joined-places : (ts : List Term) (p : Position) (f : List Part) → HasPlaces ts p → HasPlaces ts (joined p f)
joined-places ts p f h = by_test (is_unit_form f)
  where
    by_test : (a : Bool) → HasPlaces ts (if a then fold with_new_unit p f else with_form (fold with_new_unit p f) f)
    by_test true k v e = units-places ts p f h k v e
    by_test false k v e = longer-place ts (fold with_new_unit p f).forms (f ∷ []) k v (units-places ts p f h k v e)

-- ---- Literals of the tables

tabled-among : (number : Numbering) (ts us : List Term) → ((t : Term) → Contains ts t → Contains us t) → (l : Literal) → IsTabled number ts l → IsTabled number us l
tabled-among number ts us within l h =
    record { term = h.term; listed = within h.term h.listed; row = h.row; tabled = h.tabled; linear = h.linear; has = h.has }

negation-tabled : (number : Numbering) (ts : List Term) (l : Literal) → IsTabled number ts l → IsTabled number ts (negation_of l)
negation-tabled number ts l h = record {
  term = h.term;
  listed = h.listed;
  row = h.row;
  tabled = h.tabled;
  linear = negation-linear l ∙ h.linear;
  has = other h.has;
}
  where
    other : Contains h.row.result l ⊎ Contains h.row.result (negation_of l)
        → Contains h.row.result (negation_of l) ⊎ Contains h.row.result (negation_of (negation_of l))
    other (inl own) = inr (subst (Contains h.row.result) (sym (literal-back l)) own)
    other (inr negated) = inl negated

signed-tabled : (number : Numbering) (ts : List Term) (l : Literal) (sign : Bool) → IsTabled number ts l → IsTabled number ts (signed_literal l sign)
signed-tabled number ts l true h = h
signed-tabled number ts l false h = negation-tabled number ts l h

turned-unit : (ps : List Part) (p : Part) → Contains (turned ps) p → (r : Part) × Contains ps r × (p.unit ≡ r.unit)
turned-unit [] p h = (p, h, refl)
turned-unit (first ∷ ps) p h = by_test _ h
  where
    by_test : (a : Bool) → Contains (if a then map negated_part (first ∷ ps) else first ∷ ps) p → (r : Part) × Contains (first ∷ ps) r × (p.unit ≡ r.unit)
    by_test true has = let found = map_from negated_part (first ∷ ps) p has in (found.0, found.1, ap (λ (r : Part). r.unit) (sym found.2))
    by_test false has = (p, has, refl)

-- ---- Literals that bound nothing, and atoms that stay

term-bounds-nothing : (l : Literal) → IsOnTerm l → IsTrue (is_linear_literal l) → ⊥
term-bounds-nothing l (t, sign, is) linear = true≢false (sym linear ∙ ap is_linear_literal is)

signed-term : (t : Term) (sign is_tight : Bool) → is_linear_literal (tight_if is_tight (signed_literal (term_literal t true) sign)) ≡ false
signed-term t true true = refl
signed-term t true false = refl
signed-term t false true = refl
signed-term t false false = refl

truth-bounds-nothing : {ts : List Term} (l : Literal) (sign is_tight : Bool) → IsTruth ts l → IsTrue (is_linear_literal (tight_if is_tight (signed_literal l sign))) → ⊥
truth-bounds-nothing l sign is_tight truth linear =
    true≢false (sym linear ∙ ap (λ m. is_linear_literal (tight_if is_tight (signed_literal m sign))) truth.is ∙ signed-term truth.term sign is_tight)

tabled-if-linear : {number : Numbering} {ts : List Term} (l : Literal) → IsTruth ts l ⊎ IsTabled number ts l → IsTrue (is_linear_literal l) → IsTabled number ts l
tabled-if-linear l (inl truth) linear = absurd (truth-bounds-nothing l true false truth linear)
tabled-if-linear l (inr tabled) linear = tabled

pub nothing-at : {A : Type 0} (i : ℕ) (x : A) → slice_get [] i ≡ Some x → ⊥
nothing-at i x e = none_some e

atom-grows : (s : Search) (line : WorkLine Note) (l : Literal) → Contains s.atoms l → Contains (after_line s line).atoms l
atom-grows s (NoteLine (start_note fs places)) l has = has
atom-grows s (NoteLine (atom_note m)) l has = Contains-append_left s.atoms (m ∷ []) l has
atom-grows s (NoteLine (form_note atom)) l has = has
atom-grows s (NoteLine (goal_note sum)) l has = has
atom-grows s (NoteLine (under_note ls)) l has = has
atom-grows s (NoteLine (told_note t)) l has = has
atom-grows s (UnitLine (DecisionEntry atom sign)) l has = has
atom-grows s (UnitLine (LearnedEntry keep clause)) l has = has
atom-grows s (UnitLine (PivotEntry i j)) l has = has
atom-grows s (UnitLine (BranchEntry atom)) l has = has
atom-grows s (UnitLine (FoundEntry goal value)) l has = has

atoms-grow : (s : Search) (lines : List (WorkLine Note)) (l : Literal) → Contains s.atoms l → Contains (after_lines s lines).atoms l
atoms-grow s [] l has = has
atoms-grow s (line ∷ lines) l has = atoms-grow (after_line s line) lines l (atom-grows s line l has)

-- ---- Where a legal list leads

module _ (q : Task) (none : q.goals ≡ []) (assumed : All IsOnTerm q.assumed) where
  abbrev ts : List Term
  ts = terms_known q

  abbrev IsOfTable : Literal → Type 0
  IsOfTable l = IsTruth q.listed l ⊎ IsTabled q.numbering q.listed l

  abbrev IsKnownIn : List Part → Type 0
  IsKnownIn f = (f ≡ []) ⊎ IsKnownForm ts (goals_known q) f

  -- The forms and their places are known, what was told is of the tables where it bounds a sum, and the search goes under literals on terms.
  pub record AreKnown (s : Search) (x : Point) : Type 0 where
    pub forms : (f : List Part) → Contains s.forms f → IsKnownIn f
    pub places : (k : ℕ) (v : Infinitesimal) → x k ≡ Some v → IsKnownPlace ts s.forms k v
    pub told : (l : Literal) → Contains (told_literals s) l → IsTrue (is_linear_literal l) → IsBoundOf q.numbering ts l
    pub under : (l : Literal) → Contains s.under l → IsOnTerm l

  atom-known : (s : Search) → ((l : Literal) → Contains s.atoms l → IsOfTable l) → (atom : ℕ) → atom < length s.atoms → (sign is_tight : Bool)
      → IsTrue (is_linear_literal (tight_if is_tight (literal_by s.atoms (atom, sign)))) → IsBoundOf q.numbering ts (tight_if is_tight (literal_by s.atoms (atom, sign)))
  atom-known s atoms atom named sign is_tight linear =
      let l = slice_index_or s.atoms atom never in
      elim (atoms l (Contains-get_or s.atoms atom never named)) [
        | inl truth ↦ absurd (truth-bounds-nothing l sign is_tight truth linear)
        | inr tabled ↦ record {
          plain = signed_literal l sign;
          tabled = tabled-among q.numbering q.listed ts (λ t has. Contains-append_right q.earlier q.listed t has) (signed_literal l sign) (signed-tabled q.numbering q.listed l sign tabled);
          written = signed_literal l sign;
          same = say_itself (signed_literal l sign);
          is_tight = is_tight;
          is = refl;
        }
      ]

  under-known : (s : Search) → ((l : Literal) → Contains s.under l → IsOnTerm l) → (place : ℕ) → place < length s.under
      → IsTrue (is_linear_literal (slice_index_or s.under place never)) → IsBoundOf q.numbering ts (slice_index_or s.under place never)
  under-known s under place there linear = absurd (term-bounds-nothing (slice_index_or s.under place never) (under (slice_index_or s.under place never) (Contains-get_or s.under place never there)) linear)

  telling-known : (s : Search) → ((l : Literal) → Contains s.atoms l → IsOfTable l) → ((l : Literal) → Contains s.under l → IsOnTerm l) → (t : Telling) → IsThere s t
      → IsTrue (is_linear_literal (literal_told s t)) → IsBoundOf q.numbering ts (literal_told s t)
  telling-known s atoms under (told_atom atom sign is_tight) there = atom-known s atoms atom there sign is_tight
  telling-known s atoms under (told_under place) there = under-known s under place there

  -- the sum of an atom, and its units
  sum-known : (l : Literal) → IsTabled q.numbering q.listed l → (f : List Part) → IsSumOf (parts_of l) f → IsKnownIn f
  sum-known l tabled f sum =
      inr (of_bound q.numbering l (tabled-among q.numbering q.listed ts (λ t has. Contains-append_right q.earlier q.listed t has) l tabled) sum)

  unit-known : (l : Literal) → IsTabled q.numbering q.listed l → (r : Part) → Contains (turned (parts_of l)) r → IsKnownIn (unit_form r.unit).parts
  unit-known l tabled r has =
      let found = turned-unit (parts_of l) r has in
      sum-known l tabled (unit_form r.unit).parts (inr (found.0, found.1, ap (λ (u : Term). (unit_form u).parts) found.2))

  no-goal : (i : ℕ) (g : Goal) → slice_get q.goals i ≡ Some g → ⊥
  no-goal i g at = nothing-at i g (subst (λ (gs : List Goal). slice_get gs i ≡ Some g) none at)

  under-terms : (s : Search) (x : Point) (ls : List Literal) → MayGoUnder q s x ls → (l : Literal) → Contains ls l → IsOnTerm l
  under-terms s x ls may l has = by_kind may.literals
    where
      by_kind : MaySearchUnder q s x ls ⊎ MayClimbUnder q s ls → IsOnTerm l
      by_kind (inl search) =
          elim (All-contains (λ (m : Literal). Contains q.assumed m ⊎ IsComparison q s x m) ls l search has) [
            | inl of_assumed ↦ All-contains IsOnTerm q.assumed l assumed of_assumed
            | inr comparison ↦ absurd (no-goal comparison.goal comparison.which comparison.listed)
          ]
      by_kind (inr climb) = absurd (no-goal climb.is_member.last.goal climb.goal climb.is_member.listed)

  no-climbing : (s : Search) (x y : Point) (i j : ℕ) → IsClimbing q s x y i j → ⊥
  no-climbing s x y i j climbing = no-goal climbing.sought.last.goal climbing.sought.goal climbing.sought.listed

  at-point : (s : Search) (x y : Point) → y ≡ x → AreKnown s x → AreKnown s y
  at-point s x y same h = subst (AreKnown s) (sym same) h

  drifts-known : (s : Search) (x y : Point) (js : List ℕ) → Drifts q s x js y → AreKnown s x → AreKnown s y
  drifts-known s x y [] same h = at-point s x y same h
  drifts-known s x y (j ∷ js) (mid, climbing, rest) h = absurd (no-climbing s x mid j j climbing)

  form-known : (s : Search) (x y : Point) (l : Literal) → IsTabled q.numbering q.listed l → y ≡ (joined (position_of s x) (turned (parts_of l))).point → AreKnown s x
      → AreKnown (with_form_joined s (turned (parts_of l))) y
  form-known s x y l tabled at h =
      let f = turned (parts_of l) in
      let p = joined (position_of s x) f in
      let same : p.forms ≡ (with_form_joined s f).forms = joined-forms (position_of s x) (position_of s no_point) f refl in
      record {
        forms =
            joined-all IsKnownIn (position_of s no_point) f (sum-known l tabled f (inl refl)) (unit-known l tabled) h.forms;
        places = λ k v e.
            subst (λ (fs : List (List Part)). IsKnownPlace ts fs k v) same
            (joined-places ts (position_of s x) f h.places k v (subst (λ (z : Point). z k ≡ Some v) at e));
        told = h.told;
        under = h.under;
      }

  told-more : (s : Search) (x : Point) (t : ToldLiteral) → AreKnown s x → (IsTrue (is_linear_literal t.literal) → IsBoundOf q.numbering ts t.literal)
      → (l : Literal) → Contains (map (λ (u : ToldLiteral). u.literal) (s.told ++ t ∷ [])) l → IsTrue (is_linear_literal l) → IsBoundOf q.numbering ts l
  told-more s x t h known l has =
      let found = map_from (λ (u : ToldLiteral). u.literal) (s.told ++ t ∷ []) l has in
      elim (Contains-push_cases s.told t found.0 found.1) [
        | inl before ↦ h.told l (subst (Contains (told_literals s)) found.2 (map_has (λ (u : ToldLiteral). u.literal) s.told found.0 before))
        | inr last ↦ subst (λ m. IsTrue (is_linear_literal m) → IsBoundOf q.numbering ts m) (ap (λ (u : ToldLiteral). u.literal) last ∙ found.2) known
      ]

  told-fewer : (s : Search) (x : Point) (keep : ℕ) → AreKnown s x → (l : Literal) → Contains (map (λ (u : ToldLiteral). u.literal) (filter (λ (u : ToldLiteral). nat_le u.depth keep) s.told)) l
      → IsTrue (is_linear_literal l) → IsBoundOf q.numbering ts l
  told-fewer s x keep h l has =
      let test : ToldLiteral → Bool = λ (u : ToldLiteral). nat_le u.depth keep in
      let found = map_from (λ (u : ToldLiteral). u.literal) (filter test s.told) l has in
      h.told l (subst (Contains (told_literals s)) found.2 (map_has (λ (u : ToldLiteral). u.literal) s.told found.0 (All-contains (Contains s.told) (filter test s.told) found.0 (All-filter test (Contains s.told) s.told (λ i d within. Contains-get_or s.told i d within)) found.1)))

  exchange-known : (s : Search) (x y : Point) (i j : ℕ) → IsExchange q s x y i j → AreKnown s x → AreKnown s y
  exchange-known s x y i j (inr (apart, climbing)) h = absurd (no-climbing s x y i j climbing)
  exchange-known s x y i j (inl (agree, step)) h =
      let place : IsKnownPlace ts s.forms i step.bound =
      tightest-place q.numbering ts s.forms step.side i (told_literals s) h.told step.bound
      (sym (bound-is s.forms x (told_literals s) step.side i) ∙ step.breaks.bounded) in
      record {
        forms = h.forms;
        places =
            subst (AreAtPlaces q.numbering ts s.forms) (sym (ap (λ (p : Position). p.point) step.after))
            (stepped-places q.numbering ts s.forms x i j step.bound place h.places);
        told = h.told;
        under = h.under;
      }

  line-known : (s : Search) (x y : Point) (line : WorkLine Note) → ((l : Literal) → Contains s.atoms l → IsOfTable l) → MayFollow q s x line y → AreKnown s x → AreKnown (after_line s line) y
  line-known s x y (NoteLine (start_note fs places)) atoms may h = record {
    forms = λ f has. All-contains IsKnownIn fs f may.0.may_begin.known has;
    places = λ k v e. may.0.may_begin.places k v (subst (λ (z : Point). z k ≡ Some v) may.1 e);
    told = h.told;
    under = h.under;
  }
  line-known s x y (NoteLine (atom_note l)) atoms may h = let g = at-point s x y may.1 h in record { forms = g.forms; places = g.places; told = g.told; under = g.under }
  line-known s x y (NoteLine (form_note atom)) atoms may h =
      let l = may.0.bound in
      let is : slice_index_or s.atoms atom never ≡ l = get_or_from_slice_get s.atoms atom l never may.0.named in
      let tabled = tabled-if-linear l (atoms l (has_found s.atoms atom l may.0.named)) may.0.linear in
      subst (λ (m : Literal). AreKnown (with_form_joined s (turned (parts_of m))) y) (sym is)
      (form-known s x y l tabled (may.1 ∙ ap (λ (m : Literal). (joined (position_of s x) (turned (parts_of m))).point) is) h)
  line-known s x y (NoteLine (goal_note sum)) atoms may h = absurd (has_none may.0.goal (subst (λ (gs : List Goal). Contains gs may.0.goal) none may.0.listed))
  line-known s x y (NoteLine (under_note ls)) atoms may h =
      let g = at-point s x y may.1 h in
      record { forms = g.forms; places = g.places; told = λ l has. absurd (has_none l has); under = under-terms s x ls may.0 }
  line-known s x y (NoteLine (told_note t)) atoms may h =
      let l = literal_told s t in
      let known = telling-known s atoms h.under t may.0.there in
      record {
        forms = h.forms;
        places = λ k v e. told-places q.numbering ts s.forms x l known h.places k v (subst (λ (z : Point). z k ≡ Some v) may.1 e);
        told = told-more s x (record { depth = length s.decided; literal = l }) h known;
        under = h.under;
      }
  line-known s x y (UnitLine (DecisionEntry atom sign)) atoms may h = let g = at-point s x y may.1 h in record { forms = g.forms; places = g.places; told = g.told; under = g.under }
  line-known s x y (UnitLine (LearnedEntry keep clause)) atoms may h =
      let g = at-point s x y may.1 h in
      record { forms = g.forms; places = g.places; told = told-fewer s x keep h; under = g.under }
  line-known s x y (UnitLine (PivotEntry i j)) atoms may h = exchange-known s x y i j may h
  line-known s x y (UnitLine (BranchEntry atom)) atoms may h = let g = at-point s x y may.1 h in record { forms = g.forms; places = g.places; told = g.told; under = g.under }
  line-known s x y (UnitLine (FoundEntry goal value)) atoms may h = absurd (no-goal goal may.0.goal may.0.listed)

  leads-known : (s : Search) (x y : Point) (lines : List (WorkLine Note)) → Lead q s x lines y → ((l : Literal) → Contains (after_lines s lines).atoms l → IsOfTable l)
      → AreKnown s x → AreKnown (after_lines s lines) y
  leads-known s x y [] (js, drift) atoms h = drifts-known s x y js drift h
  leads-known s x y (line ∷ lines) (start, end, (js, drift), may, legal) atoms h =
      let now : (l : Literal) → Contains s.atoms l → IsOfTable l = λ l has. atoms l (atoms-grow (after_line s line) lines l (atom-grows s line l has)) in
      leads-known (after_line s line) end y lines legal atoms (line-known s start end line now may (drifts-known s x start js drift h))

  nothing-known : AreKnown at_first no_point
  nothing-known = record {
    forms = λ f has. absurd (has_none f has);
    places = λ k v e. absurd (none_some e);
    told = λ l has. absurd (has_none l has);
    under = λ l has. absurd (has_none l has);
  }

  pub lists-known : (lines : List (WorkLine Note)) (y : Point) → Lead q at_first no_point lines y → All IsOfTable (after_lines at_first lines).atoms → AreKnown (after_lines at_first lines) y
  lists-known lines y legal atoms =
      leads-known at_first no_point y lines legal (λ l has. All-contains IsOfTable (after_lines at_first lines).atoms l atoms has) nothing-known
