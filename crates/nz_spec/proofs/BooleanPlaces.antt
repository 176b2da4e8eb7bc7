-- Where no check had numbers, there is no place at which an operation could leave them: all forms are empty, and terms take no operation.
use Rattle.std.proofs.Common.{◌≡◌, ◌⊎◌, ℕ, zero, suc, Bool, true, false, List, [], ◌∷◌, ◌++◌, All, Contains, length, slice_get, Some, pos, inl, inr, refl, sym, ap, ap₂, subst, ◌∙◌, true≢false, arith}
use Rattle.std.specs.Prelude.{flat_map, is_some, if◌then◌else◌}
use Rattle.std.proofs.lemmas.Int.{ints}
use Rattle.std.proofs.lemmas.List.{length-map}
use Rattle.std.proofs.lemmas.List.Elements.{All-contains, Contains-append_cases, Contains-get_or, Contains-push}
use Rattle.nz_lists.proofs.Members.{each_of, has_first, has_found, has_none}
use Rattle.nz_lists.proofs.Numbers.{equal-number}
use Rattle.nz_fractions.specs.Fraction.{Fraction, whole, denominator, neg_ℚ, ◌=ℚ◌, Operation, first_wide}
use Rattle.nz_fractions.proofs.Laws.{=ℚ_sym}
use Rattle.nz_spec.specs.numbers.Computation.{Computation}
use Rattle.nz_spec.specs.terms.Term.{bool_sort, is_bool, Constant, Head, constant, verum, falsum, negation, conjunction, disjunction, exclusion, equality, choice, Term, apply, Terms, no_terms, terms, Assignment, Value, values_of}
use Rattle.nz_spec.specs.terms.Form.{Numbering, Part, unit_form}
use Rattle.nz_spec.specs.terms.FormOf.{form_of}
use Rattle.nz_spec.specs.terms.Operations.{head_operations, operations_of, operations_in}
use Rattle.nz_spec.specs.clauses.Literal.{Literal, Clause}
use Rattle.nz_spec.specs.clauses.LinearLiteral.{tight_form}
use Rattle.nz_spec.specs.clauses.Gates.{IsRow, IsGated, AreGated}
use Rattle.nz_spec.specs.clauses.Farkas.{Multiple, sum_of_multiples}
use Rattle.nz_spec.specs.clauses.Cuts.{cut_clause}
use Rattle.nz_spec.specs.clauses.Goals.{Goal}
use Rattle.nz_spec.specs.simplex.Basis.{alone, form_at, mix, worth, IsBasis}
use Rattle.nz_spec.specs.simplex.BasisMoves.{numbers}
use Rattle.nz_spec.specs.simplex.Bland.{Point, is_nonbasic, value_in, zero_infinitesimal, value_onto}
use Rattle.nz_spec.specs.simplex.Climb.{unit_of}
use Rattle.nz_spec.specs.simplex.Families.{scaled_to_integers}
use Rattle.nz_spec.specs.search.Work.{DecisionEntry, LearnedEntry, PivotEntry, BranchEntry, FoundEntry, WorkLine, UnitLine, NoteLine}
use Rattle.nz_spec.specs.search.Notes.{Note, start_note, atom_note, form_note, goal_note, under_note, told_note, Site, term_site, goal_site, joining_site, exchange_site, value_site, sum_site, cut_site, tight_site, split_site, move_site, limit_site, model_site, worth_site, line_site, goal_line_site, scaling_site}
use Rattle.nz_spec.specs.search.Search.{Task, terms_known, goals_known, Found, Search, at_first, no_point, told_literals, position_of}
use Rattle.nz_spec.specs.search.Beginnings.{IsKnownForm, of_bound, of_goal}
use Rattle.nz_spec.specs.search.Legal.{MayFollow, after_line, after_lines, Lead}
use Rattle.nz_spec.specs.search.Places.{term_operations, IsOfWish, IsOfPenalty, AreMultiplesOf, IsConstantAt, IsDue, IsOperationAt}
use Rattle.nz_spec.specs.laws.LegalWork.{IsOnTerm}
use Rattle.nz_spec.specs.laws.BooleanWork.{IsBooleanTask, IsOfClauses, BooleanWorkIsNeverStopped}
use Rattle.nz_spec.proofs.BasisRows.{coefficients_are_unique, nonbasic_form_is_itself}
use Rattle.nz_spec.proofs.BooleanStates.{gated_rows, no_multiples, IsPlain, asked_listed, gated, on_term, no_goal, no_joining, no_goal_joining, no_bound_stands, no_exchange}
use Rattle.nz_spec.proofs.BooleanWork.{Stands, line_stands, drift_stands, first_stands, of_clauses}
use Rattle.nz_spec.proofs.GateDecisions.{gated_boolean}
use Rattle.nz_spec.proofs.PlainWork.{lines_find}

-- ---- Terms of the gate table

no_form : (number : Numbering) (h : Head) (ts : Terms) → IsRow h ts → (form_of number (apply h ts)).operations ≡ []
no_form number (constant c) no_terms r = refl
no_form number verum no_terms r = refl
no_form number falsum no_terms r = refl
no_form number negation (terms t no_terms) r = refl
no_form number conjunction ts r = refl
no_form number disjunction ts r = refl
no_form number exclusion (terms t (terms u no_terms)) r = refl
no_form number equality (terms t (terms u no_terms)) r = refl
no_form number (choice bool_sort) (terms c (terms t (terms u no_terms))) r = refl
no_form number h ts r = absurd r

no_own : (h : Head) (ts : Terms) (vs : List Value) → IsRow h ts → head_operations h vs ≡ []
no_own (constant c) no_terms vs r = refl
no_own verum no_terms vs r = refl
no_own falsum no_terms vs r = refl
no_own negation (terms t no_terms) vs r = refl
no_own conjunction ts vs r = refl
no_own disjunction ts vs r = refl
no_own exclusion (terms t (terms u no_terms)) vs r = refl
no_own equality (terms t (terms u no_terms)) vs r = refl
no_own (choice bool_sort) (terms c (terms t (terms u no_terms))) vs r = refl
no_own h ts vs r = absurd r

mutual
  -- their values take no operation
  no_operation : (a : Assignment) (t : Term) → IsGated t → operations_of a t ≡ []
  no_operation a (apply h ts) g = ap₂ (λ (os ps : List Operation). os ++ ps) (no_operations a ts g.1) (no_own h ts (values_of a ts) g.0)

  no_operations : (a : Assignment) (ts : Terms) → AreGated ts → operations_in a ts ≡ []
  no_operations a no_terms g = refl
  no_operations a (terms t ts) g = ap₂ (λ (os ps : List Operation). os ++ ps) (no_operation a t g.0) (no_operations a ts g.1)

-- nor do their forms and rows
no_term_operation : (number : Numbering) (t : Term) → IsGated t → term_operations number t ≡ []
no_term_operation number (apply h ts) g =
    ap₂ (λ (os : List Operation) (rows : List (Computation Clause)). os ++ flat_map (λ (c : Computation Clause). c.operations) rows)
    (no_form number h ts g.0) (gated_rows number (apply h ts) g)

empty_list : {A : Type 0} (xs : List A) → length xs ≡ 0 → xs ≡ []
empty_list [] e = refl
empty_list (x ∷ xs) e = absurd (omega (arith, e))

none_wide : (os : List Operation) (op : Operation) → os ≡ [] → first_wide os ≡ Some op → ⊥
unfolding first_wide
none_wide os op none e = true≢false (ap is_some (sym e ∙ ap first_wide none))

-- ---- Empty forms

abbrev AreEmpty : List (List Part) → Type 0
AreEmpty fs = (f : List Part) → Contains fs f → f ≡ []

no_unit : (fs : List (List Part)) (k : ℕ) (u : Term) → AreEmpty fs → slice_get fs k ≡ Some (unit_form u).parts → ⊥
no_unit fs k u empty at =
    let short : length (unit_form u).parts ≡ 0 = ap length (empty (unit_form u).parts (has_found fs k (unit_form u).parts at)) in
    omega (arith, short)

not_one : whole (pos 1) =ℚ whole (pos 0) → ⊥
unfolding denominator
not_one h = let c = h.cross in absurd (omega (arith, ints, c))

-- an empty form is basic
none_nonbasic : (fs : List (List Part)) (x : Point) → IsBasis fs (is_nonbasic x) → AreEmpty fs → (k : ℕ) → is_nonbasic x k ≡ false
none_nonbasic fs x basis empty k = by_test (is_nonbasic x k) refl
  where
    by_test : (b : Bool) → is_nonbasic x k ≡ b → is_nonbasic x k ≡ false
    by_test false e = e
    by_test true e =
        let listed = basis.listed k e in
        let nothing : form_at fs k ≡ [] = empty (form_at fs k) (Contains-get_or fs k [] listed) in
        let row = nonbasic_form_is_itself.row fs (is_nonbasic x) k basis e in
        let zeros = coefficients_are_unique.independent fs (is_nonbasic x) basis (alone k) row.at_basic
        (λ v. subst (λ (f : List Part). mix fs (alone k) v =ℚ worth v f) nothing (=ℚ_sym (row.equal v))) in
        absurd (not_one (subst (λ (b : Bool). (if b then whole (pos 1) else whole (pos 0)) =ℚ whole (pos 0)) (equal-number k k refl) (zeros k)))

none_numbered : (n : ℕ) (test : ℕ → Bool) → ((k : ℕ) → test k ≡ false) → numbers n test ≡ []
none_numbered zero test none = refl
none_numbered (suc n) test none =
    ap (λ (b : Bool). if b then numbers n test ++ n ∷ [] else numbers n test) (none n) ∙ none_numbered n test none

-- ---- Where a check stands

module _ (q : Task) (boolean : IsBooleanTask q) (earlier : All IsGated q.earlier) (no_earlier_goals : q.earlier_goals ≡ []) where
  no_known_form : (f : List Part) → IsKnownForm (terms_known q) (goals_known q) f → ⊥
  no_known_form f (of_bound number l tabled sum) =
      let t = tabled.term in
      let known : IsGated t = elim (Contains-append_cases q.earlier q.listed t tabled.listed) [
        | inl before ↦ All-contains IsGated q.earlier t earlier before
        | inr now ↦ gated q boolean t now
      ] in
      has_none tabled.row (subst (λ (rows : List (Computation Clause)). Contains rows tabled.row) (gated_rows number t known) tabled.tabled)
  no_known_form f (of_goal g has sum) =
      has_none g (subst (λ (gs : List Goal). Contains gs g) (ap₂ (λ (gs hs : List Goal). gs ++ hs) no_earlier_goals boolean.goals) has)

  line_empty : (s : Search) (x y : Point) (line : WorkLine Note) → MayFollow q s x line y → IsPlain q boolean s → AreEmpty s.forms → AreEmpty (after_line s line).forms
  line_empty s x y (NoteLine (start_note fs places)) may h empty = λ f has.
      elim (All-contains (λ (g : List Part). (g ≡ []) ⊎ IsKnownForm (terms_known q) (goals_known q) g) fs f may.0.may_begin.known has) [
        | inl nothing ↦ nothing
        | inr known ↦ absurd (no_known_form f known)
      ]
  line_empty s x y (NoteLine (atom_note l)) may h empty = empty
  line_empty s x y (NoteLine (form_note atom)) may h empty = absurd (no_joining q boolean s atom h may.0)
  line_empty s x y (NoteLine (goal_note sum)) may h empty = absurd (no_goal_joining q boolean s sum may.0)
  line_empty s x y (NoteLine (under_note ls)) may h empty = empty
  line_empty s x y (NoteLine (told_note t)) may h empty = empty
  line_empty s x y (UnitLine (DecisionEntry atom sign)) may h empty = empty
  line_empty s x y (UnitLine (LearnedEntry keep clause)) may h empty = empty
  line_empty s x y (UnitLine (PivotEntry i j)) may h empty = empty
  line_empty s x y (UnitLine (BranchEntry atom)) may h empty = empty
  line_empty s x y (UnitLine (FoundEntry goal value)) may h empty = empty

  record EndsEmpty (s : Search) (x : Point) : Type 0 where
    stands : Stands q boolean s x
    empty : AreEmpty s.forms

  ends_empty : (s : Search) (x y : Point) (lines : List (WorkLine Note)) → Lead q s x lines y → EndsEmpty s x → EndsEmpty (after_lines s lines) y
  ends_empty s x y [] (js, drift) h = record { stands = drift_stands q boolean s x y js drift h.stands; empty = h.empty }
  ends_empty s x y (line ∷ lines) (start, end, (js, drift), may, legal) h =
      let here = drift_stands q boolean s x start js drift h.stands in
      ends_empty (after_line s line) end y lines legal
      (record { stands = line_stands q boolean s start end line may here; empty = line_empty s start end line may here.plain h.empty })

  -- ---- Sites

  no_wish : (t : Term) (op : Operation) → IsOfWish q t op → ⊥
  no_wish t op wish = no_goal q boolean wish.is_wish.group.goal _ wish.is_wish.goal

  no_penalty : (a : Assignment) (t : Term) (op : Operation) → IsOfPenalty q a t op → ⊥
  no_penalty a t op penalty = no_goal q boolean penalty.is_wish.group.goal _ penalty.is_wish.goal

  -- of a search without a value
  no_steady : (s : Search) (before : List Found) (last : Found) → s.found ≡ [] → s.found ≡ before ++ last ∷ [] → ⊥
  no_steady s before last none found = has_none last (subst (λ (fs : List Found). Contains fs last) (sym found ∙ none) (Contains-push before last))

  tight_on_term : (l : Literal) → IsOnTerm l → (tight_form l).operations ≡ []
  tight_on_term l (t, sign, is) = ap (λ (m : Literal). (tight_form m).operations) is

  -- no form is a constant alone
  no_columns : (s : Search) (forms : List ℕ) → AreEmpty s.forms → ((form : ℕ) → Contains forms form → (c : Constant) × (slice_get s.forms form ≡ Some (unit_form (unit_of c)).parts)) → length forms ≡ 0
  no_columns s [] empty each = refl
  no_columns s (form ∷ forms) empty each = let (c, at) = each form (has_first form forms) in absurd (no_unit s.forms form (unit_of c) empty at)

  module _ (lines : List (WorkLine Note)) (x : Point) (legal : Lead q at_first no_point lines x) where
    abbrev s : Search
    s = after_lines at_first lines

    at_end : EndsEmpty s x
    at_end = ends_empty at_first no_point x lines legal (record { stands = first_stands q boolean; empty = λ f has. absurd (has_none f has) })

    abbrev plain : IsPlain q boolean s
    plain = at_end.stands.plain

    found : s.found ≡ []
    found = lines_find q boolean.goals at_first no_point x lines legal refl

    none_multiplied : (ms : List Multiple) → AreMultiplesOf (told_literals s) ms → ms ≡ []
    none_multiplied ms h =
        no_multiples ms h.multiplied (λ m has. plain.told m.literal (All-contains (λ (n : Multiple). Contains (told_literals s) n.literal) ms m h.told has))

    nowhere : (site : Site) (op : Operation) → IsDue q lines s x site → IsOperationAt q s x site op → ⊥
    nowhere (term_site t) op due at =
        elim at.of [
          | inl own ↦ has_none op (subst (λ (os : List Operation). Contains os op) (no_term_operation q.numbering t (gated q boolean t at.listed)) own)
          | inr wish ↦ no_wish t op wish
        ]
    nowhere (goal_site goal) op due at = no_goal q boolean at.comparison.goal at.comparison.which at.comparison.listed
    nowhere joining_site op (front, ends) at = by_line ends
      where
        each : (line : WorkLine Note) → Contains lines line → IsOfClauses line
        each = each_of IsOfClauses lines (of_clauses q boolean at_first no_point x lines legal (first_stands q boolean))

        by_line : ((atom : ℕ) × (lines ≡ front ++ NoteLine (form_note atom) ∷ [])) ⊎ ((sum : List Part) × (lines ≡ front ++ NoteLine (goal_note sum) ∷ [])) → ⊥
        by_line (inl (atom, is)) = each (NoteLine (form_note atom)) (subst (λ (ls : List (WorkLine Note)). Contains ls (NoteLine (form_note atom))) (sym is) (Contains-push front (NoteLine (form_note atom))))
        by_line (inr (sum, is)) = each (NoteLine (goal_note sum)) (subst (λ (ls : List (WorkLine Note)). Contains ls (NoteLine (goal_note sum))) (sym is) (Contains-push front (NoteLine (goal_note sum))))
    nowhere (exchange_site leaves enters) op (y, exchange) at = no_exchange q boolean s x y leaves enters plain exchange
    nowhere (value_site form) op due at =
        let none = none_numbered (length s.forms) (is_nonbasic x) (none_nonbasic s.forms x at_end.stands.basis.basis at_end.empty) in
        has_none op
        (subst (λ (os : List Operation). Contains os op)
        (ap (λ (ks : List ℕ). (value_onto (at.rows form) (value_in x) zero_infinitesimal ks).operations) none) at.of)
    nowhere (sum_site ms) op due at =
        none_wide [] op refl (subst (λ (ns : List Multiple). first_wide (sum_of_multiples at.number ns).operations ≡ Some op) (none_multiplied ms at.multiples) at.first)
    nowhere (cut_site ms) op due at =
        none_wide [] op refl (subst (λ (ns : List Multiple). first_wide (cut_clause at.number ns).operations ≡ Some op) (none_multiplied ms at.multiples) at.first)
    nowhere (tight_site l) op due at =
        none_wide (tight_form l).operations op
        (tight_on_term l (on_term q boolean l (elim at.named [ inl atom ↦ plain.atoms l atom | inr under ↦ asked_listed q boolean l (plain.under l under) ]))) at.first
    nowhere (split_site u) op due at =
        true≢false (sym (gated_boolean u (gated q boolean u at.listed)) ∙ ap is_bool at.integer)
    nowhere (move_site form moves side) op due at = no_bound_stands q boolean s x side form at.bound plain at.bounded
    nowhere (limit_site form side) op due at = no_bound_stands q boolean s x side form at.is_pair.bound plain at.is_pair.bounded
    nowhere (model_site form) op due at = no_unit s.forms form _ at_end.empty at.is
    nowhere (worth_site t bs) op due at =
        elim at.of [
          | inl first ↦ none_wide _ op (no_operation _ t (gated q boolean t at.listed)) first
          | inr penalty ↦ no_penalty _ t op penalty
        ]
    nowhere (line_site t f) op due at = no_steady s at.steady.before at.steady.last found at.steady.found
    nowhere (goal_line_site goal f) op due at = no_steady s at.steady.before at.steady.last found at.steady.found
    nowhere (scaling_site forms moves) op due at =
        let column = at.of_column in
        let none : length forms ≡ 0 = no_columns s forms at_end.empty (λ form has. All-contains (λ (k : ℕ). (c : Constant) × IsConstantAt (position_of s x) k c) forms form column.constants has) in
        let few : length at.numbers ≡ length column.column = elim column.turned [
          | inl same ↦ ap length same
          | inr negated ↦ ap length negated ∙ length-map column.column neg_ℚ
        ] in
        none_wide [] op refl
        (subst (λ (qs : List Fraction). first_wide (scaled_to_integers qs).operations ≡ Some op) (empty_list at.numbers (few ∙ column.as_many ∙ none)) at.first)

pub boolean_work_is_never_stopped : BooleanWorkIsNeverStopped
boolean_work_is_never_stopped q work place boolean earlier none h =
    nowhere q boolean earlier none work.lines h.legal.point h.legal.lead place.site place.operation h.due h.at
