-- Where a check over Booleans alone stands: its atoms are on listed terms, so nothing bounds a sum, no forms are exchanged, and it never branches.
use Rattle.std.proofs.Common.{◌≡◌, ◌⊎◌, ℕ, Bool, true, false, List, [], ◌∷◌, ◌++◌, Contains, length, map, nat_le, filter, slice_get, slice_index_or, Option, Some, None, ℤ, pos, ◌+ℤ◌, inl, inr, refl, sym, ap, subst, ◌∙◌, true≢false, arith}
use Rattle.std.specs.Prelude.{not, ◌&&◌, fold, is_some, if◌then◌else◌}
use Rattle.std.specs.List.{list_all, list_any}
use Rattle.std.proofs.lemmas.Bool.{and_parts}
use Rattle.std.proofs.lemmas.Int.{ints}
use Rattle.std.proofs.lemmas.Option.{slice_get-get_or}
use Rattle.std.proofs.lemmas.List.Elements.{All-contains, Contains-append_right, Contains-get_or, Contains-push_cases}
use Rattle.std.proofs.lemmas.List.Folds.{Any-from_list_any}
use Rattle.nz_lists.proofs.Members.{has_first, has_found, has_more, has_none, map_from, map_has}
use Rattle.nz_fractions.specs.Fraction.{Fraction, whole, ◌=ℚ◌, ◌*ℚ◌}
use Rattle.nz_fractions.proofs.Laws.{=ℚ_refl, =ℚ_sym}
use Rattle.nz_fractions.proofs.Arithmetic.{*ℚ-same}
use Rattle.nz_fractions.proofs.Identities.{zero_times}
use Rattle.nz_fractions.proofs.Solver.{◌∙ℚ◌}
use Rattle.nz_spec.specs.numbers.Computation.{Computation, in_turn}
use Rattle.nz_spec.specs.numbers.Infinitesimal.{Infinitesimal, ◌=δ◌}
use Rattle.nz_spec.specs.terms.Term.{Sort, bool_sort, int_sort, real_sort, Head, constant, verum, falsum, negation, conjunction, disjunction, exclusion, equality, choice, Term, apply, Terms, no_terms, terms, sort_of, is_bool, are_same_sort}
use Rattle.nz_spec.specs.terms.Form.{Numbering, Part}
use Rattle.nz_spec.specs.terms.FormOf.{is_taken_whole}
use Rattle.nz_spec.specs.terms.Same.{are_same_term}
use Rattle.nz_spec.specs.clauses.Literal.{Literal, term_literal, Clause}
use Rattle.nz_spec.specs.clauses.LinearLiteral.{parts_of}
use Rattle.nz_spec.specs.clauses.Gates.{holds, is_boolean_term, IsRow, IsGated, AreGated}
use Rattle.nz_spec.specs.clauses.Links.{link_clauses}
use Rattle.nz_spec.specs.clauses.Units.{unit_clauses}
use Rattle.nz_spec.specs.clauses.Farkas.{Multiple, Bound, empty_bound, is_linear_literal, is_multiple, sum_of_multiples}
use Rattle.nz_spec.specs.clauses.Goals.{Goal}
use Rattle.nz_spec.specs.simplex.Basis.{weighted}
use Rattle.nz_spec.specs.simplex.Bland.{Point, Position, Side, bound_on, is_nonbasic, value_in, standing, zero_infinitesimal, HasBasis, ◌<δ◌}
use Rattle.nz_spec.specs.simplex.LiteralBounds.{is_unit_form, with_bound_said, tightest}
use Rattle.nz_spec.specs.search.Work.{DecisionEntry, LearnedEntry, PivotEntry, BranchEntry, FoundEntry, WorkLine, UnitLine, NoteLine}
use Rattle.nz_spec.specs.search.Notes.{Telling, told_atom, told_under, Note, start_note, atom_note, form_note, goal_note, under_note, told_note}
use Rattle.nz_spec.specs.search.Branches.{Branch, branch_at, is_plain, is_integer_of}
use Rattle.nz_spec.specs.search.Search.{Task, literals_asked, ToldLiteral, Search, never, signed_literal, tight_if, literal_told, told_literals, position_of}
use Rattle.nz_spec.specs.search.Atoms.{IsBoundOf, LiesBetween, IsInTurn, on_unit, on_cut, MayBranch, MayBranchOn, branch_by, IsAtom, of_term, of_table, of_beginning, of_split, of_branch}
use Rattle.nz_spec.specs.search.Beginnings.{IsComparison, MayJoin, MayJoinGoal, MaySearchUnder, MayClimbUnder, MayGoUnder}
use Rattle.nz_spec.specs.search.Legal.{IsThere, IsExchange, MayFollow, after_line}
use Rattle.nz_spec.specs.laws.LegalWork.{IsOnTerm}
use Rattle.nz_spec.specs.laws.BooleanWork.{IsOfListed, IsBooleanTask}
use Rattle.nz_spec.proofs.BasisRows.{coefficients_are_unique}
use Rattle.nz_spec.proofs.BasisSums.{sum-zero}
use Rattle.nz_spec.proofs.BlandBounds.{bounds_say_what_they_mean}
use Rattle.nz_spec.proofs.FlatLists.{filter_from}
use Rattle.nz_spec.proofs.GateDecisions.{gated_boolean}
use Rattle.nz_spec.proofs.InfinitesimalMoves.{infinitesimals_move}
use Rattle.nz_spec.proofs.InfinitesimalOrder.{=δ_trans}
use Rattle.nz_spec.proofs.IntegerSums.{from_whole_lt}
use Rattle.nz_spec.proofs.KnownStarts.{nothing-at}
use Rattle.nz_spec.proofs.Same.{same_term}
use Rattle.nz_spec.proofs.ToldBounds.{bound-is}

-- ---- Tables

abbrev rows_of : Numbering → Term → List (Computation Clause)
rows_of number t = link_clauses number t ++ unit_clauses number t

none_if : {A : Type 0} (b : Bool) (xs : List A) → b ≡ true → (if b then [] else xs) ≡ []
none_if true xs e = refl
none_if false xs e = absurd (true≢false (sym e))

no_row : (number : Numbering) (h : Head) (ts : Terms) → IsRow h ts → AreGated ts → rows_of number (apply h ts) ≡ []
no_row number (constant c) no_terms r g = refl
no_row number verum no_terms r g = refl
no_row number falsum no_terms r g = refl
no_row number negation (terms t no_terms) r g = refl
no_row number conjunction ts r g = refl
no_row number disjunction ts r g = refl
no_row number exclusion (terms t (terms u no_terms)) r g = refl
no_row number equality (terms t (terms u no_terms)) r g =
    ap (λ (rows : List (List (Computation Literal))). map in_turn rows ++ []) (none_if (is_boolean_term t) _ (gated_boolean t g.0))
no_row number (choice bool_sort) (terms c (terms t (terms u no_terms))) r g = refl
no_row number h ts r g = absurd r

-- the tables of numbers have no row of a term of the gate table
pub gated_rows : (number : Numbering) (t : Term) → IsGated t → rows_of number t ≡ []
gated_rows number (apply h ts) g = no_row number h ts g.0 g.1

-- ---- Bounds

-- a literal on a term bounds nothing
term_bounds : (fs : List (List Part)) (side : Side) (k : ℕ) (o : Option Infinitesimal) (l : Literal) → IsOnTerm l → with_bound_said fs side k o l ≡ o
term_bounds fs side k o l (t, sign, is) = ap (with_bound_said fs side k o) is

none_bound : (fs : List (List Part)) (side : Side) (k : ℕ) (o : Option Infinitesimal) (ls : List Literal) → ((l : Literal) → Contains ls l → IsOnTerm l)
    → fold (with_bound_said fs side k) o ls ≡ o
none_bound fs side k o [] on = refl
none_bound fs side k o (l ∷ ls) on =
    ap (λ (p : Option Infinitesimal). fold (with_bound_said fs side k) p ls) (term_bounds fs side k o l (on l (has_first l ls)))
    ∙ none_bound fs side k o ls (λ m has. on m (has_more l m ls has))

not_linear : (l : Literal) → IsOnTerm l → is_linear_literal l ≡ true → ⊥
not_linear l (t, sign, is) linear = true≢false (sym linear ∙ ap is_linear_literal is)

-- no multiples of such literals
pub no_multiples : (ms : List Multiple) → list_all is_multiple ms ≡ true → ((m : Multiple) → Contains ms m → IsOnTerm m.literal) → ms ≡ []
no_multiples [] all on = refl
no_multiples (m ∷ ms) all on =
    let first = and_parts (is_multiple m) (list_all is_multiple ms) all in
    absurd (not_linear m.literal (on m (has_first m ms)) (and_parts (is_linear_literal m.literal) _ first.0).0)

-- ---- The sum of nothing

-- it lies between no two integers
nothing_between : (p : Position) (k : ℤ) → HasBasis p → LiesBetween p (record { parts = []; above = k }) → ⊥
nothing_between p k basis between =
    let has = between.has in
    let zeros : (i : ℕ) → has.row i =ℚ whole (pos 0) =
    coefficients_are_unique.independent p.forms (is_nonbasic p.point) basis has.row has.at_basic (λ v. =ℚ_sym (has.equal v)) in
    let nothing : (y : ℕ → Fraction) → weighted (length p.forms) has.row y =ℚ whole (pos 0) =
    λ y. sum-zero (length p.forms) (λ i. has.row i *ℚ y i) (λ i below. *ℚ-same (zeros i) (=ℚ_refl (y i)) ∙ℚ zero_times (y i)) in
    let value : between.value =δ zero_infinitesimal =
    =δ_trans has.at (record { standard = nothing (λ i. (value_in p.point i).standard); coefficient = nothing (λ i. (value_in p.point i).coefficient) }) in
    let zero_itself = infinitesimals_move.itself zero_infinitesimal in
    let low : standing (whole k) <δ zero_infinitesimal =
    sym (infinitesimals_move.ordered (standing (whole k)) (standing (whole k)) between.value zero_infinitesimal (infinitesimals_move.itself (standing (whole k))) value) ∙ between.above in
    let next = standing (whole (k +ℤ pos 1)) in
    let high : zero_infinitesimal <δ next =
    sym (infinitesimals_move.ordered between.value zero_infinitesimal next next value (infinitesimals_move.itself next)) ∙ between.below in
    let below_zero = from_whole_lt k (pos 0) ((bounds_say_what_they_mean.at_most (whole (pos 0)) (whole k)).0 low) in
    let above_zero = from_whole_lt (pos 0) (k +ℤ pos 1) ((bounds_say_what_they_mean.at_least (whole (pos 0)) (whole (k +ℤ pos 1))).0 high) in
    omega (arith, ints, below_zero, above_zero)

-- ---- Where a check stands

signed_on_term : (l : Literal) (sign is_tight : Bool) → IsOnTerm l → IsOnTerm (tight_if is_tight (signed_literal l sign))
signed_on_term l sign is_tight (t, own, is) =
    subst (λ (m : Literal). IsOnTerm (tight_if is_tight (signed_literal m sign))) (sym is) (by_tests sign is_tight)
  where
    by_tests : (b c : Bool) → IsOnTerm (tight_if c (signed_literal (term_literal t own) b))
    by_tests true true = (t, own, refl)
    by_tests true false = (t, own, refl)
    by_tests false true = (t, not own, refl)
    by_tests false false = (t, not own, refl)

module _ (q : Task) (boolean : IsBooleanTask q) where
  pub asked_listed : (l : Literal) → Contains (literals_asked q) l → IsOfListed q l
  asked_listed l has = All-contains (IsOfListed q) (literals_asked q) l boolean.asked has

  pub on_term : (l : Literal) → IsOfListed q l → IsOnTerm l
  on_term l (t, sign, has, is) = (t, sign, is)

  -- It goes under what is asked for, its atoms are on listed terms, nothing that its simplex was told bounds a sum, and it never branched.
  pub record IsPlain (s : Search) : Type 0 where
    pub under : (l : Literal) → Contains s.under l → Contains (literals_asked q) l
    pub atoms : (l : Literal) → Contains s.atoms l → IsOfListed q l
    pub told : (l : Literal) → Contains (told_literals s) l → IsOnTerm l
    pub branches : s.branches ≡ []

  pub no_goal : (i : ℕ) (g : Goal) → slice_get q.goals i ≡ Some g → ⊥
  no_goal i g at = nothing-at i g (subst (λ (gs : List Goal). slice_get gs i ≡ Some g) boolean.goals at)

  pub gated : (t : Term) → Contains q.listed t → IsGated t
  gated t has = All-contains IsGated q.listed t boolean.gated has

  -- no bound is of the tables
  no_bound : (number : Numbering) (l : Literal) → IsBoundOf number q.listed l → ⊥
  no_bound number l h =
      let t = h.tabled in
      has_none t.row (subst (λ (rows : List (Computation Clause)). Contains rows t.row) (gated_rows number t.term (gated t.term t.listed)) t.tabled)

  -- no listed term is an integer unit
  no_integer : (u : Term) → is_integer_of q.listed u ≡ true → ⊥
  no_integer u e =
      let rest = (and_parts (is_taken_whole u) (are_same_sort (sort_of u) int_sort && list_any (are_same_term u) q.listed) e).1 in
      let both = and_parts (are_same_sort (sort_of u) int_sort) (list_any (are_same_term u) q.listed) rest in
      let found = Any-from_list_any (are_same_term u) q.listed both.1 in
      let there : Contains q.listed u = subst (Contains q.listed) (sym (same_term u found.1 found.4)) (found.0, found.2, found.3) in
      not_both (sort_of u) (gated_boolean u (gated u there)) both.0
    where
      not_both : (s : Sort) → is_bool s ≡ true → are_same_sort s int_sort ≡ true → ⊥
      not_both bool_sort e f = true≢false (sym f)
      not_both int_sort e f = true≢false (sym e)
      not_both real_sort e f = true≢false (sym e)

  not_plain : (ps : List Part) → is_plain q.listed ps ≡ true → ⊥
  not_plain [] e = true≢false (sym e)
  not_plain (p ∷ ps) e = no_integer p.unit (and_parts (is_unit_form (p ∷ ps)) (is_integer_of q.listed p.unit) e).1

  -- a search doesn't branch
  no_branch : (s : Search) (x : Point) (l : Literal) → HasBasis (position_of s x) → IsPlain s → MayBranch q s x l → ⊥
  no_branch s x l basis plain may = by_turn may.turn
    where
      by_turn : IsInTurn q s x l (branch_at may.parts may.above) → ⊥
      by_turn (on_unit unit) = not_plain (branch_at may.parts may.above).parts unit
      by_turn (on_cut other cut before) =
          let none : cut.multiples ≡ [] =
          no_multiples cut.multiples cut.multiplied
          (λ m has. plain.told m.literal (All-contains (λ (n : Multiple). Contains (told_literals s) n.literal) cut.multiples m cut.told has)) in
          let sum : cut.sum ≡ empty_bound = sym cut.sums ∙ ap (λ (ms : List Multiple). (sum_of_multiples cut.numbering ms).result) none in
          let parts : may.parts ≡ [] = ap parts_of (sym may.is ∙ cut.says) ∙ ap (λ (b : Bound). b.parts) sum in
          nothing_between (position_of s x) may.above basis (subst (λ (ps : List Part). LiesBetween (position_of s x) (branch_at ps may.above)) parts may.between)

  -- no form joins
  pub no_joining : (s : Search) (atom : ℕ) → IsPlain s → MayJoin s atom → ⊥
  no_joining s atom plain may = not_linear may.bound (on_term may.bound (plain.atoms may.bound (has_found s.atoms atom may.bound may.named))) may.linear

  pub no_goal_joining : (s : Search) (sum : List Part) → MayJoinGoal q s sum → ⊥
  no_goal_joining s sum may = has_none may.goal (subst (λ (gs : List Goal). Contains gs may.goal) boolean.goals may.listed)

  -- no bound stands
  pub no_bound_stands : (s : Search) (x : Point) (side : Side) (k : ℕ) (bound : Infinitesimal) → IsPlain s → bound_on side (position_of s x) k ≡ Some bound → ⊥
  no_bound_stands s x side k bound plain bounded =
      let none : tightest s.forms (told_literals s) side k ≡ None = none_bound s.forms side k None (told_literals s) plain.told in
      true≢false (ap is_some (sym bounded ∙ bound-is s.forms x (told_literals s) side k ∙ none))

  -- nor are forms exchanged
  pub no_exchange : (s : Search) (x y : Point) (i j : ℕ) → IsPlain s → IsExchange q s x y i j → ⊥
  no_exchange s x y i j plain (inl (agree, step)) = no_bound_stands s x step.side i step.bound plain step.breaks.bounded
  no_exchange s x y i j plain (inr (apart, climbing)) = no_goal climbing.sought.last.goal climbing.sought.goal climbing.sought.listed

  pub no_branching : (s : Search) (x : Point) (atom : ℕ) → HasBasis (position_of s x) → IsPlain s → MayBranchOn q s x atom → ⊥
  no_branching s x atom basis plain may =
      let last = may.last in
      let l = slice_index_or s.atoms atom never in
      no_branch s x l basis plain (may.may l (slice_get-get_or s.atoms atom never (omega (arith, last))))

  named_plain : (s : Search) (x : Point) (l : Literal) → HasBasis (position_of s x) → IsPlain s → IsAtom q s x l → IsOfListed q l
  named_plain s x l basis plain (of_term truth) = (truth.term, true, truth.listed, truth.is)
  named_plain s x l basis plain (of_table bound) = absurd (no_bound q.numbering l bound)
  named_plain s x l basis plain (of_beginning has) = asked_listed l (plain.under l has)
  named_plain s x l basis plain (of_split may) = absurd (no_branch s x l basis plain may)
  named_plain s x l basis plain (of_branch m has there is) = absurd (has_none (branch_by m) (subst (λ (bs : List Branch). Contains bs (branch_by m)) plain.branches there))

  under_plain : (s : Search) (x : Point) (ls : List Literal) → MayGoUnder q s x ls → (l : Literal) → Contains ls l → Contains (literals_asked q) l
  under_plain s x ls may l has = by_kind may.literals
    where
      by_kind : MaySearchUnder q s x ls ⊎ MayClimbUnder q s ls → Contains (literals_asked q) l
      by_kind (inl search) =
          elim (All-contains (λ (m : Literal). Contains q.assumed m ⊎ IsComparison q s x m) ls l search has) [
            | inl assumed ↦ Contains-append_right (map holds q.asserted) q.assumed l assumed
            | inr comparison ↦ absurd (no_goal comparison.goal comparison.which comparison.listed)
          ]
      by_kind (inr climb) = absurd (no_goal climb.is_member.last.goal climb.goal climb.is_member.listed)

  telling_plain : (s : Search) → IsPlain s → (t : Telling) → IsThere s t → IsOnTerm (literal_told s t)
  telling_plain s plain (told_atom atom sign is_tight) there =
      let l = slice_index_or s.atoms atom never in
      signed_on_term l sign is_tight (on_term l (plain.atoms l (Contains-get_or s.atoms atom never there)))
  telling_plain s plain (told_under place) there =
      let l = slice_index_or s.under place never in
      on_term l (asked_listed l (plain.under l (Contains-get_or s.under place never there)))

  -- what is told, with one more literal, and with fewer
  told_more : (s : Search) (t : ToldLiteral) → IsPlain s → IsOnTerm t.literal → (l : Literal) → Contains (map (λ (u : ToldLiteral). u.literal) (s.told ++ t ∷ [])) l → IsOnTerm l
  told_more s t plain on l has =
      let found = map_from (λ (u : ToldLiteral). u.literal) (s.told ++ t ∷ []) l has in
      elim (Contains-push_cases s.told t found.0 found.1) [
        | inl before ↦ plain.told l (subst (Contains (told_literals s)) found.2 (map_has (λ (u : ToldLiteral). u.literal) s.told found.0 before))
        | inr last ↦ subst IsOnTerm (ap (λ (u : ToldLiteral). u.literal) last ∙ found.2) on
      ]

  told_fewer : (s : Search) (keep : ℕ) → IsPlain s → (l : Literal)
      → Contains (map (λ (u : ToldLiteral). u.literal) (filter (λ (u : ToldLiteral). nat_le u.depth keep) s.told)) l → IsOnTerm l
  told_fewer s keep plain l has =
      let found = map_from (λ (u : ToldLiteral). u.literal) (filter (λ (u : ToldLiteral). nat_le u.depth keep) s.told) l has in
      let there = (filter_from (λ (u : ToldLiteral). nat_le u.depth keep) s.told found.0 found.1).0 in
      plain.told l (subst (Contains (told_literals s)) found.2 (map_has (λ (u : ToldLiteral). u.literal) s.told found.0 there))

  pub line_plain : (s : Search) (x y : Point) (line : WorkLine Note) → HasBasis (position_of s x) → MayFollow q s x line y → IsPlain s → IsPlain (after_line s line)
  line_plain s x y (NoteLine (start_note fs places)) basis may h = record { under = h.under; atoms = h.atoms; told = h.told; branches = h.branches }
  line_plain s x y (NoteLine (atom_note l)) basis may h = record {
    under = h.under;
    atoms = λ m has. elim (Contains-push_cases s.atoms l m has) [
      | inl before ↦ h.atoms m before
      | inr last ↦ subst (IsOfListed q) last (named_plain s x l basis h may.0.atom)
    ];
    told = h.told;
    branches = h.branches;
  }
  line_plain s x y (NoteLine (form_note atom)) basis may h = absurd (no_joining s atom h may.0)
  line_plain s x y (NoteLine (goal_note sum)) basis may h = absurd (no_goal_joining s sum may.0)
  line_plain s x y (NoteLine (under_note ls)) basis may h =
      record { under = under_plain s x ls may.0; atoms = h.atoms; told = λ l has. absurd (has_none l has); branches = h.branches }
  line_plain s x y (NoteLine (told_note t)) basis may h =
      let l = literal_told s t in
      record {
        under = h.under;
        atoms = h.atoms;
        told = told_more s (record { depth = length s.decided; literal = l }) h (telling_plain s h t may.0.there);
        branches = h.branches;
      }
  line_plain s x y (UnitLine (DecisionEntry atom sign)) basis may h = record { under = h.under; atoms = h.atoms; told = h.told; branches = h.branches }
  line_plain s x y (UnitLine (LearnedEntry keep clause)) basis may h =
      record { under = h.under; atoms = h.atoms; told = told_fewer s keep h; branches = h.branches }
  line_plain s x y (UnitLine (PivotEntry i j)) basis may h = absurd (no_exchange s x y i j h may)
  line_plain s x y (UnitLine (BranchEntry atom)) basis may h = absurd (no_branching s x atom basis h may.0)
  line_plain s x y (UnitLine (FoundEntry goal value)) basis may h = absurd (no_goal goal may.0.goal may.0.listed)
