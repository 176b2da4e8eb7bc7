-- Branches of legal lists: those on units are gaps of the asserted ranges and stand once, and of two neighbours one is on a unit.
use Rattle.std.proofs.Common.{◌≡◌, ℕ, suc, ◌+◌, Bool, true, false, not, ◌&&◌, List, [], ◌∷◌, ◌++◌, length, map, flat_map, All, Contains, slice_get, slice_index_or, Option, Some, None, ℤ, pos, ◌+ℤ◌, ◌≤ℤ◌, ◌<ℤ◌, inl, inr, refl, sym, ap, ap₂, subst, ◌∙◌, true≢false, arith, length-append}
use Rattle.std.specs.Prelude.{option_map, unwrap_or, is_some, count_by, cond, if◌then◌else◌}
use Rattle.std.specs.List.{list_any}
use Rattle.std.proofs.lemmas.Bool.{and_parts}
use Rattle.std.proofs.lemmas.Int.{ints, by_lt_z}
use Rattle.std.proofs.lemmas.List.{length-map}
use Rattle.std.proofs.lemmas.List.Elements.{All-contains}
use Rattle.std.proofs.lemmas.List.Sums.{sum_by-cons}
use Rattle.std.proofs.lemmas.Option.{slice_get_within, slice_get-get_or, slice_get-map}
use Rattle.nz_lists.proofs.Members.{has_first, has_found}
use Rattle.nz_lists.proofs.Places.{slice_get-push_cases}
use Rattle.nz_fractions.specs.Fraction.{Fraction, whole, ◌=ℚ◌, ◌≤ℚ◌, neg_ℚ, floor, outcome, Difference}
use Rattle.nz_fractions.proofs.Laws.{=ℚ_refl, =ℚ_sym, =ℚ_trans, =ℚ-from_same, ≤ℚ-from_eq, ≤ℚ_trans, ≤ℚ-<ℚ_trans, <ℚ_irrefl}
use Rattle.nz_fractions.proofs.Arithmetic.{+ℚ-zero, +ℚ-same, neg_ℚ-same, outcome-difference}
use Rattle.nz_fractions.proofs.FloorsAndCeilings.{rounds}
use Rattle.nz_fractions.proofs.Identities.{neg-back, neg-zero, zero_left}
use Rattle.nz_spec.specs.numbers.Computation.{Computation, at_once, and_then}
use Rattle.nz_spec.specs.numbers.Infinitesimal.{Infinitesimal}
use Rattle.nz_spec.specs.terms.Term.{Term, apply, at_most, terms, no_terms, int_sort, are_same_sort, sort_of}
use Rattle.nz_spec.specs.terms.Linear.{head_constant, constant_values}
use Rattle.nz_spec.specs.terms.Form.{Numbering, Part, Form, constant_form, unit_form, negated_part, joined}
use Rattle.nz_spec.specs.terms.FormOf.{is_opened, head_form, form_of, forms_of, is_taken_whole}
use Rattle.nz_spec.specs.terms.Same.{are_same_term}
use Rattle.nz_spec.specs.clauses.Literal.{Literal, is_at_most}
use Rattle.nz_spec.specs.clauses.LinearLiteral.{is_at_most_zero}
use Rattle.nz_spec.specs.clauses.Links.{at_most_literal}
use Rattle.nz_spec.specs.simplex.Bland.{Point, Position, ◌<δ◌, standing}
use Rattle.nz_spec.specs.simplex.LiteralBounds.{is_unit_form}
use Rattle.nz_spec.specs.search.Work.{DecisionEntry, LearnedEntry, PivotEntry, BranchEntry, FoundEntry, WorkLine, UnitLine, NoteLine}
use Rattle.nz_spec.specs.search.Notes.{Note, start_note, atom_note, form_note, goal_note, under_note, told_note}
use Rattle.nz_spec.specs.search.Branches.{Branch, branch_at, is_integer_of, is_plain, Gap, gap_of, Range, gaps_of, AreApart}
use Rattle.nz_spec.specs.search.Search.{Task, Search, at_first, no_point, never, position_of, HasWorth}
use Rattle.nz_spec.specs.search.Atoms.{IsBroken, LiesBetween, IsInTurn, on_unit, on_cut, HasUnit, bounds_asserted, MayBranch, branch_by, MayBranchOn}
use Rattle.nz_spec.specs.search.Legal.{MayFollow, after_line, after_lines, Lead}
use Rattle.nz_spec.specs.laws.LegalWork.{is_branch, IsAssertedRange, LegalBranchesAreFew}
use Rattle.nz_spec.proofs.BlandBounds.{bounds_say_what_they_mean}
use Rattle.nz_spec.proofs.FlatLists.{flat_has}
use Rattle.nz_spec.proofs.Gaps.{gap_in_range, branches_are_few}
use Rattle.nz_spec.proofs.InfinitesimalOrder.{AtMost, not_less, at_most-less, less-at_most}
use Rattle.nz_spec.proofs.IntegerSums.{whole_le, whole_lt, from_whole_lt}
use Rattle.nz_spec.proofs.LegalWork.{once_more}
use Rattle.nz_spec.proofs.Literals.{same_parts}
use Rattle.nz_spec.proofs.SameSums.{negated_broken}

-- ---- Branches and their gaps

-- a branch on an integer unit, between the integers of the gap
record IsAt (ts : List Term) (ps : List Part) (k : ℤ) (g : Gap) : Type 0 where
  parts : ps ≡ (unit_form g.unit).parts
  above : k ≡ g.above
  integer : is_integer_of ts g.unit ≡ true

plain-gap : (ts : List Term) (p : Part) (ps : List Part) (k : ℤ) → is_plain ts (p ∷ ps) ≡ true → IsAt ts (p ∷ ps) k (record { unit = p.unit; above = k })
plain-gap ts p ps k e =
    let both = and_parts (is_unit_form (p ∷ ps)) (is_integer_of ts p.unit) e in
    record { parts = same_parts (p ∷ ps) (unit_form p.unit).parts both.0; above = refl; integer = both.1 }

gap-is : (ts : List Term) (ps : List Part) (k : ℤ) (g : Gap) → gap_of ts (record { parts = ps; above = k }) ≡ Some g → IsAt ts ps k g
gap-is ts [] k g e = cc
gap-is ts (p ∷ ps) k g e = by_test (is_plain ts (p ∷ ps)) refl e
  where
    own : Gap
    own = record { unit = p.unit; above = k }

    by_test : (t : Bool) → is_plain ts (p ∷ ps) ≡ t → (if t then Some own else None) ≡ Some g → IsAt ts (p ∷ ps) k g
    by_test true plain h = subst (IsAt ts (p ∷ ps) k) (ap (λ (o : Option Gap). unwrap_or o own) h) (plain-gap ts p ps k plain)
    by_test false plain h = cc

plain-some : (ts : List Term) (ps : List Part) (k : ℤ) → is_plain ts ps ≡ true → gap_of ts (record { parts = ps; above = k }) ≡ None → ⊥
plain-some ts [] k plain none = true≢false (sym plain)
plain-some ts (p ∷ ps) k plain none = by_test (is_plain ts (p ∷ ps)) plain none
  where
    own : Gap
    own = record { unit = p.unit; above = k }

    by_test : (t : Bool) → t ≡ true → (if t then Some own else None) ≡ None → ⊥
    by_test true e h = true≢false (ap is_some h)
    by_test false e h = true≢false (sym e)

abbrev HaveOneGap : List Term → Branch → Branch → Type 0
HaveOneGap ts b c = (g : Gap) × (gap_of ts b ≡ Some g) × (gap_of ts c ≡ Some g)

one-branch : (ts : List Term) (b c : Branch) → HaveOneGap ts b c → b ≡ c
one-branch ts b c (g, first, second) =
    let one = gap-is ts b.parts b.above g first in
    let other = gap-is ts c.parts c.above g second in
    ap₂ (λ ps k. record { parts = ps; above = k }) (one.parts ∙ sym other.parts) (one.above ∙ sym other.above)

-- ---- Asserted bounds that a branch meets

standing_at_most : (x y : Fraction) → x ≤ℚ y → AtMost (standing x) (standing y)
standing_at_most x y h = not_less (standing x) (standing y) (λ less. <ℚ_irrefl ((bounds_say_what_they_mean.at_least y x).0 less) h)

-- the one part of a unit alone
abbrev one_part : Term → Part
one_part u = record { coefficient = whole (pos 1); unit = u }

-- what the forms of the two sides of an asserted bound leave
abbrev low_limit : ℤ → Fraction
low_limit k = neg_ℚ (outcome Difference (whole k) (whole (pos 0)))

abbrev high_limit : ℤ → Fraction
high_limit k = neg_ℚ (outcome Difference (whole (pos 0)) (whole k))

low_is : (k : ℤ) → neg_ℚ (low_limit k) =ℚ whole k
low_is k =
    =ℚ_trans (=ℚ-from_same (neg-back (outcome Difference (whole k) (whole (pos 0)))))
    (=ℚ_trans (outcome-difference (whole k) (whole (pos 0))) (=ℚ_trans (+ℚ-same (=ℚ_refl (whole k)) neg-zero) (+ℚ-zero (whole k))))

high_is : (k : ℤ) → high_limit k =ℚ whole k
high_is k =
    =ℚ_trans (neg_ℚ-same (=ℚ_trans (outcome-difference (whole (pos 0)) (whole k)) (zero_left (neg_ℚ (whole k))))) (=ℚ-from_same (neg-back (whole k)))

low_literal : (number : Numbering) (t u : Term) (k : ℤ) → (form_of number t).result ≡ constant_form (whole k) → (form_of number u).result ≡ unit_form u
    → (at_most_literal number t u).result ≡ is_at_most (negated_part (one_part u) ∷ []) (low_limit k)
low_literal number t u k constant unit = ap₂ (λ (f g : Form). is_at_most_zero (joined number Difference f g).result) constant unit

high_literal : (number : Numbering) (t u : Term) (k : ℤ) → (form_of number t).result ≡ constant_form (whole k) → (form_of number u).result ≡ unit_form u
    → (at_most_literal number u t).result ≡ is_at_most (one_part u ∷ []) (high_limit k)
high_literal number t u k constant unit = ap₂ (λ (f g : Form). is_at_most_zero (joined number Difference f g).result) unit constant

low_broken : (p : Position) (u : Term) (v : Infinitesimal) (b : Fraction) → HasWorth p (unit_form u).parts v → v <δ standing (neg_ℚ b)
    → IsBroken p (is_at_most (negated_part (one_part u) ∷ []) b)
low_broken p u v b has below = negated_broken p (unit_form u).parts v b has below

high_broken : (p : Position) (u : Term) (v : Infinitesimal) (b : Fraction) → HasWorth p (unit_form u).parts v → standing b <δ v
    → IsBroken p (is_at_most (one_part u ∷ []) b)
high_broken p u v b has above = record { value = v; has = has; outside = above }

floor-whole : (n : ℤ) → floor (whole n) ≡ n
floor-whole n =
    let is = (rounds (whole n)).0 in
    let low = from_whole_lt n (floor (whole n) +ℤ pos 1) is.greatest in
    let high = from_whole_lt (floor (whole n)) (n +ℤ pos 1) (≤ℚ-<ℚ_trans is.at_most (whole_lt n (n +ℤ pos 1) (omega (arith, ints)))) in
    omega (arith, ints, low, high)

-- the form of a unit is the unit alone
whole-form : (number : Numbering) (u : Term) → is_taken_whole u ≡ true → (form_of number u).result ≡ unit_form u
whole-form number (apply h ts) = by_tests (head_constant h (constant_values ts)) (is_opened h)
  where
    own : Form
    own = unit_form (apply h ts)

    by_tests : (c : Option Fraction) (opened : Bool) → (not (is_some c) && not opened) ≡ true
        → let formed : Computation Form =
        elim c [
          | Some q ↦ at_once (constant_form q)
          | None ↦ if opened then and_then (forms_of number ts) (λ fs. head_form number h (constant_values ts) fs own) else at_once own
        ] in
        formed.result ≡ own
    by_tests None false e = refl
    by_tests None true e = absurd (true≢false (sym e))
    by_tests (Some c) opened e = absurd (true≢false (sym e))

integer-form : (number : Numbering) (ts : List Term) (u : Term) → is_integer_of ts u ≡ true → (form_of number u).result ≡ unit_form u
integer-form number ts u e = whole-form number u (and_parts (is_taken_whole u) (are_same_sort (sort_of u) int_sort && list_any (are_same_term u) ts) e).0

module _ (q : Task) (ranges : List Range) (asserted : All (IsAssertedRange q) ranges) (covers : (u : Term) → is_integer_of q.listed u ≡ true → (r : Range) × Contains ranges r × (r.unit ≡ u)) where
  -- the literal of an asserted bound isn't broken where the search branches
  unbroken : (s : Search) (x : Point) (l : Literal) (may : MayBranch q s x l) (a b : Term) (m : Literal) → Contains q.asserted (apply at_most (terms a (terms b no_terms)))
      → (at_most_literal q.numbering a b).result ≡ m → HasUnit m → IsBroken (position_of s x) m → ⊥
  unbroken s x l may a b m has is unit broken =
      let t = apply at_most (terms a (terms b no_terms)) in
      let own = (at_most_literal q.numbering a b).result in
      let there = flat_has (bounds_asserted q.numbering) q.asserted t own has (has_first own []) in
      All-contains (λ (n : Literal). HasUnit n → IsBroken (position_of s x) n → ⊥) (flat_map (bounds_asserted q.numbering) q.asserted) m may.meets
      (subst (Contains (flat_map (bounds_asserted q.numbering) q.asserted)) is there) unit broken

  gap-within : (s : Search) (x : Point) (l : Literal) (may : MayBranch q s x l) (b : Branch) → branch_at may.parts may.above ≡ b → (r : Range) → Contains ranges r → (form_of q.numbering r.unit).result ≡ unit_form r.unit
      → b.parts ≡ (unit_form r.unit).parts → Contains (gaps_of ranges) (record { unit = r.unit; above = b.above })
  gap-within s x l may b is r has unit alone =
      let between = subst (LiesBetween (position_of s x)) is may.between in
      let worth = subst (λ (ps : List Part). HasWorth (position_of s x) ps between.value) alone between.has in
      let bounds = All-contains (IsAssertedRange q) ranges r asserted has in
      let above : r.low ≤ℤ b.above =
      by_lt_z b.above r.low
      (λ less. absurd (unbroken s x l may bounds.low r.unit (is_at_most (negated_part (one_part r.unit) ∷ []) (low_limit r.low)) bounds.low_asserted
      (low_literal q.numbering bounds.low r.unit r.low bounds.low_is unit) refl
      (low_broken (position_of s x) r.unit between.value (low_limit r.low) worth
      (less-at_most between.value (standing (whole (b.above +ℤ pos 1))) (standing (neg_ℚ (low_limit r.low))) between.below
      (standing_at_most (whole (b.above +ℤ pos 1)) (neg_ℚ (low_limit r.low))
      (≤ℚ_trans (whole_le (b.above +ℤ pos 1) r.low (omega (arith, ints, less))) (≤ℚ-from_eq (=ℚ_sym (low_is r.low)))))))))
      (λ le. le) in
      let below : b.above <ℤ r.high =
      by_lt_z b.above r.high (λ less. less)
      (λ le. absurd (unbroken s x l may r.unit bounds.high (is_at_most (one_part r.unit ∷ []) (high_limit r.high)) bounds.high_asserted
      (high_literal q.numbering bounds.high r.unit r.high bounds.high_is unit) refl
      (high_broken (position_of s x) r.unit between.value (high_limit r.high) worth
      (at_most-less (standing (high_limit r.high)) (standing (whole b.above)) between.value
      (standing_at_most (high_limit r.high) (whole b.above) (≤ℚ_trans (≤ℚ-from_eq (high_is r.high)) (whole_le r.high b.above le))) between.above)))) in
      gap_in_range ranges r b.above has above below

  -- ---- Marks

  -- Each gap of a unit is of a range and stands once, and of two neighbours one has a gap.
  record AreMarked (bs : List Branch) : Type 0 where
    within : (i : ℕ) (b : Branch) (g : Gap) → slice_get bs i ≡ Some b → gap_of q.listed b ≡ Some g → Contains (gaps_of ranges) g
    once : (i j : ℕ) (b c : Branch) → slice_get bs i ≡ Some b → slice_get bs j ≡ Some c → HaveOneGap q.listed b c → i ≡ j
    alternate : (i : ℕ) (b c : Branch) → slice_get bs i ≡ Some b → slice_get bs (suc i) ≡ Some c → gap_of q.listed b ≡ None → gap_of q.listed c ≡ None → ⊥

  new-within : (s : Search) (x : Point) (l : Literal) (may : MayBranch q s x l) (b : Branch) → branch_at may.parts may.above ≡ b → (g : Gap) → gap_of q.listed b ≡ Some g
      → Contains (gaps_of ranges) g
  new-within s x l may b is g gap =
      let at = gap-is q.listed b.parts b.above g gap in
      let r = covers g.unit at.integer in
      let unit = integer-form q.numbering q.listed g.unit at.integer in
      let there = gap-within s x l may b is r.0 r.1 (subst (λ (u : Term). (form_of q.numbering u).result ≡ unit_form u) (sym r.2) unit) (at.parts ∙ ap (λ (u : Term). (unit_form u).parts) (sym r.2)) in
      subst (Contains (gaps_of ranges)) (ap₂ (λ u k. record { unit = u; above = k }) r.2 at.above) there

  -- a branch without a gap comes behind none or one with a gap
  new-turn : (s : Search) (x : Point) (l : Literal) (b : Branch) → IsInTurn q s x l b → (i : ℕ) (c : Branch) → suc i ≡ length s.branches → slice_get s.branches i ≡ Some c
      → gap_of q.listed c ≡ None → gap_of q.listed b ≡ None → ⊥
  new-turn s x l b (on_unit plain) i c last at none_c none_b = plain-some q.listed b.parts b.above plain none_b
  new-turn s x l b (on_cut other cut before) i c last at none_c none_b = plain-some q.listed c.parts c.above (before i c last at) none_c

  more-marked : (s : Search) (x : Point) (l : Literal) (may : MayBranch q s x l) (b : Branch) → branch_at may.parts may.above ≡ b → AreMarked s.branches → AreMarked (s.branches ++ b ∷ [])
  more-marked s x l may b is h = record {
    within = λ i c g at gap. elim (slice_get-push_cases s.branches b i c at) [
      | inl before ↦ h.within i c g before gap
      | inr last ↦ new-within s x l may b is g (subst (λ (d : Branch). gap_of q.listed d ≡ Some g) (sym last.1) gap)
    ];
    once =
        once_more (HaveOneGap q.listed) (λ c d one. (one.0, one.2, one.1)) s.branches b h.once
        (λ i c at one.
        All-contains (λ (d : Branch). LiesBetween (position_of s x) d → ⊥) s.branches c may.new (has_found s.branches i c at)
        (subst (LiesBetween (position_of s x)) (is ∙ sym (one-branch q.listed c b one)) may.between));
    alternate = λ i c d at_i at_next none_c none_d. elim (slice_get-push_cases s.branches b (suc i) d at_next) [
      | inl before ↦
          let inside = slice_get_within s.branches (suc i) d before in
          elim (slice_get-push_cases s.branches b i c at_i) [
            | inl first ↦ h.alternate i c d first before none_c none_d
            | inr last ↦ let where_i = last.0 in absurd (omega (arith, inside, where_i))
          ]
      | inr last ↦
          let where_next = last.0 in
          elim (slice_get-push_cases s.branches b i c at_i) [
            | inl first ↦
                new-turn s x l b (subst (IsInTurn q s x l) is may.turn) i c where_next first none_c
                (subst (λ (e : Branch). gap_of q.listed e ≡ None) (sym last.1) none_d)
            | inr same ↦ let where_i = same.0 in absurd (omega (arith, where_next, where_i))
          ]
    ];
  }

  branch-marked : (s : Search) (x : Point) (atom : ℕ) → MayBranchOn q s x atom → AreMarked s.branches → AreMarked (s.branches ++ branch_by (slice_index_or s.atoms atom never) ∷ [])
  branch-marked s x atom may h =
      let last = may.last in
      let l = slice_index_or s.atoms atom never in
      let m = may.may l (slice_get-get_or s.atoms atom never (omega (arith, last))) in
      more-marked s x l m (branch_by l) (sym (ap branch_by m.is ∙ ap (branch_at m.parts) (floor-whole m.above))) h

  line-marked : (s : Search) (x y : Point) (line : WorkLine Note) → MayFollow q s x line y → AreMarked s.branches → AreMarked (after_line s line).branches
  line-marked s x y (NoteLine (start_note fs places)) may h = h
  line-marked s x y (NoteLine (atom_note l)) may h = h
  line-marked s x y (NoteLine (form_note atom)) may h = h
  line-marked s x y (NoteLine (goal_note sum)) may h = h
  line-marked s x y (NoteLine (under_note ls)) may h = h
  line-marked s x y (NoteLine (told_note t)) may h = h
  line-marked s x y (UnitLine (DecisionEntry atom sign)) may h = h
  line-marked s x y (UnitLine (LearnedEntry keep clause)) may h = h
  line-marked s x y (UnitLine (PivotEntry i j)) may h = h
  line-marked s x y (UnitLine (BranchEntry atom)) may h = branch-marked s x atom may.0 h
  line-marked s x y (UnitLine (FoundEntry goal value)) may h = h

  leads-marked : (s : Search) (x y : Point) (lines : List (WorkLine Note)) → Lead q s x lines y → AreMarked s.branches → AreMarked (after_lines s lines).branches
  leads-marked s x y [] legal h = h
  leads-marked s x y (line ∷ lines) (start, end, drift, may, legal) h = leads-marked (after_line s line) end y lines legal (line-marked s start end line may h)

  none-marked : AreMarked []
  none-marked = record { within = λ i b g at. cc; once = λ i j b c at. cc; alternate = λ i b c at. cc }

  marks-apart : (bs : List Branch) → AreMarked bs → AreApart (gaps_of ranges) (map (gap_of q.listed) bs)
  marks-apart bs h = record {
    within = λ i g at.
        let b = marked i (Some g) at in
        h.within i b.0 g b.1 b.2;
    once = λ i j g at_i at_j.
        let b = marked i (Some g) at_i in
        let c = marked j (Some g) at_j in
        h.once i j b.0 c.0 b.1 c.1 (g, b.2, c.2);
    alternate = λ i at_i at_next.
        let b = marked i None at_i in
        let c = marked (suc i) None at_next in
        h.alternate i b.0 c.0 b.1 c.1 b.2 c.2;
  }
    where
      -- the branch of a mark
      marked : (i : ℕ) (m : Option Gap) → slice_get (map (gap_of q.listed) bs) i ≡ Some m → (b : Branch) × (slice_get bs i ≡ Some b) × (gap_of q.listed b ≡ m)
      marked i m at = by_found (slice_get bs i) refl (sym (slice_get-map (gap_of q.listed) bs i) ∙ at)
        where
          by_found : (o : Option Branch) → slice_get bs i ≡ o → option_map (gap_of q.listed) o ≡ Some m → (b : Branch) × (slice_get bs i ≡ Some b) × (gap_of q.listed b ≡ m)
          by_found None e h = cc
          by_found (Some b) e h = (b, e, ap (λ (o : Option (Option Gap)). unwrap_or o None) h)

-- ---- How many

line-counted : (s : Search) (line : WorkLine Note) → length (after_line s line).branches ≡ length s.branches + cond (is_branch line) 1 0
line-counted s (NoteLine (start_note fs places)) = omega arith
line-counted s (NoteLine (atom_note l)) = omega arith
line-counted s (NoteLine (form_note atom)) = omega arith
line-counted s (NoteLine (goal_note sum)) = omega arith
line-counted s (NoteLine (under_note ls)) = omega arith
line-counted s (NoteLine (told_note t)) = omega arith
line-counted s (UnitLine (DecisionEntry atom sign)) = omega arith
line-counted s (UnitLine (LearnedEntry keep clause)) = omega arith
line-counted s (UnitLine (PivotEntry i j)) = omega arith
line-counted s (UnitLine (BranchEntry atom)) = length-append s.branches (branch_by (slice_index_or s.atoms atom never) ∷ [])
line-counted s (UnitLine (FoundEntry goal value)) = omega arith

lines-counted : (s : Search) (lines : List (WorkLine Note)) → length (after_lines s lines).branches ≡ length s.branches + count_by is_branch lines
lines-counted s [] = omega arith
lines-counted s (line ∷ lines) =
    omega (arith, lines-counted (after_line s line) lines, line-counted s line, sum_by-cons (λ (l : WorkLine Note). cond (is_branch l) 1 0) line lines)

pub legal_branches_are_few : LegalBranchesAreFew
legal_branches_are_few q ranges lines y asserted covers legal =
    let bs = (after_lines at_first lines).branches in
    let marked = leads-marked q ranges asserted covers at_first no_point y lines legal (none-marked q ranges asserted covers) in
    let few = branches_are_few.few (gaps_of ranges) (map (gap_of q.listed) bs) (marks-apart q ranges asserted covers bs marked) in
    omega (arith, few, branches_are_few.wide ranges, length-map bs (gap_of q.listed), lines-counted at_first lines)
