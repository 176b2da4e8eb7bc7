-- What is asserted and what is assumed are terms that checks take, where no live item holds a unit of sort Int.
use Rattle.std.proofs.Common.{◌≡◌, false, List, [], ◌∷◌, map, sym, ap, ◌∙◌, subst}
use Rattle.std.specs.Prelude.{All, flat_map}
use Rattle.std.specs.List.{AllByRecursion, list_any}
use Rattle.std.proofs.lemmas.List.Elements.{All-cons, All-from_recursion, All-nil}
use Rattle.std.proofs.lemmas.Bool.{or_parts}
use Rattle.nz_lists.proofs.Elements.{AllByRecursion-map}
use Rattle.nz_spec.specs.terms.Term.{constant, Term, apply, no_terms, holds_integer, is_bool}
use Rattle.nz_spec.specs.clauses.Literal.{Literal, term_literal, is_at_most, is_below}
use Rattle.nz_spec.specs.terms.Normal.{normal_of}
use Rattle.nz_spec.specs.terms.WellSorted.{IsSortedAssertion, HasLinearNormal, NormalStaysSorted}
use Rattle.nz_script.specs.laws.Sorts.{IsSortedState, AreSortedLevels, IsAssumable}
use Rattle.nz_spec.specs.terms.Taken.{IsTakenBoolean, NormalTermsAreTaken}
use Rattle.nz_spec.specs.terms.Table.{Node, term_in}
use Rattle.nz_spec.specs.search.Decide.{asserted_numbers}
use Rattle.nz_script.specs.live.Live.{State, LiveItem, Item, declared, defined, asserted, sought, wished, items_of, item_terms, items_hold_integers, cost_of, assertions_in, assertions_of}
use Rattle.nz_term.specs.declared.term_lits.TermLit.{TermLit}
use Rattle.nz_sort.specs.Assuming.{IsAssumed, AreAssumed}
use Rattle.nz_sort.specs.Live.{Standing, asserted_by, IsLive}
use Rattle.nz_session.specs.Assumed.{IsTakenAt}

-- ---- What is asserted

-- the first term, and the others
first_and_others : (t : Term) (ts : List Term) → list_any holds_integer (t ∷ ts) ≡ false → (holds_integer t ≡ false) × (list_any holds_integer ts ≡ false)
first_and_others t ts e = or_parts (holds_integer t) (list_any holds_integer ts) e

-- the normal term of an assertion holds no such unit
abbrev HoldsNoInteger : Term → Type 0
HoldsNoInteger t = holds_integer (normal_of t) ≡ false

no_integers_asserted : (items : List Item) → items_hold_integers items ≡ false → AllByRecursion HoldsNoInteger (assertions_in items)
no_integers_asserted [] e = tt
no_integers_asserted (declared c ∷ items) e = no_integers_asserted items (first_and_others (apply (constant c) no_terms) (flat_map item_terms items) e).1
no_integers_asserted (defined d ∷ items) e = no_integers_asserted items e
no_integers_asserted (asserted t ∷ items) e =
    let both = first_and_others (normal_of t) (flat_map item_terms items) e in
    (both.0, no_integers_asserted items both.1)
no_integers_asserted (sought g ∷ items) e = no_integers_asserted items (first_and_others (normal_of g.term) (flat_map item_terms items) e).1
no_integers_asserted (wished w ∷ items) e = no_integers_asserted items (first_and_others (normal_of (cost_of w)) (flat_map item_terms items) e).1

-- the live assertions are those of the newest level and of the older ones
live_sorted : (levels : List (List LiveItem)) → AreSortedLevels levels → AllByRecursion IsSortedAssertion (assertions_in (items_of levels)) × AllByRecursion HasLinearNormal (assertions_in (items_of levels))
live_sorted [] h = (tt, tt)
live_sorted (items ∷ older) h = (h.0.assertions, h.0.assertions_linear)

module _ (takes : NormalTermsAreTaken) (stays : NormalStaysSorted) where
  assertion_taken : (t : Term) → IsSortedAssertion t → HasLinearNormal t → HoldsNoInteger t → IsTakenBoolean (normal_of t)
  assertion_taken t sorted linear none =
      record { taken = takes t sorted.0 linear none; boolean = ap is_bool ((stays [] t sorted.0).1 ∙ sorted.1) }

  all_taken : (ts : List Term) → AllByRecursion IsSortedAssertion ts → AllByRecursion HasLinearNormal ts → AllByRecursion HoldsNoInteger ts
      → AllByRecursion IsTakenBoolean (map normal_of ts)
  all_taken [] sorted linear none = tt
  all_taken (t ∷ ts) sorted linear none = (assertion_taken t sorted.0 linear.0 none.0, all_taken ts sorted.1 linear.1 none.1)

  pub live_taken : (ns : List Node) (l : Standing) (s : State) → IsLive ns l s → IsSortedState s → items_hold_integers (items_of s.levels) ≡ false
      → All (IsTakenAt ns) (asserted_numbers (asserted_by l))
  live_taken ns l s h sorted e =
      let ids = asserted_numbers (asserted_by l) in
      let both = live_sorted s.levels sorted in
      let terms : AllByRecursion IsTakenBoolean (map (term_in ns) ids) =
      subst (AllByRecursion IsTakenBoolean) (sym h.terms) (all_taken (assertions_of s) both.0 both.1 (no_integers_asserted (items_of s.levels) e)) in
      let taken : All (λ i. IsTakenBoolean (term_in ns i)) ids = All-from_recursion (λ i. IsTakenBoolean (term_in ns i)) ids (AllByRecursion-map IsTakenBoolean (term_in ns) ids terms) in
      λ k d below. (h.within k d below, taken k d below)

-- ---- What is assumed

one_taken : (ns : List Node) (s : State) (x : TermLit) (l : Literal) → IsAssumed ns x l → IsAssumable s l → IsTakenAt ns x.term
one_taken ns s x (term_literal t sign) h k = (h.0.within, subst IsTakenBoolean (sym h.0.term) k.1)
one_taken ns s x (is_at_most ps b) h k = absurd h
one_taken ns s x (is_below ps b) h k = absurd h

pub assumed_taken : (ns : List Node) (s : State) (xs : List TermLit) (ls : List Literal) → AreAssumed ns xs ls → AllByRecursion (IsAssumable s) ls → All (λ (x : TermLit). IsTakenAt ns x.term) xs
assumed_taken ns s [] [] h k = All-nil (λ (x : TermLit). IsTakenAt ns x.term)
assumed_taken ns s [] (l ∷ ls) h k = absurd h
assumed_taken ns s (x ∷ xs) [] h k = absurd h
assumed_taken ns s (x ∷ xs) (l ∷ ls) h k = All-cons (λ (y : TermLit). IsTakenAt ns y.term) x xs (one_taken ns s x l h.0 k.0) (assumed_taken ns s xs ls h.1 k.1)
