-- What is known of terms, as tables grow and are cut.
use Rattle.std.proofs.Common.{◌≡◌, inl, inr, ℕ, ◌+◌, ◌≤◌, ◌&&◌, ◌||◌, Bool, List, [], ◌∷◌, ◌++◌, length, map, take, drop, Option, refl, sym, ap, ◌∙◌, arith, append_assoc, append-nil, length-append, length-take}
use Rattle.std.specs.Prelude.{fold}
use Rattle.std.proofs.lemmas.Bool.{cases_lt}
use Rattle.std.proofs.lemmas.List.{map-append, length-map, take-map, take-append-drop, take_all, take_at}
use Rattle.std.proofs.lemmas.List.Sums.{fold-append}
use Rattle.nz_lists.proofs.Places.{slice_index_or-map}
use Rattle.nz_fractions.specs.Fraction.{Fraction}
use Rattle.nz_spec.specs.terms.Term.{Head, falsum, is_integral, Term, apply, no_terms, holds_integer, hold_integer}
use Rattle.nz_spec.specs.terms.Linear.{constant_value, constant_values, head_constant, is_linear_node, is_linear, are_linear}
use Rattle.nz_spec.specs.terms.Table.{Node, terms_at, listed_term, with_term, term_in}
use Rattle.nz_term.specs.declared.facts.Fact.{Fact}
use Rattle.nz_term.specs.Facts.{fact_with, fact_of, fact_at, constants_at, are_linear_at, hold_integer_at, IsKnown}
use Rattle.nz_term.specs.Growth.{GoesOn}
use Rattle.nz_term.proofs.Tables.{front_table}

-- ---- What is known of the terms of numbers

pub fact_listed : (ts : List Term) (i : ℕ) → fact_at (map fact_of ts) i ≡ fact_of (listed_term ts i)
fact_listed ts i = slice_index_or-map fact_of ts i (apply falsum no_terms)

constants_listed : (ts : List Term) (is : List ℕ) → constants_at (map fact_of ts) is ≡ constant_values (terms_at (listed_term ts) is)
constants_listed ts [] = refl
constants_listed ts (i ∷ is) =
    ap (λ c. c ∷ constants_at (map fact_of ts) is) (ap (λ (f : Fact). f.constant) (fact_listed ts i)) ∙ ap (λ cs. constant_value (listed_term ts i) ∷ cs) (constants_listed ts is)

linear_listed : (ts : List Term) (is : List ℕ) → are_linear_at (map fact_of ts) is ≡ are_linear (terms_at (listed_term ts) is)
linear_listed ts [] = refl
linear_listed ts (i ∷ is) =
    ap (λ (f : Fact). f.is_linear && are_linear_at (map fact_of ts) is) (fact_listed ts i)
    ∙ ap (λ b. (fact_of (listed_term ts i)).is_linear && b) (linear_listed ts is)

numbers_listed : (ts : List Term) (is : List ℕ) → hold_integer_at (map fact_of ts) is ≡ hold_integer (terms_at (listed_term ts) is)
numbers_listed ts [] = refl
numbers_listed ts (i ∷ is) =
    ap (λ (f : Fact). f.holds_integer || hold_integer_at (map fact_of ts) is) (fact_listed ts i)
    ∙ ap (λ b. (fact_of (listed_term ts i)).holds_integer || b) (numbers_listed ts is)

-- what is known of a term by what is known of its arguments
pub fact_is : (ts : List Term) (fs : List Fact) (h : Head) (is : List ℕ) (c : Option Fraction) (linear number : Bool) → fs ≡ map fact_of ts
    → c ≡ head_constant h (constants_at fs is)
    → linear ≡ (is_linear_node h (constants_at fs is) && are_linear_at fs is)
    → number ≡ (is_integral h || hold_integer_at fs is)
    → fact_with c linear number ≡ fact_of (apply h (terms_at (listed_term ts) is))
fact_is ts fs h is c linear number known constant linearly numbered =
    let us = terms_at (listed_term ts) is in
    let same : constants_at fs is ≡ constant_values us = ap (λ l. constants_at l is) known ∙ constants_listed ts is in
    let by_constant : c ≡ head_constant h (constant_values us) = constant ∙ ap (head_constant h) same in
    let by_linear : linear ≡ (is_linear_node h (constant_values us) && are_linear us) =
    linearly ∙ ap (λ cs. is_linear_node h cs && are_linear_at fs is) same
    ∙ ap (λ b. is_linear_node h (constant_values us) && b) (ap (λ l. are_linear_at l is) known ∙ linear_listed ts is) in
    let by_number : number ≡ (is_integral h || hold_integer us) =
    numbered ∙ ap (λ b. is_integral h || b) (ap (λ l. hold_integer_at l is) known ∙ numbers_listed ts is) in
    ap (λ x. fact_with x linear number) by_constant
    ∙ ap (λ x. fact_with (head_constant h (constant_values us)) x number) by_linear
    ∙ ap (fact_with (head_constant h (constant_values us)) (is_linear_node h (constant_values us) && are_linear us)) by_number

-- ---- Tables

-- a table's terms are as many as its nodes
length-terms : (ts : List Term) (ns : List Node) → length (fold with_term ts ns) ≡ length ts + length ns
length-terms ts [] = omega arith
length-terms ts (n ∷ ns) =
    let one = apply n.head (terms_at (listed_term ts) n.kids) in
    omega (arith, length-terms (with_term ts n) ns, length-append ts (one ∷ []))

-- what nodes add behind the terms that are there
abbrev added : List Term → List Node → List Term
added ts [] = []
added ts (n ∷ ns) = apply n.head (terms_at (listed_term ts) n.kids) ∷ added (with_term ts n) ns

added_behind : (ts : List Term) (ns : List Node) → fold with_term ts ns ≡ ts ++ added ts ns
added_behind ts [] = sym (append-nil ts)
added_behind ts (n ∷ ns) =
    let one = apply n.head (terms_at (listed_term ts) n.kids) in
    added_behind (with_term ts n) ns ∙ append_assoc ts (one ∷ []) (added (with_term ts n) ns)

pub length-known : (ns : List Node) (fs : List Fact) → IsKnown ns fs → length fs ≡ length ns
length-known ns fs k =
    ap length k.facts ∙ length-map (fold with_term [] ns) fact_of ∙ length-terms [] ns ∙ omega arith

-- the facts after a node is looked up or put last: what was put last is taken back where no node was
pub facts_made : (ns : List Node) (n : Node) (new : List Node) (fs : List Fact) (f : Fact) → IsKnown ns fs
    → f ≡ fact_of (apply n.head (terms_at (term_in ns) n.kids)) → GoesOn ns n new → take (length new) (fs ++ f ∷ []) ≡ map fact_of (fold with_term [] new)
unfolding term_in
facts_made ns n new fs f k is grown =
    let ts = fold with_term [] ns in
    let one = apply n.head (terms_at (listed_term ts) n.kids) in
    let long = length-known ns fs k in
    elim grown [
      | inl same ↦
          ap (λ l. take (length l) (fs ++ f ∷ [])) same ∙ take_at fs (f ∷ []) (length ns) long ∙ k.facts ∙ ap (λ l. map fact_of (fold with_term [] l)) (sym same)
      | inr more ↦
          let all : length (fs ++ f ∷ []) ≤ length new = omega (arith, ap length more, length-append fs (f ∷ []), length-append ns (n ∷ [])) in
          take_all (length new) (fs ++ f ∷ []) all
          ∙ ap (λ l. l ++ f ∷ []) k.facts ∙ ap (λ x. map fact_of ts ++ x ∷ []) is ∙ sym (map-append fact_of ts (one ∷ []))
          ∙ ap (map fact_of) (sym (fold-append with_term [] ns (n ∷ []))) ∙ ap (λ l. map fact_of (fold with_term [] l)) (sym more)
    ]

-- what is known of a term over those of a table, by the list of its terms
pub over_table : (ns : List Node) (h : Head) (is : List ℕ) (f : Fact) → f ≡ fact_of (apply h (terms_at (listed_term (fold with_term [] ns)) is))
    → f ≡ fact_of (apply h (terms_at (term_in ns) is))
unfolding term_in
over_table ns h is f e = e

-- the front of a table
front_terms : (ns : List Node) (m : ℕ) → take m (fold with_term [] ns) ≡ fold with_term [] (take m ns)
front_terms ns m =
    let front = fold with_term [] (take m ns) in
    elim (cases_lt m (length ns)) [
      | inl below ↦
          let long : length front ≡ m = length-terms [] (take m ns) ∙ omega (arith, length-take m ns) in
          ap (take m)
          (ap (fold with_term []) (sym (take-append-drop m ns)) ∙ fold-append with_term [] (take m ns) (drop m ns) ∙ added_behind front (drop m ns))
          ∙ take_at front (added front (drop m ns)) m long
      | inr past ↦
          take_all m (fold with_term [] ns) (omega (arith, length-terms [] ns)) ∙ ap (fold with_term []) (sym (take_all m ns past))
    ]

pub front_known : (ns : List Node) (fs : List Fact) (m : ℕ) → IsKnown ns fs → IsKnown (take m ns) (take m fs)
front_known ns fs m k =
    record {
      table = front_table ns m k.table;
      facts = ap (take m) k.facts ∙ take-map fact_of m (fold with_term [] ns) ∙ ap (map fact_of) (front_terms ns m);
    }

-- what is known at a number is what is known of its term
pub known : (ns : List Node) (fs : List Fact) → IsKnown ns fs → (i : ℕ) → fact_at fs i ≡ fact_of (term_in ns i)
unfolding term_in
known ns fs k i = ap (λ l. fact_at l i) k.facts ∙ fact_listed (fold with_term [] ns) i
