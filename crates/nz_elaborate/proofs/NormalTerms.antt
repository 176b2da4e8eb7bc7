-- Normal terms, made step by step in a table that grows.
use Rattle.std.proofs.Common.{[], ◌≡◌, ℕ, zero, suc, ◌+◌, ◌<◌, ◌≤◌, List, ◌∷◌, ◌++◌, length, drop, get_or, All, refl, sym, ap, ◌∙◌, subst, arith, add-one}
use Rattle.std.proofs.Math.Seq.{drop-cons}
use Rattle.std.proofs.lemmas.List.{drop_all}
use Rattle.std.proofs.lemmas.List.Elements.{All-get_or, All-drop}
use Rattle.nz_spec.specs.terms.Term.{Head, negation, disjunction, equality, Term, apply, Terms, no_terms, terms}
use Rattle.nz_spec.specs.terms.Normal.{negated, paired, implication_of, grouped_onto, neighbours_of, disequations_onto, disequations_of}
use Rattle.nz_spec.specs.terms.Table.{Node, term_in, terms_at}
use Rattle.nz_term.specs.Growth.{GrowsTwice}
use Rattle.nz_elaborate.specs.Typed.{Grows, StandsFor, terms_before}
use Rattle.nz_elaborate.proofs.TableGrowth.{term_kept, terms_kept, before-none, next_term}

-- ---- Terms of one argument, and of two

pub denied : (old mid new : List Node) (k d : ℕ) → Grows old mid → k < length old → StandsFor new d (apply negation (terms_at (term_in mid) (k ∷ [])))
    → StandsFor new d (negated (term_in old k))
denied old mid new k d g below made = record { within = made.within; term = made.term ∙ ap negated (term_kept old mid g k below) }

pub two : (h : Head) (ns new : List Node) (a b id : ℕ) (t u : Term) → term_in ns a ≡ t → term_in ns b ≡ u
    → StandsFor new id (apply h (terms_at (term_in ns) (a ∷ b ∷ []))) → StandsFor new id (paired h t u)
two h ns new a b id t u first second made =
    record { within = made.within; term = made.term ∙ ap (λ x. paired h x (term_in ns b)) first ∙ ap (paired h t) second }

-- of two terms that were there
pub two_kept : (h : Head) (old mid new : List Node) (a b id : ℕ) → Grows old mid → a < length old → b < length old
    → StandsFor new id (apply h (terms_at (term_in mid) (a ∷ b ∷ []))) → StandsFor new id (paired h (term_in old a) (term_in old b))
two_kept h old mid new a b id g below next made =
    two h mid new a b id (term_in old a) (term_in old b) (term_kept old mid g a below) (term_kept old mid g b next) made

-- ---- Implications

implication_step : (f : ℕ → Term) (kids : List ℕ) (i : ℕ) → suc i < length kids
    → implication_of (terms_at f (drop i kids)) ≡ paired disjunction (negated (f (get_or kids i 0))) (implication_of (terms_at f (drop (suc i) kids)))
implication_step f [] i below = absurd (omega arith)
implication_step f (k ∷ []) i below = absurd (omega arith)
implication_step f (k ∷ l ∷ ks) zero below = refl
implication_step f (k ∷ l ∷ ks) (suc i) below = implication_step f (l ∷ ks) i (omega arith)

-- one premise more
pub implication_next : (old mid next new : List Node) (kids : List ℕ) (i d conclusion id : ℕ) → Grows old mid → Grows mid next → suc i < length kids
    → get_or kids i 0 < length old
    → StandsFor next d (apply negation (terms_at (term_in mid) (get_or kids i 0 ∷ [])))
    → StandsFor mid conclusion (implication_of (terms_at (term_in old) (drop (suc i) kids)))
    → StandsFor new id (apply disjunction (terms_at (term_in next) (d ∷ conclusion ∷ [])))
    → StandsFor new id (implication_of (terms_at (term_in old) (drop i kids)))
implication_next old mid next new kids i d conclusion id g h below within first then made =
    let premise : StandsFor next d (negated (term_in old (get_or kids i 0))) = denied old mid next (get_or kids i 0) d g within first in
    subst (StandsFor new id) (sym (implication_step (term_in old) kids i below))
    (two disjunction next new d conclusion id (negated (term_in old (get_or kids i 0))) (implication_of (terms_at (term_in old) (drop (suc i) kids)))
    premise.term (term_kept mid next h conclusion then.within ∙ then.term) made)

-- ---- What is grouped to the left

pub grouped_next : (h : Head) (old mid new : List Node) (kids : List ℕ) (i left id : ℕ) → Grows old mid → i < length kids → get_or kids i 0 < length old
    → StandsFor new id (apply h (terms_at (term_in mid) (left ∷ get_or kids i 0 ∷ [])))
    → grouped_onto h (term_in new id) (terms_at (term_in old) (drop (i + 1) kids)) ≡ grouped_onto h (term_in mid left) (terms_at (term_in old) (drop i kids))
grouped_next h old mid new kids i left id g below within made =
    let both : StandsFor new id (paired h (term_in mid left) (term_in old (get_or kids i 0))) =
    two h mid new left (get_or kids i 0) id (term_in mid left) (term_in old (get_or kids i 0)) refl (term_kept old mid g (get_or kids i 0) within) made in
    ap (λ n. grouped_onto h (term_in new id) (terms_at (term_in old) (drop n kids))) (add-one i)
    ∙ ap (λ t. grouped_onto h t (terms_at (term_in old) (drop (suc i) kids))) both.term
    ∙ sym (ap (λ l. grouped_onto h (term_in mid left) (terms_at (term_in old) l)) (drop-cons kids i 0 below))

-- ---- Chains

neighbours_step : (pair : Term → Term → Term) (f : ℕ → Term) (kids : List ℕ) (i : ℕ) → suc i < length kids
    → neighbours_of pair (terms_at f (drop i kids)) ≡ terms (pair (f (get_or kids i 0)) (f (get_or kids (suc i) 0))) (neighbours_of pair (terms_at f (drop (suc i) kids)))
neighbours_step pair f [] i below = absurd (omega arith)
neighbours_step pair f (k ∷ []) i below = absurd (omega arith)
neighbours_step pair f (k ∷ l ∷ ks) zero below = refl
neighbours_step pair f (k ∷ l ∷ ks) (suc i) below = neighbours_step pair f (l ∷ ks) i (omega arith)

neighbours_end : (pair : Term → Term → Term) (f : ℕ → Term) (kids : List ℕ) (i : ℕ) → length kids ≤ suc i → neighbours_of pair (terms_at f (drop i kids)) ≡ no_terms
neighbours_end pair f [] zero above = refl
neighbours_end pair f [] (suc i) above = refl
neighbours_end pair f (k ∷ []) zero above = refl
neighbours_end pair f (k ∷ l ∷ ks) zero above = absurd (omega arith)
neighbours_end pair f (k ∷ ks) (suc i) above = neighbours_end pair f ks i (omega arith)

-- one pair more
pub neighbours_next : (pair : Term → Term → Term) (old mid new : List Node) (kids ids items : List ℕ) (i id : ℕ) → Grows old mid → Grows mid new → suc i < length kids
    → get_or kids i 0 < length old → get_or kids (suc i) 0 < length old → All (λ j. j < length mid) ids
    → StandsFor new id (pair (term_in mid (get_or kids i 0)) (term_in mid (get_or kids (i + 1) 0))) → items ≡ ids ++ id ∷ []
    → terms_before (term_in new) items (neighbours_of pair (terms_at (term_in old) (drop (i + 1) kids)))
    ≡ terms_before (term_in mid) ids (neighbours_of pair (terms_at (term_in old) (drop i kids)))
neighbours_next pair old mid new kids ids items i id g h below first second within made e =
    let f = term_in old in
    let one : term_in mid (get_or kids i 0) ≡ f (get_or kids i 0) = term_kept old mid g (get_or kids i 0) first in
    let other : term_in mid (get_or kids (i + 1) 0) ≡ f (get_or kids (suc i) 0) =
    ap (λ n. term_in mid (get_or kids n 0)) (add-one i) ∙ term_kept old mid g (get_or kids (suc i) 0) second in
    let here : StandsFor new id (pair (f (get_or kids i 0)) (f (get_or kids (suc i) 0))) =
    record { within = made.within; term = made.term ∙ ap (λ t. pair t (term_in mid (get_or kids (i + 1) 0))) one ∙ ap (pair (f (get_or kids i 0))) other } in
    ap (λ n. terms_before (term_in new) items (neighbours_of pair (terms_at f (drop n kids)))) (add-one i)
    ∙ next_term mid new ids items id (pair (f (get_or kids i 0)) (f (get_or kids (suc i) 0))) (neighbours_of pair (terms_at f (drop (suc i) kids))) h within here e
    ∙ ap (terms_before (term_in mid) ids) (sym (neighbours_step pair f kids i below))

-- they are all there
pub neighbours_all : (pair : Term → Term → Term) (old ns : List Node) (kids ids : List ℕ) (i : ℕ) → length kids ≤ suc i
    → terms_before (term_in ns) ids (neighbours_of pair (terms_at (term_in old) (drop i kids))) ≡ neighbours_of pair (terms_at (term_in old) kids)
    → terms_at (term_in ns) ids ≡ neighbours_of pair (terms_at (term_in old) kids)
neighbours_all pair old ns kids ids i above e =
    sym (before-none (term_in ns) ids) ∙ ap (terms_before (term_in ns) ids) (sym (neighbours_end pair (term_in old) kids i above)) ∙ e

-- ---- Disequations

-- the disequation of one of the others more
pub disequation_next : GrowsTwice → (old mid next new : List Node) (kid : ℕ) (others ids items : List ℕ) (i equation id : ℕ) (more : Terms) → Grows old mid → Grows mid next → Grows next new
    → kid < length old → i < length others → get_or others i 0 < length old → All (λ j. j < length mid) ids
    → StandsFor next equation (apply equality (terms_at (term_in mid) (kid ∷ get_or others i 0 ∷ [])))
    → StandsFor new id (apply negation (terms_at (term_in next) (equation ∷ []))) → items ≡ ids ++ id ∷ []
    → terms_before (term_in new) items (disequations_onto (term_in old kid) (terms_at (term_in old) (drop (i + 1) others)) more)
    ≡ terms_before (term_in mid) ids (disequations_onto (term_in old kid) (terms_at (term_in old) (drop i others)) more)
disequation_next twice old mid next new kid others ids items i equation id more g h k below there other within equal made e =
    let f = term_in old in
    let rest : Terms = disequations_onto (f kid) (terms_at f (drop (suc i) others)) more in
    let same : StandsFor next equation (paired equality (f kid) (f (get_or others i 0))) =
    two_kept equality old mid next kid (get_or others i 0) equation g below other equal in
    let differ : StandsFor new id (negated (paired equality (f kid) (f (get_or others i 0)))) =
    record { within = made.within; term = made.term ∙ ap negated same.term } in
    ap (λ n. terms_before (term_in new) items (disequations_onto (f kid) (terms_at f (drop n others)) more)) (add-one i)
    ∙ next_term mid new ids items id (negated (paired equality (f kid) (f (get_or others i 0)))) rest (twice mid next new h k) within differ e
    ∙ ap (λ l. terms_before (term_in mid) ids (disequations_onto (f kid) (terms_at f l) more)) (sym (drop-cons others i 0 there))

-- those of one term more
pub disequations_next : (old mid new : List Node) (kids ids items : List ℕ) (i : ℕ) → Grows old mid → i < length kids → All (λ j. j < length old) kids
    → ((more : Terms) → terms_before (term_in new) items more
    ≡ terms_before (term_in mid) ids (disequations_onto (term_in mid (get_or kids i 0)) (terms_at (term_in mid) (drop (i + 1) kids)) more))
    → terms_before (term_in new) items (disequations_of (terms_at (term_in old) (drop (i + 1) kids)))
    ≡ terms_before (term_in mid) ids (disequations_of (terms_at (term_in old) (drop i kids)))
disequations_next old mid new kids ids items i g below within added =
    let f = term_in old in
    let one : get_or kids i 0 < length old = All-get_or (λ j. j < length old) kids i 0 below within in
    let rest : All (λ j. j < length old) (drop (suc i) kids) = All-drop (λ j. j < length old) (suc i) kids within in
    let more : Terms = disequations_of (terms_at f (drop (suc i) kids)) in
    ap (λ n. terms_before (term_in new) items (disequations_of (terms_at f (drop n kids)))) (add-one i)
    ∙ added more
    ∙ ap (λ n. terms_before (term_in mid) ids (disequations_onto (term_in mid (get_or kids i 0)) (terms_at (term_in mid) (drop n kids)) more)) (add-one i)
    ∙ ap (λ t. terms_before (term_in mid) ids (disequations_onto t (terms_at (term_in mid) (drop (suc i) kids)) more)) (term_kept old mid g (get_or kids i 0) one)
    ∙ ap (λ ts. terms_before (term_in mid) ids (disequations_onto (f (get_or kids i 0)) ts more)) (terms_kept old mid g (drop (suc i) kids) rest)
    ∙ ap (λ l. terms_before (term_in mid) ids (disequations_of (terms_at f l))) (sym (drop-cons kids i 0 below))

pub disequations_all : (old ns : List Node) (kids ids : List ℕ) (i : ℕ) → length kids ≤ i
    → terms_before (term_in ns) ids (disequations_of (terms_at (term_in old) (drop i kids))) ≡ disequations_of (terms_at (term_in old) kids)
    → terms_at (term_in ns) ids ≡ disequations_of (terms_at (term_in old) kids)
disequations_all old ns kids ids i above e =
    let none : disequations_of (terms_at (term_in old) (drop i kids)) ≡ no_terms = ap (λ l. disequations_of (terms_at (term_in old) l)) (drop_all i kids above) in
    sym (before-none (term_in ns) ids) ∙ ap (terms_before (term_in ns) ids) (sym none) ∙ e
