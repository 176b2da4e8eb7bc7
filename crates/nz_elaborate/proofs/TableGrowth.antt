-- Numbers and their terms in a table that grows.
use Rattle.std.proofs.Common.{◌≡◌, ℕ, ◌<◌, ◌≤◌, List, [], ◌∷◌, ◌++◌, length, All, refl, sym, ap, ◌∙◌, append-nil, subst, arith, length-append}
use Rattle.std.proofs.lemmas.List.Elements.{All-head, All-tail, All-push, All-weaker}
use Rattle.nz_spec.specs.terms.Term.{Term, Terms, no_terms, terms}
use Rattle.nz_spec.specs.terms.Table.{Node, term_in, terms_at}
use Rattle.nz_elaborate.specs.Typed.{Grows, StandsFor, terms_before}

-- ---- A table that grows

pub grows_none : (ns : List Node) → Grows ns ns
grows_none ns = record { more = []; all = sym (append-nil ns); operators = tt; stays = λ i below. refl }

pub longer : (old new : List Node) → Grows old new → length old ≤ length new
longer old new g = omega (arith, simp length-append at (ap length g.all))

-- ---- Numbers

pub term_kept : (old new : List Node) → Grows old new → (i : ℕ) → i < length old → term_in new i ≡ term_in old i
term_kept old new g i below = g.stays i below

pub terms_kept : (old new : List Node) → Grows old new → (ids : List ℕ) → All (λ i. i < length old) ids → terms_at (term_in new) ids ≡ terms_at (term_in old) ids
terms_kept old new g [] within = refl
terms_kept old new g (i ∷ is) within =
    let below = λ (j : ℕ). j < length old in
    ap (λ t. terms t (terms_at (term_in new) is)) (g.stays i (All-head below i is within))
    ∙ ap (terms (term_in old i)) (terms_kept old new g is (All-tail below i is within))

pub within_kept : (old new : List Node) → Grows old new → (ids : List ℕ) → All (λ i. i < length old) ids → All (λ i. i < length new) ids
within_kept old new g ids a = All-weaker (λ i. i < length old) (λ i. i < length new) (λ i below. omega (arith, below, longer old new g)) ids a

-- ---- Lists of numbers

before_kept : (old new : List Node) → Grows old new → (ids : List ℕ) → All (λ i. i < length old) ids → (others : Terms)
    → terms_before (term_in new) ids others ≡ terms_before (term_in old) ids others
before_kept old new g [] within others = refl
before_kept old new g (i ∷ is) within others =
    ap (λ t. terms t (terms_before (term_in new) is others)) (term_kept old new g i (All-head (λ j. j < length old) i is within))
    ∙ ap (terms (term_in old i)) (before_kept old new g is (All-tail (λ j. j < length old) i is within) others)

before-push : (f : ℕ → Term) (ids : List ℕ) (id : ℕ) (others : Terms) → terms_before f (ids ++ id ∷ []) others ≡ terms_before f ids (terms (f id) others)
before-push f [] id others = refl
before-push f (i ∷ is) id others = ap (terms (f i)) (before-push f is id others)

pub before-none : (f : ℕ → Term) (ids : List ℕ) → terms_before f ids no_terms ≡ terms_at f ids
before-none f [] = refl
before-none f (i ∷ is) = ap (terms (f i)) (before-none f is)

-- one number more, of a term
pub push_within : (old new : List Node) (ids items : List ℕ) (id : ℕ) → Grows old new → All (λ i. i < length old) ids → id < length new → items ≡ ids ++ id ∷ []
    → All (λ i. i < length new) items
push_within old new ids items id g within below e =
    subst (All (λ i. i < length new)) (sym e) (All-push (λ i. i < length new) ids id (within_kept old new g ids within) below)

-- its term comes next
pub next_term : (old new : List Node) (ids items : List ℕ) (id : ℕ) (t : Term) (others : Terms) → Grows old new → All (λ i. i < length old) ids → StandsFor new id t
    → items ≡ ids ++ id ∷ [] → terms_before (term_in new) items others ≡ terms_before (term_in old) ids (terms t others)
next_term old new ids items id t others g within made e =
    ap (λ l. terms_before (term_in new) l others) e
    ∙ before-push (term_in new) ids id others
    ∙ before_kept old new g ids within (terms (term_in new id) others)
    ∙ ap (λ u. terms_before (term_in old) ids (terms u others)) made.term
