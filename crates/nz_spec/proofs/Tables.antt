-- Terms of a table, and their numbers.
use Rattle.std.proofs.Common.{◌≡◌, ℕ, Bool, true, false, zero, suc, ◌+◌, ◌<◌, List, [], ◌∷◌, ◌++◌, length, take, drop, get_or, ◌==◌, Option, Some, None, refl, sym, ap, subst, ◌∙◌, true≢false, eqb-true, eq-eqb, arith, length-append, length-take}
use Rattle.std.specs.Prelude.{All, bytes_eq, fold, slice_get, unwrap_or, if◌then◌else◌}
use Rattle.std.proofs.lemmas.Slice.Eq.{bytes_eq-Decides}
use Rattle.std.proofs.Math.ListN.{get_or-append}
use Rattle.std.proofs.Math.Seq.{get_or-append_seam}
use Rattle.std.proofs.lemmas.List.{take-append-drop}
use Rattle.std.proofs.lemmas.List.Sums.{fold-append}
use Rattle.std.proofs.lemmas.Option.{slice_get_within, slice_get-get_or}
use Rattle.std.proofs.lemmas.Bool.{and_from, and_parts}
use Rattle.std.proofs.lemmas.List.Elements.{All-head, All-tail}
use Rattle.nz_lists.proofs.Places.{drop_found}
use Rattle.nz_lists.proofs.Tests.{same_tests}
use Rattle.nz_spec.specs.terms.Term.{Sort, bool_sort, int_sort, real_sort, are_same_sort, Constant, are_same_constant, Head, constant, constant_of, falsum, Term, apply, no_terms, terms, Value, default_value}
use Rattle.nz_spec.specs.terms.Table.{Node, terms_at, listed_term, with_term, term_in, HasItsArguments, IsTable, OneNumber, TermOfNode, TermStays, TermStaysInFront, TermsStay, is_node_of, listed_value, assignment_by, AssignsByNumber}
use Rattle.nz_spec.proofs.Sorted.{same_sorts}

-- what a number past the end stands for
abbrev unlisted : Term
unlisted = apply falsum no_terms

-- more nodes leave the terms that are there
folded_keeps : (ts : List Term) (ns : List Node) (i : ℕ) → i < length ts → listed_term (fold with_term ts ns) i ≡ listed_term ts i
folded_keeps ts [] i below = refl
folded_keeps ts (n ∷ ns) i below =
    let one = apply n.head (terms_at (listed_term ts) n.kids) in
    let within : i < length (ts ++ one ∷ []) = omega (arith, length-append ts (one ∷ [])) in
    folded_keeps (with_term ts n) ns i within ∙ get_or-append ts (one ∷ []) unlisted i below

-- each node is one term more
length-fold : (ts : List Term) (ns : List Node) → length (fold with_term ts ns) ≡ length ts + length ns
length-fold ts [] = omega arith
length-fold ts (n ∷ ns) =
    let one = apply n.head (terms_at (listed_term ts) n.kids) in
    omega (arith, length-fold (with_term ts n) ns, length-append ts (one ∷ []))

pub term_stays : TermStays
unfolding term_in
term_stays ns more i below =
    ap (λ ts. listed_term ts i) (fold-append with_term [] ns more)
    ∙ folded_keeps (fold with_term [] ns) more i (omega (arith, length-fold [] ns))

pub term_stays_in_front : TermStaysInFront
term_stays_in_front ns m i below within =
    let inside : i < length (take m ns) = omega (arith, length-take m ns) in
    sym (ap (λ l. term_in l i) (sym (take-append-drop m ns)) ∙ term_stays (take m ns) (drop m ns) i inside)

-- the terms of numbers that stand for the same
terms_at-same : (f g : ℕ → Term) (P : ℕ → Type 0) → ((i : ℕ) → P i → f i ≡ g i) → (is : List ℕ) → All P is → terms_at f is ≡ terms_at g is
terms_at-same f g P same [] h = refl
terms_at-same f g P same (i ∷ is) h =
    ap (λ t. terms t (terms_at f is)) (same i (All-head P i is h)) ∙ ap (terms (g i)) (terms_at-same f g P same is (All-tail P i is h))

pub terms_stay : TermsStay
terms_stay ns more is within = terms_at-same (term_in (ns ++ more)) (term_in ns) (λ i. i < length ns) (term_stays ns more) is within

-- a list round one of its nodes
around : (ns : List Node) (i : ℕ) (n : Node) → slice_get ns i ≡ Some n → take i ns ++ n ∷ drop (suc i) ns ≡ ns
around ns i n at = ap (λ l. take i ns ++ l) (sym (drop_found ns i n at)) ∙ take-append-drop i ns

-- the term of the node behind a list of nodes
term_behind : (ns more : List Node) (n : Node) → term_in (ns ++ n ∷ more) (length ns) ≡ apply n.head (terms_at (term_in ns) n.kids)
unfolding term_in
term_behind ns more n =
    let ts = fold with_term [] ns in
    let one = apply n.head (terms_at (listed_term ts) n.kids) in
    let as_long : length ts ≡ length ns = omega (arith, length-fold [] ns) in
    let within : length ns < length (ts ++ one ∷ []) = omega (arith, length-append ts (one ∷ [])) in
    ap (λ us. listed_term us (length ns)) (fold-append with_term [] ns (n ∷ more))
    ∙ folded_keeps (with_term ts n) more (length ns) within
    ∙ ap (listed_term (ts ++ one ∷ [])) (sym as_long)
    ∙ get_or-append_seam ts one [] unlisted

pub term_of_node : TermOfNode
term_of_node ns table i n at =
    let within = slice_get_within ns i n at in
    let front = take i ns in
    let long : length front ≡ i = omega (arith, length-take i ns) in
    let whole = around ns i n at in
    ap (λ k. term_in ns k) (sym long)
    ∙ ap (λ l. term_in l (length front)) (sym whole)
    ∙ term_behind front (drop (suc i) ns) n
    ∙ ap (apply n.head)
    (terms_at-same (term_in front) (term_in ns) (λ k. k < i)
    (λ k below. term_stays_in_front ns i k below (omega arith)) n.kids (table.before i n at))

-- lists of numbers of the same terms, where equal terms have equal numbers
same_numbers : (f : ℕ → Term) (P Q : ℕ → Type 0) → ((i j : ℕ) → P i → Q j → f i ≡ f j → i ≡ j) → (is js : List ℕ) → All P is → All Q js
    → terms_at f is ≡ terms_at f js → is ≡ js
same_numbers f P Q one [] [] h k e = refl
same_numbers f P Q one [] (j ∷ js) h k e = cc
same_numbers f P Q one (i ∷ is) [] h k e = cc
same_numbers f P Q one (i ∷ is) (j ∷ js) h k e =
    let first : f i ≡ f j = cc in
    let rest : terms_at f is ≡ terms_at f js = cc in
    ap (λ l. i ∷ l) (same_numbers f P Q one is js (All-tail P i is h) (All-tail Q j js k) rest)
    ∙ ap (λ m. m ∷ js) (one i j (All-head P i is h) (All-head Q j js k) first)

-- a node is its head and its arguments
same_node : (n m : Node) → n.head ≡ m.head → n.kids ≡ m.kids → n ≡ m
same_node n m h k = ap (λ x. let r : Node = record { head = x; kids = n.kids } in r) h ∙ ap (λ x. let r : Node = record { head = m.head; kids = x } in r) k

-- equal terms below a bound have equal numbers
one_below : (ns : List Node) → IsTable ns → (b i j : ℕ) → i < b → i < length ns → j < length ns → term_in ns i ≡ term_in ns j → i ≡ j
one_below ns table zero i j bound within there e = absurd (omega arith)
one_below ns table (suc b) i j bound within there e =
    let n = get_or ns i (record { head = falsum; kids = [] }) in
    let m = get_or ns j (record { head = falsum; kids = [] }) in
    let at : slice_get ns i ≡ Some n = slice_get-get_or ns i _ within in
    let beside : slice_get ns j ≡ Some m = slice_get-get_or ns j _ there in
    let applied : apply n.head (terms_at (term_in ns) n.kids) ≡ apply m.head (terms_at (term_in ns) m.kids) =
    sym (term_of_node ns table i n at) ∙ e ∙ term_of_node ns table j m beside in
    let heads : n.head ≡ m.head = cc in
    let arguments : terms_at (term_in ns) n.kids ≡ terms_at (term_in ns) m.kids = cc in
    let numbers = same_numbers (term_in ns) (λ k. k < i) (λ k. k < j)
    (λ k l low high same. one_below ns table b k l (omega arith) (omega arith) (omega arith) same)
    n.kids m.kids (table.before i n at) (table.before j m beside) arguments in
    table.once i j n at (beside ∙ ap Some (sym (same_node n m heads numbers)))

pub one_number : OneNumber
one_number ns table i j within there e = one_below ns table (suc i) i j (omega arith) within there e

-- ---- Assignments

pub same_constant : (c d : Constant) → are_same_constant c d ≡ true → c ≡ d
same_constant c d e =
    let named : c.name ≡ d.name = (bytes_eq-Decides c.name d.name).0 (and_parts (bytes_eq c.name d.name) (are_same_sort c.sort d.sort) e).0 in
    let sorted : c.sort ≡ d.sort = same_sorts c.sort d.sort (and_parts (bytes_eq c.name d.name) (are_same_sort c.sort d.sort) e).1 in
    ap (λ x. let r : Constant = record { name = x; sort = c.sort } in r) named ∙ ap (λ x. let r : Constant = record { name = d.name; sort = x } in r) sorted

sort_itself : (s : Sort) → are_same_sort s s ≡ true
sort_itself bool_sort = refl
sort_itself int_sort = refl
sort_itself real_sort = refl

pub constant_itself : (c : Constant) → are_same_constant c c ≡ true
constant_itself c = and_from (bytes_eq c.name c.name) (are_same_sort c.sort c.sort) ((bytes_eq-Decides c.name c.name).1 refl) (sort_itself c.sort)

-- a head that is a constant
head_of_constant : (h : Head) (d : Constant) → constant_of h ≡ Some d → h ≡ constant d
head_of_constant (constant c) d e = cc
head_of_constant h d e = cc

-- the head by which a node is found to be a constant's
found_head : (h : Head) (c : Constant) (m : Option Constant) → constant_of h ≡ m → elim m [ Some d ↦ are_same_constant d c | None ↦ false ] ≡ true → h ≡ constant c
found_head h c (Some d) e f = head_of_constant h d e ∙ ap constant (same_constant d c f)
found_head h c None e f = cc

leaf_kids : (h : Head) (kids : List ℕ) (c : Constant) → h ≡ constant c → HasItsArguments h kids → kids ≡ []
leaf_kids h kids c e f = subst (λ g. HasItsArguments g kids) e f

node_is : (ns : List Node) → IsTable ns → (i j : ℕ) (n : Node) (c : Constant) → slice_get ns i ≡ Some n → n.head ≡ constant c
    → (o : Option Node) → slice_get ns j ≡ o → is_node_of o c ≡ true → (j == i) ≡ true
node_is ns table i j n c at is None e f = absurd (true≢false (sym f))
node_is ns table i j n c at is (Some m) e f =
    let head : m.head ≡ constant c = found_head m.head c (constant_of m.head) refl f in
    let same : m ≡ n = same_node m n (head ∙ sym is) (leaf_kids m.head m.kids c head (table.leaves j m e) ∙ sym (leaf_kids n.head n.kids c is (table.leaves i n at))) in
    eq-eqb j i (table.once j i m e (at ∙ ap Some (sym same)))

is_node : (ns : List Node) (i j : ℕ) (n : Node) (c : Constant) → slice_get ns i ≡ Some n → n.head ≡ constant c → (j == i) ≡ true → is_node_of (slice_get ns j) c ≡ true
is_node ns i j n c at is e =
    let there : slice_get ns j ≡ Some n = ap (slice_get ns) (eqb-true j i e) ∙ at in
    ap (λ o. is_node_of o c) there
    ∙ ap (λ h. elim (constant_of h) [ Some d ↦ are_same_constant d c | None ↦ false ]) is
    ∙ constant_itself c

-- one pair in front, where both tests of it answer alike
one_more : (b d : Bool) (v a w : Value) (r : Option Value) → b ≡ d → a ≡ unwrap_or r w → (if b then v else a) ≡ unwrap_or (if d then Some v else r) w
one_more true true v a w r same rest = refl
one_more true false v a w r same rest = cc
one_more false true v a w r same rest = cc
one_more false false v a w r same rest = rest

pub assigns_by_number : AssignsByNumber
assigns_by_number ns table [] i n c at is = refl
assigns_by_number ns table (p ∷ ps) i n c at is =
    one_more _ _ p.1 (assignment_by ns ps c) (default_value c.sort) (listed_value ps i)
    (same_tests (is_node_of (slice_get ns p.0) c) (p.0 == i) (node_is ns table i p.0 n c at is (slice_get ns p.0) refl) (is_node ns i p.0 n c at is))
    (assigns_by_number ns table ps i n c at is)
