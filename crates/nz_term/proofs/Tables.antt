-- Tables that grow by a node, and that are cut.
use Rattle.std.proofs.Common.{◌≡◌, ℕ, zero, suc, ◌<◌, inl, inr, Bool, true, false, cond, List, [], ◌∷◌, ◌++◌, length, take, drop, get_or, Option, Some, None, All, slice_get, refl, sym, ap, subst, ◌∙◌, arith, true≢false}
use Rattle.std.proofs.lemmas.List.{map-append, take-append-drop}
use Rattle.std.proofs.lemmas.List.Elements.{All-head, All-tail, All-weaker}
use Rattle.std.proofs.lemmas.List.Quantifiers.{position-Some}
use Rattle.std.proofs.lemmas.Option.{slice_get-map, slice_get-get_or, slice_get_within}
use Rattle.std.specs.Prelude.{◌⊎◌, is_some, option_map, position, IsTrue}
use Rattle.std.specs.List.{AllByRecursion, IsDistinct, list_any}
use Rattle.indexmap.specs.IndexSet.{insert_key}
use Rattle.std.proofs.lemmas.Bool.{or_parts}
use Rattle.nz_lists.proofs.Elements.{AllByRecursion-append}
use Rattle.nz_lists.proofs.Places.{slice_get-push_cases, slice_get_kept}
use Rattle.nz_spec.specs.terms.Order.{IsInTable}
use Rattle.nz_spec.specs.terms.Term.{Head, Terms, apply, head_fits}
use Rattle.nz_spec.specs.clauses.Literal.{TellsHeads}
use Rattle.nz_spec.specs.terms.Table as table
use Rattle.nz_spec.specs.terms.Table.{HasItsArguments, HasOneNumberEach, IsTable, OneNumber, TermOfNode, TermStays, TermsStay, term_in, terms_at}
use Rattle.nz_term.specs.declared.leaves.Leaf.{Leaf}
use Rattle.nz_term.specs.declared.nodes.Stored.{Stored}
use Rattle.nz_term.specs.Found.{IsFound}
use Rattle.nz_term.specs.Growth.{GoesOn, KeepsTerms}
use Rattle.nz_term.specs.Leaves.{AreDistinctLeaves}
use Rattle.nz_term.specs.Stored.{AreStored, node_in, nodes_in}
use Rattle.nz_term.specs.Symbols.{HasLeaf, IsFoundSymbol}
use Rattle.nz_term.specs.contracts.nodes.StoredPartialEq.TheImpl as stored
use Rattle.nz_term.proofs.Equality.{same_node, tells_nodes}
use Rattle.nz_term.proofs.Keys.{once}

-- ---- Tables

-- the front of a table is a table
pub front_table : (ns : List table.Node) (m : ℕ) → IsTable ns → IsTable (take m ns)
front_table ns m t =
    let back : (i : ℕ) (n : table.Node) → slice_get (take m ns) i ≡ Some n → slice_get ns i ≡ Some n =
    λ i n at. subst (λ l. slice_get l i ≡ Some n) (take-append-drop m ns) (slice_get_kept (take m ns) (drop m ns) i n at) in
    record {
      before = λ i n at. t.before i n (back i n at);
      once = λ i j n at beside. t.once i j n (back i n at) (back j n beside);
      fits = λ i n at. t.fits i n (back i n at);
      leaves = λ i n at. t.leaves i n (back i n at);
    }

grown_fits : (ns : List table.Node) (n : table.Node) → IsTable ns → IsTrue (head_fits n.head)
    → (i : ℕ) (m : table.Node) → slice_get (ns ++ n ∷ []) i ≡ Some m → IsTrue (head_fits m.head)
grown_fits ns n t fits i m at = elim (slice_get-push_cases ns n i m at) [ inl there ↦ t.fits i m there | inr last ↦ subst (λ x. IsTrue (head_fits x.head)) last.1 fits ]

grown_leaves : (ns : List table.Node) (n : table.Node) → IsTable ns → HasItsArguments n.head n.kids
    → (i : ℕ) (m : table.Node) → slice_get (ns ++ n ∷ []) i ≡ Some m → HasItsArguments m.head m.kids
grown_leaves ns n t leaf i m at = elim (slice_get-push_cases ns n i m at) [ inl there ↦ t.leaves i m there | inr last ↦ subst (λ x. HasItsArguments x.head x.kids) last.1 leaf ]

grown_before : (ns : List table.Node) (n : table.Node) → IsTable ns → All (λ k. k < length ns) n.kids
    → (i : ℕ) (m : table.Node) → slice_get (ns ++ n ∷ []) i ≡ Some m → All (λ k. k < i) m.kids
grown_before ns n t within i m at =
    elim (slice_get-push_cases ns n i m at) [
      | inl there ↦ t.before i m there
      | inr last ↦ subst (λ x. All (λ k. k < i) x.kids) last.1 (subst (λ j. All (λ k. k < j) n.kids) (sym last.0) within)
    ]

-- the terms of numbers that were there stay
pub grown_stays : TermStays → (ns : List table.Node) (n : table.Node) (new : List table.Node) → GoesOn ns n new → KeepsTerms ns new
grown_stays stays ns n new grown i below =
    elim grown [
      | inl same ↦ ap (λ l. term_in l i) same
      | inr more ↦ ap (λ l. term_in l i) more ∙ stays ns (n ∷ []) i below
    ]

grown_terms : TermsStay → (ns : List table.Node) (n : table.Node) (new : List table.Node) → GoesOn ns n new → (is : List ℕ) → All (λ i. i < length ns) is
    → terms_at (term_in new) is ≡ terms_at (term_in ns) is
grown_terms stay ns n new grown is within =
    elim grown [
      | inl same ↦ ap (λ l. terms_at (term_in l) is) same
      | inr more ↦ ap (λ l. terms_at (term_in l) is) more ∙ stay ns (n ∷ []) is within
    ]

-- the term of the node
pub made_term : TermOfNode → TermsStay → (ns : List table.Node) (n : table.Node) (new : List table.Node) (id : ℕ) → IsTable new → GoesOn ns n new → All (λ k. k < length ns) n.kids
    → slice_get new id ≡ Some n → term_in new id ≡ apply n.head (terms_at (term_in ns) n.kids)
made_term of_node stay ns n new id t grown within at =
    of_node new t id n at ∙ ap (apply n.head) (grown_terms stay ns n new grown n.kids within)

-- ---- Keys

abbrev node_eq : Stored → Stored → Bool
node_eq = stored.eq-value.it

-- the leaf of each node is there
abbrev pub HaveLeaves : List Leaf → List Stored → Type 0
HaveLeaves ls ns = AllByRecursion (λ (n : Stored). HasLeaf ls n.symbol) ns

-- what a key that is inserted leaves, by whether one was equal to it
inserted : (ks : List Stored) (k : Stored) (new : List Stored) → new ≡ insert_key node_eq ks k → (new ≡ ks) ⊎ (new ≡ ks ++ k ∷ [])
inserted ks k new e = by (list_any (node_eq k) ks) refl
  where
    by : (b : Bool) → list_any (node_eq k) ks ≡ b → (new ≡ ks) ⊎ (new ≡ ks ++ k ∷ [])
    by true there = inl (e ∙ ap (λ c. cond c ks (ks ++ k ∷ [])) there)
    by false gone = inr (e ∙ ap (λ c. cond c ks (ks ++ k ∷ [])) gone)

pub leaves_made : (ls : List Leaf) (ks : List Stored) (k : Stored) (new : List Stored) → new ≡ insert_key node_eq ks k → HaveLeaves ls ks → HasLeaf ls k.symbol → HaveLeaves ls new
leaves_made ls ks k new e all own = elim (inserted ks k new e) [
  | inl same ↦ subst (HaveLeaves ls) (sym same) all
  | inr more ↦ subst (HaveLeaves ls) (sym more) (AllByRecursion-append (λ (n : Stored). HasLeaf ls n.symbol) ks (k ∷ []) all (own, tt))
]

-- the nodes after a key is inserted
pub made_grown : (ls : List Leaf) (ks : List Stored) (k : Stored) (new : List Stored) → new ≡ insert_key node_eq ks k → GoesOn (nodes_in ls ks) (node_in ls k) (nodes_in ls new)
made_grown ls ks k new e = elim (inserted ks k new e) [
  | inl same ↦ inl (ap (nodes_in ls) same)
  | inr more ↦ inr (ap (nodes_in ls) more ∙ map-append (node_in ls) ks (k ∷ []))
]

pub made_table : (ls : List Leaf) → AreDistinctLeaves ls → (ks : List Stored) (k : Stored) (new : List Stored) → HaveLeaves ls new → IsDistinct node_eq new
    → GoesOn (nodes_in ls ks) (node_in ls k) (nodes_in ls new) → IsTable (nodes_in ls ks) → All (λ i. i < length (nodes_in ls ks)) k.kids
    → IsTrue (head_fits (node_in ls k).head) → HasItsArguments (node_in ls k).head k.kids → IsTable (nodes_in ls new)
made_table ls leaves ks k new all distinct grown t within fits leaf =
    record {
      before = elim grown [
        | inl same ↦ subst (λ l. (i : ℕ) (m : table.Node) → slice_get l i ≡ Some m → All (λ j. j < i) m.kids) (sym same) t.before
        | inr more ↦ subst (λ l. (i : ℕ) (m : table.Node) → slice_get l i ≡ Some m → All (λ j. j < i) m.kids) (sym more) (grown_before (nodes_in ls ks) (node_in ls k) t within)
      ];
      once = once node_eq (node_in ls) (λ (n : Stored). HasLeaf ls n.symbol) (tells_nodes ls leaves) new all distinct;
      fits = elim grown [
        | inl same ↦ subst (λ l. (i : ℕ) (m : table.Node) → slice_get l i ≡ Some m → IsTrue (head_fits m.head)) (sym same) t.fits
        | inr more ↦ subst (λ l. (i : ℕ) (m : table.Node) → slice_get l i ≡ Some m → IsTrue (head_fits m.head)) (sym more) (grown_fits (nodes_in ls ks) (node_in ls k) t fits)
      ];
      leaves = elim grown [
        | inl same ↦ subst (λ l. (i : ℕ) (m : table.Node) → slice_get l i ≡ Some m → HasItsArguments m.head m.kids) (sym same) t.leaves
        | inr more ↦ subst (λ l. (i : ℕ) (m : table.Node) → slice_get l i ≡ Some m → HasItsArguments m.head m.kids) (sym more) (grown_leaves (nodes_in ls ks) (node_in ls k) t leaf)
      ];
    }

-- the node at the place where a key equal to it stands
pub made_node : TellsHeads → (ls : List Leaf) (new : List Stored) (k : Stored) (id : ℕ) → (other : Stored) × (slice_get new id ≡ Some other) × (node_eq k other ≡ true)
    → slice_get (nodes_in ls new) id ≡ Some (node_in ls k)
made_node tells ls new k id found =
    slice_get-map (node_in ls) new id ∙ ap (option_map (node_in ls)) found.1 ∙ ap Some (sym (same_node tells ls k found.0 found.2))

-- numbers of the same terms are the same
same_numbers : (ns : List table.Node) → HasOneNumberEach ns → (is js : List ℕ) → All (λ i. i < length ns) is → All (λ j. j < length ns) js
    → terms_at (term_in ns) is ≡ terms_at (term_in ns) js → is ≡ js
same_numbers ns one [] [] h k e = refl
same_numbers ns one [] (j ∷ js) h k e = cc
same_numbers ns one (i ∷ is) [] h k e = cc
same_numbers ns one (i ∷ is) (j ∷ js) h k e =
    let first : term_in ns i ≡ term_in ns j = cc in
    let rest : terms_at (term_in ns) is ≡ terms_at (term_in ns) js = cc in
    let below = λ (i : ℕ). i < length ns in
    ap (λ l. i ∷ l) (same_numbers ns one is js (All-tail below i is h) (All-tail below j js k) rest)
    ∙ ap (λ n. n ∷ js) (one i j (All-head below i is h) (All-head below j js k) first)

-- the node of a term that is in a table
stands_for : OneNumber → TermOfNode → (ns : List table.Node) (k : table.Node) → IsTable ns → All (λ i. i < length ns) k.kids → IsInTable ns (apply k.head (terms_at (term_in ns) k.kids))
    → (i : ℕ) × (slice_get ns i ≡ Some k)
stands_for one_number of_node ns k t within there =
    let i = there.0 in
    let n = get_or ns i k in
    let stands : slice_get ns i ≡ Some n = slice_get-get_or ns i k there.1 in
    let term : apply n.head (terms_at (term_in ns) n.kids) ≡ apply k.head (terms_at (term_in ns) k.kids) = sym (of_node ns t i n stands) ∙ there.2 in
    let head : n.head ≡ k.head = cc in
    let arguments : terms_at (term_in ns) n.kids ≡ terms_at (term_in ns) k.kids = cc in
    let inside : i < length ns = there.1 in
    let below = All-weaker (λ j. j < i) (λ j. j < length ns) (λ j small. omega arith) n.kids (t.before i n stands) in
    let kids : n.kids ≡ k.kids = same_numbers ns (one_number ns t) n.kids k.kids below within arguments in
    let same : n ≡ k = λ j. record { head = head j; kids = kids j } in
    (i, stands ∙ ap Some same)

-- no node is of a head that has no symbol
no_head : (ls : List Leaf) (h : Head) → IsFoundSymbol ls h None → (ks : List Stored) → HaveLeaves ls ks → (i : ℕ) (n : table.Node) → slice_get (nodes_in ls ks) i ≡ Some n → n.head ≡ h → ⊥
no_head ls h none [] all i n at e = cc
no_head ls h none (k ∷ ks) all zero n at e =
    let same : node_in ls k ≡ n = cc in
    none k.symbol all.0 (ap (λ (m : table.Node). m.head) same ∙ e)
no_head ls h none (k ∷ ks) all (suc i) n at e = no_head ls h none ks all.1 i n at e

-- a key that no key is equal to is at no place
missing : (ls : List Leaf) → AreDistinctLeaves ls → (ks : List Stored) (k : Stored) → HaveLeaves ls ks → HasLeaf ls k.symbol → list_any (node_eq k) ks ≡ false
    → (i : ℕ) → slice_get (nodes_in ls ks) i ≡ Some (node_in ls k) → ⊥
missing ls leaves [] k all own gone i at = cc
missing ls leaves (y ∷ ys) k all own gone zero at =
    let same : node_in ls y ≡ node_in ls k = cc in
    true≢false (sym (tells_nodes ls leaves k y own all.0 (sym same)) ∙ (or_parts (node_eq k y) (list_any (node_eq k) ys) gone).0)
missing ls leaves (y ∷ ys) k all own gone (suc i) at = missing ls leaves ys k all.1 own (or_parts (node_eq k y) (list_any (node_eq k) ys) gone).1 i at

-- where a key is looked up, its term is found
pub found : TellsHeads → OneNumber → TermOfNode → (ls : List Leaf) (ks : List Stored) (k : Stored) (o : Option ℕ) → o ≡ position (node_eq k) ks
    → is_some o ≡ list_any (node_eq k) ks → AreStored ls ks → HasLeaf ls k.symbol
    → IsTable (nodes_in ls ks) → All (λ i. i < length (nodes_in ls ks)) k.kids
    → IsFound (nodes_in ls ks) (apply (node_in ls k).head (terms_at (term_in (nodes_in ls ks)) k.kids)) o
found tells one_number of_node ls ks k (Some i) at any w own t within =
    let ns = nodes_in ls ks in
    let place = position-Some (node_eq k) ks i k (sym at) in
    let there : slice_get ns i ≡ Some (node_in ls k) = made_node tells ls ks k i (get_or ks i k, slice_get-get_or ks i k place.0, place.1) in
    (slice_get_within ns i (node_in ls k) there, of_node ns t i (node_in ls k) there)
found tells one_number of_node ls ks k None at any w own t within =
    λ there.
    let place = stands_for one_number of_node (nodes_in ls ks) (node_in ls k) t within there in
    missing ls w.distinct ks k w.within own (sym any) place.0 place.1

-- where no node is of the head, no term is
pub headless : TermOfNode → (ls : List Leaf) (ks : List Stored) (h : Head) (ts : Terms) → IsTable (nodes_in ls ks) → HaveLeaves ls ks → IsFoundSymbol ls h None
    → IsFound (nodes_in ls ks) (apply h ts) None
headless of_node ls ks h ts t all none there =
    let ns = nodes_in ls ks in
    let i = there.0 in
    let n = get_or ns i (record { head = h; kids = [] }) in
    let stands : slice_get ns i ≡ Some n = slice_get-get_or ns i (record { head = h; kids = [] }) there.1 in
    let term : apply n.head (terms_at (term_in ns) n.kids) ≡ apply h ts = sym (of_node ns t i n stands) ∙ there.2 in
    let head : n.head ≡ h = cc in
    no_head ls h none ks all i n stands head
