-- What the equality of leaves, symbols and stored nodes says: two are equal exactly where they stand for the same.
use Rattle.std.proofs.Common.{◌≡◌, ℕ, zero, suc, ◌<◌, ◌≤◌, true, List, [], ◌∷◌, ◌++◌, length, map, Some, slice_get, refl, sym, ap, ◌∙◌, arith}
use Rattle.std.specs.Prelude.{bytes_eq, ◌&&◌, ⊤}
use Rattle.std.specs.Cmp.{first_so, second_so}
use Rattle.std.specs.List.{AllByRecursion}
use Rattle.std.proofs.lemmas.Slice.Eq.{bytes_eq-Decides}
use Rattle.nz_spec.specs.clauses.Literal.{TellsHeads, head_kind, head_numbers}
use Rattle.nz_term.specs.declared.heads.Operator.{Operator}
use Rattle.nz_term.specs.declared.heads.Operator.TheVariants.{True}
use Rattle.nz_term.specs.declared.leaves.Leaf.{Leaf}
use Rattle.nz_term.specs.declared.leaves.Leaf.TheVariants as leaf
use Rattle.nz_term.specs.declared.nodes.Stored.{Stored}
use Rattle.nz_term.specs.declared.symbols.Symbol as symbols
use Rattle.nz_term.specs.declared.symbols.Symbol.TheVariants as symbol
use Rattle.nz_term.specs.contracts.nodes.StoredPartialEq.TheImpl as stored
use Rattle.nz_term.specs.Heads.{operator_of}
use Rattle.nz_term.specs.Leaves.{AreDistinctLeaves, are_same_leaf, leaf_head}
use Rattle.nz_term.specs.Stored.{node_in}
use Rattle.nz_term.specs.Symbols.{HasLeaf, are_same_symbol, head_in, head_or_falsum, symbol_numbers}
use Rattle.nz_term.proofs.Keys.{once}

-- ---- Kinds

leaf_kind : (l : Leaf) → head_kind (leaf_head l) ≤ 3
leaf_kind (leaf.Constant c) = omega arith
leaf_kind (leaf.Parameter i s) = omega arith
leaf_kind (leaf.Integer n) = omega arith
leaf_kind (leaf.Decimal n places) = omega arith

operator_kind : (o : Operator) → 4 ≤ head_kind (operator_of o)
operator_kind True = omega arith
operator_kind o = omega arith

-- a leaf is no operator
pub kinds_apart : (l : Leaf) (o : Operator) → leaf_head l ≡ operator_of o → ⊥
kinds_apart l o e =
    let low = leaf_kind l in
    let high = operator_kind o in
    let same : head_kind (leaf_head l) ≡ head_kind (operator_of o) = ap head_kind e in
    omega arith

-- an operator holds nothing but its kind and its sort
bare : (o : Operator) → head_numbers (operator_of o) ≡ symbol_numbers (symbol.Operator o) ++ 0 ∷ 0 ∷ []
bare True = refl
bare o = refl

-- ---- Leaves

-- leaves of one head are equal
pub tells_leaves : (a b : Leaf) → leaf_head a ≡ leaf_head b → are_same_leaf a b ≡ true
tells_leaves a b e = (bytes_eq-Decides (head_numbers (leaf_head a)) (head_numbers (leaf_head b))).1 (ap head_numbers e)

every : (ls : List Leaf) → AllByRecursion (λ (l : Leaf). ⊤) ls
every [] = tt
every (l ∷ ls) = (tt, every ls)

-- a place within is that of a leaf
leaf_there : (ls : List Leaf) (i : ℕ) → i < length ls → slice_get (map leaf_head ls) i ≡ Some (head_or_falsum (slice_get ls i))
leaf_there [] i below = absurd (omega arith)
leaf_there (l ∷ ls) zero below = refl
leaf_there (l ∷ ls) (suc i) below = leaf_there ls i (omega arith)

-- and no operator's
leaf_apart : (ls : List Leaf) (i : ℕ) (o : Operator) → i < length ls → head_or_falsum (slice_get ls i) ≡ operator_of o → ⊥
leaf_apart [] i o below e = absurd (omega arith)
leaf_apart (l ∷ ls) zero o below e = kinds_apart l o e
leaf_apart (l ∷ ls) (suc i) o below e = leaf_apart ls i o (omega arith) e

one_place : (ls : List Leaf) → AreDistinctLeaves ls → (i j : ℕ) → i < length ls → j < length ls
    → head_or_falsum (slice_get ls i) ≡ head_or_falsum (slice_get ls j) → i ≡ j
one_place ls distinct i j below within e =
    once are_same_leaf leaf_head (λ l. ⊤) (λ a b s t. tells_leaves a b) ls (every ls) distinct i j (head_or_falsum (slice_get ls j))
    (leaf_there ls i below ∙ ap Some e) (leaf_there ls j within)

-- ---- Symbols

-- equal symbols are of one head
same_symbol : TellsHeads → (ls : List Leaf) (a b : symbols.Symbol) → are_same_symbol a b ≡ true → head_in ls a ≡ head_in ls b
same_symbol tells ls (symbol.Leaf i) (symbol.Leaf j) e =
    let numbers = (bytes_eq-Decides (symbol_numbers (symbol.Leaf i)) (symbol_numbers (symbol.Leaf j))).0 e in
    let place : i ≡ j = cc in
    ap (λ k. head_or_falsum (slice_get ls k)) place
same_symbol tells ls (symbol.Leaf i) (symbol.Operator o) e =
    let numbers = (bytes_eq-Decides (symbol_numbers (symbol.Leaf i)) (symbol_numbers (symbol.Operator o))).0 e in
    let kind : 0 ≡ head_kind (operator_of o) = cc in
    let high = operator_kind o in
    absurd (omega arith)
same_symbol tells ls (symbol.Operator o) (symbol.Leaf i) e =
    let numbers = (bytes_eq-Decides (symbol_numbers (symbol.Operator o)) (symbol_numbers (symbol.Leaf i))).0 e in
    let kind : head_kind (operator_of o) ≡ 0 = cc in
    let high = operator_kind o in
    absurd (omega arith)
same_symbol tells ls (symbol.Operator o) (symbol.Operator p) e =
    let numbers = (bytes_eq-Decides (symbol_numbers (symbol.Operator o)) (symbol_numbers (symbol.Operator p))).0 e in
    let all : head_numbers (operator_of o) ≡ head_numbers (operator_of p) = bare o ∙ ap (λ ns. ns ++ 0 ∷ 0 ∷ []) numbers ∙ sym (bare p) in
    tells (operator_of o) (operator_of p) ((bytes_eq-Decides (head_numbers (operator_of o)) (head_numbers (operator_of p))).1 all)

-- and symbols of one head are equal
tells_symbols : (ls : List Leaf) → AreDistinctLeaves ls → (a b : symbols.Symbol) → HasLeaf ls a → HasLeaf ls b → head_in ls a ≡ head_in ls b → are_same_symbol a b ≡ true
tells_symbols ls distinct (symbol.Leaf i) (symbol.Leaf j) below within e =
    (bytes_eq-Decides (symbol_numbers (symbol.Leaf i)) (symbol_numbers (symbol.Leaf j))).1 (ap (λ k. 0 ∷ k ∷ []) (one_place ls distinct i j below within e))
tells_symbols ls distinct (symbol.Leaf i) (symbol.Operator o) below within e = absurd (leaf_apart ls i o below e)
tells_symbols ls distinct (symbol.Operator o) (symbol.Leaf i) below within e = absurd (leaf_apart ls i o within (sym e))
tells_symbols ls distinct (symbol.Operator o) (symbol.Operator p) below within e =
    let all : head_numbers (operator_of o) ≡ head_numbers (operator_of p) = ap head_numbers e in
    let numbers : symbol_numbers (symbol.Operator o) ++ 0 ∷ 0 ∷ [] ≡ symbol_numbers (symbol.Operator p) ++ 0 ∷ 0 ∷ [] = sym (bare o) ∙ all ∙ bare p in
    let kind : head_kind (operator_of o) ≡ head_kind (operator_of p) = cc in
    (bytes_eq-Decides (symbol_numbers (symbol.Operator o)) (symbol_numbers (symbol.Operator p))).1 (cc)

-- ---- Nodes

-- equal nodes are one node
pub same_node : TellsHeads → (ls : List Leaf) (a b : Stored) → stored.eq-value.it a b ≡ true → node_in ls a ≡ node_in ls b
same_node tells ls a b e =
    let kids : a.kids ≡ b.kids = (bytes_eq-Decides a.kids b.kids).0 (second_so (are_same_symbol a.symbol b.symbol) (bytes_eq a.kids b.kids) e) in
    let head : head_in ls a.symbol ≡ head_in ls b.symbol = same_symbol tells ls a.symbol b.symbol (first_so (are_same_symbol a.symbol b.symbol) (bytes_eq a.kids b.kids) e) in
    λ i. record { head = head i; kids = kids i }

-- and one node is equal to itself, whoever holds it
pub tells_nodes : (ls : List Leaf) → AreDistinctLeaves ls → (a b : Stored) → HasLeaf ls a.symbol → HasLeaf ls b.symbol → node_in ls a ≡ node_in ls b
    → stored.eq-value.it a b ≡ true
tells_nodes ls distinct a b below within e =
    let one : are_same_symbol a.symbol b.symbol ≡ true = tells_symbols ls distinct a.symbol b.symbol below within (ap (λ n. n.head) e) in
    let all : bytes_eq a.kids b.kids ≡ true = (bytes_eq-Decides a.kids b.kids).1 (ap (λ n. n.kids) e) in
    λ i. one i && all i
