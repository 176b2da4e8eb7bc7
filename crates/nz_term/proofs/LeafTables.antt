-- Leaves that are put into their table, and found there.
use Rattle.std.proofs.Common.{◌≡◌, ℕ, zero, suc, ◌<◌, true, false, List, [], ◌∷◌, length, Option, Some, None, slice_get, get_or, refl, sym, ap, ◌∙◌, arith, true≢false}
use Rattle.std.specs.Prelude.{position, is_some, option_map}
use Rattle.std.specs.List.{AllByRecursion, list_any}
use Rattle.std.proofs.lemmas.Bool.{or_parts}
use Rattle.std.proofs.lemmas.List.Quantifiers.{position-Some}
use Rattle.std.proofs.lemmas.Option.{slice_get-get_or, slice_get_within}
use Rattle.nz_spec.specs.clauses.Literal.{TellsHeads}
use Rattle.nz_term.specs.declared.heads.Operator.{Operator}
use Rattle.nz_term.specs.declared.leaves.Leaf.{Leaf}
use Rattle.nz_term.specs.declared.nodes.Stored.{Stored}
use Rattle.nz_term.specs.declared.symbols.Symbol as symbols
use Rattle.nz_term.specs.declared.symbols.Symbol.TheVariants as symbol
use Rattle.nz_term.specs.Leaves.{AreKept, are_same_leaf, leaf_head}
use Rattle.nz_term.specs.Stored.{nodes_in}
use Rattle.nz_term.specs.Symbols.{HasLeaf, IsFoundSymbol, IsSymbolOf, head_in, head_or_falsum, leaf_at}
use Rattle.nz_term.proofs.Equality.{kinds_apart, tells_leaves}

-- ---- What is kept

kept_head : (old new : List Leaf) → AreKept old new → (s : symbols.Symbol) → HasLeaf old s → head_in new s ≡ head_in old s
kept_head old new k (symbol.Leaf i) below = ap head_or_falsum (k.1 i below)
kept_head old new k (symbol.Operator o) below = refl

kept_leaf : (old new : List Leaf) → AreKept old new → (s : symbols.Symbol) → HasLeaf old s → HasLeaf new s
kept_leaf old new k (symbol.Leaf i) below = let long = k.0 in omega arith
kept_leaf old new k (symbol.Operator o) below = tt

-- the nodes are the same beside more leaves
pub kept_nodes : (old new : List Leaf) → AreKept old new → (ns : List Stored) → AllByRecursion (λ (n : Stored). HasLeaf old n.symbol) ns → nodes_in new ns ≡ nodes_in old ns
kept_nodes old new k [] all = refl
kept_nodes old new k (n ∷ ns) all =
    let head = kept_head old new k n.symbol all.0 in
    let rest = kept_nodes old new k ns all.1 in
    λ i. record { head = head i; kids = n.kids } ∷ rest i

pub kept_within : (old new : List Leaf) → AreKept old new → (ns : List Stored) → AllByRecursion (λ (n : Stored). HasLeaf old n.symbol) ns
    → AllByRecursion (λ (n : Stored). HasLeaf new n.symbol) ns
kept_within old new k [] all = tt
kept_within old new k (n ∷ ns) all = (kept_leaf old new k n.symbol all.0, kept_within old new k ns all.1)

-- ---- The symbol of a head

-- the leaf at the place where one equal to it stands
pub symbol_put : TellsHeads → (ls : List Leaf) (l : Leaf) (i : ℕ) → (other : Leaf) × (slice_get ls i ≡ Some other) × (are_same_leaf l other ≡ true)
    → IsSymbolOf ls (leaf_head l) (leaf_at i)
symbol_put tells ls l i found = record {
  within = slice_get_within ls i found.0 found.1;
  head = ap head_or_falsum found.1 ∙ sym (tells (leaf_head l) (leaf_head found.0) found.2);
}

-- a leaf that none is equal to has no place
no_place : (ls : List Leaf) (l : Leaf) → list_any (are_same_leaf l) ls ≡ false → (i : ℕ) → i < length ls → head_or_falsum (slice_get ls i) ≡ leaf_head l → ⊥
no_place [] l gone i below e = absurd (omega arith)
no_place (m ∷ ms) l gone zero below e = true≢false (sym (tells_leaves l m (sym e)) ∙ (or_parts (are_same_leaf l m) (list_any (are_same_leaf l) ms) gone).0)
no_place (m ∷ ms) l gone (suc i) below e = no_place ms l (or_parts (are_same_leaf l m) (list_any (are_same_leaf l) ms) gone).1 i (omega arith) e

no_symbol : (ls : List Leaf) (l : Leaf) → list_any (are_same_leaf l) ls ≡ false → IsFoundSymbol ls (leaf_head l) None
no_symbol ls l gone (symbol.Leaf i) below e = no_place ls l gone i below e
no_symbol ls l gone (symbol.Operator o) below e = kinds_apart l o (sym e)

pub symbol_found : TellsHeads → (ls : List Leaf) (l : Leaf) (o : Option ℕ) → o ≡ position (are_same_leaf l) ls → is_some o ≡ list_any (are_same_leaf l) ls
    → IsFoundSymbol ls (leaf_head l) (option_map leaf_at o)
symbol_found tells ls l (Some i) at any =
    let place = position-Some (are_same_leaf l) ls i l (sym at) in
    symbol_put tells ls l i (get_or ls i l, slice_get-get_or ls i l place.0, place.1)
symbol_found tells ls l None at any = no_symbol ls l (sym any)
