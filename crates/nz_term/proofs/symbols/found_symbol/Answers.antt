-- The symbol of a leaf by its place.
use Rattle.std.proofs.Common.{sym, subst}
use Rattle.std.specs.Prelude.{option_map, None}
use Rattle.nz_term.specs.Leaves.{key_head, leaf_head}
use Rattle.nz_term.specs.Symbols.{IsFoundSymbol, IsSymbolOf, leaf_at}
use Rattle.nz_term.proofs.LeafTables.{symbol_found}
use Rattle.nz_term.proofs.symbols.found_symbol.Goals as goal

pub returns-in_ok-symbol-in-Some : goal.returns-in_ok-symbol-in-Some
returns-in_ok-symbol-in-Some c =
    let ls = c.args.leaves.now.keys in
    let leaf = c.in-Leaf.leaf in
    let found = symbol_found c.tells_heads.ensures.tells ls leaf c.get_index_of.result c.get_index_of.ensures.index c.get_index_of.ensures.found in
    record {
      symbol = subst (IsSymbolOf ls (key_head c.args.key.now)) (sym c.in_ok-symbol-in-Some.ensures.symbol)
          (subst (λ k. IsSymbolOf ls (key_head k) (leaf_at c.in-Some.place)) (sym c.in-Leaf.is)
          (subst (λ o. IsFoundSymbol ls (leaf_head leaf) (option_map leaf_at o)) c.in-Some.is found));
    }

pub returns-in-None : goal.returns-in-None
returns-in-None c =
    let ls = c.args.leaves.now.keys in
    let leaf = c.in-Leaf.leaf in
    let found = symbol_found c.tells_heads.ensures.tells ls leaf c.get_index_of.result c.get_index_of.ensures.index c.get_index_of.ensures.found in
    record {
      symbol = subst (λ k. IsFoundSymbol ls (key_head k) None) (sym c.in-Leaf.is)
          (subst (λ o. IsFoundSymbol ls (leaf_head leaf) (option_map leaf_at o)) c.in-None.is found);
    }
