-- The key that is looked up stands for the term.
use Rattle.std.proofs.Common.{◌<◌, length, All, None, sym, subst, ◌∙◌}
use Rattle.nz_spec.specs.terms.Term.{apply}
use Rattle.nz_spec.specs.terms.Table.{IsTable, term_in, terms_at}
use Rattle.nz_term.specs.declared.nodes.Stored.{Stored}
use Rattle.nz_term.specs.Found.{IsFound}
use Rattle.nz_term.specs.Heads.{head_of}
use Rattle.nz_term.specs.Leaves.{key_head}
use Rattle.nz_term.specs.Stored.{nodes_in}
use Rattle.nz_term.specs.Symbols.{IsFoundSymbol, IsSymbolOf, head_in}
use Rattle.nz_term.proofs.Tables.{found, headless}
use Rattle.nz_term.proofs.nodes.Nodes.find.Goals as goal

pub returns : goal.returns
returns c =
    let ls = c.self.inside.leaves.keys in
    let ks = c.self.inside.nodes.keys in
    let kids = c.args.kids.now in
    let h = head_of c.args.head in
    let none : IsFoundSymbol ls h None =
    subst (λ g. IsFoundSymbol ls g None) c.in_ok-key.ensures.head (subst (IsFoundSymbol ls (key_head c.in_ok-key.key)) c.in-None.is c.in_ok-symbol.ensures.symbol) in
    record {
      found = subst (λ l. IsFound l (apply h (terms_at (term_in l) kids)) None) c.self.view_is
          (headless c.term_of_node.ensures.node ls ks h (terms_at (term_in (nodes_in ls ks)) kids) (subst IsTable (sym c.self.view_is) c.requires.table) c.self.invariant.within none);
    }

pub returns-in-Some : goal.returns-in-Some
returns-in-Some c =
    let ls = c.self.inside.leaves.keys in
    let ks = c.self.inside.nodes.keys in
    let ns = c.args.self.now in
    let own = c.in_ok-kids-in-Some.kids in
    let symbol = c.in-Some.symbol in
    let key : Stored = record { symbol = symbol; kids = own } in
    let there : IsSymbolOf ls (key_head c.in_ok-key.key) symbol = subst (IsFoundSymbol ls (key_head c.in_ok-key.key)) c.in-Some.is c.in_ok-symbol.ensures.symbol in
    let within = subst (λ l. All (λ i. i < length l) own) (sym c.self.view_is) (subst (All (λ i. i < length ns)) (sym c.in_ok-kids-in-Some.ensures.ids) c.requires.within) in
    record {
      found = subst (λ h. IsFound ns (apply h (terms_at (term_in ns) c.args.kids.now)) c.get_index_of.result) (there.head ∙ c.in_ok-key.ensures.head)
          (subst (λ ks. IsFound ns (apply (head_in ls symbol) (terms_at (term_in ns) ks)) c.get_index_of.result) c.in_ok-kids-in-Some.ensures.ids
          (subst (λ l. IsFound l (apply (head_in ls symbol) (terms_at (term_in l) own)) c.get_index_of.result) c.self.view_is
          (found c.tells_heads.ensures.tells c.one_number.ensures.one c.term_of_node.ensures.node ls ks key c.get_index_of.result c.get_index_of.ensures.index c.get_index_of.ensures.found
          c.self.invariant there.within (subst IsTable (sym c.self.view_is) c.requires.table) within)));
    }
