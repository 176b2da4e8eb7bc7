-- The nodes with one looked up, or put last, beside the leaves with its own.
use Rattle.std.proofs.Common.{◌≡◌, ◌<◌, length, All, IsTrue, Some, inl, sym, ap, subst, slice_get, ◌∙◌}
use Rattle.nz_spec.specs.terms.Term.{head_fits}
use Rattle.nz_spec.specs.terms.Table as table
use Rattle.nz_spec.specs.terms.Table.{HasItsArguments, IsTable}
use Rattle.nz_term.specs.declared.nodes.Stored.{Stored}
use Rattle.nz_term.specs.Growth.{GoesOn}
use Rattle.nz_term.specs.Nodes.{node_with}
use Rattle.nz_term.specs.Stored.{node_in, nodes_in}
use Rattle.nz_term.proofs.LeafTables.{kept_nodes, kept_within}
use Rattle.nz_term.proofs.FactMarks.{on_err}
use Rattle.nz_term.proofs.Tables.{HaveLeaves, leaves_made, made_grown, made_node, made_table}
use Rattle.nz_term.proofs.nodes.Nodes.put.Goals as goal
use Rattle.nz_term.proofs.nodes.Nodes.put.Goals.{After-put_symbol, In_ok-id}

-- the nodes are the same beside what is put into the leaves
still : (c : After-put_symbol) → nodes_in c.put_symbol.new.leaves.keys c.self.inside.nodes.keys ≡ c.args.self.now
still c =
    kept_nodes c.self.inside.leaves.keys c.put_symbol.new.leaves.keys c.put_symbol.ensures.kept c.self.inside.nodes.keys c.self.invariant.within ∙ c.self.view_is

within : (c : After-put_symbol) → HaveLeaves c.put_symbol.new.leaves.keys c.self.inside.nodes.keys
within c = kept_within c.self.inside.leaves.keys c.put_symbol.new.leaves.keys c.put_symbol.ensures.kept c.self.inside.nodes.keys c.self.invariant.within

pub returns-in_err-symbol-clause-goes_on : goal.returns-in_err-symbol-clause-goes_on
returns-in_err-symbol-clause-goes_on c = inl (still (goal.at.returns-in_err-symbol-clause-goes_on c).After-put_symbol)

pub returns-in_err-symbol-clause-table : goal.returns-in_err-symbol-clause-table
returns-in_err-symbol-clause-table c = subst IsTable (sym (still (goal.at.returns-in_err-symbol-clause-table c).After-put_symbol)) c.requires.table

pub returns-in_err-symbol-clause-unchanged : goal.returns-in_err-symbol-clause-unchanged
returns-in_err-symbol-clause-unchanged c =
    on_err c.from_residual-in_err-symbol.result (still (goal.at.returns-in_err-symbol-clause-unchanged c).After-put_symbol)

pub invariant_of-self-in_err-id : goal.invariant_of-self-in_err-id
invariant_of-self-in_err-id c =
    record {
      distinct = c.put_symbol.ensures.distinct;
      within = subst (HaveLeaves c.put_symbol.new.leaves.keys) (sym c.in_err-id.ensures.err) (within (goal.at.invariant_of-self-in_err-id c).After-put_symbol);
    }

pub returns-in_err-id-clause-goes_on : goal.returns-in_err-id-clause-goes_on
returns-in_err-id-clause-goes_on c =
    inl (ap (nodes_in c.put_symbol.new.leaves.keys) c.in_err-id.ensures.err ∙ still (goal.at.returns-in_err-id-clause-goes_on c).After-put_symbol)

pub returns-in_err-id-clause-table : goal.returns-in_err-id-clause-table
returns-in_err-id-clause-table c =
    subst IsTable (sym (ap (nodes_in c.put_symbol.new.leaves.keys) c.in_err-id.ensures.err ∙ still (goal.at.returns-in_err-id-clause-table c).After-put_symbol)) c.requires.table

pub returns-in_err-id-clause-unchanged : goal.returns-in_err-id-clause-unchanged
returns-in_err-id-clause-unchanged c =
    on_err c.from_residual-in_err-id.result
    (ap (nodes_in c.put_symbol.new.leaves.keys) c.in_err-id.ensures.err ∙ still (goal.at.returns-in_err-id-clause-unchanged c).After-put_symbol)

-- ---- Where nothing failed

abbrev key : In_ok-id → Stored
key c = record { symbol = c.in_ok-symbol.symbol; kids = c.in_ok-kids.kids }

-- the key stands for the node
stands : (c : In_ok-id) → node_in c.put_symbol.new.leaves.keys (key c) ≡ node_with c.args.head c.args.kids.now
stands c =
    let head = c.in_ok-symbol.ensures.symbol.head ∙ c.in_ok-key.ensures.head in
    λ i. record { head = head i; kids = c.in_ok-kids.ensures.ids i }

grown : (c : In_ok-id) → GoesOn (nodes_in c.put_symbol.new.leaves.keys c.self.inside.nodes.keys) (node_in c.put_symbol.new.leaves.keys (key c)) (nodes_in c.put_symbol.new.leaves.keys c.insert_full.new.self.keys)
grown c = made_grown c.put_symbol.new.leaves.keys c.self.inside.nodes.keys (key c) c.insert_full.new.self.keys c.in_ok-id.ensures.keys

all_within : (c : In_ok-id) → HaveLeaves c.put_symbol.new.leaves.keys c.insert_full.new.self.keys
all_within c =
    leaves_made c.put_symbol.new.leaves.keys c.self.inside.nodes.keys (key c) c.insert_full.new.self.keys c.in_ok-id.ensures.keys
    (kept_within c.self.inside.leaves.keys c.put_symbol.new.leaves.keys c.put_symbol.ensures.kept c.self.inside.nodes.keys c.self.invariant.within) c.in_ok-symbol.ensures.symbol.within

pub invariant_of-self-2 : goal.invariant_of-self-2
invariant_of-self-2 c = record { distinct = c.put_symbol.ensures.distinct; within = all_within c }

pub returns-clause-goes_on : goal.returns-clause-goes_on
returns-clause-goes_on c =
    let ms = c.put_symbol.new.leaves.keys in
    subst (λ l. GoesOn l (node_with c.args.head c.args.kids.now) (nodes_in ms c.insert_full.new.self.keys)) (still (goal.at.returns-clause-goes_on c).After-put_symbol)
    (subst (λ (n : table.Node). GoesOn (nodes_in ms c.self.inside.nodes.keys) n (nodes_in ms c.insert_full.new.self.keys)) (stands c) (grown c))

pub returns-clause-table : goal.returns-clause-table
returns-clause-table c =
    let ms = c.put_symbol.new.leaves.keys in
    let ks = c.self.inside.nodes.keys in
    let same = still (goal.at.returns-clause-table c).After-put_symbol in
    made_table ms c.put_symbol.ensures.distinct ks (key c) c.insert_full.new.self.keys (all_within c) c.insert_full.ensures.unique (grown c) (subst IsTable (sym same) c.requires.table)
    (subst (λ l. All (λ k. k < length l) c.in_ok-kids.kids) (sym same) (subst (All (λ k. k < length c.args.self.now)) (sym c.in_ok-kids.ensures.ids) c.requires.within))
    (subst (λ (n : table.Node). IsTrue (head_fits n.head)) (sym (stands c)) c.requires.fits)
    (subst (λ (n : table.Node). HasItsArguments n.head n.kids) (sym (stands c)) c.requires.leaves)

pub returns-clause-node : goal.returns-clause-node
returns-clause-node c =
    let ms = c.put_symbol.new.leaves.keys in
    subst (λ (n : table.Node). slice_get (nodes_in ms c.insert_full.new.self.keys) c.in_ok-id.id ≡ Some n) (stands c)
    (made_node c.tells_heads.ensures.tells ms c.insert_full.new.self.keys (key c) c.in_ok-id.id c.in_ok-id.ensures.stored)
