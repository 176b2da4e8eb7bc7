-- The key that is looked up is the atom.
use Rattle.std.proofs.Common.{List, subst}
use Rattle.nz_log.specs.declared.atoms.Atom.{Atom}
use Rattle.nz_log.specs.Atoms.{IsFoundTerm}
use Rattle.nz_log.proofs.AtomTables.{found_term, small_found}
use Rattle.nz_log.proofs.atoms.Atoms.find_term.Goals as goal

pub returns : goal.returns
returns c =
    let keys = c.self.inside.atoms.keys in
    let found = found_term keys c.args.term c.get_index_of.result c.self.invariant c.get_index_of.ensures.index c.get_index_of.ensures.found in
    record {
      found = subst (λ (list : List Atom). IsFoundTerm list c.args.term c.get_index_of.result) c.self.view_is found;
      small = small_found keys c.args.term c.get_index_of.result c.self.invariant found;
    }
