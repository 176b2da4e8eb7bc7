-- The laws, one by one.
use Rattle.nz_engine.proofs.prepared.search.search_laws.Goals as goal

pub returns : goal.returns
returns c = record {
  laws = record {
    rows = record { sums = c.forms_are_sums.ensures.sums; operands = c.operands_are_sorted.ensures.sorted };
    node = c.term_of_node.ensures.node;
    atoms = c.atoms_of_terms.ensures.atoms;
    tells = c.tells_lits.ensures.tells;
    covers = c.covers_stay.ensures.stay;
    restart = c.theories_restart.ensures.restart;
    goes_on = c.legal_work_goes_on.ensures.goes_on;
  };
}
