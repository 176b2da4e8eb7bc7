-- The law, as it is proved over plain data.
use Rattle.nz_cform.proofs.PartsCovered as laws
use Rattle.nz_cform.proofs.laws.rows_name_covered.Goals as goal

pub returns : goal.returns
returns c = record {
  named =
      laws.rows_name_covered c.units_are_parts.ensures.parts c.term_of_node.ensures.node c.one_number.ensures.one c.gates_are_named.ensures.named c.gates_name_arguments.ensures.named
      c.axioms_are_taken.ensures.taken;
}
