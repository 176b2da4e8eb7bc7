-- The law, as it is proved over plain data.
use Rattle.nz_cform.proofs.PartsCovered as laws
use Rattle.nz_cform.proofs.laws.rows_meet_tables.Goals as goal

pub returns : goal.returns
returns c = record { met = laws.rows_meet_tables c.term_of_node.ensures.node c.gates_are_named.ensures.named c.axioms_are_taken.ensures.taken }
