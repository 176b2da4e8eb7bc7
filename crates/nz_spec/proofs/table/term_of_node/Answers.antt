-- The law, as it is proved over plain data.
use Rattle.nz_spec.proofs.Tables as laws
use Rattle.nz_spec.proofs.table.term_of_node.Goals as goal

pub returns : goal.returns
returns c = record { node = laws.term_of_node }
