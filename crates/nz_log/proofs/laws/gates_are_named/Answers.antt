-- The law, as it is proved over plain data.
use Rattle.nz_log.proofs.NamedGates as laws
use Rattle.nz_log.proofs.laws.gates_are_named.Goals as goal

pub returns : goal.returns
returns c = record { named = laws.gates_are_named c.term_of_node.ensures.node }
