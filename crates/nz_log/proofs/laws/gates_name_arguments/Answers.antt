-- The law, as it is proved over plain data.
use Rattle.nz_log.proofs.Members as laws
use Rattle.nz_log.proofs.laws.gates_name_arguments.Goals as goal

pub returns : goal.returns
returns c = record { named = laws.gates_name_arguments }
