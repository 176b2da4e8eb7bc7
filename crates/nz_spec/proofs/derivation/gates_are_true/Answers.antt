-- The laws, as they are proved over plain data.
use Rattle.nz_spec.proofs.GateTruths as laws
use Rattle.nz_spec.proofs.derivation.gates_are_true.Goals as goal

pub returns : goal.returns
returns c = record { gates = laws.gates_are_true; plain = laws.plain_terms }
