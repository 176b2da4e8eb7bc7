-- The laws, as they are proved over plain data.
use Rattle.nz_spec.proofs.GateDecisions as laws
use Rattle.nz_spec.proofs.derivation.gates_decide.Goals as goal

pub returns : goal.returns
returns c = record { decide = laws.gates_decide; numbers = laws.numbered_gates_decide; plain = laws.gated_plain }
