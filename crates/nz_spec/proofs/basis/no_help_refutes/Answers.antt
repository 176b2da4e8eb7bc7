-- The law, as it is proved over plain data.
use Rattle.nz_spec.proofs.BlandRefutes as laws
use Rattle.nz_spec.proofs.basis.no_help_refutes.Goals as goal

pub returns : goal.returns
returns c = record { refutes = laws.no_help_refutes }
