-- The law, as it is proved over plain data.
use Rattle.nz_spec.proofs.BlandSteps as laws
use Rattle.nz_spec.proofs.basis.check_steps_keep_basis.Goals as goal

pub returns : goal.returns
returns c = record { kept = laws.check_steps_keep_basis }
