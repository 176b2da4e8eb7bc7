-- The law, as it is proved over plain data.
use Rattle.nz_spec.proofs.ClimbSteps as laws
use Rattle.nz_spec.proofs.basis.climb_steps_keep_basis.Goals as goal

pub returns : goal.returns
returns c = record { kept = laws.climb_steps_keep_basis }
