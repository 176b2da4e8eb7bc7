-- The law, as it is proved over plain data.
use Rattle.nz_spec.proofs.BlandReturns as laws
use Rattle.nz_spec.proofs.basis.no_posture_returns.Goals as goal

pub returns : goal.returns
returns c = record { returns = laws.no_posture_returns }
