-- The law, as it is proved over plain data.
use Rattle.nz_spec.proofs.BlandPositions as laws
use Rattle.nz_spec.proofs.basis.positions_have_values.Goals as goal

pub returns : goal.returns
returns c = record { values = laws.positions_have_values }
