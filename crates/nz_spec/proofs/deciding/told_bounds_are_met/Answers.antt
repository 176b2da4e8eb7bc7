-- The law, as it is proved over plain data.
use Rattle.nz_spec.proofs.ToldBounds as laws
use Rattle.nz_spec.proofs.deciding.told_bounds_are_met.Goals as goal

pub returns : goal.returns
returns c = record { met = laws.told_bounds_are_met }
