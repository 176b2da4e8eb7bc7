-- The law, as it is proved over plain data.
use Rattle.nz_spec.proofs.BoundChanges as laws
use Rattle.nz_spec.proofs.deciding.telling_sets_bounds.Goals as goal

pub returns : goal.returns
returns c = record { sets = laws.telling_sets_bounds }
