-- The law, as it is proved over plain data.
use Rattle.nz_spec.proofs.Climbs as laws
use Rattle.nz_spec.proofs.climb.vertices_bound_goal.Goals as goal

pub returns : goal.returns
returns c = record { bound = laws.vertices_bound_goal }
