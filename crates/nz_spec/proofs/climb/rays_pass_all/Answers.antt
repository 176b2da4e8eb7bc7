-- The law, as it is proved over plain data.
use Rattle.nz_spec.proofs.Climbs as laws
use Rattle.nz_spec.proofs.climb.rays_pass_all.Goals as goal

pub returns : goal.returns
returns c = record { passes = laws.rays_pass_all }
