-- The worked families, as they are proved over plain data.
use Rattle.nz_spec.proofs.WorkedFamilies.{steady_family}
use Rattle.nz_spec.proofs.climb.worked_families.Goals as goal

pub returns : goal.returns
returns c = record { steady = steady_family }
