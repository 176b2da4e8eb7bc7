-- The law, as it is proved over plain data.
use Rattle.nz_spec.proofs.BlandBounds as laws
use Rattle.nz_spec.proofs.basis.bounds_say_what_they_mean.Goals as goal

pub returns : goal.returns
returns c = record { mean = laws.bounds_say_what_they_mean }
