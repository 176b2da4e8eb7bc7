-- The law, as it is proved over plain data.
use Rattle.nz_spec.proofs.InfinitesimalOrder as laws
use Rattle.nz_spec.proofs.infinitesimal.infinitesimals_are_ordered.Goals as goal

pub returns : goal.returns
returns c = record { ordered = laws.infinitesimals_are_ordered }
