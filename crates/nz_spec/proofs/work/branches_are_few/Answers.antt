-- The law, as it is proved over plain data.
use Rattle.nz_spec.proofs.Gaps as laws
use Rattle.nz_spec.proofs.work.branches_are_few.Goals as goal

pub returns : goal.returns
returns c = record { few = laws.branches_are_few }
