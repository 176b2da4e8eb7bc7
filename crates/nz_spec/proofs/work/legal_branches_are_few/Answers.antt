-- The law, as it is proved over plain data.
use Rattle.nz_spec.proofs.BranchMarks as laws
use Rattle.nz_spec.proofs.work.legal_branches_are_few.Goals as goal

pub returns : goal.returns
returns c = record { few = laws.legal_branches_are_few }
