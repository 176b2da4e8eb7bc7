-- The law, as it is proved over plain data.
use Rattle.nz_spec.proofs.IntegerSums as laws
use Rattle.nz_spec.proofs.arithmetic.branches_are_true.Goals as goal

pub returns : goal.returns
returns c = record { clauses = laws.branches_are_true }
