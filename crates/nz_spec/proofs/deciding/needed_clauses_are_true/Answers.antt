-- The law, as it is proved over plain data.
use Rattle.nz_spec.proofs.NeededTruths as laws
use Rattle.nz_spec.proofs.deciding.needed_clauses_are_true.Goals as goal

pub returns : goal.returns
returns c = record { are_true = laws.needed_clauses_are_true }
