-- The law, as it is proved over plain data.
use Rattle.nz_spec.proofs.CutSums as laws
use Rattle.nz_spec.proofs.arithmetic.cuts_are_true.Goals as goal

pub returns : goal.returns
returns c = record { clauses = laws.cuts_are_true }
