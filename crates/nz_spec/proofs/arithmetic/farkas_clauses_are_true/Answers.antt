-- The law, as it is proved over plain data.
use Rattle.nz_spec.proofs.FarkasSums as laws
use Rattle.nz_spec.proofs.arithmetic.farkas_clauses_are_true.Goals as goal

pub returns : goal.returns
returns c = record { clauses = laws.farkas_clauses_are_true }
