-- The law, as it is proved over plain data.
use Rattle.nz_spec.proofs.UnitTruths as laws
use Rattle.nz_spec.proofs.arithmetic.units_are_true.Goals as goal

pub returns : goal.returns
returns c = record { clauses = laws.units_are_true }
