-- The law, as it is proved over plain data.
use Rattle.nz_spec.proofs.FormWorth as laws
use Rattle.nz_spec.proofs.basis.worth_is_by_units.Goals as goal

pub returns : goal.returns
returns c = record { units = laws.worth_is_by_units }
