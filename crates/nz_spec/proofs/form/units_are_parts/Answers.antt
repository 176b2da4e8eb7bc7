-- The law, as it is proved over plain data.
use Rattle.nz_spec.proofs.SumUnits as laws
use Rattle.nz_spec.proofs.form.units_are_parts.Goals as goal

pub returns : goal.returns
returns c = record { parts = laws.units_are_parts }
