-- The law, as it is proved over plain data.
use Rattle.nz_spec.proofs.Tables as laws
use Rattle.nz_spec.proofs.table.assigns_by_number.Goals as goal

pub returns : goal.returns
returns c = record { listed = laws.assigns_by_number }
