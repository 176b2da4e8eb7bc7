-- The law, as it is proved over plain data.
use Rattle.nz_spec.proofs.RenumberedSums as laws
use Rattle.nz_spec.proofs.form.sums_renumber.Goals as goal

pub returns : goal.returns
returns c = record { renumber = laws.sums_renumber }
