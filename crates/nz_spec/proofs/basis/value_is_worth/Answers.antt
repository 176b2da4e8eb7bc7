-- The law, as it is proved over plain data.
use Rattle.nz_spec.proofs.FormValues as laws
use Rattle.nz_spec.proofs.basis.value_is_worth.Goals as goal

pub returns : goal.returns
returns c = record { worth = laws.value_is_worth }
