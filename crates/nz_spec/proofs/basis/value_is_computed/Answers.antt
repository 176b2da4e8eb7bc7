-- The law, as it is proved over plain data.
use Rattle.nz_spec.proofs.BlandValues as laws
use Rattle.nz_spec.proofs.basis.value_is_computed.Goals as goal

pub returns : goal.returns
returns c = record { computed = laws.value_is_computed }
