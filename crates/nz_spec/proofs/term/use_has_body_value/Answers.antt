-- The law, as it is proved over plain data.
use Rattle.nz_spec.proofs.Uses as laws
use Rattle.nz_spec.proofs.term.use_has_body_value.Goals as goal

pub returns : goal.returns
returns c = record { value = laws.use_has_body_value }
