-- The law, as it is proved over plain data.
use Rattle.nz_spec.proofs.Normal as laws
use Rattle.nz_spec.proofs.term.normal_keeps_value.Goals as goal

pub returns : goal.returns
returns c = record { keeps = laws.normal_keeps_value }
