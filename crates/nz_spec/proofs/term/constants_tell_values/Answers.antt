-- The law, as it is proved over plain data.
use Rattle.nz_spec.proofs.ConstantValues as laws
use Rattle.nz_spec.proofs.term.constants_tell_values.Goals as goal

pub returns : goal.returns
returns c = record { tell = laws.constants_tell_values }
