-- The law, as it is proved over plain data.
use Rattle.nz_spec.proofs.Literals as laws
use Rattle.nz_spec.proofs.derivation.negation_is_other.Goals as goal

pub returns : goal.returns
returns c = record { other = laws.negation_is }
