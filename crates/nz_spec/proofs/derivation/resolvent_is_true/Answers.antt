-- The laws, as they are proved over plain data.
use Rattle.nz_spec.proofs.Literals as laws
use Rattle.nz_spec.proofs.derivation.resolvent_is_true.Goals as goal

pub returns : goal.returns
returns c = record { together = laws.together; resolvent = laws.resolvent_is_true }
