-- The law, as it is proved over plain data.
use Rattle.nz_spec.proofs.Derivations as laws
use Rattle.nz_spec.proofs.derivation.derivations_grow.Goals as goal

pub returns : goal.returns
returns c = record { grow = laws.derivations_grow }
