-- The law, as it is proved over plain data.
use Rattle.nz_spec.proofs.RenumberedSteps as laws
use Rattle.nz_spec.proofs.derivation.derivations_renumber.Goals as goal

pub returns : goal.returns
returns c = record { renumber = laws.derivations_renumber }
