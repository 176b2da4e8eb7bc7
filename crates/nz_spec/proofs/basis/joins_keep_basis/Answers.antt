-- The law, as it is proved over plain data.
use Rattle.nz_spec.proofs.BasisJoins as laws
use Rattle.nz_spec.proofs.basis.joins_keep_basis.Goals as goal

pub returns : goal.returns
returns c = record { kept = laws.joins_keep_basis }
