-- The law, as it is proved over plain data.
use Rattle.nz_spec.proofs.BasisRows as laws
use Rattle.nz_spec.proofs.basis.coefficients_are_unique.Goals as goal

pub returns : goal.returns
returns c = record { unique = laws.coefficients_are_unique }
