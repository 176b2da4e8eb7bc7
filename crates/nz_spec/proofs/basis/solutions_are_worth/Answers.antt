-- The law, as it is proved over plain data.
use Rattle.nz_spec.proofs.BasisValues as laws
use Rattle.nz_spec.proofs.basis.solutions_are_worth.Goals as goal

pub returns : goal.returns
returns c = record { worth = laws.solutions_are_worth }
