-- The law, as it is proved over plain data.
use Rattle.nz_spec.proofs.BasisExchange as laws
use Rattle.nz_spec.proofs.basis.solutions_stay.Goals as goal

pub returns : goal.returns
returns c = record { stay = laws.solutions_stay }
