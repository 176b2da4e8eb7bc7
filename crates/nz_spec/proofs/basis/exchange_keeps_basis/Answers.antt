-- The law, as it is proved over plain data.
use Rattle.nz_spec.proofs.BasisExchange as laws
use Rattle.nz_spec.proofs.basis.exchange_keeps_basis.Goals as goal

pub returns : goal.returns
returns c = record { kept = laws.exchange_keeps_basis }
