-- The law, as it is proved over plain data.
use Rattle.nz_spec.proofs.DecidedTerms as laws
use Rattle.nz_spec.proofs.deciding.tables_decide.Goals as goal

pub returns : goal.returns
returns c = record { decide = laws.tables_decide }
