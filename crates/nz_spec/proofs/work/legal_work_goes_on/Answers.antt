-- The law, as it is proved over plain data.
use Rattle.nz_spec.proofs.LegalWork as laws
use Rattle.nz_spec.proofs.work.legal_work_goes_on.Goals as goal

pub returns : goal.returns
returns c = record { goes_on = laws.goes_on }
