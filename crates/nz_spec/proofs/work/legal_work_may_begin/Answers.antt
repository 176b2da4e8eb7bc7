-- The law, as it is proved over plain data.
use Rattle.nz_spec.proofs.Starts as laws
use Rattle.nz_spec.proofs.work.legal_work_may_begin.Goals as goal

pub returns : goal.returns
returns c = record { begins = laws.legal_work_may_begin }
