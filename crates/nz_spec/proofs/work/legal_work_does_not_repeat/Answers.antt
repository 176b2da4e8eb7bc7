-- The law, as it is proved over plain data.
use Rattle.nz_spec.proofs.LegalWork as laws
use Rattle.nz_spec.proofs.work.legal_work_does_not_repeat.Goals as goal

pub returns : goal.returns
returns c = record { repeats = laws.does_not_repeat }
