-- The law, as it is proved over plain data.
use Rattle.nz_spec.proofs.RenumberedWork as laws
use Rattle.nz_spec.proofs.work.renumbered_work_is_legal.Goals as goal

pub returns : goal.returns
returns c = record { legal = laws.renumbered_work_is_legal }
