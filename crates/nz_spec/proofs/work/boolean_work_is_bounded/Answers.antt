-- The law, as it is proved over plain data.
use Rattle.nz_spec.proofs.BooleanWork as laws
use Rattle.nz_spec.proofs.work.boolean_work_is_bounded.Goals as goal

pub returns : goal.returns
returns c = record { bounded = laws.boolean_work_is_bounded }
