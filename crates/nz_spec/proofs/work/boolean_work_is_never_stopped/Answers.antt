-- The law, as it is proved over plain data.
use Rattle.nz_spec.proofs.BooleanPlaces as laws
use Rattle.nz_spec.proofs.work.boolean_work_is_never_stopped.Goals as goal

pub returns : goal.returns
returns c = record { never = laws.boolean_work_is_never_stopped }
