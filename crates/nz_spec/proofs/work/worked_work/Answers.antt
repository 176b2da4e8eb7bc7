-- Worked lists, as they are proved over plain data.
use Rattle.nz_spec.proofs.WorkedWork.{searches, spent_units, branch, refusals}
use Rattle.nz_spec.proofs.WorkedClimb.{climb}
use Rattle.nz_spec.proofs.WorkedPivot.{pivot, later_check, either_order}
use Rattle.nz_spec.proofs.work.worked_work.Goals as goal

pub returns : goal.returns
returns c = record { searches = searches; spent = spent_units; branch = branch; climb = climb; pivot = pivot; later = later_check; refusals = refusals; orders = either_order }
