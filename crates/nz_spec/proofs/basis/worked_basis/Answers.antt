-- The worked basis, as the definitions compute it.
use Rattle.nz_spec.proofs.WorkedBases as laws
use Rattle.nz_spec.proofs.basis.worked_basis.Goals as goal

pub returns : goal.returns
returns c = record { joining = laws.worked_joining; exchange = laws.worked_exchange }
