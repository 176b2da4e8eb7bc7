-- The law, as it is proved over plain data.
use Rattle.nz_spec.proofs.BlandCounts as laws
use Rattle.nz_spec.proofs.basis.runs_are_short.Goals as goal

pub returns : goal.returns
returns c = record { short = laws.runs_are_short }
