-- The law, as it is proved over plain data.
use Rattle.nz_spec.proofs.PivotRuns as laws
use Rattle.nz_spec.proofs.pivots.pivots_are_runs.Goals as goal

pub returns : goal.returns
returns c = record { runs = laws.pivots_are_runs }
