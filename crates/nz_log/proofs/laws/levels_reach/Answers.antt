-- The law, as it is proved over plain data.
use Rattle.nz_log.proofs.Leveled as laws
use Rattle.nz_log.proofs.laws.levels_reach.Goals as goal

pub returns : goal.returns
returns c = record { reach = laws.levels_reach }
