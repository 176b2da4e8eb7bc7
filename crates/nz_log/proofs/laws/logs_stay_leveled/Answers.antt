-- The law, as it is proved over plain data.
use Rattle.nz_log.proofs.Leveled as laws
use Rattle.nz_log.proofs.laws.logs_stay_leveled.Goals as goal

pub returns : goal.returns
returns c = record { stay = laws.logs_stay_leveled }
