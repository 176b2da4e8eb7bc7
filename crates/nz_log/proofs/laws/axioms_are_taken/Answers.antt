-- The law, as it is proved over plain data.
use Rattle.nz_log.proofs.Taken as laws
use Rattle.nz_log.proofs.laws.axioms_are_taken.Goals as goal

pub returns : goal.returns
returns c = record { taken = laws.taken_now }
