-- The law, as it is proved over plain data.
use Rattle.nz_log.proofs.LogPreservation as laws
use Rattle.nz_log.proofs.laws.logs_stay.Goals as goal

pub returns : goal.returns
returns c = record { stay = laws.logs_stay c.term_stays.ensures.stays }
