-- The law, as it is proved over plain data.
use Rattle.nz_reply.proofs.JournalPreservation.{kept_stays}
use Rattle.nz_reply.proofs.reply.kept_stay.Goals as goal

pub returns : goal.returns
returns c = record { stay = kept_stays c.term_stays.ensures.stays }
