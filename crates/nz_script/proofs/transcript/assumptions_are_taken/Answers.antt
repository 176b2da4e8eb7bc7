-- The law, as it is proved over plain data.
use Rattle.nz_script.proofs.SortedStates as laws
use Rattle.nz_script.proofs.transcript.assumptions_are_taken.Goals as goal

pub returns : goal.returns
returns c = record { taken = laws.assumptions_are_taken (record { told = c.sorts_tell.ensures.tell; stays = c.normal_stays_sorted.ensures.stays; taken = c.normal_terms_are_taken.ensures.taken }) }
