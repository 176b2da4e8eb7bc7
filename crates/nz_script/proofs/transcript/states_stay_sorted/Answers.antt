-- The law, as it is proved over plain data.
use Rattle.nz_script.proofs.SortedStates as laws
use Rattle.nz_script.proofs.transcript.states_stay_sorted.Goals as goal

pub returns : goal.returns
returns c = record { stay = laws.states_stay_sorted (record { told = c.sorts_tell.ensures.tell; stays = c.normal_stays_sorted.ensures.stays; taken = c.normal_terms_are_taken.ensures.taken }) }
