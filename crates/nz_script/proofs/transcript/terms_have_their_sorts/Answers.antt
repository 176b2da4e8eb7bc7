-- The law, as it is proved over plain data.
use Rattle.nz_script.proofs.SortedStates as laws
use Rattle.nz_script.proofs.transcript.terms_have_their_sorts.Goals as goal

pub returns : goal.returns
returns c = record { sorts = laws.terms_have_their_sorts (record { told = c.sorts_tell.ensures.tell; stays = c.normal_stays_sorted.ensures.stays; taken = c.normal_terms_are_taken.ensures.taken }) }
