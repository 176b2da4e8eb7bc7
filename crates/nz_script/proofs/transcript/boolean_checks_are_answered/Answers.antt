-- The law, as it is proved over plain data.
use Rattle.nz_script.proofs.BooleanChecks as laws
use Rattle.nz_script.proofs.transcript.boolean_checks_are_answered.Goals as goal

pub returns : goal.returns
returns c = record {
  answered = laws.boolean_checks_are_answered (record {
    bounded = c.boolean_work_is_bounded.ensures.bounded;
    never = c.boolean_work_is_never_stopped.ensures.never;
    listings = c.boolean_listings_are_gated.ensures.gated;
    stay = c.states_stay_sorted.ensures.stay;
    taken = c.assumptions_are_taken.ensures.taken;
  });
}
