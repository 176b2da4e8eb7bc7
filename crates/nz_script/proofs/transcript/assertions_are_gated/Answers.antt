-- The law, as it is proved over plain data.
use Rattle.nz_script.proofs.SortedStates as laws
use Rattle.nz_script.proofs.transcript.assertions_are_gated.Goals as goal

pub returns : goal.returns
returns c = record { gated = laws.assertions_are_gated c.normal_terms_are_gated.ensures.gated }
