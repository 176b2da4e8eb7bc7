-- The law, as it is proved over plain data.
use Rattle.nz_script.proofs.SortedStates as laws
use Rattle.nz_script.proofs.transcript.assertions_are_over.Goals as goal

pub returns : goal.returns
returns c = record { over = laws.assertions_are_over }
