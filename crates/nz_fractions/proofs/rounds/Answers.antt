-- The law, as it is proved over plain data.
use Rattle.nz_fractions.proofs.FloorsAndCeilings as laws
use Rattle.nz_fractions.proofs.rounds.Goals as goal

pub returns : goal.returns
returns c = record { rounds = laws.rounds }
