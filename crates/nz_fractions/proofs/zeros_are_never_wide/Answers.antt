-- The law, as it is proved over plain data.
use Rattle.nz_fractions.proofs.Zeros as laws
use Rattle.nz_fractions.proofs.zeros_are_never_wide.Goals as goal

pub returns : goal.returns
returns c = record { zeros = laws.zeros_are_never_wide }
