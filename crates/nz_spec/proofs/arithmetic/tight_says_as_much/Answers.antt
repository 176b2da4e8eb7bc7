-- The law, as it is proved over plain data.
use Rattle.nz_spec.proofs.IntegerSums as laws
use Rattle.nz_spec.proofs.arithmetic.tight_says_as_much.Goals as goal

pub returns : goal.returns
returns c = record { same = laws.tight_says_as_much }
