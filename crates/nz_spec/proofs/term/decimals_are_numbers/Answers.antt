-- The law, as it is proved over plain data.
use Rattle.nz_spec.proofs.Decimals as laws
use Rattle.nz_spec.proofs.term.decimals_are_numbers.Goals as goal

pub returns : goal.returns
returns c = record { numbers = laws.decimals_are_numbers }
