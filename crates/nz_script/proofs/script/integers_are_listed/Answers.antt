-- The law, as it is proved over plain data.
use Rattle.nz_script.proofs.Listed as laws
use Rattle.nz_script.proofs.script.integers_are_listed.Goals as goal

pub returns : goal.returns
returns c = record { listed = laws.integers_are_listed }
