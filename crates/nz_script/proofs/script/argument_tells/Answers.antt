use Rattle.nz_script.proofs.Arguments as laws
use Rattle.nz_script.proofs.script.argument_tells.Goals as goal

pub returns : goal.returns
returns c = record { tells = laws.argument_tells }
