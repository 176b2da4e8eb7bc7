-- The law, as it is proved over plain data.
use Rattle.nz_spec.proofs.BlandValues as laws
use Rattle.nz_spec.proofs.basis.sum_moves.Goals as goal

pub returns : goal.returns
returns c = record { moves = laws.sum_moves }
