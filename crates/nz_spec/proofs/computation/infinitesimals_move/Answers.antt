-- The law, as it is proved over plain data.
use Rattle.nz_spec.proofs.InfinitesimalMoves as laws
use Rattle.nz_spec.proofs.computation.infinitesimals_move.Goals as goal

pub returns : goal.returns
returns c = record { moves = laws.infinitesimals_move }
