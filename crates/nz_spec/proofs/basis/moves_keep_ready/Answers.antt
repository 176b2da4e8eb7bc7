-- The law, as it is proved over plain data.
use Rattle.nz_spec.proofs.PositionMovesKeep as laws
use Rattle.nz_spec.proofs.basis.moves_keep_ready.Goals as goal

pub returns : goal.returns
returns c = record { ready = laws.moves_keep_ready }
