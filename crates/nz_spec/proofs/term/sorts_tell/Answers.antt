-- The law, as it is proved over plain data.
use Rattle.nz_spec.proofs.SameSorts as laws
use Rattle.nz_spec.proofs.term.sorts_tell.Goals as goal

pub returns : goal.returns
returns c = record { tell = laws.sorts_tell }
