-- The law, as it is proved over plain data.
use Rattle.nz_spec.proofs.Same as laws
use Rattle.nz_spec.proofs.term.tells_terms.Goals as goal

pub returns : goal.returns
returns c = record { tells = laws.tells_terms }
