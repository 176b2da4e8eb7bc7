-- The law, as it is proved over plain data.
use Rattle.nz_spec.proofs.NeededTerms as laws
use Rattle.nz_spec.proofs.deciding.needed_clauses_force.Goals as goal

pub returns : goal.returns
returns c = record { force = laws.needed_clauses_force }
