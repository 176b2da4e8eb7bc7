-- The law, as it is proved over plain data.
use Rattle.nz_spec.proofs.LinkTruths as laws
use Rattle.nz_spec.proofs.arithmetic.links_are_true.Goals as goal

pub returns : goal.returns
returns c = record { clauses = laws.links_are_true }
