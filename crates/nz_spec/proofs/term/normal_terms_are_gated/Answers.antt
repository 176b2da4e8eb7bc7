-- The law, as it is proved over plain data.
use Rattle.nz_spec.proofs.NormalGates as laws
use Rattle.nz_spec.proofs.term.normal_terms_are_gated.Goals as goal

pub returns : goal.returns
returns c = record { gated = laws.normal_terms_are_gated }
