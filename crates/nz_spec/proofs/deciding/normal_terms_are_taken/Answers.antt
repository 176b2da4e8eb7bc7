-- The law, as it is proved over plain data.
use Rattle.nz_spec.proofs.TakenTerms as laws
use Rattle.nz_spec.proofs.deciding.normal_terms_are_taken.Goals as goal

pub returns : goal.returns
returns c = record { taken = laws.normal_terms_are_taken }
