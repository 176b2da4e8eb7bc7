-- The law, as it is proved over plain data.
use Rattle.nz_spec.proofs.NeededTerms as laws
use Rattle.nz_spec.proofs.deciding.asserted_terms_are_true.Goals as goal

pub returns : goal.returns
returns c = record { hold = laws.asserted_terms_are_true }
