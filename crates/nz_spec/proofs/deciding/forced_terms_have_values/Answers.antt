-- The law, as it is proved over plain data.
use Rattle.nz_spec.proofs.ForcedTerms as laws
use Rattle.nz_spec.proofs.deciding.forced_terms_have_values.Goals as goal

pub returns : goal.returns
returns c = record { values = laws.forced_terms_have_values }
