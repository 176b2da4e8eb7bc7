-- The law, as it is proved over plain data.
use Rattle.nz_spec.proofs.MoreTerms as laws
use Rattle.nz_spec.proofs.work.more_terms_may_begin.Goals as goal

pub returns : goal.returns
returns c = record { begins = laws.more_terms_may_begin }
