-- The law, as it is proved over plain data.
use Rattle.nz_spec.proofs.MoreTerms as laws
use Rattle.nz_spec.proofs.work.more_terms_end_legally.Goals as goal

pub returns : goal.returns
returns c = record { ends = laws.more_terms_end_legally }
