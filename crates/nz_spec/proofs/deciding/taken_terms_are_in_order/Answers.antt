-- The law, as it is proved over plain data.
use Rattle.nz_spec.proofs.TakenTerms as laws
use Rattle.nz_spec.proofs.deciding.taken_terms_are_in_order.Goals as goal

pub returns : goal.returns
returns c = record { order = laws.taken_terms_are_in_order }
