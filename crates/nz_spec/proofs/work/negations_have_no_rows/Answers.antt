-- The law, as it is proved over plain data.
use Rattle.nz_spec.proofs.RenumberedWork as laws
use Rattle.nz_spec.proofs.work.negations_have_no_rows.Goals as goal

pub returns : goal.returns
returns c = record { none = laws.negations_have_no_rows }
