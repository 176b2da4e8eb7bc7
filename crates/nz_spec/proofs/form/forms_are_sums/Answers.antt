-- The law, as it is proved over plain data.
use Rattle.nz_spec.proofs.FormSums as laws
use Rattle.nz_spec.proofs.form.forms_are_sums.Goals as goal

pub returns : goal.returns
returns c = record { sums = laws.forms_are_sums }
