-- The law, as it is proved over plain data.
use Rattle.nz_spec.proofs.FormTerms as laws
use Rattle.nz_spec.proofs.form.form_has_value.Goals as goal

pub returns : goal.returns
returns c = record { value = laws.form_has_value }
