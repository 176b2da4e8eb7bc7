-- The law, as it is proved over plain data.
use Rattle.nz_spec.proofs.FormNumbers as laws
use Rattle.nz_spec.proofs.form.term_has_its_number.Goals as goal

pub returns : goal.returns
returns c = record { number = laws.term_has_its_number }
