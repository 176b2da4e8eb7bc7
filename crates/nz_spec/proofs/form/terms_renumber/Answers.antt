-- The law, as it is proved over plain data.
use Rattle.nz_spec.proofs.RenumberedTerms as laws
use Rattle.nz_spec.proofs.form.terms_renumber.Goals as goal

pub returns : goal.returns
returns c = record { renumber = laws.terms_renumber }
