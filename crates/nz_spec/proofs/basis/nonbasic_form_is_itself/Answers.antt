-- The law, as it is proved over plain data.
use Rattle.nz_spec.proofs.BasisRows as laws
use Rattle.nz_spec.proofs.basis.nonbasic_form_is_itself.Goals as goal

pub returns : goal.returns
returns c = record { itself = laws.nonbasic_form_is_itself }
