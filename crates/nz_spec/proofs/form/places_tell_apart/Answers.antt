-- The law, as it is proved over plain data.
use Rattle.nz_spec.proofs.FormNumbers as laws
use Rattle.nz_spec.proofs.form.places_tell_apart.Goals as goal

pub returns : goal.returns
returns c = record { apart = laws.places_tell_apart }
