-- The law, as it is proved over plain data.
use Rattle.nz_spec.proofs.FormPlaces as laws
use Rattle.nz_spec.proofs.form.joins_at_its_place.Goals as goal

pub returns : goal.returns
returns c = record { place = laws.joins_at_its_place }
