-- The law, as it is proved over plain data.
use Rattle.nz_spec.proofs.BooleanListings as laws
use Rattle.nz_spec.proofs.work.boolean_listings_are_gated.Goals as goal

pub returns : goal.returns
returns c = record { gated = laws.boolean_listings_are_gated }
