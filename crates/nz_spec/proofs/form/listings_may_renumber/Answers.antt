-- The law, as it is proved over plain data.
use Rattle.nz_spec.proofs.Listings as laws
use Rattle.nz_spec.proofs.form.listings_may_renumber.Goals as goal

pub returns : goal.returns
returns c = record { may = laws.listings_may_renumber }
