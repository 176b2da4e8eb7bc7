-- Each listing is computed.
use Rattle.std.proofs.Common.{refl}
use Rattle.nz_script.proofs.worked.worked_listings.Goals as goal

pub returns : goal.returns
returns c = record { listings = record { remainder = refl; test = refl; nested = refl; others = refl; wish = refl; assumed = refl } }
