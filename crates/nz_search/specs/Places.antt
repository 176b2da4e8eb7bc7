-- Where a search was stopped.
use Rattle.std.specs.Prelude.{⊤}
use Rattle.nz_place.specs.declared.place.Place.{Place}
use Rattle.nz_search.specs.declared.stop.Stop.{Stop}
use Rattle.nz_search.specs.declared.stop.Stop.TheVariants.{Wide, Spent, Memory}

-- the fact of the place where an operation left the numbers
abbrev pub OnWide : Stop → (Place → Type 0) → Type 0
OnWide (Wide place) P = P place
OnWide Spent P = ⊤
OnWide Memory P = ⊤
