-- The law.
use Rattle.nz_simplex.proofs.OverOtherUnits as units
use Rattle.nz_simplex.proofs.laws.contradictions_stay.Goals as goal

pub returns : goal.returns
returns c = record { stay = units.contradictions_stay c.tells_terms.ensures.tells c.worth_is_by_units.ensures.units }
