use Rattle.nz_lin.proofs.Opposites.{differences_are_opposite}
use Rattle.nz_lin.proofs.laws.differences_are_opposite.Goals as goal

pub returns : goal.returns
returns c = record { opposite = differences_are_opposite c.joins_at_its_place.ensures.place c.term_has_its_number.ensures.number c.tells_literals.ensures.tells }
