-- The law.
use Rattle.nz_tab.proofs.UnitNumbers as unit_numbers
use Rattle.nz_tab.proofs.laws.units_join.Goals as goal

pub returns : goal.returns
returns c = record { join = unit_numbers.units_have_joined c.joins_keep_basis.ensures.kept c.term_has_its_number.ensures.number }
