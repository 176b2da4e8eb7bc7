-- The law.
use Rattle.nz_tab.proofs.UnitForms as units
use Rattle.nz_tab.proofs.laws.units_are_forms.Goals as goal

pub returns : goal.returns
returns c = record { forms = units.units_are_forms c.term_has_its_number.ensures.number }
