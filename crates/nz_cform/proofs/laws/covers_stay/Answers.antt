-- The law, as it is proved over plain data.
use Rattle.nz_cform.proofs.CoveragePreservation as laws
use Rattle.nz_cform.proofs.laws.covers_stay.Goals as goal

pub returns : goal.returns
returns c = record { stay = laws.covers_stay c.term_stays.ensures.stays c.atoms_of_terms.ensures.atoms }
