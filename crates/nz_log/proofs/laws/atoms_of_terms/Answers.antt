use Rattle.nz_log.proofs.KeptAtoms.{atoms_of_terms}
use Rattle.nz_log.proofs.laws.atoms_of_terms.Goals as goal

pub returns : goal.returns
returns c = record { atoms = atoms_of_terms }
