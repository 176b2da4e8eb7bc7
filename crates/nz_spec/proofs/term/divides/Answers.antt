-- The laws, as they are proved over plain data.
use Rattle.nz_spec.proofs.Divisions as laws
use Rattle.nz_spec.proofs.term.divides.Goals as goal

pub returns : goal.returns
returns c = record { divides = laws.divides; once = laws.divides_once }
