-- What is new of both times is new.
use Rattle.nz_term.proofs.InstanceTerms.{grows_on}
use Rattle.nz_term.proofs.terms.grows_twice.Goals as goal

pub returns : goal.returns
returns c = record { twice = grows_on }
