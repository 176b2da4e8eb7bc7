use Rattle.nz_command.specs.View.{number_view}
use Rattle.nz_term.specs.Heads.{head_of}
use Rattle.nz_elaborate.proofs.ElaboratedTerms.{number_is}
use Rattle.nz_elaborate.proofs.elaboration.number_term.Goals as goal

pub returns-in-Some-clause-found : goal.returns-in-Some-clause-found
returns-in-Some-clause-found c = rw (number_is (number_view c.args.number) (head_of c.in-Some.head) c.in-Some.ensures.head) c.fitting_term.ensures.found
