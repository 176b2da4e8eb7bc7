-- Each operator, computed.
use Rattle.nz_term.proofs.Operators as operators
use Rattle.nz_term.proofs.heads.operators_are_no_leaves.Goals as goal

pub returns : goal.returns
returns c = record { fits = operators.fits; operators = operators.is_operator; takes = operators.takes }
