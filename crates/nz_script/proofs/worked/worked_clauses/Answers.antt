-- The four clauses, as they are proved over plain data.
use Rattle.nz_script.proofs.WorkedBooleans as worked
use Rattle.nz_script.proofs.worked.worked_clauses.Goals as goal

pub returns : goal.returns
returns c = record { clauses = worked.four_clauses c.boolean_checks_are_answered.ensures.answered }
