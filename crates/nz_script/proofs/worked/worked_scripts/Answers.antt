use Rattle.nz_script.proofs.Scripts.{errors_worked, prices_worked, levelled_worked, renamed_worked}
use Rattle.nz_script.proofs.worked.worked_scripts.Goals as goal

pub returns : goal.returns
returns c = record { errors = errors_worked; values = prices_worked c.sorts_tell.ensures.tell; levels = levelled_worked c.sorts_tell.ensures.tell; names = renamed_worked }
