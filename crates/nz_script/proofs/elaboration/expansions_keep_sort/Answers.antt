-- The law, as it is proved over plain data.
use Rattle.nz_script.proofs.ExpansionSorts as laws
use Rattle.nz_script.proofs.elaboration.expansions_keep_sort.Goals as goal

pub returns : goal.returns
returns c = record { keeps = laws.expansions_keep_sort c.sorts_tell.ensures.tell }
