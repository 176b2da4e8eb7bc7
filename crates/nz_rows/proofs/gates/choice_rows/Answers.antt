-- The sort is the one of the table.
use Rattle.std.proofs.Common.{rules}
use Rattle.nz_rows.proofs.gates.choice_rows.Goals as goal

pub returns-in-Bool : goal.returns-in-Bool
returns-in-Bool c = record { rows = λ ns. search (rules, c.boolean_choice_rows.ensures.rows ns) }
