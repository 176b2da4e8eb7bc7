-- Those rows need nothing of the table.
use Rattle.std.proofs.Common.{rules}
use Rattle.nz_rows.proofs.gates.rows_over.Goals as goal

pub returns-in-Not : goal.returns-in-Not
returns-in-Not c = search (rules, c.negation_rows.ensures.rows c.args.terms.now)

pub returns-in-Xor : goal.returns-in-Xor
returns-in-Xor c = search (rules, c.exclusion_rows.ensures.rows c.args.terms.now)

pub returns-in-Ite : goal.returns-in-Ite
returns-in-Ite c = search (rules, c.choice_rows.ensures.rows c.args.terms.now)
