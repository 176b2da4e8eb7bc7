-- A term that has no row.
use Rattle.nz_rows.proofs.RowLists.{none_there}
use Rattle.nz_rows.proofs.links.link_rows.Goals as goal

pub returns-in-None : goal.returns-in-None
returns-in-None c = record { rows = none_there c.args.terms.now _ c.no_rows.result c.in-None.ensures.compares (c.no_rows.ensures.rows c.args.terms.now) }
