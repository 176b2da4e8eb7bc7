-- The row of the number.
use Rattle.std.proofs.Common.{◌<◌, length, rules}
use Rattle.nz_spec.specs.terms.Table.{term_in}
use Rattle.nz_rows.specs.Rows.{unit_rows}
use Rattle.nz_log_tests.proofs.RowNumbers.{row_at}
use Rattle.nz_log_tests.proofs.rows.unit_row.Goals as goal

pub returns : goal.returns
returns c =
    let ns = c.args.terms.now in
    let rows = c.in_ok-rows.rows in
    let within : c.args.j < length rows.items = search rules in
    record { row = row_at ns (unit_rows ns (term_in ns c.args.term)) rows.items c.args.j c.remove.result c.in_ok-rows.ensures.rows within c.remove.ensures.value }
