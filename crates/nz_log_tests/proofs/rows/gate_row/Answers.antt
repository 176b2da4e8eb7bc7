-- The row of the number.
use Rattle.std.proofs.Common.{◌<◌, length, ap, sym, ◌∙◌, rules}
use Rattle.std.specs.Prelude.{slice_get}
use Rattle.nz_log_tests.proofs.RowNumbers.{gate_at}
use Rattle.nz_log_tests.proofs.rows.gate_row.Goals as goal

pub returns : goal.returns
returns c =
    let rows = c.in_ok-rows.rows in
    let within : c.args.j < length rows.items = search rules in
    record { row = ap (λ lists. slice_get lists c.args.j) (sym c.in_ok-rows.ensures.rows) ∙ gate_at rows.items c.args.j c.remove.result within c.remove.ensures.value }
