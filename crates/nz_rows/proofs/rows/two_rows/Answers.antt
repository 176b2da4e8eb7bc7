-- One row, and then the other.
use Rattle.std.proofs.Common.{◌∷◌, []}
use Rattle.nz_rows.proofs.rows.two_rows.Goals as goal

pub returns : goal.returns
returns c = record {
  rows = λ ns d e first second. c.then_row-2.ensures.rows ns (d ∷ []) e (c.then_row.ensures.rows ns [] d (c.no_rows.ensures.rows ns) first) second;
}
