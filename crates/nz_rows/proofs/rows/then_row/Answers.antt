-- Where the rows stop, or the last one.
use Rattle.std.proofs.Common.{◌∷◌, [], subst, rules}
use Rattle.nz_rows.specs.Rows.{ComeOfRows, ComesOfRow}
use Rattle.nz_rows.proofs.RowLists.{first_stops, last_stops, second_stops}
use Rattle.nz_rows.proofs.rows.then_row.Goals as goal

pub returns-in_err-longer : goal.returns-in_err-longer
returns-in_err-longer c = record {
  rows = λ ns given last first second. search (rules, first_stops ns given (last ∷ []) c.in_err-longer.field-0.0 (subst (ComeOfRows ns given) c.in_err-longer.was first));
}

pub returns-in_err-row : goal.returns-in_err-row
returns-in_err-row c = record {
  rows = λ ns given last first second.
      let stop = c.in_err-row.field-0.0 in
      let longer = subst (ComeOfRows ns given) c.in_ok-longer.was first in
      search (rules, second_stops ns given (last ∷ []) c.in_ok-longer.longer longer stop (last_stops ns last stop (subst (ComesOfRow ns last) c.in_err-row.was second)));
}
