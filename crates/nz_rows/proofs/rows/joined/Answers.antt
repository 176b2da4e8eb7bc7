-- Where the first rows stop.
use Rattle.std.proofs.Common.{subst, rules}
use Rattle.nz_rows.specs.Rows.{ComeOfRows}
use Rattle.nz_rows.proofs.RowLists.{first_stops}
use Rattle.nz_rows.proofs.rows.joined.Goals as goal

pub returns-in_err-all : goal.returns-in_err-all
returns-in_err-all c = record { rows = λ ns given more first second. search (rules, first_stops ns given more c.in_err-all.field-0.0 (subst (ComeOfRows ns given) c.in_err-all.was first)) }
