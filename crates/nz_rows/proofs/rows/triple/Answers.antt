-- The literal and the bounds.
use Rattle.std.proofs.Common.{subst}
use Rattle.nz_lin.specs.Bounds.{IsLiteral}
use Rattle.nz_rows.proofs.RowLists.{triple_made}
use Rattle.nz_rows.proofs.rows.triple.Goals as goal

pub returns : goal.returns
returns c = record {
  row = λ ns d e within first second.
      triple_made ns d e c.args.literal c.in_ok-first.first c.in_ok-second.second _ _ c.in_ok-with.field-0.items c.in_ok-row.ensures.row c.in_ok-row-2.ensures.row c.in_ok-with.ensures.row within
      (subst (IsLiteral ns d) c.in_ok-first.was first) (subst (IsLiteral ns e) c.in_ok-second.was second);
}
