-- The rows over the rounded number that was found.
use Rattle.std.proofs.Common.{false, subst}
use Rattle.nz_spec.specs.terms.FormOf.{number_in}
use Rattle.nz_spec.specs.terms.Table.{term_in}
use Rattle.nz_rows.specs.Comparisons.{order_rows}
use Rattle.nz_rows.specs.Rows.{ComeOfRows}
use Rattle.nz_rows.proofs.links.is_int_rows.Goals as goal

pub returns : goal.returns
returns c =
    let ns = c.args.terms.now in
    let t = term_in ns c.args.term in
    let a = term_in ns c.args.argument in
    record { rows = subst (λ u. ComeOfRows ns (order_rows (number_in ns) false t a u) c.order_rows.result) c.in_ok-rounded.ensures.term.term c.order_rows.ensures.rows }
