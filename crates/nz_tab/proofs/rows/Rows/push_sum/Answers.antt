-- The row that was computed stands behind the others.
use Rattle.std.proofs.Common.{◌≡◌, length, map, sym, ap, subst, ◌∙◌}
use Rattle.nz_tab.specs.Rows.{Grid, coefficients_at, columns_of}
use Rattle.nz_tab.specs.Sums.{IsStoredGrid, IsSummed, sum_over}
use Rattle.nz_tab.proofs.StoredRows.{stored_in}
use Rattle.nz_tab.proofs.AppendedRows.{is_summed}
use Rattle.nz_tab.proofs.rows.Rows.push_sum.Goals as goal

pub push-requires : goal.push-requires
push-requires c = record { width = ap length c.as_slice.ensures.value ∙ c.in_ok-sum.ensures.width }

pub returns-clause-pushed : goal.returns-clause-pushed
returns-clause-pushed c =
    let g = c.args.self.now in
    let qs = c.args.addends.now in
    let stored : IsStoredGrid g = stored_in c.self.view_is c.self.invariant in
    let stands : coefficients_at g.places (columns_of g) c.as_slice.result.now ≡ map (sum_over g qs).result (columns_of g) =
    ap (coefficients_at g.places (columns_of g)) c.as_slice.ensures.value ∙ c.in_ok-sum.ensures.sum.result in (
      subst (λ (x : Grid). IsSummed g x qs) (sym c.in_ok-push.ensures.pushed) (is_summed g c.as_slice.result.now stored qs stands),
      c.in_ok-sum.ensures.sum.fits,
    )
