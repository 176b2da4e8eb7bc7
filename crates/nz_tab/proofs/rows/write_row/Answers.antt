-- One coefficient more.
use Rattle.std.proofs.Common.{ℕ, slice_index_or, pos, subst, arith}
use Rattle.std.proofs.lemmas.List.{length-map}
use Rattle.nz_fractions.specs.Fraction.{whole}
use Rattle.nz_tab.specs.Rows.{AreSlotted, coefficients_at, place_in}
use Rattle.nz_tab.proofs.Slots as slots
use Rattle.nz_tab.proofs.rows.write_row.Goals as goal

pub loop-index-preserved : goal.loop-index-preserved
loop-index-preserved c =
    let places = c.args.places.now in
    let ks = c.args.columns.now in
    let i = c.loop-index.index in
    let old = c.args.row.now.items in
    let row = c.loop-index.row.items in
    record {
      written =
          slots.written_more places ks row (coefficients_at places ks old) c.args.coefficients.now i c.index-coefficients-index.result
          (subst (AreSlotted places ks) (omega (arith, c.loop-index.invariant.width, c.loop-index.row.ok.0)) c.requires.columns)
          (omega (arith, c.loop-index-test.true))
          c.requires.width
          (length-map ks (λ (k : ℕ). slice_index_or old (place_in places k) (whole (pos 0))))
          c.index-coefficients-index.is
          c.loop-index.invariant.written;
      width = c.loop-index.invariant.width;
    }
