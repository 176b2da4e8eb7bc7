-- One row more.
use Rattle.std.proofs.Common.{◌<◌, length, map, take, arith}
use Rattle.std.proofs.lemmas.List.{length-map}
use Rattle.nz_tab.proofs.RowLengths.{rows_all, rows_more}
use Rattle.nz_tab.proofs.StoredRows.{items}
use Rattle.nz_tab.proofs.joining.cut_columns.Goals as goal

pub loop-place-preserved : goal.loop-place-preserved
loop-place-preserved c =
    let old = map items c.args.rows.now.items in
    let rows = c.loop-place.rows.items in
    let i = c.loop-place.place in
    let inside : i < length rows = omega (arith, c.loop-place-test.true, c.loop-place.invariant.len, c.loop-place.rows.ok.0) in
    let within : i < length old = omega (arith, c.loop-place-test.true, c.args.rows.now.ok.0, length-map c.args.rows.now.items items) in
    record {
      rows = rows_more (take c.args.width) old rows i c.index_mut.result.now c.truncate.new.self c.loop-place.invariant.rows inside within c.index_mut.ensures.value c.truncate.ensures.items;
      len = c.loop-place.invariant.len;
    }

pub returns : goal.returns
returns c =
    let old = map items c.args.rows.now.items in
    record {
      rows = rows_all (take c.args.width) old c.loop-place.rows.items c.loop-place.place c.loop-place.invariant.rows (omega (arith, c.loop-place-test.false, c.args.rows.now.ok.0, length-map c.args.rows.now.items items));
    }
