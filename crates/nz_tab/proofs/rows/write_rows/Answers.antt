-- One row more.
use Rattle.std.proofs.Common.{◌≡◌, ◌+◌, ◌<◌, [], length, get_or, map, sym, ap, subst, ◌∙◌, arith}
use Rattle.std.specs.Prelude.{vec_len}
use Rattle.std.proofs.lemmas.List.{get_or-map, length-map, map-set}
use Rattle.nz_tab.specs.Exchanges.{IsRewritten}
use Rattle.nz_tab.specs.Rows.{AreSlotted, slot_at}
use Rattle.nz_tab.proofs.Slots.{rewritten_more}
use Rattle.nz_tab.proofs.StoredRows.{items}
use Rattle.nz_tab.proofs.rows.write_rows.Goals as goal
use Rattle.nz_tab.proofs.rows.write_rows.Goals.{After-index_mut}

-- the row that is written is as long as there are columns
long : (c : After-index_mut) → vec_len c.index_mut.result.now ≡ length c.args.columns.now
long c =
    let rows = c.loop-index.rows.items in
    let s = slot_at c.args.places.now c.args.written.now c.loop-index.index in
    let x = c.index_mut.result.now in
    let there : s < length rows = omega (arith, c.requires.rows.within c.loop-index.index (omega (arith, c.loop-index-test.true)), c.loop-index.invariant.len, c.loop-index.rows.ok.0) in
    let read : get_or (map items rows) s [] ≡ x.items = get_or-map items rows s x [] there ∙ ap items (sym c.index_mut.ensures.value) in
    omega (arith, x.ok.0, ap length read, c.loop-index.invariant.rows.full s [] (omega (arith, there, length-map rows items)))

pub write_row-requires-clause-columns : goal.write_row-requires-clause-columns
write_row-requires-clause-columns c = subst (AreSlotted c.args.places.now c.args.columns.now) (sym (long (goal.at.write_row-requires-clause-columns c).After-index_mut)) c.requires.columns

pub loop-index-preserved : goal.loop-index-preserved
loop-index-preserved c =
    let places = c.args.places.now in
    let ks = c.args.columns.now in
    let rs = c.args.written.now in
    let i = c.loop-index.index in
    let rows = c.loop-index.rows.items in
    let old = map items c.args.rows.now.items in
    let row = c.write_row.new.row in
    record {
      rows =
          subst (IsRewritten places ks rs c.args.block.now (i + 1) old) (sym (map-set items rows (slot_at places rs i) row))
          (rewritten_more places ks rs c.args.block.now i old (map items rows) row.items c.loop-index.invariant.rows
          (subst (AreSlotted places rs) (omega (arith, c.args.rows.now.ok.0, length-map c.args.rows.now.items items)) c.requires.rows)
          (omega (arith, c.loop-index-test.true))
          (c.write_row.ensures.written ∙ c.row_at-row.ensures.row)
          (omega (arith, row.ok.0, c.write_row.ensures.width, long (goal.at.loop-index-preserved c).After-index_mut)));
      len = c.loop-index.invariant.len;
    }
