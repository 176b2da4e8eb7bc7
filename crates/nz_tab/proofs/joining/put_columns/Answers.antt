-- One row more.
use Rattle.std.proofs.Common.{Vec, Global, ◌+◌, ◌<◌, ◌≤◌, length, map, sym, subst, arith}
use Rattle.std.specs.Prelude.{vec_capacity, vec_len}
use Rattle.std.proofs.lemmas.List.{get_or-set_other, length-map}
use Rattle.nz_fractions.specs.Fraction.{Fraction}
use Rattle.nz_tab.specs.Sums.{lengthened}
use Rattle.nz_tab.proofs.RowLengths.{rows_all, rows_more}
use Rattle.nz_tab.proofs.StoredRows.{items}
use Rattle.nz_tab.proofs.joining.put_columns.Goals as goal

pub lengthen-requires : goal.lengthen-requires
lengthen-requires c =
    let x = c.index_mut.result.now in
    record {
      room =
          subst (λ (y : Vec Fraction Global). vec_len y + c.args.units ≤ vec_capacity y) (sym c.index_mut.ensures.value)
          (c.loop-place.invariant.room c.loop-place.place x (omega arith) (omega (arith, c.loop-place-test.true, c.loop-place.invariant.len)));
    }

pub loop-place-preserved : goal.loop-place-preserved
loop-place-preserved c =
    let old = map items c.args.rows.now.items in
    let rows = c.loop-place.rows.items in
    let i = c.loop-place.place in
    let inside : i < length rows = omega (arith, c.loop-place-test.true, c.loop-place.invariant.len, c.loop-place.rows.ok.0) in
    let within : i < length old = omega (arith, c.loop-place-test.true, c.args.rows.now.ok.0, length-map c.args.rows.now.items items) in
    record {
      rows = rows_more (lengthened c.args.units) old rows i c.index_mut.result.now c.lengthen.new.row c.loop-place.invariant.rows inside within c.index_mut.ensures.value c.lengthen.ensures.lengthened;
      room = λ s d e h.
          subst (λ (y : Vec Fraction Global). vec_len y + c.args.units ≤ vec_capacity y) (sym (get_or-set_other rows i s c.lengthen.new.row d (λ q. omega (arith, q, e))))
          (c.loop-place.invariant.room s d (omega (arith, e)) h);
      len = c.loop-place.invariant.len;
    }

pub returns : goal.returns
returns c =
    let old = map items c.args.rows.now.items in
    record {
      rows = rows_all (lengthened c.args.units) old c.loop-place.rows.items c.loop-place.place c.loop-place.invariant.rows (omega (arith, c.loop-place-test.false, c.args.rows.now.ok.0, length-map c.args.rows.now.items items));
    }
