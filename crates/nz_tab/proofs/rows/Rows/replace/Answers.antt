-- Two forms exchange their slots, and each form that is written has its own.
use Rattle.std.proofs.Common.{◌≡◌, ◌<◌, ℕ, true, false, List, length, map, sym, ap, subst, ◌∙◌, arith}
use Rattle.std.specs.Prelude.{All}
use Rattle.std.proofs.lemmas.List.{length-map}
use Rattle.nz_fractions.specs.Fraction.{Fraction}
use Rattle.nz_spec.specs.simplex.BasisMoves.{numbers}
use Rattle.nz_tab.specs.Exchanges.{places_exchanged, written_forms}
use Rattle.nz_tab.specs.Rows.{AreSlotted, Grid, IsGrid, is_marked}
use Rattle.nz_tab.specs.Sums.{IsStoredGrid}
use Rattle.nz_tab.proofs.Exchanged.{grid_then, marks_after}
use Rattle.nz_tab.proofs.Pivots.{IsReady, columns_after, columns_long, columns_slotted, rows_full, rows_slotted}
use Rattle.nz_tab.proofs.StoredRows.{items, stored_in}
use Rattle.nz_tab.proofs.rows.Rows.replace.Goals as goal
use Rattle.nz_tab.proofs.rows.Rows.replace.Goals.{After-as_slice}

ready : (c : After-as_slice) → IsReady c.args.self.now c.args.leaves c.args.enters
ready c = record { inside = c.requires.listed; leaves = c.requires.basic; enters = c.requires.nonbasic }

stored : (c : After-as_slice) → IsStoredGrid c.args.self.now
stored c = stored_in c.self.view_is c.self.invariant

places : (c : After-as_slice) → c.as_slice.result.now ≡ places_exchanged c.args.self.now.places c.args.leaves c.args.enters
places c =
    c.as_slice.ensures.value
    ∙ c.exchange_places.ensures.exchanged
    ∙ ap (λ (x : Grid). places_exchanged x.places c.args.leaves c.args.enters) c.self.view_is

rows_long : (c : After-as_slice) → length c.args.self.now.rows ≡ c.self.inside.rows.len
rows_long c = omega (arith, ap (λ (x : Grid). length x.rows) c.self.view_is, length-map c.self.inside.rows.items items, c.self.inside.rows.ok.0)

pub write_rows-requires-clause-columns : goal.write_rows-requires-clause-columns
write_rows-requires-clause-columns c =
    let here = (goal.at.write_rows-requires-clause-columns c).After-as_slice in
    let ks = columns_after c.args.self.now c.args.leaves c.args.enters in
    subst (λ (l : List ℕ). AreSlotted c.as_slice.result.now l (length l)) (sym c.requires.columns)
    (subst (λ (l : List ℕ). AreSlotted l ks (length ks)) (sym (places here)) (columns_slotted (ready here) (stored here)))

pub write_rows-requires-clause-rows : goal.write_rows-requires-clause-rows
write_rows-requires-clause-rows c =
    let here = (goal.at.write_rows-requires-clause-rows c).After-as_slice in
    subst (AreSlotted c.as_slice.result.now c.args.written.now) (rows_long here)
    (subst (λ (l : List ℕ). AreSlotted c.as_slice.result.now l (length c.args.self.now.rows)) (sym c.requires.written)
    (subst (λ (l : List ℕ). AreSlotted l (written_forms c.args.self.now c.args.leaves c.args.enters) (length c.args.self.now.rows)) (sym (places here)) (rows_slotted (ready here) (stored here))))

pub write_rows-requires-clause-full : goal.write_rows-requires-clause-full
write_rows-requires-clause-full c =
    let here = (goal.at.write_rows-requires-clause-full c).After-as_slice in
    subst (λ (l : List ℕ). All (λ (row : List Fraction). length row ≡ length l) (map items c.self.inside.rows.items)) (sym c.requires.columns)
    (subst (λ (x : Grid). All (λ (row : List Fraction). length row ≡ length (columns_after c.args.self.now c.args.leaves c.args.enters)) x.rows) (sym c.self.view_is) (rows_full (ready here) (stored here)))

pub invariant_of-self : goal.invariant_of-self
invariant_of-self c =
    let here = (goal.at.invariant_of-self c).After-as_slice in
    let g = c.self.inside in
    let marks = g.nonbasic.items in
    let i = c.args.leaves in
    let j = c.args.enters in
    let inside = subst (λ (x : Grid). i < length x.marks) (sym c.self.view_is) c.requires.listed in
    let leaves : is_marked marks i ≡ false = ap (λ (x : Grid). is_marked x.marks i) c.self.view_is ∙ c.requires.basic in
    let enters : is_marked marks j ≡ true = ap (λ (x : Grid). is_marked x.marks j) c.self.view_is ∙ c.requires.nonbasic in
    let later = map items c.write_rows.new.rows.items in
    let width : length c.args.columns.now ≡ g.width =
    ap length c.requires.columns
    ∙ columns_long (ready here)
    ∙ ap (λ (x : Grid). length (numbers (length x.marks) (is_marked x.marks))) (sym c.self.view_is)
    ∙ sym c.self.invariant.wide in
    subst (λ (l : List ℕ). IsGrid (marks_after marks i j inside leaves enters) l g.width later) (sym c.exchange_places.ensures.exchanged)
    (grid_then marks i j inside leaves enters g.places.items c.self.invariant.placed g.width (map items g.rows.items) later c.self.invariant c.write_rows.ensures.rows.count
    (subst (λ (m : ℕ). All (λ (row : List Fraction). length row ≡ m) later) width c.write_rows.ensures.rows.full))
