-- A nonbasic form in its column, a basic one by its row.
use Rattle.std.proofs.Common.{◌≡◌, ℕ, true, false, List, length, map, slice_index_or, pos, sym, ap, subst, ◌∙◌, arith}
use Rattle.std.specs.Prelude.{set}
use Rattle.nz_spec.specs.simplex.BasisMoves.{plus_multiple}
use Rattle.nz_fractions.specs.Fraction.{Fraction, Sum, whole}
use Rattle.nz_spec.specs.simplex.Basis.{Coefficients}
use Rattle.nz_spec.specs.numbers.Computation.{Computation, operated, turned_into}
use Rattle.nz_tab.specs.Comes.{Comes}
use Rattle.nz_tab.specs.Rows.{AreSlotted, Grid, coefficient, coefficients_at, columns_of, is_nonbasic, place_in, rows_of}
use Rattle.nz_tab.specs.Sums.{IsStoredGrid, one_added}
use Rattle.nz_tab.proofs.RowSums.{same_row, slot_added}
use Rattle.nz_tab.proofs.StoredRows.{stored_in}
use Rattle.nz_tab.proofs.Slots.{slotted}
use Rattle.nz_tab.proofs.rows.Rows.add_one.Goals as goal
use Rattle.nz_tab.proofs.rows.Rows.add_one.Goals.{After-as_slice-places}

stored : (c : After-as_slice-places) → IsStoredGrid c.args.self.now
stored c = stored_in c.self.view_is c.self.invariant

places : (c : After-as_slice-places) → c.as_slice-places.result.now ≡ c.args.self.now.places
places c = c.as_slice-places.ensures.value ∙ ap (λ (x : Grid). x.places) c.self.view_is

-- each column has a slot of its own in the row
slots : (c : After-as_slice-places) → AreSlotted c.args.self.now.places (columns_of c.args.self.now) (length c.args.row.now.items)
slots c =
    let g = c.args.self.now in
    subst (AreSlotted g.places (columns_of g)) (omega (arith, ap length c.requires.columns, c.requires.width, c.args.row.now.ok.0))
    (slotted g.places (length g.marks) (is_nonbasic g) (length (columns_of g)) (stored c).columns (omega (arith, (stored c).placed)))

pub bounds-places-var : goal.bounds-places-var
bounds-places-var c =
    let here = (goal.at.bounds-places-var c).After-as_slice-places in
    omega (arith, ap length (places here), (stored here).placed, c.requires.within)

pub offset_bounds-places-var : goal.offset_bounds-places-var
offset_bounds-places-var c =
    let here = (goal.at.offset_bounds-places-var c).After-as_slice-places in
    omega (arith, ap length (places here), (stored here).placed, c.requires.within, c.as_slice-places.type_inv)

pub add_at-requires : goal.add_at-requires
add_at-requires c =
    let here = (goal.at.add_at-requires c).After-as_slice-places in
    let g = c.args.self.now in
    let var = c.args.addend.0 in
    let passes : is_nonbasic g var ≡ true = sym c.is_nonbasic.ensures.nonbasic ∙ c.if-is_nonbasic.true in
    record {
      within =
          omega (
            arith,
            ap (λ (l : List ℕ). place_in l var) (places here),
            (stored here).columns.within var c.requires.within passes,
            ap length c.requires.columns,
            c.requires.width,
          );
    }

pub returns-then-is_nonbasic-clause-added : goal.returns-then-is_nonbasic-clause-added
returns-then-is_nonbasic-clause-added c = λ d e.
    let here = (goal.at.returns-then-is_nonbasic-clause-added c).After-as_slice-places in
    let g = c.args.self.now in
    let var = c.args.addend.0 in
    let old = c.args.row.now.items in
    let now = c.add_at.new.row.items in
    let passes : is_nonbasic g var ≡ true = sym c.is_nonbasic.ensures.nonbasic ∙ c.if-is_nonbasic.true in
    let listed = c.requires.columns in
    let place : slice_index_or c.as_slice-places.result.now var 0 ≡ place_in g.places var = ap (λ (l : List ℕ). place_in l var) (places here) in
    subst (λ (ks : List ℕ). Comes (turned_into (λ (y : Coefficients). map y ks) (one_added ks (is_nonbasic g) (rows_of g) d c.args.addend)) (coefficients_at g.places ks now) c.add_at.result) (sym listed)
    (slot_added (length g.marks) (is_nonbasic g) (rows_of g) d var c.args.addend.1 c.requires.within passes g.places old (slots here)
    (subst (λ (ks : List ℕ). coefficients_at g.places ks old ≡ map d ks) listed e) now c.add_at.result
    (subst (λ (s : ℕ). Comes (turned_into (λ (x : Fraction). set old s x) (operated Sum (slice_index_or old s (whole (pos 0))) c.args.addend.1)) now c.add_at.result) place c.add_at.ensures.added))

pub add_multiple-requires : goal.add_multiple-requires
add_multiple-requires c =
    let here = (goal.at.add_multiple-requires c).After-as_slice-places in
    let g = c.args.self.now in
    record {
      columns =
          subst (λ (l : List ℕ). AreSlotted l c.args.columns.now c.args.row.now.len) (sym (places here))
          (subst (λ (l : List ℕ). AreSlotted g.places l c.args.row.now.len) (sym c.requires.columns)
          (subst (AreSlotted g.places (columns_of g)) (sym c.args.row.now.ok.0) (slots here)));
    }

pub returns-clause-added : goal.returns-clause-added
returns-clause-added c = λ d e.
    let here = (goal.at.returns-clause-added c).After-as_slice-places in
    let g = c.args.self.now in
    let var = c.args.addend.0 in
    let fails : is_nonbasic g var ≡ false = sym c.is_nonbasic.ensures.nonbasic ∙ c.if-is_nonbasic.false in
    let listed = c.requires.columns in
    let old = c.args.row.now.items in
    let now = c.add_multiple.new.row.items in
    let other = coefficient c.row.result in
    let ks = c.args.columns.now in
    let added : Comes (turned_into (λ (y : Coefficients). map y ks) (plus_multiple ks d c.args.addend.1 other)) (coefficients_at g.places ks now) c.add_multiple.result =
    subst (λ (l : List ℕ). Comes (turned_into (λ (y : Coefficients). map y ks) (plus_multiple ks d c.args.addend.1 other)) (coefficients_at l ks now) c.add_multiple.result) (places here)
    (c.add_multiple.ensures.added d (subst (λ (l : List ℕ). coefficients_at l ks old ≡ map d ks) (sym (places here)) e)) in
    subst (λ (l : List ℕ). Comes (turned_into (λ (y : Coefficients). map y l) (one_added l (is_nonbasic g) (rows_of g) d c.args.addend)) (coefficients_at g.places l now) c.add_multiple.result) (sym listed)
    (subst (λ (y : Computation (List Fraction)). Comes y (coefficients_at g.places (columns_of g) now) c.add_multiple.result)
    (same_row (length g.marks) (is_nonbasic g) (rows_of g) d var c.args.addend.1 c.requires.within fails other (ap coefficient c.row.ensures.row))
    (subst (λ (l : List ℕ). Comes (turned_into (λ (y : Coefficients). map y l) (plus_multiple l d c.args.addend.1 other)) (coefficients_at g.places l now) c.add_multiple.result) listed added))
