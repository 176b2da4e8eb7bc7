-- The steps of an exchange, one after another.
use Rattle.std.proofs.Common.{◌≡◌, ◌++◌, ℕ, ◌*◌, ◌+◌, ◌<◌, ◌≤◌, false, List, [], ◌∷◌, length, map, Some, Err, rules, sym, ap, subst, ◌∙◌, arith}
use Rattle.std.specs.Prelude.{All, vec_capacity}
use Rattle.nz_fractions.specs.Fraction.{Fraction, first_wide}
use Rattle.nz_spec.specs.simplex.BasisMoves.{exchange}
use Rattle.nz_spec.specs.numbers.Computation.{Computation}
use Rattle.nz_frac.specs.Operations.{operation_of}
use Rattle.nz_frac.specs.declared.frac.Wide.{Wide}
use Rattle.nz_tab.specs.Comes.{IsDone, Stops}
use Rattle.nz_tab.specs.Exchanges.{IsReplaced, changed_rows, solved_row, written_forms}
use Rattle.nz_tab.specs.Rows.{DenseRow, coefficient, is_nonbasic, rows_of, size_of}
use Rattle.nz_tab.specs.Sums.{IsStoredGrid}
use Rattle.nz_tab.proofs.Pivots.{IsReady, changed_basic, changed_forms, changed_listed, columns_after, columns_fit, computed, fits, forms_fit, is_exchanged, room_stays, rows_fit, solved_are, solved_long, stops_first, stops_later, written_fit}
use Rattle.nz_tab.proofs.StoredRows.{stored_in}
use Rattle.nz_tab.proofs.rows.Rows.exchange.Goals as goal
use Rattle.nz_tab.proofs.rows.Rows.exchange.Goals.{After-row, After-as_slice, After-as_slice-3, After-replace}

-- ---- What is known on the way

ready : (c : After-row) → IsReady c.args.self.now c.args.leaves c.args.enters
ready c = record { inside = c.requires.listed; leaves = c.requires.basic; enters = c.requires.nonbasic }

columns : (c : After-row) → c.as_slice-columns.result.now ≡ columns_after c.args.self.now c.args.leaves c.args.enters
columns c = c.as_slice-columns.ensures.value ∙ c.list_columns.ensures.listed

-- the row that is solved is that of the form that leaves
to_solve : (c : After-row)
    → solved_row c.as_slice-columns.result.now c.args.leaves c.args.enters (coefficient c.row.result)
    ≡ solved_row (columns_after c.args.self.now c.args.leaves c.args.enters) c.args.leaves c.args.enters (rows_of c.args.self.now c.args.leaves)
to_solve c =
    ap (λ (l : List ℕ). solved_row l c.args.leaves c.args.enters (coefficient c.row.result)) (columns c)
    ∙ ap (λ (r : DenseRow). solved_row (columns_after c.args.self.now c.args.leaves c.args.enters) c.args.leaves c.args.enters (coefficient r)) c.row.ensures.row

abbrev before : After-as_slice → After-row
before c = (goal.at.After-as_slice c).After-row

solved : (c : After-as_slice) → IsDone (solved_row (columns_after c.args.self.now c.args.leaves c.args.enters) c.args.leaves c.args.enters (rows_of c.args.self.now c.args.leaves)) c.solve.new.solved.items
solved c = subst (λ (x : Computation (List Fraction)). IsDone x c.solve.new.solved.items) (to_solve (before c)) c.in_ok-solve.ensures.solved

changed : (c : After-as_slice) → c.as_slice.result.now ≡ changed_forms c.args.self.now c.args.leaves c.args.enters
changed c = c.as_slice.ensures.value ∙ c.list_changed.ensures.listed

width : (c : After-as_slice) → length c.as_slice-solved.result.now ≡ length c.as_slice-columns.result.now
width c =
    ap length c.as_slice-solved.ensures.value
    ∙ solved_long (ready (before c)) c.solve.new.solved.items (solved c)
    ∙ sym (ap length (columns (before c)))

-- the coefficients that were solved, over the columns that were listed
solved_there : (c : After-as_slice) → c.as_slice-solved.result.now ≡ map (computed (ready (before c))) c.as_slice-columns.result.now
solved_there c =
    c.as_slice-solved.ensures.value
    ∙ solved_are (ready (before c)) c.solve.new.solved.items (solved c)
    ∙ ap (map (computed (ready (before c)))) (sym (columns (before c)))

to_change : (c : After-as_slice)
    → changed_rows (rows_of c.args.self.now) c.as_slice.result.now c.as_slice-columns.result.now c.args.enters (computed (ready (before c)))
    ≡ changed_rows (rows_of c.args.self.now) (changed_forms c.args.self.now c.args.leaves c.args.enters) (columns_after c.args.self.now c.args.leaves c.args.enters) c.args.enters (computed (ready (before c)))
to_change c =
    ap (λ (l : List ℕ). changed_rows (rows_of c.args.self.now) l c.as_slice-columns.result.now c.args.enters (computed (ready (before c)))) (changed c)
    ∙ ap (λ (l : List ℕ). changed_rows (rows_of c.args.self.now) (changed_forms c.args.self.now c.args.leaves c.args.enters) l c.args.enters (computed (ready (before c)))) (columns (before c))

-- ---- What the steps ask

pub solve-requires-clause-room : goal.solve-requires-clause-room
solve-requires-clause-room c =
    let here = (goal.at.solve-requires-clause-room c).After-row in
    omega (arith, ap length (columns here), columns_fit (ready here), c.requires.room.for_solved)

pub put_changed-requires-clause-listed : goal.put_changed-requires-clause-listed
put_changed-requires-clause-listed c =
    let here = (goal.at.put_changed-requires-clause-listed c).After-as_slice in
    subst (λ (l : List ℕ). All (λ (r : ℕ). r < length c.args.self.now.marks) l) (sym (changed here)) (changed_listed (ready (before here)))

pub put_changed-requires-clause-basic : goal.put_changed-requires-clause-basic
put_changed-requires-clause-basic c =
    let here = (goal.at.put_changed-requires-clause-basic c).After-as_slice in
    subst (λ (l : List ℕ). All (λ (r : ℕ). is_nonbasic c.args.self.now r ≡ false) l) (sym (changed here)) (changed_basic (ready (before here)))

pub put_changed-requires-clause-width : goal.put_changed-requires-clause-width
put_changed-requires-clause-width c = width (goal.at.put_changed-requires-clause-width c).After-as_slice

-- one row less than are written
last : (m w s : ℕ) → (m + 1) * w ≤ s → m * w + w ≤ s
last m w s h =
    let more : (m + 1) * w ≡ m * w + w = omega arith in
    omega (arith, h, more)

-- there is room for all rows that are written
room : (c : After-as_slice) → (length c.as_slice.result.now + 1) * length c.as_slice-columns.result.now ≤ vec_capacity c.args.room.now.spare
room c =
    let g = c.args.self.now in
    let fit : (length (changed_forms g c.args.leaves c.args.enters) + 1) * length (columns_after g c.args.leaves c.args.enters) ≤ size_of (length g.marks) (is_nonbasic g) = rows_fit (ready (before c)) in
    subst (λ (l : List ℕ). (length l + 1) * length c.as_slice-columns.result.now ≤ vec_capacity c.args.room.now.spare) (sym (changed c))
    (subst (λ (l : List ℕ). (length (changed_forms g c.args.leaves c.args.enters) + 1) * length l ≤ vec_capacity c.args.room.now.spare) (sym (columns (before c)))
    (omega (arith, fit, c.requires.room.for_block)))

pub put_changed-requires-clause-room : goal.put_changed-requires-clause-room
put_changed-requires-clause-room c =
    omega (arith, last (length c.as_slice.result.now) (length c.as_slice-columns.result.now) (vec_capacity c.args.room.now.spare) (room (goal.at.put_changed-requires-clause-room c).After-as_slice))

pub push_reserved-requires : goal.push_reserved-requires
push_reserved-requires c =
    let here = (goal.at.push_reserved-requires c).After-as_slice in
    omega (arith, c.list_changed.new.changed.ok.0, ap length c.list_changed.ensures.listed, forms_fit (ready (before here)), c.list_changed.ensures.capacity, c.requires.room.for_written)

pub put_all-requires : goal.put_all-requires
put_all-requires c =
    let here = (goal.at.put_all-requires c).After-as_slice in
    record {
      room =
          omega (
            arith,
            last (length c.as_slice.result.now) (length c.as_slice-columns.result.now) (vec_capacity c.args.room.now.spare) (room here),
            c.in_ok-put_changed.ensures.long,
            c.put_changed.ensures.capacity,
            width here,
          );
    }

-- ---- Ways out before the end

pub returns-in_err-solve-clause-stops : goal.returns-in_err-solve-clause-stops
returns-in_err-solve-clause-stops c =
    let g = c.args.self.now in
    let here = (goal.at.returns-in_err-solve-clause-stops c).After-row in
    let w : Wide = c.in_err-solve.field-0.0 in
    let error : c.from_residual.result ≡ Err w = search rules in
    subst (λ r. Stops (exchange (length g.marks) (is_nonbasic g) (rows_of g) c.args.leaves c.args.enters) r) (sym error)
    (stops_first (ready here) (operation_of w)
    (subst (λ (x : Computation (List Fraction)). first_wide x.operations ≡ Some (operation_of w)) (to_solve here) c.in_err-solve.ensures.solved))

pub returns-in_err-put_changed-clause-stops : goal.returns-in_err-put_changed-clause-stops
returns-in_err-put_changed-clause-stops c =
    let g = c.args.self.now in
    let here = (goal.at.returns-in_err-put_changed-clause-stops c).After-as_slice in
    let w : Wide = c.in_err-put_changed.field-0.0 in
    let error : c.from_residual-in_err-put_changed.result ≡ Err w = search rules in
    subst (λ r. Stops (exchange (length g.marks) (is_nonbasic g) (rows_of g) c.args.leaves c.args.enters) r) (sym error)
    (stops_later (ready (before here)) c.solve.new.solved.items (solved here) (operation_of w)
    (subst (λ (x : Computation (List Fraction)). first_wide x.operations ≡ Some (operation_of w)) (to_change here)
    (c.in_err-put_changed.ensures.put (computed (ready (before here))) (solved_there here))))

-- ---- At the end

abbrev middle : After-as_slice-3 → After-as_slice
middle c = (goal.at.After-as_slice-3 c).After-as_slice

block : (c : After-as_slice-3)
    → IsDone (changed_rows (rows_of c.args.self.now) (changed_forms c.args.self.now c.args.leaves c.args.enters) (columns_after c.args.self.now c.args.leaves c.args.enters) c.args.enters (computed (ready (before (middle c))))) c.put_changed.new.block.items
block c =
    subst (λ (x : Computation (List Fraction)). IsDone x c.put_changed.new.block.items) (to_change (middle c))
    (c.in_ok-put_changed.ensures.put (computed (ready (before (middle c)))) (solved_there (middle c)))

written : (c : After-as_slice-3) → c.as_slice-2.result.now ≡ written_forms c.args.self.now c.args.leaves c.args.enters
written c = c.as_slice-2.ensures.value ∙ c.push_reserved.ensures.items ∙ ap (λ (l : List ℕ). l ++ c.args.enters ∷ []) c.list_changed.ensures.listed

all_put : (c : After-as_slice-3) → c.as_slice-3.result.now ≡ c.put_changed.new.block.items ++ c.solve.new.solved.items
all_put c = c.as_slice-3.ensures.value ∙ c.put_all.ensures.put ∙ ap (λ (l : List Fraction). c.put_changed.new.block.items ++ l) c.as_slice-solved.ensures.value

pub replace-requires-clause-block : goal.replace-requires-clause-block
replace-requires-clause-block c =
    let here = (goal.at.replace-requires-clause-block c).After-as_slice-3 in
    ap length (all_put here)
    ∙ written_fit (ready (before (middle here))) c.solve.new.solved.items (solved (middle here)) c.put_changed.new.block.items (block here)
    ∙ ap (λ (l : List ℕ). length l * length (columns_after c.args.self.now c.args.leaves c.args.enters)) (sym (written here))
    ∙ ap (λ (l : List ℕ). length c.as_slice-2.result.now * length l) (sym (columns (before (middle here))))

stored : (c : After-as_slice-3) → IsStoredGrid c.args.self.now
stored c = stored_in c.self.view_is c.self.invariant

replaced : (c : After-replace) → IsReplaced c.args.self.now c.replace.new.self c.args.leaves c.args.enters (columns_after c.args.self.now c.args.leaves c.args.enters) (written_forms c.args.self.now c.args.leaves c.args.enters)
    (c.put_changed.new.block.items ++ c.solve.new.solved.items)
replaced c =
    let here = (goal.at.After-replace c).After-as_slice-3 in
    let g = c.args.self.now in
    let new = c.replace.new.self in
    let i = c.args.leaves in
    let j = c.args.enters in
    subst (IsReplaced g new i j (columns_after g i j) (written_forms g i j)) (all_put here)
    (subst (λ (l : List ℕ). IsReplaced g new i j (columns_after g i j) l c.as_slice-3.result.now) (written here)
    (subst (λ (l : List ℕ). IsReplaced g new i j l c.as_slice-2.result.now c.as_slice-3.result.now) (columns (before (middle here))) c.replace.ensures.replaced))

pub returns-clause-exchanged : goal.returns-clause-exchanged
returns-clause-exchanged c =
    let here = (goal.at.returns-clause-exchanged c).After-as_slice-3 in
    is_exchanged (ready (before (middle here))) c.solve.new.solved.items (solved (middle here)) c.put_changed.new.block.items (block here) (stored here) c.list_changed.ensures.none c.replace.new.self
    (replaced (goal.at.returns-clause-exchanged c).After-replace)

pub returns-clause-stops : goal.returns-clause-stops
returns-clause-stops c =
    let here = (goal.at.returns-clause-stops c).After-as_slice-3 in
    fits (ready (before (middle here))) c.solve.new.solved.items (solved (middle here)) c.put_changed.new.block.items (block here)

pub returns-clause-room : goal.returns-clause-room
returns-clause-room c =
    let here = (goal.at.returns-clause-room c).After-as_slice-3 in
    room_stays (ready (before (middle here))) c.solve.new.solved.items (solved (middle here)) c.put_changed.new.block.items (block here) (stored here) c.list_changed.ensures.none c.replace.new.self
    (replaced (goal.at.returns-clause-room c).After-replace)
    (vec_capacity c.list_columns.new.columns) (vec_capacity c.push_reserved.new.self) (vec_capacity c.solve.new.solved) (vec_capacity c.put_all.new.rows)
    (omega (arith, c.list_columns.ensures.capacity, c.requires.room.for_columns))
    (omega (arith, c.push_reserved.ensures.capacity, c.list_changed.ensures.capacity, c.requires.room.for_written))
    (omega (arith, c.solve.ensures.capacity, c.requires.room.for_solved))
    (omega (arith, c.put_all.ensures.capacity, c.put_changed.ensures.capacity, c.requires.room.for_block))
