-- The units get the next columns, in which each row has a 0.
use Rattle.std.proofs.Common.{◌≡◌, ℕ, ◌+◌, true, Bool, List, ◌++◌, length, map, replicate, rules, sym, ap, subst, ◌∙◌}
use Rattle.nz_tab.specs.Rows.{Grid, IsGrid, columns_of}
use Rattle.nz_tab.specs.Sums.{IsStoredGrid, IsWidened, lengthened, next_columns, widened}
use Rattle.nz_tab.proofs.StoredRows.{items, made, stored_in}
use Rattle.nz_tab.proofs.AddedColumns.{is_widened, stored_then}
use Rattle.nz_tab.proofs.rows.Rows.widen.Goals as goal
use Rattle.nz_tab.proofs.rows.Rows.widen.Goals.{After-put_columns}

stored : (c : After-put_columns) → IsStoredGrid c.args.self.now
stored c = stored_in c.self.view_is c.self.invariant

-- what the fields have come to
now : (c : After-put_columns) → made c.put_units.new.nonbasic.items c.put_units.new.places.items (map items c.put_columns.new.rows.items) ≡ widened c.args.self.now c.args.units
now c =
    let g = c.self.inside in
    let units = c.args.units in
    let rows : map items c.put_columns.new.rows.items ≡ map (lengthened units) (map items g.rows.items) = c.put_columns.ensures.rows ∙ ap (map (lengthened units)) c.reserve_columns.ensures.rows in
    let marks : c.put_units.new.nonbasic.items ≡ g.nonbasic.items ++ replicate units true = c.put_units.ensures.marks ∙ ap (λ (l : List Bool). l ++ replicate units true) c.reserve.ensures.items in
    let places : c.put_units.new.places.items ≡ g.places.items ++ next_columns g.width units = c.put_units.ensures.places ∙ ap (λ (l : List ℕ). l ++ next_columns g.width units) c.reserve-2.ensures.items in
    ap (λ (l : List Bool). made l c.put_units.new.places.items (map items c.put_columns.new.rows.items)) marks
    ∙ ap (λ (l : List ℕ). made (g.nonbasic.items ++ replicate units true) l (map items c.put_columns.new.rows.items)) places
    ∙ ap (made (g.nonbasic.items ++ replicate units true) (g.places.items ++ next_columns g.width units)) rows
    ∙ ap (λ (w : ℕ). made (g.nonbasic.items ++ replicate units true) (g.places.items ++ next_columns w units) (map (lengthened units) (map items g.rows.items))) c.self.invariant.wide
    ∙ ap (λ (x : Grid). widened x units) c.self.view_is

pub invariant_of-self-2 : goal.invariant_of-self-2
invariant_of-self-2 c =
    let here = (goal.at.invariant_of-self-2 c).After-put_columns in
    let g = c.args.self.now in
    let units = c.args.units in
    let before : c.self.inside.width ≡ length (columns_of g) = c.self.invariant.wide ∙ ap (λ (x : Grid). length (columns_of x)) c.self.view_is in
    let sum : c.in_ok-width.width ≡ c.self.inside.width + units = search rules in
    let wide : c.in_ok-width.width ≡ length (columns_of g) + units = sum ∙ ap (λ (w : ℕ). w + units) before in
    subst (λ (w : ℕ). IsGrid c.put_units.new.nonbasic.items c.put_units.new.places.items w (map items c.put_columns.new.rows.items)) (sym wide)
    (subst (λ (x : Grid). IsGrid x.marks x.places (length (columns_of g) + units) x.rows) (sym (now here)) (stored_then g units (stored here)))

pub returns-clause-widened : goal.returns-clause-widened
returns-clause-widened c = now (goal.at.returns-clause-widened c).After-put_columns

pub returns-clause-joined : goal.returns-clause-joined
returns-clause-joined c =
    let here = (goal.at.returns-clause-joined c).After-put_columns in
    subst (λ (x : Grid). IsWidened c.args.self.now x c.args.units) (sym (now here)) (is_widened c.args.self.now c.args.units (stored here))
