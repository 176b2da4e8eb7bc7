-- The units were the last numbers, places and columns.
use Rattle.std.proofs.Common.{◌≡◌, ℕ, ◌-◌, Bool, List, length, map, take, sym, ap, subst, ◌∙◌, arith}
use Rattle.nz_tab.specs.Rows.{Grid, IsGrid, columns_of}
use Rattle.nz_tab.specs.Sums.{IsStoredGrid, widened}
use Rattle.nz_tab.proofs.AddedColumns.{columns_then, cut, cut_back, wider_long}
use Rattle.nz_tab.proofs.StoredRows.{items, made}
use Rattle.nz_tab.proofs.rows.Rows.narrow.Goals as goal
use Rattle.nz_tab.proofs.rows.Rows.narrow.Goals.{After-cut_columns}

pub overflow_sub-count : goal.overflow_sub-count
overflow_sub-count c =
    let w = c.requires.widened in
    omega (arith, c.len.ensures, c.self.inside.nonbasic.ok.0, ap (λ (x : Grid). length x.marks) (c.self.view_is ∙ w.2), wider_long w.0 c.args.units w.1)

pub overflow_sub-width : goal.overflow_sub-width
overflow_sub-width c =
    let w = c.requires.widened in
    omega (arith, c.self.invariant.wide, ap (λ (x : Grid). length (columns_of x)) (c.self.view_is ∙ w.2), columns_then w.0 c.args.units w.1)

width_back : (c : After-cut_columns) (g : Grid) → IsStoredGrid g → c.args.self.now ≡ widened g c.args.units → c.self.inside.width - c.args.units ≡ length (columns_of g)
width_back c g stored is =
    let same = c.self.view_is ∙ is in
    omega (arith, c.self.invariant.wide, ap (λ (x : Grid). length (columns_of x)) same, columns_then g c.args.units stored)

-- what the fields have come to
back : (c : After-cut_columns) (g : Grid) → IsStoredGrid g → c.args.self.now ≡ widened g c.args.units → made c.truncate.new.self.items c.truncate-2.new.self.items (map items c.cut_columns.new.rows.items) ≡ g
back c g stored is =
    let units = c.args.units in
    let count = c.len.result - units in
    let width = c.self.inside.width - units in
    let old = c.self.inside in
    let same = c.self.view_is ∙ is in
    let many : count ≡ length g.marks = omega (arith, c.len.ensures, old.nonbasic.ok.0, ap (λ (x : Grid). length x.marks) same, wider_long g units stored) in
    ap (λ (l : List Bool). made l c.truncate-2.new.self.items (map items c.cut_columns.new.rows.items)) c.truncate.ensures.items
    ∙ ap (λ (l : List ℕ). made (take count old.nonbasic.items) l (map items c.cut_columns.new.rows.items)) c.truncate-2.ensures.items
    ∙ ap (made (take count old.nonbasic.items) (take count old.places.items)) c.cut_columns.ensures.rows
    ∙ ap (λ (x : Grid). cut x count width) same
    ∙ cut_back g units count width stored many (width_back c g stored is)

pub invariant_of-self : goal.invariant_of-self
invariant_of-self c =
    let here = (goal.at.invariant_of-self c).After-cut_columns in
    let w = c.requires.widened in
    let g = w.0 in
    subst (λ (n : ℕ). IsGrid c.truncate.new.self.items c.truncate-2.new.self.items n (map items c.cut_columns.new.rows.items)) (sym (width_back here g w.1 w.2))
    (subst (λ (x : Grid). IsGrid x.marks x.places (length (columns_of g)) x.rows) (sym (back here g w.1 w.2)) w.1)

pub returns : goal.returns
returns c = record { narrowed = back (goal.at.returns c).After-cut_columns }
