-- The row stands behind the others, and its form is basic.
use Rattle.std.proofs.Common.{Vec, Global, ◌≡◌, ℕ, Bool, false, List, [], ◌∷◌, ◌++◌, length, map, sym, ap, subst, ◌∙◌, arith, refl}
use Rattle.std.proofs.lemmas.List.{length-map, map_push}
use Rattle.nz_fractions.specs.Fraction.{Fraction}
use Rattle.nz_tab.specs.Rows.{Grid, IsGrid, columns_of}
use Rattle.nz_tab.specs.Sums.{IsStoredGrid}
use Rattle.nz_tab.proofs.StoredRows.{items, stored_in}
use Rattle.nz_tab.proofs.AppendedRows.{stored_then}
use Rattle.nz_tab.proofs.rows.Rows.push.Goals as goal

pub invariant_of-self-2 : goal.invariant_of-self-2
invariant_of-self-2 c =
    let g = c.self.inside in
    let grid : Grid = record { marks = g.nonbasic.items; places = g.places.items; rows = map items g.rows.items } in
    let stored : IsStoredGrid grid = stored_in refl c.self.invariant in
    let row = c.args.row.now in
    let long : length row ≡ length (columns_of grid) = c.requires.width ∙ ap (λ (x : Grid). length (columns_of x)) (sym c.self.view_is) in
    let marks : c.push_reserved.new.self.items ≡ g.nonbasic.items ++ false ∷ [] = c.push_reserved.ensures.items ∙ ap (λ (l : List Bool). l ++ false ∷ []) c.reserve.ensures.items in
    let places : c.push_reserved-2.new.self.items ≡ g.places.items ++ length grid.rows ∷ [] =
    c.push_reserved-2.ensures.items
    ∙ ap (λ (l : List ℕ). l ++ c.len.result ∷ []) c.reserve-2.ensures.items
    ∙ ap (λ (m : ℕ). g.places.items ++ m ∷ []) (omega (arith, c.len.ensures, c.reserve-3.ensures.len, g.rows.ok.0, length-map g.rows.items items)) in
    let rows : map items c.push_reserved-3.new.self.items ≡ grid.rows ++ row ∷ [] =
    ap (map items) (c.push_reserved-3.ensures.items ∙ ap (λ (l : List (Vec Fraction Global)). l ++ c.in_ok-row.row ∷ []) c.reserve-3.ensures.items)
    ∙ map_push items g.rows.items c.in_ok-row.row
    ∙ ap (λ (l : List Fraction). grid.rows ++ l ∷ []) c.in_ok-row.ensures.items in
    subst (λ (l : List Bool). IsGrid l c.push_reserved-2.new.self.items g.width (map items c.push_reserved-3.new.self.items)) (sym marks)
    (subst (λ (l : List ℕ). IsGrid (g.nonbasic.items ++ false ∷ []) l g.width (map items c.push_reserved-3.new.self.items)) (sym places)
    (subst (λ (l : List (List Fraction)). IsGrid (g.nonbasic.items ++ false ∷ []) (g.places.items ++ length grid.rows ∷ []) g.width l) (sym rows)
    (subst (λ (w : ℕ). IsGrid (g.nonbasic.items ++ false ∷ []) (g.places.items ++ length grid.rows ∷ []) w (grid.rows ++ row ∷ [])) (sym c.self.invariant.wide)
    (stored_then grid row stored long))))
