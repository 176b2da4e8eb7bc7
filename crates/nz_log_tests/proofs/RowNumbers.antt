-- The row of a number, among rows that were made.
use Rattle.std.proofs.Common.{◌≡◌, ℕ, zero, suc, ◌<◌, List, [], ◌∷◌, length, Some, refl, sym, ap, subst, arith}
use Rattle.std.specs.Prelude.{slice_get, slice_index_or}
use Rattle.std.specs.declared.vec.Vec.{Vec}
use Rattle.std.specs.declared.alloc.Global.{Global}
use Rattle.nz_spec.specs.terms.Table.{Node}
use Rattle.nz_rows.specs.declared.rows.RowLiteral.{RowLiteral}
use Rattle.nz_term.specs.declared.term_lits.TermLit.{TermLit}
use Rattle.nz_rows.specs.GateRows.{lists_of}
use Rattle.nz_rows.specs.Rows.{AreRowsOf, IsRowAt, IsRowOf, Row}

pub gate_at : (vs : List (Vec TermLit Global)) (j : ℕ) (v : Vec TermLit Global) → j < length vs → v ≡ slice_index_or vs j v → slice_get (lists_of vs) j ≡ Some v.items
gate_at [] j v within is = absurd (omega (arith, within))
gate_at (x ∷ xs) zero v within is = ap (λ (u : Vec TermLit Global). Some u.items) (sym is)
gate_at (x ∷ xs) (suc j) v within is = gate_at xs j v (omega (arith, within)) is

pub row_at : (ns : List Node) (rows : List Row) (vs : List (Vec RowLiteral Global)) (j : ℕ) (v : Vec RowLiteral Global) → AreRowsOf ns rows vs → j < length vs → v ≡ slice_index_or vs j v
    → IsRowAt ns rows j v.items
row_at ns [] [] j v made within is = absurd (omega (arith, within))
row_at ns [] (x ∷ xs) j v made within is = absurd made
row_at ns (row ∷ rows) [] j v made within is = absurd made
row_at ns (row ∷ rows) (x ∷ xs) zero v made within is = record { row = row; at = refl; is = subst (λ (u : Vec RowLiteral Global). IsRowOf ns row u.items) (sym is) made.0 }
row_at ns (row ∷ rows) (x ∷ xs) (suc j) v made within is =
    let rest = row_at ns rows xs j v made.1 (omega (arith, within)) is in
    record { row = rest.row; at = rest.at; is = rest.is }
