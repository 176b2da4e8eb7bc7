-- Rows of tables, as they are taken from a list one by one.
use Rattle.std.proofs.Common.{◌≡◌, suc, List, [], ◌∷◌, ◌++◌, length, Some, None, refl, sym, ap, ◌∙◌, arith, slice_get, Vec, Global, ℕ, ◌<◌, map, subst, Contains}
use Rattle.std.proofs.lemmas.List.{length-map}
use Rattle.nz_spec.specs.numbers.Computation.{in_turn, Computation}
use Rattle.nz_spec.specs.terms.FormOf.{number_in, form_of}
use Rattle.nz_spec.specs.terms.Table.{Node, term_in}
use Rattle.nz_spec.specs.terms.Term.{Term, apply}
use Rattle.nz_rows.specs.declared.rows.RowLiteral.{RowLiteral}
use Rattle.nz_term.specs.declared.term_lits.TermLit.{TermLit}
use Rattle.nz_rows.specs.GateRows.{lists_of}
use Rattle.nz_rows.specs.Rows.{AreRowsOf, IsRowAt, Row, link_rows, unit_rows, row_operations}
use Rattle.nz_cform.specs.declared.rows.RowTable.{RowTable}
use Rattle.nz_cform.specs.declared.rows.RowTable.TheVariants.{Links, Units}
use Rattle.nz_cform.specs.Covering.{table_clauses, table_rows}
use Rattle.std.proofs.lemmas.List.Concat.{flat_map-append}
use Rattle.std.proofs.lemmas.List.Elements.{Contains-append_right}
use Rattle.nz_fractions.proofs.FirstOperations.{first_wide-is, first_wide-none, first_wide-some, no_operation}
use Rattle.nz_fractions.specs.Fraction.{IsNumber, Operation, first_wide}
use Rattle.nz_spec.specs.clauses.Links.{link_clauses}
use Rattle.nz_spec.specs.clauses.Literal.{Clause}
use Rattle.nz_spec.specs.search.Places.{term_operations}
use Rattle.nz_spec.specs.clauses.Units.{unit_clauses}
use Rattle.nz_frac.specs.Operations.{operation_of}
use Rattle.nz_frac.specs.declared.frac.Wide as frac
use Rattle.nz_term.specs.declared.stops.ArithmeticStop as lin
use Rattle.nz_term.specs.declared.stops.ArithmeticStop.TheVariants as stops
use Rattle.nz_term.specs.Stops.{IsStopAt}
use Rattle.nz_cform.specs.declared.stop.FormStop.{FormStop}
use Rattle.nz_cform.specs.declared.stop.FormStop.TheVariants.{Wide, Memory}
use Rattle.nz_cform.specs.Stops.{IsFirstStop, IsStopIn, IsStopOf, OnWide, operations_of}
use Rattle.nz_cform.proofs.Parts.{itself}

pub nothing_left : {A : Type 0} (xs : List A) → length xs ≡ 0 → xs ≡ []
nothing_left [] e = refl
nothing_left (x ∷ xs) e = absurd (omega arith)

-- the next one has the number of those before it
pub next_gate : (xs : List (Vec TermLit Global)) (v : Vec TermLit Global) (ys : List (Vec TermLit Global)) → slice_get (lists_of (xs ++ v ∷ ys)) (length xs) ≡ Some v.items
next_gate [] v ys = refl
next_gate (x ∷ xs) v ys = next_gate xs v ys

module _ (ns : List Node) where
  pub next_row : (rows : List Row) (xs : List (Vec RowLiteral Global)) (v : Vec RowLiteral Global) (ys : List (Vec RowLiteral Global)) → AreRowsOf ns rows (xs ++ v ∷ ys)
      → IsRowAt ns rows (length xs) v.items
  next_row [] [] v ys h = absurd h
  next_row (row ∷ rows) [] v ys h = record { row = row; at = refl; is = h.0 }
  next_row [] (x ∷ xs) v ys h = absurd h
  next_row (row ∷ rows) (x ∷ xs) v ys h = let rest = next_row rows xs v ys h.1 in record { row = rest.row; at = rest.at; is = rest.is }

  pub all_rows : (rows : List Row) (vs : List (Vec RowLiteral Global)) → AreRowsOf ns rows vs → length vs ≡ length rows
  all_rows [] [] h = refl
  all_rows [] (v ∷ vs) h = absurd h
  all_rows (row ∷ rows) [] h = absurd h
  all_rows (row ∷ rows) (v ∷ vs) h = ap suc (all_rows rows vs h.1)

  pub count_rows : (table : RowTable) (t : Term) → length (table_rows table ns t) ≡ length (table_clauses table (number_in ns) t)
  count_rows Links (apply h ts) = sym (length-map (link_rows ns (apply h ts)) in_turn)
  count_rows Units (apply h ts) = sym (length-map (unit_rows ns (apply h ts)) in_turn)

pub one_longer : {A : Type 0} (xs : List A) (x : A) → length (xs ++ x ∷ []) ≡ suc (length xs)
one_longer [] x = refl
one_longer (y ∷ ys) x = ap suc (one_longer ys x)

-- ---- Where a row of a term leaves the numbers, the term does

abbrev Rows : Type 0
Rows = List (Computation Clause)

-- ---- The operations of a row are among those of its term

apart : (rows : List Row) → operations_of (map in_turn rows) ≡ row_operations rows
apart [] = refl
apart (row ∷ rows) = ap (λ ops. (in_turn row).operations ++ ops) (apart rows)

same_operations : (table : RowTable) (ns : List Node) (t : Term) → operations_of (table_clauses table (number_in ns) t) ≡ row_operations (table_rows table ns t)
same_operations Links ns (apply h ts) = apart (link_rows ns (apply h ts))
same_operations Units ns (apply h ts) = apart (unit_rows ns (apply h ts))

-- none of rows that were made leaves the numbers
rows_fit : (ns : List Node) (rows : List Row) (vs : List (Vec RowLiteral Global)) → AreRowsOf ns rows vs → first_wide (row_operations rows) ≡ None
rows_fit ns [] [] h = no_operation
rows_fit ns [] (v ∷ vs) h = absurd h
rows_fit ns (row ∷ rows) [] h = absurd h
rows_fit ns (row ∷ rows) (v ∷ vs) h = first_wide-none (in_turn row).operations (row_operations rows) h.0.done.fits ∙ rows_fit ns rows vs h.1

pub table_fits : (table : RowTable) (ns : List Node) (t : Term) (vs : List (Vec RowLiteral Global)) → AreRowsOf ns (table_rows table ns t) vs
    → first_wide (operations_of (table_clauses table (number_in ns) t)) ≡ None
table_fits table ns t vs h = ap first_wide (same_operations table ns t) ∙ rows_fit ns (table_rows table ns t) vs h

module _ (ns : List Node) (t : ℕ) (within : t < length ns) where
  abbrev own_links : Rows
  own_links = link_clauses (number_in ns) (term_in ns t)

  abbrev own_units : Rows
  own_units = unit_clauses (number_in ns) (term_in ns t)

  abbrev own_form : List Operation
  own_form = (form_of (number_in ns) (term_in ns t)).operations

  of_tables : (op : Operation) → Contains (operations_of (own_links ++ own_units)) op → Contains (term_operations (number_in ns) (term_in ns t)) op
  of_tables op has = Contains-append_right own_form (operations_of (own_links ++ own_units)) op has

  -- what stops a row is the first of its table that does
  pub row_stops : (table : RowTable) (stop : lin.ArithmeticStop) (e : FormStop) → IsStopAt (first_wide (row_operations (table_rows table ns (term_in ns t)))) stop → IsStopOf stop t e
      → OnWide e (IsFirstStop table ns t)
  row_stops table (stops.Wide wide) e at is =
      subst (λ (f : FormStop). OnWide f (IsFirstStop table ns t)) (sym is.0)
      (record { own = refl; first = ap first_wide (same_operations table ns (term_in ns t)) ∙ at; left = is.1; right = is.2 })
  row_stops table stops.Memory e at is = subst (λ (f : FormStop). OnWide f (IsFirstStop table ns t)) (sym is) tt

  -- and of the term
  stop_in : (wide : frac.Wide) → first_wide (operations_of (own_links ++ own_units)) ≡ Some (operation_of wide) → IsNumber wide.a → IsNumber wide.b → IsStopIn ns (term_in ns t) wide t
  stop_in wide first left right =
      let found = first_wide-is (operations_of (own_links ++ own_units)) (operation_of wide) first in
      record {
        within = within;
        part = itself (term_in ns t);
        of = of_tables (operation_of wide) found.0;
        leaves = record { left = left; right = right; wide = found.1 };
        first = first;
      }

  pub links_stop : (e : FormStop) → OnWide e (IsFirstStop Links ns t) → OnWide e (IsStopIn ns (term_in ns t))
  links_stop (Wide wide v) is =
      let first = ap first_wide (flat_map-append (λ (row : Computation Clause). row.operations) own_links own_units) ∙ first_wide-some (operations_of own_links) (operations_of own_units) (operation_of wide) is.first in
      subst (IsStopIn ns (term_in ns t) wide) (sym is.own) (stop_in wide first is.left is.right)
  links_stop Memory is = tt

  pub units_stop : first_wide (operations_of own_links) ≡ None → (e : FormStop) → OnWide e (IsFirstStop Units ns t) → OnWide e (IsStopIn ns (term_in ns t))
  units_stop none (Wide wide v) is =
      let first = ap first_wide (flat_map-append (λ (row : Computation Clause). row.operations) own_links own_units) ∙ first_wide-none (operations_of own_links) (operations_of own_units) none ∙ is.first in
      subst (IsStopIn ns (term_in ns t) wide) (sym is.own) (stop_in wide first is.left is.right)
  units_stop none Memory is = tt
