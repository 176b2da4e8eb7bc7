-- Rows of the tables of links and units, as they are made.
use Rattle.std.specs.Prelude.{◌≡◌, ℕ, ◌<◌, IsTrue, List, [], ◌∷◌, map, flat_map, length, Some, Result, Ok, Err, slice_get, ⊤}
use Rattle.std.specs.List.{AllByRecursion}
use Rattle.std.specs.declared.vec.Vec.{Vec}
use Rattle.std.specs.declared.alloc.Global.{Global}
use Rattle.nz_fractions.specs.Fraction.{Operation, first_wide}
use Rattle.nz_spec.specs.numbers.Computation.{Computation, in_turn}
use Rattle.nz_spec.specs.terms.FormOf.{number_in}
use Rattle.nz_spec.specs.clauses.Gates.{list_of}
use Rattle.nz_spec.specs.terms.Linear.{is_linear}
use Rattle.nz_spec.specs.clauses.Links.{links_over}
use Rattle.nz_spec.specs.clauses.Literal.{Literal}
use Rattle.nz_spec.specs.terms.Table.{Node, term_in}
use Rattle.nz_spec.specs.terms.Term as spec
use Rattle.nz_spec.specs.terms.Term.{apply}
use Rattle.nz_spec.specs.clauses.Units.{units_over}
use Rattle.nz_term.specs.declared.stops.ArithmeticStop.{ArithmeticStop}
use Rattle.nz_lin.specs.Bounds.{HasUnits, literal_over}
use Rattle.nz_lin.specs.Comes.{IsDone}
use Rattle.nz_term.specs.Stops.{IsStopAt}
use Rattle.nz_rows.specs.declared.rows.RowLiteral.{RowLiteral}
use Rattle.nz_rows.specs.declared.rows.RowLiteral.TheVariants.{Term, Bound}
use Rattle.nz_term.specs.TermLits.{literal_of}

-- what a literal of a row says
abbrev pub row_literal_in : List Node → RowLiteral → Literal
row_literal_in ns (Term l) = literal_of ns l
row_literal_in ns (Bound b) = literal_over ns b

abbrev pub row_literals_in : List Node → List RowLiteral → List Literal
row_literals_in ns row = map (row_literal_in ns) row

-- the table has what it names
abbrev pub IsRowLiteralIn : List Node → RowLiteral → Type 0
IsRowLiteralIn ns (Term l) = l.term < length ns
IsRowLiteralIn ns (Bound b) = HasUnits ns b

abbrev pub AreRowLiteralsIn : List Node → List RowLiteral → Type 0
AreRowLiteralsIn ns row = AllByRecursion (IsRowLiteralIn ns) row

-- ---- The tables

-- a row: its literals, as computations
abbrev pub Row : Type 0
Row = List (Computation Literal)

-- the rows of a term
abbrev pub link_rows : List Node → spec.Term → List Row
link_rows ns (apply h ts) = links_over (number_in ns) (apply h ts) h (list_of ts)

abbrev pub unit_rows : List Node → spec.Term → List Row
unit_rows ns (apply h ts) = units_over (number_in ns) (apply h ts) h (list_of ts)

-- the operations of rows, one row after another
abbrev pub row_operations : List Row → List Operation
row_operations rows = flat_map (λ (row : Row). (in_turn row).operations) rows

-- ---- Terms of the table

-- a linear term of the table, by its number
pub record IsLinearIn (ns : List Node) (id : ℕ) : Type 0 where
  pub within : id < length ns
  pub linear : IsTrue (is_linear (term_in ns id))

-- the number of a term
pub record IsTermOf (ns : List Node) (t : spec.Term) (id : ℕ) : Type 0 where
  pub within : id < length ns
  pub term : term_in ns id ≡ t

-- ---- Results

-- The literals are those of the row, of whose operations none leaves the numbers.
pub record IsRowOf (ns : List Node) (row : Row) (literals : List RowLiteral) : Type 0 where
  pub done : IsDone (in_turn row) (row_literals_in ns literals)
  pub within : AreRowLiteralsIn ns literals

-- The literals are those of the row of a number.
pub record IsRowAt (ns : List Node) (rows : List Row) (j : ℕ) (literals : List RowLiteral) : Type 0 where
  pub row : Row
  pub at : slice_get rows j ≡ Some row
  pub is : IsRowOf ns row literals

-- of one row
abbrev pub ComesOfRow : List Node → Row → Result (Vec RowLiteral Global) ArithmeticStop → Type 0
ComesOfRow ns row (Ok v) = IsRowOf ns row v.items
ComesOfRow ns row (Err s) = IsStopAt (first_wide (in_turn row).operations) s

-- of all rows, in their order
abbrev pub AreRowsOf : List Node → List Row → List (Vec RowLiteral Global) → Type 0
AreRowsOf ns [] [] = ⊤
AreRowsOf ns [] (v ∷ vs) = ⊥
AreRowsOf ns (row ∷ rows) [] = ⊥
AreRowsOf ns (row ∷ rows) (v ∷ vs) = IsRowOf ns row v.items × AreRowsOf ns rows vs

abbrev pub ComeOfRows : List Node → List Row → Result (Vec (Vec RowLiteral Global) Global) ArithmeticStop → Type 0
ComeOfRows ns rows (Ok vs) = AreRowsOf ns rows vs.items
ComeOfRows ns rows (Err s) = IsStopAt (first_wide (row_operations rows)) s
