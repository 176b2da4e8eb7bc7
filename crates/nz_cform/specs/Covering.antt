-- What it is that the covered terms have their clauses in a log: those of the gate table, of the link table and of the unit table.
use Rattle.std.specs.Prelude.{◌≡◌, ◌≢◌, ◌↔◌, ◌⊎◌, ⊤, ℕ, ◌<◌, ◌≤◌, List, [], ◌++◌, length, map, Option, Some, None, All, Contains, IsSome, slice_get, option_map, unwrap_or}
use Rattle.std.specs.List.{AllByRecursion, AllPairs}
use Rattle.nz_spec.specs.numbers.Computation.{Computation}
use Rattle.nz_spec.specs.terms.Form.{Numbering}
use Rattle.nz_spec.specs.terms.FormOf.{number_in}
use Rattle.nz_spec.specs.clauses.Links.{link_clauses}
use Rattle.nz_spec.specs.clauses.Literal.{Clause, once}
use Rattle.nz_spec.specs.terms.Order.{companions_of}
use Rattle.nz_spec.specs.terms.Table.{Node, term_in, terms_at}
use Rattle.nz_spec.specs.terms.Term.{Head, Term, apply}
use Rattle.nz_spec.specs.clauses.Units.{unit_clauses}
use Rattle.nz_lin.specs.declared.bound.Bound.{Bound}
use Rattle.nz_log.specs.declared.atoms.Atom.{Atom}
use Rattle.nz_log.specs.declared.atoms.Atom.TheVariants.{AtMost}
use Rattle.nz_log.specs.declared.lits.Lit.{Lit}
use Rattle.nz_term.specs.declared.term_lits.TermLit.{TermLit}
use Rattle.nz_log.specs.Atoms.{HasTerm, Stay, lits_of}
use Rattle.nz_log.specs.Axioms.{Axiom, link_of, unit_of}
use Rattle.nz_log.specs.Lits.{are_same_lit}
use Rattle.nz_log.specs.Sound.{IsLog}
use Rattle.nz_rows.specs.GateRows.{gates_at}
use Rattle.nz_rows.specs.Rows.{Row, link_rows, unit_rows}
use Rattle.nz_log.specs.Logs.{Origin, gate_of, axiom_of, row_term, Entry, LogState, entry_at, IsLive, literals_at, level_at, told_of, told_level}
use Rattle.nz_cform.specs.declared.rows.RowTable.{RowTable}
use Rattle.nz_cform.specs.declared.rows.RowTable.TheVariants.{Links, Units}
use Rattle.nz_cform.specs.Listings.{ListingState, IsListedWithin, listed_at}
use Rattle.nz_cform.specs.Forms.{FormState, covered_at, IsCoveredWithin}

-- the arguments of the term of a number
abbrev pub kids_at : List Node → ℕ → List ℕ
kids_at ns t = elim (slice_get ns t) [ None ↦ [] | Some n ↦ n.kids ]

-- how the clause of a number was made, where the log has one
abbrev pub origin_at : LogState → ℕ → Option Origin
origin_at log i = option_map (λ e. e.origin) (entry_at log i)

-- ---- Clauses of the gate table

-- the clause of this number of a term of the gate table, on terms
abbrev pub gate_terms : List Node → ℕ → ℕ → List TermLit
gate_terms ns t j = unwrap_or (slice_get (gates_at ns t) j) []

-- the atoms of its terms are there
abbrev pub AreNamed : List Node → List Atom → ℕ → ℕ → Type 0
AreNamed ns atoms t j = All (λ (l : TermLit). HasTerm atoms l.term) (gate_terms ns t j)

-- the clause on these atoms, at a level
abbrev pub gate_clause : List Node → List Atom → ℕ → ℕ → ℕ → Entry
gate_clause ns atoms t j level = record { literals = once are_same_lit (lits_of atoms (gate_terms ns t j)); level = level; origin = gate_of t j }

-- the log has it, under some number, and its atoms
abbrev pub HasGate : List Node → LogState → ℕ → ℕ → ℕ → Type 0
HasGate ns log t j level = (i : ℕ) × (entry_at log i ≡ Some (gate_clause ns log.atoms t j level)) × AreNamed ns log.atoms t j

-- ---- Tables of rows

-- the clauses of a term by a table
abbrev pub table_clauses : RowTable → Numbering → Term → List (Computation Clause)
table_clauses Links number t = link_clauses number t
table_clauses Units number t = unit_clauses number t

-- its rows, as they are made
abbrev pub table_rows : RowTable → List Node → Term → List Row
table_rows Links ns t = link_rows ns t
table_rows Units ns t = unit_rows ns t

-- why the clause of a number holds
abbrev pub table_axiom : RowTable → (term j : ℕ) → Axiom
table_axiom Links t j = link_of t j
table_axiom Units t j = unit_of t j

-- ---- Clauses of the tables

-- The log has a clause that was made so, at a level.
pub record HasClause (log : LogState) (o : Origin) (level : ℕ) : Type 0 where
  pub id : ℕ
  pub origin : origin_at log id ≡ Some o
  pub at : level_at log id ≡ level

-- The clause of a number is one of a table, of this term.
abbrev pub IsRowAt : LogState → ℕ → ℕ → Type 0
IsRowAt log i t = (o : Origin) × (origin_at log i ≡ Some o) × (row_term o ≡ Some t)

-- the literals of the clause of a number are on atoms that are there
abbrev pub IsOnAtoms : LogState → ℕ → Type 0
IsOnAtoms log i = (l : Lit) → Contains (literals_at log i) l → l.atom < length log.atoms

-- The clauses of the tables in the log are those of the covered terms, each once, on atoms that are there, at the level of its term, which is the level
-- told of it.
pub record HasRows (ns : List Node) (log : LogState) (s : FormState) : Type 0 where
  pub gates : (t n j : ℕ) → covered_at s t ≡ Some n → j < length (gates_at ns t) → HasGate ns log t j n
  pub rows : (table : RowTable) (t n j : ℕ) → covered_at s t ≡ Some n → j < length (table_clauses table (number_in ns) (term_in ns t)) → HasClause log (axiom_of (table_axiom table t j)) n
  pub of_covered : (i t : ℕ) → IsRowAt log i t → covered_at s t ≡ Some (level_at log i)
  pub once : (i k : ℕ) (o : Origin) → IsSome (row_term o) → origin_at log i ≡ Some o → origin_at log k ≡ Some o → i ≡ k
  pub told : (t : ℕ) → told_of log t ≡ covered_at s t
  pub on_atoms : (i t : ℕ) → IsRowAt log i t → IsOnAtoms log i

-- A clause of a table has a literal on an atom that is a bound.
pub record HasBound (log : LogState) (i atom : ℕ) : Type 0 where
  pub term : ℕ
  pub row : IsRowAt log i term
  pub literal : Lit
  pub has : Contains (literals_at log i) literal
  pub on : literal.atom ≡ atom
  pub bound : Bound
  pub is_bound : slice_get log.atoms atom ≡ Some (AtMost bound)

-- The bounds that are listed are those of the clauses of the tables, each at the least level of these.
pub record HasBounds (log : LogState) (s : FormState) : Type 0 where
  pub listed : (i atom : ℕ) → HasBound log i atom → IsListedWithin s.bounds (level_at log i) atom
  pub tabled : (atom n : ℕ) → listed_at s.bounds atom ≡ Some n → (i : ℕ) × HasBound log i atom × (level_at log i ≡ n)

-- The term has a number in the table, which is covered at or below this level.
pub record HasCovered (ns : List Node) (s : FormState) (level : ℕ) (u : Term) : Type 0 where
  pub number : ℕ
  pub inside : number < length ns
  pub term : term_in ns number ≡ u
  pub covered : IsCoveredWithin s level number

-- The covered terms are of the table, their clauses are in the log, with their bounds, and the arguments and the companions of each are covered, at or below
-- its level.
pub record Covers (ns : List Node) (log : LogState) (s : FormState) : Type 0 where
  pub within : (t n : ℕ) → covered_at s t ≡ Some n → t < length ns
  pub rows : HasRows ns log s
  pub bounds : HasBounds log s
  pub arguments : (t n : ℕ) → covered_at s t ≡ Some n → All (IsCoveredWithin s n) (kids_at ns t)
  pub companions : (t n : ℕ) → covered_at s t ≡ Some n → AllByRecursion (HasCovered ns s n) (companions_of (term_in ns t))

-- ---- Changes of the log

-- Each clause stays as it is, and each atom keeps its number.
pub record Keeps (old new : LogState) : Type 0 where
  pub clauses : (i : ℕ) → IsLive old i → entry_at new i ≡ entry_at old i
  pub atoms : Stay old.atoms new.atoms

-- The clauses that the log has more than before are those of these numbers, each once, and they are clauses of the tables.
pub record AreAdded (old : LogState) (ids : List ℕ) (new : LogState) : Type 0 where
  pub live : (i : ℕ) → IsLive new i ↔ (IsLive old i ⊎ Contains ids i)
  pub fresh : All (λ i. IsLive old i → ⊥) ids
  pub rows : All (λ i. (t : ℕ) × IsRowAt new i t) ids
  pub once : AllPairs (λ i k. i ≢ k) ids

-- Clauses and atoms stay, what was told stays, and the log stays in order.
pub record GoesOn (ns : List Node) (old new : LogState) : Type 0 where
  pub keeps : Keeps old new
  pub told : new.told ≡ old.told
  pub sound : (levels : List (List ℕ)) → IsLog ns levels old → IsLog ns levels new

-- ---- One term

-- The numbers of a term's arguments and of its companions were put at the end of a list.
pub record PutsParts (ns : List Node) (term : ℕ) (before after : List ℕ) : Type 0 where
  pub companions : List ℕ
  pub joined : after ≡ before ++ kids_at ns term ++ companions
  pub head : Head
  pub is : term_in ns term ≡ apply head (terms_at (term_in ns) (kids_at ns term))
  pub below : All (λ k. k < term) (kids_at ns term)
  pub inside : All (λ c. c < length ns) companions
  pub beside : map (term_in ns) companions ≡ companions_of (term_in ns term)

-- Clauses of the tables of a term were put, and their numbers come at the end of a list.
pub record AddsRows (term : ℕ) (old : LogState) (before : List ℕ) (new : LogState) (after : List ℕ) : Type 0 where
  pub more : List ℕ
  pub joined : after ≡ before ++ more
  pub added : AreAdded old more new
  pub of_term : All (λ i. IsRowAt new i term) more

-- the clause of a table that was made so is among the first ones of its term there, as many as these of each table
abbrev pub IsBelow : (gates links units : ℕ) → Origin → Type 0
IsBelow gates links units (gate_of t j) = j < gates
IsBelow gates links units (axiom_of (link_of t j)) = j < links
IsBelow gates links units (axiom_of (unit_of t j)) = j < units
IsBelow gates links units o = ⊤

-- how many of each, those of the link table first: as many links, or all of these and as many units
abbrev pub table_count : RowTable → (links units : ℕ) → ℕ
table_count Links links units = links
table_count Units links units = units

abbrev pub links_put : RowTable → (links count : ℕ) → ℕ
links_put Links links count = count
links_put Units links count = links

abbrev pub units_put : RowTable → ℕ → ℕ
units_put Links count = 0
units_put Units count = count

-- It is as in `HasRows` where of one covered term just so many clauses of each table are in the log; no level told is above that of the term.
pub record HasRowsBelow (ns : List Node) (log : LogState) (s : FormState) (term gate_count link_count unit_count : ℕ) : Type 0 where
  pub gates : (t n j : ℕ) → covered_at s t ≡ Some n → j < length (gates_at ns t) → (t ≡ term → j < gate_count) → HasGate ns log t j n
  pub rows : (table : RowTable) (t n j : ℕ) → covered_at s t ≡ Some n → j < length (table_clauses table (number_in ns) (term_in ns t)) → (t ≡ term → j < table_count table link_count unit_count)
      → HasClause log (axiom_of (table_axiom table t j)) n
  pub of_covered : (i t : ℕ) → IsRowAt log i t → covered_at s t ≡ Some (level_at log i)
  pub once : (i l : ℕ) (o : Origin) → IsSome (row_term o) → origin_at log i ≡ Some o → origin_at log l ≡ Some o → i ≡ l
  pub told : (t : ℕ) → told_of log t ≡ covered_at s t
  pub on_atoms : (i t : ℕ) → IsRowAt log i t → IsOnAtoms log i
  pub put : (i : ℕ) (o : Origin) → row_term o ≡ Some term → origin_at log i ≡ Some o → IsBelow gate_count link_count unit_count o
  pub level : ℕ
  pub covered : covered_at s term ≡ Some level
  pub highest : (t : ℕ) → told_level log t ≤ level

-- so many of a table are in the log, and of the table before it these
abbrev pub HasRowsOf : RowTable → List Node → LogState → FormState → (term gates links count : ℕ) → Type 0
HasRowsOf table ns log s term gates links count = HasRowsBelow ns log s term gates (links_put table links count) (units_put table count)

-- each bound of these clauses is listed
abbrev pub AreBoundsListed : LogState → List ℕ → ListingState → Type 0
AreBoundsListed log ids bounds = All (λ i. (atom : ℕ) → HasBound log i atom → IsSome (listed_at bounds atom)) ids

-- what is listed and wasn't is a bound of one of these clauses
abbrev pub AreBoundsOf : LogState → List ℕ → (old new : ListingState) → Type 0
AreBoundsOf log ids old new = (atom : ℕ) → listed_at old atom ≡ None → IsSome (listed_at new atom) → (i : ℕ) × Contains ids i × HasBound log i atom
