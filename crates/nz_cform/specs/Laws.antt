-- Laws of covered terms.
use Rattle.std.specs.Prelude.{◌≡◌, ◌⊎◌, ℕ, Bool, List, ◌++◌, Option, Some, None, Contains, IsSome}
use Rattle.nz_spec.specs.simplex.Basis.{Valuation}
use Rattle.nz_spec.specs.clauses.Met.{IsMet, MeetsClauses}
use Rattle.nz_spec.specs.terms.FormOf.{number_in}
use Rattle.nz_spec.specs.terms.Order.{listing_order}
use Rattle.nz_spec.specs.terms.Table.{Node, IsTable, term_in}
use Rattle.nz_spec.specs.terms.Taken.{IsTaken}
use Rattle.nz_spec.specs.terms.Term.{Term}
use Rattle.nz_log.specs.declared.lits.Lit.{Lit}
use Rattle.nz_log.specs.declared.origins.Subject.TheVariants.{Itself}
use Rattle.nz_log.specs.Atoms.{literal_in}
use Rattle.nz_log.specs.Leveled.{Names}
use Rattle.nz_log.specs.Logs.{Entry, LogState, Origin, empty_log, level_at, literals_at, JoinsAtoms, Puts, Drops, row_term, subject_of}
use Rattle.nz_log.specs.Sound.{IsLog}
use Rattle.nz_log.specs.Growth.{Grows}
use Rattle.nz_cform.specs.Forms.{FormState, covered_at, empty_form, Cuts, IsCoveredWithin}
use Rattle.nz_cform.specs.Covering.{Covers, IsRowAt}

-- Nothing is covered where nothing was put; and what is covered stays so when the table grows, when a clause is put that is none of a table, when
-- atoms join, when a search has learned, and when the log drops a level and the same level is cut.
pub record CoversStay : Type 0 where
  pub start : (ns : List Node) → Covers ns empty_log empty_form
  pub table : (ns more : List Node) (log : LogState) (s : FormState) → IsTable ns → Covers ns log s → Covers (ns ++ more) log s
  pub put : (ns : List Node) (old new : LogState) (s : FormState) (id : ℕ) (e : Entry) → Puts old id e new → row_term e.origin ≡ None
      → Covers ns old s → Covers ns new s
  pub joined : (ns : List Node) (old new : LogState) (s : FormState) → JoinsAtoms old new → Covers ns old s → Covers ns new s
  pub learned : (ns : List Node) (old new : LogState) (s : FormState) → Grows old new → Covers ns old s → Covers ns new s
  pub dropped : (ns : List Node) (old new : LogState) (s cut : FormState) (level : ℕ) → Drops old level new → Cuts s level cut
      → Covers ns old s → Covers ns new cut

-- The clauses of the tables name covered terms alone, each at or below the level of the clause, where the terms are taken.
abbrev pub RowsNameCovered : Type 0
RowsNameCovered = (ns : List Node) (levels : List (List ℕ)) (log : LogState) (s : FormState) → IsTable ns → IsLog ns levels log → Covers ns log s
    → (i t : ℕ) → IsRowAt log i t → IsTaken (term_in ns t) → (l : Lit) → Contains (literals_at log i) l → Names (IsCoveredWithin s (level_at log i)) log.atoms l

-- ---- Values

-- A row of a term that was made so has to be met: it has to be true as it is, or the term has a truth.
abbrev pub IsAsked : (Term → Option Bool) → Term → Origin → Type 0
IsAsked truths u o = (subject_of o ≡ Itself) ⊎ ((sign : Bool) × (truths u ≡ Some sign))

-- Each clause of a table that has to be has a literal that is met.
abbrev pub MeetsRows : List Node → LogState → (Term → Option Bool) → Valuation → Type 0
MeetsRows ns log truths v = (i t : ℕ) (row : IsRowAt log i t) → IsAsked truths (term_in ns t) row.0 → (l : Lit) × Contains (literals_at log i) l × IsMet truths v (literal_in ns log.atoms l)

-- Truths and worths that meet the clauses in the log meet those of the three tables of what is listed with a covered term.
abbrev pub RowsMeetTables : Type 0
RowsMeetTables = (ns : List Node) (levels : List (List ℕ)) (log : LogState) (s : FormState) → IsTable ns → IsLog ns levels log → Covers ns log s
    → (truths : Term → Option Bool) (v : Valuation) → MeetsRows ns log truths v → (t : ℕ) → IsSome (covered_at s t) → MeetsClauses truths v (number_in ns) (listing_order (term_in ns t))
