-- What a check assumes.
use Rattle.std.specs.Prelude.{ℕ, ◌<◌, List, Contains, length}
use Rattle.nz_spec.specs.terms.Table.{Node, term_in}
use Rattle.nz_spec.specs.terms.Taken.{IsTakenBoolean}
use Rattle.nz_term.specs.declared.term_lits.TermLit.{TermLit}
use Rattle.nz_term.specs.TermLits.{turned}

-- The number is one of the table, of a term of sort Bool that checks take.
abbrev pub IsTakenAt : List Node → ℕ → Type 0
IsTakenAt ns i = (i < length ns) × IsTakenBoolean (term_in ns i)

-- one of them is the negation of another
pub record DenyEachOther (ls : List TermLit) : Type 0 where
  pub one : TermLit
  pub stands : Contains ls one
  pub denied : Contains ls (turned one)
