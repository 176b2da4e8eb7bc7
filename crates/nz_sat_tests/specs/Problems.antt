-- Problems for the search.
use Rattle.std.specs.Prelude.{◌≡◌, ℕ, List}
use Rattle.nz_spec.specs.search.Search.{at_first}
use Rattle.nz_spec.specs.search.Work.{WorkList}
use Rattle.nz_spec.specs.terms.Table.{Node}
use Rattle.nz_log.specs.Leveled.{AreToldAtoms}
use Rattle.nz_log.specs.Logs.{LogState}
use Rattle.nz_search.specs.declared.note.Note.{Note}
use Rattle.nz_search.specs.declared.theory.NoNumbers.{NoNumbers}
use Rattle.nz_search.specs.Standing.{search_after}
use Rattle.nz_sat.specs.Sats.{SatState, AreHeld, AreOn, AreSameSince}

pub record HeldState : Type 0 where
  pub log : LogState
  pub sat : SatState NoNumbers
  pub atoms : List ℕ

-- The search holds clauses of the log over these atoms, with the literals that they had when it saw the log last. A level was told of each term that the atoms name.
pub record IsPosed (log : LogState) (sat : SatState NoNumbers) (atoms : List ℕ) : Type 0 where
  pub held : AreHeld log sat.clauses
  pub since : AreSameSince sat.seen log sat.clauses
  pub named : AreOn log atoms sat.clauses
  pub told : AreToldAtoms log atoms

-- the list names atoms alone
abbrev pub NamesAlone : WorkList Note → Type 0
NamesAlone work = (ns : List Node) → search_after ns work ≡ record at_first { atoms = (search_after ns work).atoms }
