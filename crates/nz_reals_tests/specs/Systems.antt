-- A theory with a log, over a table of terms and atoms on them.
use Rattle.std.specs.Prelude.{◌≡◌, ℕ, ◌<◌, Bool, List, length, All, Contains, IsSome, Some, false, slice_get}
use Rattle.nz_spec.specs.terms.Table.{Node}
use Rattle.nz_spec.specs.terms.Term.{is_zero}
use Rattle.nz_lin.specs.declared.bound.Bound.{Bound}
use Rattle.nz_lin.specs.declared.form.Part.{Part}
use Rattle.nz_log.specs.declared.atoms.Atom.TheVariants.{AtMost}
use Rattle.nz_log.specs.declared.lits.Lit.{Lit}
use Rattle.nz_log.specs.Leveled.{AreToldAtoms}
use Rattle.nz_log.specs.Logs.{LogState, told_of}
use Rattle.nz_reals.specs.Arranging.{AreAtomsIn}
use Rattle.nz_reals.specs.Stands.{IsOf, IsOver}
use Rattle.nz_reals.specs.State.{Theory, told_lits}

-- a level was told of each term of the table
abbrev pub AreAllPlaced : List Node → LogState → Type 0
AreAllPlaced ns log = (t : ℕ) → t < length ns → IsSome (told_of log t)

-- The atom is a bound on a sum without a coefficient that is 0.
pub record IsSum (log : LogState) (id : ℕ) : Type 0 where
  pub bound : Bound
  pub at : slice_get log.atoms id ≡ Some (AtMost bound)
  pub nonzero : All (λ (p : Part). is_zero p.coefficient ≡ false) bound.sides.parts

-- The theory knows these atoms of the log, which are sums over the table, and was told literals on them. A level was told of each term.
pub record IsInOrder (ns : List Node) (log : LogState) (t : Theory) (ids : List ℕ) : Type 0 where
  pub over : IsOver t ns
  pub of : IsOf t log.atoms ids
  pub within : AreAtomsIn ns log.atoms ids
  pub sums : All (IsSum log) ids
  pub placed : AreAllPlaced ns log
  pub levels : AreToldAtoms log ids
  pub told : All (λ (l : Lit). Contains ids l.atom) (told_lits t)

-- what a system holds
pub record SystemState : Type 0 where
  pub terms : List Node
  pub log : LogState
  pub reals : Theory
  pub atoms : List ℕ
  pub known : Bool
