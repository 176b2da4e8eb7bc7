-- What an engine holds.
use Rattle.std.specs.Prelude.{ℕ, List, [], ◌∷◌, Option, Some, None, option_map, slice_get}
use Rattle.std.specs.declared.snapshot.Snapshot.{Snapshot}
use Rattle.nz_spec.specs.terms.Table.{Node, IsTable}
use Rattle.nz_log.specs.declared.atoms.Atom.{Atom}
use Rattle.nz_log.specs.declared.atoms.Atom.TheVariants.{Term, AtMost}
use Rattle.nz_log.specs.declared.lits.Lit.{Lit}
use Rattle.nz_term.specs.declared.term_lits.TermLit.{TermLit}
use Rattle.nz_log.specs.Logs.{LogState, entry_at}
use Rattle.nz_spec.specs.terms.Term as spec
use Rattle.nz_reals.specs.Stands.{IsOver}
use Rattle.nz_reals.specs.Starts.{MayRestart}
use Rattle.nz_reals.specs.State.{Theory, empty_theory}
use Rattle.nz_search.specs.Levels.{Level, added_by_level}
use Rattle.nz_engine.specs.declared.check.Retained.{Retained}
use Rattle.nz_engine.specs.declared.check.Retained.TheVariants as kept
use Rattle.nz_engine.specs.Preparing.{PreparedState, IsPrepared, IsStanding, nothing_prepared}

pub record EngineState : Type 0 where
  pub levels : List Level  -- the numbers of the terms that were added, the oldest level first
  pub table : List Node  -- of the last check; before the first one it has no term
  pub prepared : PreparedState  -- what is kept

abbrev pub empty_engine : EngineState
empty_engine = record { levels = []; table = []; prepared = nothing_prepared empty_theory }

-- a later search may begin with the theory, where it stands, after searches that were asked of these terms
abbrev pub Begins : EngineState → List spec.Term → Type 0
Begins e ts = MayRestart e.prepared.sat.theory e.table ts

-- a literal on a term, where its atom is one
abbrev pub on_term : List Atom → Lit → Option TermLit
on_term atoms l = elim (slice_get atoms l.atom) [
  | None ↦ None
  | Some (Term t) ↦ Some (record { term = t; sign = l.sign })
  | Some (AtMost b) ↦ None
]

-- literals on terms alone, where all are
abbrev pub on_terms : List Atom → List Lit → Option (List TermLit)
on_terms atoms [] = Some []
on_terms atoms (l ∷ c) = elim (on_term atoms l) [ None ↦ None | Some m ↦ option_map (λ (d : List TermLit). m ∷ d) (on_terms atoms c) ]

-- the literals of the clause of a number, where the log has one, on terms alone
abbrev pub literals_in : LogState → ℕ → Option (List TermLit)
literals_in log id = elim (entry_at log id) [ None ↦ None | Some e ↦ on_terms log.atoms e.literals ]

abbrev pub clause_at : EngineState → ℕ → Option (List TermLit)
clause_at e id = literals_in e.prepared.log id

-- ---- As the code keeps it

abbrev pub table_of : Option (Snapshot (List Node)) → List Node
table_of None = []
table_of (Some seen) = seen.value

-- all that was prepared, or nothing over the theory
abbrev pub prepared_of : Retained → PreparedState
prepared_of (kept.Prepared p) = p
prepared_of (kept.Theory t) = nothing_prepared t

abbrev pub theory_of : Retained → Theory
theory_of k = (prepared_of k).sat.theory

-- a theory over no sum
abbrev pub nothing_kept : Retained
nothing_kept = kept.Theory empty_theory

-- A search over the table may begin with the theory, where it stands, after searches that were asked of some terms.
pub record IsAtRest (ns : List Node) (t : Theory) : Type 0 where
  pub over : IsOver t ns
  pub known : List spec.Term
  pub may : MayRestart t ns known

-- What is prepared is so over the table and the levels, beside what was assumed.
pub record IsReadied (ns : List Node) (levels : List Level) (p : PreparedState) : Type 0 where
  pub table : IsTable ns
  pub more : List ℕ
  pub standing : IsStanding ns levels more p
  pub rest : IsAtRest ns p.sat.theory

abbrev pub IsKept : List Node → List Level → Retained → Type 0
IsKept ns levels (kept.Prepared p) = IsReadied ns levels p
IsKept ns levels (kept.Theory t) = IsAtRest ns t

-- What is prepared is so over the table and the levels, with nothing above them.
pub record IsSettled (ns : List Node) (levels : List Level) (p : PreparedState) : Type 0 where
  pub table : IsTable ns
  pub prepared : IsPrepared ns levels (added_by_level levels) p
  pub rest : IsAtRest ns p.sat.theory

abbrev pub IsLow : List Node → List Level → Retained → Type 0
IsLow ns levels (kept.Prepared p) = IsSettled ns levels p
IsLow ns levels (kept.Theory t) = IsAtRest ns t
