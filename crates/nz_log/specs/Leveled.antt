-- Levels of clauses beside those told of the terms that they name.
use Rattle.std.specs.Prelude.{◌≡◌, ◌≢◌, ℕ, ◌≤◌, true, List, All, Contains, map, Some, IsSome, IsSomeAnd, slice_get, unwrap_or, []}
use Rattle.std.specs.List.{AllByRecursion}
use Rattle.nz_spec.specs.terms.Table.{Node}
use Rattle.nz_log.specs.declared.atoms.Atom.{Atom}
use Rattle.nz_log.specs.declared.lits.Lit.{Lit}
use Rattle.nz_log.specs.declared.origins.Link.{Link}
use Rattle.nz_term.specs.declared.term_lits.TermLit.{TermLit}
use Rattle.nz_log.specs.Atoms.{HasTerm, terms_at, terms_of}
use Rattle.nz_log.specs.Axioms.{Axiom}
use Rattle.nz_log.specs.Logs.{Entry, LogState, empty_log, entry_at, IsLive, level_with, told_of, told_level, lowest, Puts, JoinsAtoms, Drops, chain_entry, axiom_entry, gate_entry, given_entry}
use Rattle.nz_rows.specs.GateRows.{gates_at}

-- a level was told of the term, at most this one
abbrev pub IsToldWithin : LogState → ℕ → ℕ → Type 0
IsToldWithin log level t = IsSomeAnd (told_of log t) (λ n. n ≤ level)

-- The literal is on an atom that is there, and each of its terms has a property.
pub record Names (P : ℕ → Type 0) (atoms : List Atom) (l : Lit) : Type 0 where
  pub atom : Atom
  pub at : slice_get atoms l.atom ≡ Some atom
  pub terms : AllByRecursion P (terms_of atom)

-- a level was told of each term that the literals name
abbrev pub AreTold : LogState → List Lit → Type 0
AreTold log ls = All (Names (λ t. IsSome (told_of log t)) log.atoms) ls

-- the same of the terms that these atoms name
abbrev pub AreToldAtoms : LogState → List ℕ → Type 0
AreToldAtoms log ids = AreTold log (map (λ (i : ℕ). record { atom = i; sign = true }) ids)

-- the atoms of these terms are there, and a level was told of each term
abbrev pub AreToldTerms : LogState → List TermLit → Type 0
AreToldTerms log ls = All (λ (l : TermLit). HasTerm log.atoms l.term × IsSome (told_of log l.term)) ls

-- A level was told of each term that a clause names, and none of these is above the clause's.
abbrev pub IsLeveled : LogState → Type 0
IsLeveled log = (i : ℕ) (e : Entry) → entry_at log i ≡ Some e → (l : Lit) → Contains e.literals l → Names (IsToldWithin log e.level) log.atoms l

-- So it is where there is no clause, and it stays so under each rule, where atoms join, where a level is told, and where levels are dropped.
pub record LogsStayLeveled : Type 0 where
  pub start : IsLeveled empty_log
  pub given : (old new : LogState) (id k t level : ℕ) → Puts old id (given_entry new k t level) new → HasTerm new.atoms t → IsSome (told_of old t)
      → IsLeveled old → IsLeveled new
  pub gate : (ns : List Node) (old new : LogState) (id t j : ℕ) → Puts old id (gate_entry ns new t j) new
      → AreToldTerms new (unwrap_or (slice_get (gates_at ns t) j) []) → IsLeveled old → IsLeveled new
  pub arithmetic : (old new : LogState) (id : ℕ) (a : Axiom) (c : List Lit) → Puts old id (axiom_entry new a c) new → AreTold new c → IsLeveled old → IsLeveled new
  pub chain : (old new : LogState) (id first : ℕ) (ks : List Link) → Puts old id (chain_entry old first ks) new → IsLive old first
      → All (λ (k : Link). IsLive old k.clause) ks → IsLeveled old → IsLeveled new
  pub joined : (old new : LogState) → JoinsAtoms old new → IsLeveled old → IsLeveled new
  pub placed : (old new : LogState) (t level : ℕ) → new.entries ≡ old.entries → new.atoms ≡ old.atoms → told_of new t ≡ Some (lowest (told_of old t) level)
      → ((u : ℕ) → u ≢ t → told_of new u ≡ told_of old u) → IsLeveled old → IsLeveled new
  pub dropped : (old new : LogState) (level : ℕ) → Drops old level new → IsLeveled old → IsLeveled new

-- The level of a clause is no lower than what was told of a term that one of its literals names.
abbrev pub LevelsReach : Type 0
LevelsReach = (s : LogState) (n : ℕ) (c : List Lit) (l : Lit) → Contains c l → (t : ℕ) → Contains (terms_at s.atoms l) t → told_level s t ≤ level_with s n c
