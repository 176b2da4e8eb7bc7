-- Logs whose clauses are in order: over a table of terms, and by level the numbers of the live assertions.
use Rattle.std.specs.Prelude.{◌≡◌, ℕ, suc, ◌<◌, List, [], ◌∷◌, ◌++◌, length, take, map, Contains, Some, option_map, slice_get}
use Rattle.std.specs.List.{AllByRecursion}
use Rattle.nz_spec.specs.terms.Term.{Term, Assignment, IsTrueUnder}
use Rattle.nz_spec.specs.terms.Table.{Node, IsTable, term_in}
use Rattle.nz_spec.specs.terms.Model.{IsAssignment}
use Rattle.nz_spec.specs.search.Decide.{asserted_numbers, with_number}
use Rattle.nz_spec.specs.terms.FormOf.{number_in}
use Rattle.nz_spec.specs.clauses.Literal.{clause_of, IsClauseTrue}
use Rattle.nz_spec.specs.clauses.Steps.{step_clause, asserting}
use Rattle.nz_spec.specs.clauses.Gates.{holds, gate_clauses, HasBooleanArguments}
use Rattle.nz_log.specs.declared.atoms.Atom.{Atom}
use Rattle.nz_log.specs.declared.lits.Lit.{Lit}
use Rattle.nz_log.specs.declared.origins.Link.{Link}
use Rattle.nz_term.specs.declared.term_lits.TermLit.{TermLit}
use Rattle.nz_log.specs.Atoms.{AreAtoms, AreWithin, IsLitIn, clause_in}
use Rattle.nz_log.specs.Axioms.{Axiom, IsAxiom, axiom_step}
use Rattle.nz_log.specs.Logs.{Origin, assertion_of, gate_of, axiom_of, chain_of, Entry, JoinsAtoms, LogState, empty_log, entry_at, literals_at, chained, IsPremise}
use Rattle.nz_rows.specs.GateRows.{gates_at}
use Rattle.nz_term.specs.TermLits.{clause_of_terms}

-- the numbers of the assertions that are live at a level
abbrev pub live_at : List (List ℕ) → ℕ → List ℕ
live_at levels level = asserted_numbers (take (suc level) levels)

-- A link rests on its clause, and resolves on an atom over the table.
pub record IsLink (ns : List Node) (s : LogState) (id level : ℕ) (k : Link) : Type 0 where
  pub premise : IsPremise s id level k.clause
  pub within : IsLitIn ns s.atoms k.literal

-- The clause of a number is a live assertion, a clause of the gate table, one that holds by arithmetic alone, or the last of a chain of resolvents.
abbrev pub IsMade : List Node → List (List ℕ) → LogState → ℕ → Entry → Origin → Type 0
IsMade ns levels s id e (assertion_of k) = (t : ℕ) × (slice_get (live_at levels e.level) k ≡ Some t) × (t < length ns) × (clause_in ns s.atoms e.literals ≡ holds (term_in ns t) ∷ [])
IsMade ns levels s id e (gate_of t j) =
    (t < length ns) × HasBooleanArguments (term_in ns t) × (option_map clause_of (slice_get (gate_clauses (term_in ns t)) j) ≡ Some (clause_in ns s.atoms e.literals))
IsMade ns levels s id e (axiom_of a) = IsAxiom ns s.atoms a e.literals
IsMade ns levels s id e (chain_of first ks) =
    IsPremise s id e.level first × AllByRecursion (IsLink ns s id e.level) ks × (e.literals ≡ chained s (literals_at s first) ks)

pub record IsEntry (ns : List Node) (levels : List (List ℕ)) (s : LogState) (id : ℕ) (e : Entry) : Type 0 where
  pub within : AreWithin ns s.atoms e.literals
  pub made : IsMade ns levels s id e e.origin

-- Each atom has one number, and each clause of the log is in order.
pub record IsLog (ns : List Node) (levels : List (List ℕ)) (s : LogState) : Type 0 where
  pub atoms : AreAtoms s.atoms
  pub clauses : (i : ℕ) (e : Entry) → entry_at s i ≡ Some e → IsEntry ns levels s i e

-- ---- Laws

-- the terms of the assertions that are live at a level
abbrev pub live_terms : List Node → List (List ℕ) → ℕ → List Term
live_terms ns levels level = map (term_in ns) (live_at levels level)

-- Each clause of a log is true under every assignment that makes the assertions live at its level true.
abbrev pub ClausesAreTrue : Type 0
ClausesAreTrue = (ns : List Node) → IsTable ns → (levels : List (List ℕ)) (s : LogState) → IsLog ns levels s → (i : ℕ) (e : Entry) → entry_at s i ≡ Some e
    → (a : Assignment) → IsAssignment a → AllByRecursion (IsTrueUnder a) (live_terms ns levels e.level) → IsClauseTrue a (clause_in ns s.atoms e.literals)

-- The assertions of each level are still there, at the same places.
abbrev pub AreMore : (old new : List (List ℕ)) → Type 0
AreMore old new = (level k t : ℕ) → slice_get (live_at old level) k ≡ Some t → slice_get (live_at new level) k ≡ Some t

-- A log without clauses is in order, and a log stays so when the table grows, when atoms join, and when more is asserted.
pub record LogsStay : Type 0 where
  pub start : (ns : List Node) (levels : List (List ℕ)) → IsLog ns levels empty_log
  pub table : (ns more : List Node) (levels : List (List ℕ)) (s : LogState) → IsLog ns levels s → IsLog (ns ++ more) levels s
  pub joined : (ns : List Node) (levels : List (List ℕ)) (old new : LogState) → JoinsAtoms old new → AreAtoms new.atoms → IsLog ns levels old → IsLog ns levels new
  pub asserted : (ns : List Node) (old new : List (List ℕ)) (s : LogState) → AreMore old new → IsLog ns old s → IsLog ns new s
  pub level : (levels : List (List ℕ)) → AreMore levels (levels ++ [] ∷ [])
  pub number : (levels : List (List ℕ)) (t : ℕ) → AreMore levels (with_number levels t)

-- The clauses of the gate table by the number of a term say those of the term.
abbrev pub GatesAreNamed : Type 0
GatesAreNamed = (ns : List Node) → IsTable ns → (t : ℕ) → t < length ns → map (clause_of_terms ns) (gates_at ns t) ≡ gate_clauses (term_in ns t)

-- They are of that term and its arguments.
abbrev pub GatesNameArguments : Type 0
GatesNameArguments = (ns : List Node) (t : ℕ) (n : Node) → slice_get ns t ≡ Some n → (c : List TermLit) → Contains (gates_at ns t) c → (l : TermLit) → Contains c l → Contains (t ∷ n.kids) l.term

-- The step of a clause that holds by arithmetic alone gives it.
abbrev pub AxiomsAreTaken : Type 0
AxiomsAreTaken = (ns : List Node) → IsTable ns → (atoms : List Atom) (a : Axiom) (c : List Lit) → IsAxiom ns atoms a c
    → step_clause (number_in ns) (asserting []) [] (axiom_step ns atoms a) ≡ Some (clause_in ns atoms c)
