-- What a log holds: clauses by number, each with its level and how it was made, the levels told of terms, and atoms by number.
use Rattle.std.specs.Prelude.{◌≡◌, ◌≢◌, ℕ, ◌<◌, ◌≤◌, max, min, nat_le, List, [], ◌∷◌, length, fold, Option, Some, None, IsSome, unwrap_or, slice_get, slice_index_or, if◌then◌else◌}
use Rattle.std.specs.Bool.{⊤}
use Rattle.std.specs.List.{AllByRecursion}
use Rattle.nz_spec.specs.terms.Table.{Node, IsTable}
use Rattle.nz_lin.specs.declared.bound.Bound.{Bound}
use Rattle.nz_lin.specs.Bounds.{HasUnits, literal_over}
use Rattle.nz_spec.specs.clauses.Literal.{once}
use Rattle.nz_log.specs.declared.atoms.Atom.{Atom}
use Rattle.nz_log.specs.declared.lits.Lit.{Lit}
use Rattle.nz_log.specs.declared.origins.Link.{Link}
use Rattle.nz_log.specs.declared.origins.Subject.{Subject}
use Rattle.nz_log.specs.declared.origins.Subject.TheVariants.{Derived, Itself, Truth}
use Rattle.nz_rows.specs.declared.rows.RowLiteral.{RowLiteral}
use Rattle.nz_log.specs.Atoms.{AreWithin, Stay, clause_in, literal_in, terms_at, lit_of, lits_of}
use Rattle.nz_log.specs.declared.multiples.LitMultiple.{LitMultiple}
use Rattle.nz_log.specs.Axioms.{AreMultiplesIn, Axiom, IsClauseOf, link_of, unit_of, farkas_of, branch_of, cut_of}
use Rattle.nz_log.specs.Lits.{are_same_lit, lit_resolvent}
use Rattle.nz_rows.specs.Rows.{AreRowLiteralsIn, row_literals_in}
use Rattle.nz_rows.specs.GateRows.{gates_at}
use Rattle.nz_term.specs.TermLits.{yes}

-- how a clause was made
pub data Origin : Type 0 where
  assertion_of : (k : ℕ) → Origin  -- it is a live assertion
  gate_of : (term j : ℕ) → Origin  -- it is a clause of the gate table
  axiom_of : (a : Axiom) → Origin  -- it holds by arithmetic alone
  chain_of : (first : ℕ) (links : List Link) → Origin  -- it is the last of a chain of resolvents

-- the term of the clause of a table that it is, if it is one
abbrev pub row_term : Origin → Option ℕ
row_term (assertion_of k) = None
row_term (gate_of t j) = Some t
row_term (axiom_of (link_of t j)) = Some t
row_term (axiom_of (unit_of t j)) = Some t
row_term (axiom_of (farkas_of ms)) = None
row_term (axiom_of (branch_of l)) = None
row_term (axiom_of (cut_of ms)) = None
row_term (chain_of first ks) = None

-- what a clause is about: the truth of a term, where it is one of a link, or it follows from others or from arithmetic, or has to be true as it is
abbrev pub subject_of : Origin → Subject
subject_of (assertion_of k) = Itself
subject_of (gate_of t j) = Itself
subject_of (axiom_of (link_of t j)) = Truth t
subject_of (axiom_of (unit_of t j)) = Itself
subject_of (axiom_of (farkas_of ms)) = Derived
subject_of (axiom_of (branch_of l)) = Derived
subject_of (axiom_of (cut_of ms)) = Derived
subject_of (chain_of first ks) = Derived

pub record Entry : Type 0 where
  pub literals : List Lit
  pub level : ℕ
  pub origin : Origin

-- The clauses by number, with a gap where one was dropped, by the numbers of terms the levels told, and the atoms by number.
pub record LogState : Type 0 where
  pub entries : List (Option Entry)
  pub told : List (Option ℕ)
  pub atoms : List Atom

abbrev pub empty_log : LogState
empty_log = record { entries = []; told = []; atoms = [] }

-- the clause of a number, where the log has one
abbrev pub entry_at : LogState → ℕ → Option Entry
entry_at s i = unwrap_or (slice_get s.entries i) None

abbrev pub IsLive : LogState → ℕ → Type 0
IsLive s i = IsSome (entry_at s i)

abbrev pub literals_at : LogState → ℕ → List Lit
literals_at s i = elim (entry_at s i) [ None ↦ [] | Some e ↦ e.literals ]

abbrev pub level_at : LogState → ℕ → ℕ
level_at s i = elim (entry_at s i) [ None ↦ 0 | Some e ↦ e.level ]

abbrev pub subject_at : LogState → ℕ → Subject
subject_at s i = elim (entry_at s i) [ None ↦ Itself | Some e ↦ subject_of e.origin ]

-- ---- Levels

-- the level told of a term, and 0 where none was told
abbrev pub told_of : LogState → ℕ → Option ℕ
told_of s t = slice_index_or s.told t None

abbrev pub told_level : LogState → ℕ → ℕ
told_level s t = unwrap_or (told_of s t) 0

-- the greatest of a level and those told of these terms
abbrev pub level_of_terms : LogState → ℕ → List ℕ → ℕ
level_of_terms s level ts = fold (λ n t. max n (told_level s t)) level ts

-- the greatest of a level and those told of the terms that the literals name
abbrev pub level_with : LogState → ℕ → List Lit → ℕ
level_with s level c = fold (λ n (l : Lit). level_of_terms s n (terms_at s.atoms l)) level c

-- the greatest of a level and those of the clauses of a chain
abbrev pub level_of_links : LogState → ℕ → List Link → ℕ
level_of_links s level ks = fold (λ n (k : Link). max n (level_at s k.clause)) level ks

-- ---- Chains

-- the resolvent of a clause with those of the links, one after another
abbrev pub chained : LogState → List Lit → List Link → List Lit
chained s c ks = fold (λ d (k : Link). lit_resolvent k.literal d (literals_at s k.clause)) c ks

-- the clause of a chain, with its level
abbrev pub chain_entry : LogState → ℕ → List Link → Entry
chain_entry s first ks =
    let c = chained s (literals_at s first) ks in
    record { literals = c; level = level_with s (level_of_links s (level_at s first) ks) c; origin = chain_of first ks }

-- the lowest of the levels told
abbrev pub lowest : Option ℕ → ℕ → ℕ
lowest None level = level
lowest (Some n) level = min n level

-- ---- Changes

-- A clause is put under a number above those of the clauses that are there; these stay, and so do the atoms.
pub record Puts (old : LogState) (id : ℕ) (e : Entry) (new : LogState) : Type 0 where
  pub above : (i : ℕ) → IsLive old i → i < id
  pub live : IsLive new id
  pub stay : (i : ℕ) → IsLive old i → IsLive new i
  pub made : entry_at new id ≡ Some e
  pub kept : (i : ℕ) → i ≢ id → entry_at new i ≡ entry_at old i
  pub told : new.told ≡ old.told
  pub atoms : Stay old.atoms new.atoms

-- Atoms join, and nothing else changes.
pub record JoinsAtoms (old new : LogState) : Type 0 where
  pub entries : new.entries ≡ old.entries
  pub told : new.told ≡ old.told
  pub atoms : Stay old.atoms new.atoms

-- a clause at or below the level
abbrev pub kept_below : ℕ → Option Entry → Option Entry
kept_below level None = None
kept_below level (Some e) = if nat_le e.level level then Some e else None

abbrev pub told_below : ℕ → Option ℕ → Option ℕ
told_below level None = None
told_below level (Some n) = if nat_le n level then Some n else None

-- Just the clauses at or below the level stay, and what was told of it and of lower ones. The atoms stay.
pub record Drops (old : LogState) (level : ℕ) (new : LogState) : Type 0 where
  pub entries : (i : ℕ) → entry_at new i ≡ kept_below level (entry_at old i)
  pub told : (t : ℕ) → told_of new t ≡ told_below level (told_of old t)
  pub atoms : new.atoms ≡ old.atoms

-- ---- What clauses rest on

-- A clause that another one rests on: it was there before, and is of no higher level.
pub record IsPremise (s : LogState) (id level i : ℕ) : Type 0 where
  pub live : IsLive s i
  pub before : i < id
  pub level_within : level_at s i ≤ level

-- what a clause of a number and level rests on, by how it was made; a chain has a link
abbrev pub RestsOn : LogState → ℕ → ℕ → Origin → Type 0
RestsOn s id level (assertion_of k) = ⊤
RestsOn s id level (gate_of t j) = ⊤
RestsOn s id level (axiom_of a) = ⊤
RestsOn s id level (chain_of first ks) =
    IsPremise s id level first × (0 < length ks) × AllByRecursion (λ (k : Link). IsPremise s id level k.clause) ks

-- it rests on no other clause
abbrev pub IsLeaf : Origin → Type 0
IsLeaf (assertion_of k) = ⊤
IsLeaf (gate_of t j) = ⊤
IsLeaf (axiom_of a) = ⊤
IsLeaf (chain_of first ks) = ⊥

-- Each clause rests on earlier ones of no higher level.
abbrev pub IsOrdered : LogState → Type 0
IsOrdered s = (i : ℕ) (e : Entry) → entry_at s i ≡ Some e → RestsOn s i e.level e.origin

-- ---- What the rules make, beside the atoms that are there then

-- these literals, at the greatest of a level and those told of the terms that they name
abbrev pub made_entry : LogState → ℕ → List Lit → Origin → Entry
made_entry s level c o = record { literals = c; level = level_with s level c; origin = o }

abbrev pub given_entry : LogState → ℕ → ℕ → ℕ → Entry
given_entry s k t level = made_entry s level (lit_of s.atoms (yes t) ∷ []) (assertion_of k)

-- the clause of a number of the gate table
abbrev pub gate_entry : List Node → LogState → ℕ → ℕ → Entry
gate_entry ns s t j = made_entry s 0 (once are_same_lit (lits_of s.atoms (unwrap_or (slice_get (gates_at ns t) j) []))) (gate_of t j)

-- these literals, where they hold by arithmetic alone
abbrev pub axiom_entry : LogState → Axiom → List Lit → Entry
axiom_entry s a c = made_entry s 0 c (axiom_of a)

-- the resolvent of two clauses
abbrev pub resolvent_entry : LogState → ℕ → ℕ → Lit → Entry
resolvent_entry s first second l =
    made_entry s (max (level_at s first) (level_at s second)) (lit_resolvent l (literals_at s first) (literals_at s second))
    (chain_of first (record { clause = second; literal = l } ∷ []))

-- the literals of a log are those of a row
pub record AreLitsOf (ns : List Node) (atoms : List Atom) (row : List RowLiteral) (c : List Lit) : Type 0 where
  pub says : clause_in ns atoms c ≡ row_literals_in ns row
  pub within : AreWithin ns atoms c

-- the clause of a row is put
pub record PutsRow (old : LogState) (id : ℕ) (a : Axiom) (row : List RowLiteral) (new : LogState) : Type 0 where
  pub literals : List Lit
  pub puts : Puts old id (axiom_entry new a (once are_same_lit literals)) new
  pub made : (ns : List Node) → AreRowLiteralsIn ns row → AreLitsOf ns new.atoms row literals

-- a clause that holds by arithmetic alone is put: over a table it is that of the step
pub record PutsAxiom (ns : List Node) (old : LogState) (id : ℕ) (a : Axiom) (new : LogState) : Type 0 where
  pub literals : List Lit
  pub puts : Puts old id (axiom_entry new a literals) new
  pub clause : IsClauseOf ns new.atoms a literals

-- a branch on a bound is put, whose first literal is that bound: over each table that has the units it is that of the step
pub record PutsBranch (old : LogState) (id : ℕ) (b : Bound) (new : LogState) : Type 0 where
  pub first : Lit
  pub literals : List Lit
  pub puts : Puts old id (axiom_entry new (branch_of first) literals) new
  pub literal : (ns : List Node) → literal_in ns new.atoms first ≡ literal_over ns b
  pub clause : (ns : List Node) → IsTable ns → HasUnits ns b → IsClauseOf ns new.atoms (branch_of first) literals

-- a cut is put: over each table that has what the multiples name it is that of the step
pub record PutsCut (old : LogState) (id : ℕ) (ms : List LitMultiple) (new : LogState) : Type 0 where
  pub literals : List Lit
  pub puts : Puts old id (axiom_entry new (cut_of ms) literals) new
  pub clause : (ns : List Node) → IsTable ns → AreMultiplesIn ns old.atoms ms → IsClauseOf ns new.atoms (cut_of ms) literals
