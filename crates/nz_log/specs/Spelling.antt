-- What a clause rests on, marked, and the steps that spell it out.
use Rattle.std.specs.Prelude.{◌≡◌, ℕ, ◌<◌, ◌≤◌, All, Bool, true, false, suc, List, [], ◌∷◌, length, map, Option, Some, None, slice_index, slice_index_or}
use Rattle.std.specs.Bool.{⊤}
use Rattle.nz_spec.specs.clauses.Farkas as farkas
use Rattle.nz_spec.specs.clauses.Farkas.{bound_of}
use Rattle.nz_spec.specs.clauses.Literal as spec
use Rattle.nz_spec.specs.terms.FormOf.{number_in}
use Rattle.nz_spec.specs.terms.Table.{Node, IsTable, term_in}
use Rattle.nz_lin.specs.Bounds.{literal_over}
use Rattle.nz_spec.specs.clauses.Steps as steps
use Rattle.nz_spec.specs.clauses.Steps.{given_step, gate_step, link_step, unit_step, farkas_step, branch_step, cut_step, resolve_step, asserting, Derives}
use Rattle.nz_log.specs.declared.atoms.Atom.{Atom}
use Rattle.nz_log.specs.declared.origins.Link.{Link}
use Rattle.nz_log.specs.declared.steps.Literal.{Literal}
use Rattle.nz_log.specs.declared.steps.Literal.TheVariants.{Term, AtMost}
use Rattle.nz_log.specs.declared.steps.LiteralMultiple.{LiteralMultiple}
use Rattle.nz_log.specs.declared.steps.Step.{Step}
use Rattle.nz_log.specs.declared.steps.Step.TheVariants.{Given, Gate, Link as Links, Unit, Farkas, Branch, Cut, Resolve}
use Rattle.nz_log.specs.Atoms.{clause_in, literal_in, with_sign}
use Rattle.nz_log.specs.Axioms.{axiom_step}
use Rattle.nz_log.specs.Logs.{Origin, assertion_of, gate_of, axiom_of, chain_of, Entry, LogState, entry_at, IsLive, literals_at, level_at}
use Rattle.nz_log.specs.Sound.{IsLog, live_terms}
use Rattle.nz_term.specs.TermLits.{literal_of}

-- ---- Marks

abbrev pub is_marked : List Bool → ℕ → Bool
is_marked marks i = slice_index_or marks i false

-- what was marked still is
abbrev pub IsMoreMarked : (old new : List Bool) → Type 0
IsMoreMarked old new = (i : ℕ) → is_marked old i ≡ true → is_marked new i ≡ true

-- the clauses that a chain names are below a number
abbrev pub IsWithin : ℕ → Origin → Type 0
IsWithin n (assertion_of k) = ⊤
IsWithin n (gate_of t j) = ⊤
IsWithin n (axiom_of a) = ⊤
IsWithin n (chain_of first ks) = (first < n) × All (λ (k : Link). k.clause < n) ks

-- they are marked
abbrev pub AreMarked : List Bool → Origin → Type 0
AreMarked marks (assertion_of k) = ⊤
AreMarked marks (gate_of t j) = ⊤
AreMarked marks (axiom_of a) = ⊤
AreMarked marks (chain_of first ks) = (is_marked marks first ≡ true) × All (λ (k : Link). is_marked marks k.clause ≡ true) ks

-- they pass a test
abbrev pub Pass : (ℕ → Bool) → Origin → Type 0
Pass test (assertion_of k) = ⊤
Pass test (gate_of t j) = ⊤
Pass test (axiom_of a) = ⊤
Pass test (chain_of first ks) = (test first ≡ true) × All (λ (k : Link). test k.clause ≡ true) ks

-- all that is marked passes a test
abbrev pub PassMarked : (ℕ → Bool) → List Bool → Type 0
PassMarked test marks = (i : ℕ) → is_marked marks i ≡ true → test i ≡ true

-- what a clause is made of is marked
abbrev pub IsClosed : List Bool → Option Entry → Type 0
IsClosed marks None = ⊤
IsClosed marks (Some e) = AreMarked marks e.origin

abbrev pub IsClosedAt : LogState → List Bool → ℕ → Type 0
IsClosedAt s marks i = IsClosed marks (entry_at s i)

-- The clauses that one rests on are marked, and it is; each of them is of no higher level.
pub record IsNeeded (s : LogState) (id : ℕ) (marks : List Bool) : Type 0 where
  pub long : length marks ≡ length s.entries
  pub live : (i : ℕ) → is_marked marks i ≡ true → IsLive s i × (level_at s i ≤ level_at s id)
  pub itself : is_marked marks id ≡ true
  pub closed : (i : ℕ) → is_marked marks i ≡ true → IsClosedAt s marks i

-- ---- Steps

-- a literal as a step names it
abbrev pub literal_read : List Node → Literal → spec.Literal
literal_read ns (Term l) = literal_of ns l
literal_read ns (AtMost b sign) = with_sign sign (literal_over ns b.now)

abbrev pub multiple_read : List Node → LiteralMultiple → farkas.Multiple
multiple_read ns m = record { literal = literal_read ns m.literal; multiplier = m.multiplier.now }

abbrev pub multiples_read : List Node → List LiteralMultiple → List farkas.Multiple
multiples_read ns ms = map (multiple_read ns) ms

-- what a step says
abbrev pub step_of : List Node → Step → steps.Step
step_of ns (Given k) = given_step k
step_of ns (Gate t j) = gate_step (term_in ns t) j
step_of ns (Links t j) = link_step (term_in ns t) j
step_of ns (Unit t j) = unit_step (term_in ns t) j
step_of ns (Farkas ms) = farkas_step (multiples_read ns ms.items)
step_of ns (Branch l) = let b = bound_of (literal_read ns l) in branch_step b.parts b.limit
step_of ns (Cut ms) = cut_step (multiples_read ns ms.items)
step_of ns (Resolve i j l) = resolve_step i j (literal_read ns l)

abbrev pub steps_of : List Node → List Step → List steps.Step
steps_of ns ss = map (step_of ns) ss

-- the resolvents of a chain, behind so many steps; the first clause is that of a step, and those of the links have their places
abbrev pub chain_steps : List Node → List Atom → List ℕ → ℕ → ℕ → List Link → List steps.Step
chain_steps ns atoms places n first [] = []
chain_steps ns atoms places n first (k ∷ ks) =
    resolve_step first (slice_index places k.clause) (literal_in ns atoms k.literal) ∷ chain_steps ns atoms places (suc n) n ks

-- the step of the last of them
abbrev pub chain_place : ℕ → ℕ → List Link → ℕ
chain_place n first [] = first
chain_place n first (k ∷ ks) = chain_place (suc n) n ks

-- the steps of a clause, by how it was made
abbrev pub origin_steps : List Node → List Atom → List ℕ → ℕ → Origin → List steps.Step
origin_steps ns atoms places n (assertion_of k) = given_step k ∷ []
origin_steps ns atoms places n (gate_of t j) = gate_step (term_in ns t) j ∷ []
origin_steps ns atoms places n (axiom_of a) = axiom_step ns atoms a ∷ []
origin_steps ns atoms places n (chain_of first ks) = chain_steps ns atoms places n (slice_index places first) ks

abbrev pub origin_place : List ℕ → ℕ → Origin → ℕ
origin_place places n (assertion_of k) = n
origin_place places n (gate_of t j) = n
origin_place places n (axiom_of a) = n
origin_place places n (chain_of first ks) = chain_place n (slice_index places first) ks

-- In a log in order the steps derive the clause of a number from the assertions that are live at its level.
abbrev pub AreStepsOf : LogState → ℕ → List Step → Type 0
AreStepsOf s id ss = (ns : List Node) (levels : List (List ℕ)) → IsTable ns → IsLog ns levels s
    → Derives (number_in ns) (asserting (live_terms ns levels (level_at s id))) (steps_of ns ss) (clause_in ns s.atoms (literals_at s id))
