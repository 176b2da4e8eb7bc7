-- Trails: the literals that are true, in the order in which they became so, each with its level and its reason.
use Rattle.std.specs.Prelude.{◌≡◌, ℕ, ◌+◌, ◌<◌, ◌≤◌, ◌==◌, Bool, true, false, not, List, [], ◌∷◌, ◌++◌, take, filter, All, Option, Some, None, IsSome, option_map, slice_get, slice_index_or, count_by, map, nat_lt, nat_le, if◌then◌else◌}
use Rattle.nz_log.specs.declared.lits.Lit.{Lit}
use Rattle.nz_sat.specs.declared.trail.Assigned.{Assigned}

-- The entries, the oldest first, and a number that all atoms are below.
pub record TrailState : Type 0 where
  pub entries : List Assigned
  pub size : ℕ

abbrev pub empty_trail : ℕ → TrailState
empty_trail n = record { entries = []; size = n }

-- one entry more
abbrev pub with_entry : TrailState → Assigned → TrailState
with_entry s e = record s { entries = s.entries ++ e ∷ [] }

-- the literals of these entries
abbrev pub literals_on : List Assigned → List Lit
literals_on es = map (λ (e : Assigned). e.literal) es

-- ---- What is true

-- the entry of an atom
abbrev pub assigned : List Assigned → ℕ → Option Assigned
assigned [] t = None
assigned (e ∷ es) t = if e.literal.atom == t then Some e else assigned es t

abbrev pub truth_on : List Assigned → ℕ → Option Bool
truth_on es t = option_map (λ (e : Assigned). e.literal.sign) (assigned es t)

abbrev pub IsTrueOn : List Assigned → Lit → Type 0
IsTrueOn es l = truth_on es l.atom ≡ Some l.sign

abbrev pub IsFalseOn : List Assigned → Lit → Type 0
IsFalseOn es l = truth_on es l.atom ≡ Some (not l.sign)

abbrev pub IsFreeOn : List Assigned → Lit → Type 0
IsFreeOn es l = truth_on es l.atom ≡ None

-- what is told of a literal: that it is true, that it is false, or that it is neither
abbrev pub HasValue : List Assigned → Lit → Option Bool → Type 0
HasValue es l None = IsFreeOn es l
HasValue es l (Some true) = IsTrueOn es l
HasValue es l (Some false) = IsFalseOn es l

-- the truths by the numbers of atoms
abbrev pub AreTruthsOn : List Assigned → List (Option Bool) → Type 0
AreTruthsOn es truths = (t : ℕ) → slice_index_or truths t None ≡ truth_on es t

-- ---- Levels

-- an entry that was decided: it has no reason, and is above the assumed ones
abbrev pub is_decision : Assigned → Bool
is_decision e = elim e.reason [ None ↦ nat_lt 0 e.level | Some c ↦ false ]

-- how many decisions there are
abbrev pub depth : List Assigned → ℕ
depth es = count_by is_decision es

-- the level of an atom, 0 where it isn't decided
abbrev pub level_on : List Assigned → ℕ → ℕ
level_on es t = elim (assigned es t) [ None ↦ 0 | Some e ↦ e.level ]

-- the entries up to a level
abbrev pub below : ℕ → List Assigned → List Assigned
below k es = filter (λ (e : Assigned). nat_le e.level k) es

-- an entry that is decided, and one that a clause makes true
abbrev pub decided : List Assigned → Lit → Assigned
decided es l = record { literal = l; level = depth es + 1; reason = None }

abbrev pub implied : List Assigned → Lit → ℕ → Assigned
implied es l c = record { literal = l; level = depth es; reason = Some c }

-- ---- Trails in order

-- each entry stands so behind those before it
abbrev pub EachBehind : (List Assigned → Assigned → Type 0) → List Assigned → Type 0
EachBehind P es = (i : ℕ) (e : Assigned) → slice_get es i ≡ Some e → P (take i es) e

-- An entry is of a new atom, below the size, and its level is how many decisions there are up to it.
pub record IsNext (size : ℕ) (before : List Assigned) (e : Assigned) : Type 0 where
  pub fresh : assigned before e.literal.atom ≡ None
  pub within : e.literal.atom < size
  pub level : e.level ≡ depth (before ++ e ∷ [])

abbrev pub IsTrail : TrailState → Type 0
IsTrail s = EachBehind (IsNext s.size) s.entries

-- each entry is at or below a level
abbrev pub AreUpTo : ℕ → List Assigned → Type 0
AreUpTo k es = All (λ (e : Assigned). e.level ≤ k) es

-- The last entry, of this literal, which is above a level, is taken off.
pub record DropsLast (level : ℕ) (old new : List Assigned) (literal : Lit) : Type 0 where
  pub last : Assigned
  pub is : last.literal ≡ literal
  pub joined : old ≡ new ++ last ∷ []
  pub higher : level < last.level

-- The trail begins with these entries.
pub record IsFrontOf (front es : List Assigned) : Type 0 where
  pub more : List Assigned
  pub joined : es ≡ front ++ more

-- The trail goes on: what comes more are literals of the last level that clauses make true.
pub record GoesOn (old new : List Assigned) : Type 0 where
  pub more : List Assigned
  pub joined : new ≡ old ++ more
  pub implied : All (λ (e : Assigned). IsSome e.reason) more
  pub last : All (λ (e : Assigned). e.level ≡ depth old) more
