-- What a conflict teaches.
use Rattle.std.specs.Prelude.{◌≡◌, ◌≢◌, ℕ, ◌+◌, ◌<◌, ◌≤◌, ◌⊎◌, ◌==◌, ◌&&◌, Bool, true, false, All, List, length, Contains, Option, Some, None, count_by, slice_index_or, take}
use Rattle.nz_spec.specs.clauses.Literal.{StandOnce}
use Rattle.nz_spec.specs.terms.Table.{Node}
use Rattle.nz_log.specs.declared.lits.Lit.{Lit}
use Rattle.nz_log.specs.Atoms.{IsLitIn}
use Rattle.nz_log.specs.Lits.{negated_lit}
use Rattle.nz_log.specs.declared.origins.Link.{Link}
use Rattle.nz_log.specs.Logs.{LogState, IsLive, chained, literals_at}
use Rattle.nz_log.specs.Sound.{IsLog}
use Rattle.nz_sat.specs.declared.analyze.Chain.{Chain}
use Rattle.nz_sat.specs.declared.analyze.Learned.{Learned}
use Rattle.nz_sat.specs.declared.trail.Assigned.{Assigned}
use Rattle.nz_sat.specs.Trails.{IsFalseOn, assigned, below, depth, level_on}
use Rattle.nz_sat.specs.Clauses.{IsFalsified, IsAssumed}

-- where the trail is over a table, the log stays in order
abbrev pub StaysSound : List Assigned → LogState → LogState → Type 0
StaysSound es old new = (ns : List Node) (levels : List (List ℕ)) → All (λ (e : Assigned). IsLitIn ns old.atoms e.literal) es → IsLog ns levels old → IsLog ns levels new

-- ---- Marks, by the numbers of atoms

abbrev pub is_marked : List Bool → ℕ → Bool
is_marked marks t = slice_index_or marks t false

-- no atom is marked
abbrev pub AreUnmarked : List Bool → Type 0
AreUnmarked marks = (t : ℕ) → is_marked marks t ≡ false

-- how many entries of a level are marked
abbrev pub marked_of : List Bool → ℕ → List Assigned → ℕ
marked_of marks level es = count_by (λ (e : Assigned). is_marked marks e.literal.atom && (e.level == level)) es

-- The atoms of these literals that are false are marked, beside those that were.
pub record MarksFalse (es : List Assigned) (c : List Lit) (old new : List Bool) : Type 0 where
  pub kept : (t : ℕ) → is_marked old t ≡ true → is_marked new t ≡ true
  pub marked : (l : Lit) → Contains c l → IsFalseOn es l → is_marked new l.atom ≡ true
  pub only : (t : ℕ) → is_marked new t ≡ true → (is_marked old t ≡ true) ⊎ ((l : Lit) × Contains c l × IsFalseOn es l × (l.atom ≡ t))

-- the false ones of these literals are false in a front of the trail
abbrev pub AreFalseIn : (es front : List Assigned) → List Lit → Type 0
AreFalseIn es front c = (l : Lit) → Contains c l → IsFalseOn es l → IsFalseOn front l

-- The same, and in a front of the trail that has all these, so many more entries of the level are marked.
pub record MarksCounted (es : List Assigned) (c : List Lit) (level : ℕ) (old new : List Bool) (more : ℕ) : Type 0 where
  pub marks : MarksFalse es c old new
  pub count : (n : ℕ) → AreFalseIn es (take n es) c → marked_of old level (take n es) + more ≡ marked_of new level (take n es)

-- A clause has two literals of the last level.
pub record HasTwoLast (es : List Assigned) (c : List Lit) : Type 0 where
  pub first : Lit
  pub second : Lit
  pub has_first : Contains c first
  pub has_second : Contains c second
  pub differ : first ≢ second
  pub first_last : level_on es first.atom ≡ depth es
  pub second_last : level_on es second.atom ≡ depth es

-- A clause has a literal of the last level.
pub record HasLast (es : List Assigned) (c : List Lit) : Type 0 where
  pub literal : Lit
  pub has : Contains c literal
  pub last : level_on es literal.atom ≡ depth es

-- A clause has this literal of the last level, and no other.
pub record IsLoneLast (es : List Assigned) (c : List Lit) (l : Lit) : Type 0 where
  pub has : Contains c l
  pub last : level_on es l.atom ≡ depth es
  pub others : (m : Lit) → Contains c m → m ≢ l → level_on es m.atom ≢ depth es

-- a clause has two literals of the last level, or has each once, so that it may be the learned clause itself
abbrev pub IsLearnable : List Assigned → List Lit → Type 0
IsLearnable es c = HasTwoLast es c ⊎ StandOnce c

-- the links rest on live clauses, and resolve on atoms of the trail
abbrev pub AreLinks : LogState → List Assigned → List Link → Type 0
AreLinks s es ks = All (λ (k : Link). IsLive s k.clause × ((e : Assigned) × Contains es e × (e.literal.atom ≡ k.literal.atom))) ks

-- Just the atoms of these literals are marked.
pub record AreMarked (c : List Lit) (marks : List Bool) : Type 0 where
  pub each : (m : Lit) → Contains c m → is_marked marks m.atom ≡ true
  pub only : (t : ℕ) → is_marked marks t ≡ true → (m : Lit) × Contains c m × (m.atom ≡ t)

-- The way back along the trail, down to a place: the chain so far comes to a clause whose literals are false before that place, just
-- its atoms are marked, and so many of them are of the last level. Where one is left, there is a link.
pub record IsOnWayBack (s : LogState) (es : List Assigned) (falsified place : ℕ) (marks : List Bool) (ks : List Link) (left : ℕ) : Type 0 where
  pub links : AreLinks s es ks
  pub falsified_before : IsFalsified (take place es) (chained s (literals_at s falsified) ks)
  pub marked : AreMarked (chained s (literals_at s falsified) ks) marks
  pub count : left ≡ marked_of marks (depth es) (take place es)
  pub some : 0 < left
  pub linked : left ≡ 1 → 0 < length ks

-- The chain from a clause comes to one in which each literal is false, and this one alone of the last level; just its atoms are marked.
pub record IsChain (s : LogState) (es : List Assigned) (falsified : ℕ) (marks : List Bool) (c : Chain) : Type 0 where
  pub links : AreLinks s es c.links.items
  pub some : 0 < length c.links.items
  pub falsified_too : IsFalsified es (chained s (literals_at s falsified) c.links.items)
  pub has : Contains (chained s (literals_at s falsified) c.links.items) c.literal
  pub last : level_on es c.literal.atom ≡ depth es
  pub others : (m : Lit) → Contains (chained s (literals_at s falsified) c.links.items) m → m ≢ c.literal → level_on es m.atom < depth es
  pub marked : AreMarked (chained s (literals_at s falsified) c.links.items) marks

-- A literal of a marked atom is false by this clause, and isn't of the atom of another one.
pub record IsFalseBy (es : List Assigned) (marks : List Bool) (but : Lit) (atom clause : ℕ) (l : Lit) : Type 0 where
  pub entry : Assigned
  pub is : assigned es atom ≡ Some entry
  pub reason : entry.reason ≡ Some clause
  pub literal : l ≡ negated_lit entry.literal
  pub marked : is_marked marks atom ≡ true
  pub other : atom ≢ but.atom

-- one of the literals is of the greatest level of those beside this one, where there are others
abbrev pub IsDeepestBut : List Assigned → Lit → List Lit → Option Lit → Type 0
IsDeepestBut es but c None = (m : Lit) → Contains c m → m ≡ but
IsDeepestBut es but c (Some l) = Contains c l × (l ≢ but) × ((m : Lit) → Contains c m → m ≢ but → level_on es m.atom ≤ level_on es l.atom)

-- a literal beside this one is of this level, where there are others
abbrev pub IsBeside : List Assigned → List Lit → Lit → ℕ → Option Lit → Type 0
IsBeside es c but level None = (level ≡ 0) × ((m : Lit) → Contains c m → m ≡ but)
IsBeside es c but level (Some l) = Contains c l × (l ≢ but) × (level_on es l.atom ≡ level)

-- A level is the greatest of those of the literals, and 0 where there are none.
pub record IsGreatest (es : List Assigned) (c : List Lit) (level : ℕ) : Type 0 where
  pub most : (m : Lit) → Contains c m → level_on es m.atom ≤ level
  pub reached : 0 < level → (m : Lit) × Contains c m × (level_on es m.atom ≡ level)

-- The trail is cut at this level, the greatest of the literals of a clause.
pub record GoesBackTo (c : List Lit) (es es' : List Assigned) (level : ℕ) : Type 0 where
  pub greatest : IsGreatest es c level
  pub cut : es' ≡ below level es

-- A clause in which each literal is false, of which one literal is of the last level; the greatest level of the others is told, and one of them of it.
pub record IsLearned (s : LogState) (es : List Assigned) (l : Learned) : Type 0 where
  pub live : IsLive s l.clause
  pub once : StandOnce (literals_at s l.clause)
  pub falsified : IsFalsified es (literals_at s l.clause)
  pub has : Contains (literals_at s l.clause) l.literal
  pub last : level_on es l.literal.atom ≡ depth es
  pub earlier : l.level < depth es
  pub kept : l.keep ≤ l.level
  pub others : (m : Lit) → Contains (literals_at s l.clause) m → m ≢ l.literal → level_on es m.atom ≤ l.level
  pub beside : IsBeside es (literals_at s l.clause) l.literal l.level l.beside

-- each literal is the negation of an assumed one
abbrev pub Refutes : List Lit → List Lit → Type 0
Refutes assumed c = (l : Lit) → Contains c l → Contains assumed (negated_lit l)

-- each literal is false, or the negation of an assumed one
abbrev pub IsFalsifiedUnder : List Lit → List Assigned → List Lit → Type 0
IsFalsifiedUnder assumed es c = (l : Lit) → Contains c l → IsFalseOn es l ⊎ Contains assumed (negated_lit l)

-- A literal is false before a place of the trail, and its atom is marked.
pub record IsMarkedBefore (es : List Assigned) (place : ℕ) (marks : List Bool) (l : Lit) : Type 0 where
  pub false_before : IsFalseOn (take place es) l
  pub marked : is_marked marks l.atom ≡ true

-- The way back to the assumed literals, down to a place: each literal of the clause so far is the negation of an assumed one, or is false
-- before that place, and marked.
pub record IsOnWayToAssumed (s : LogState) (es : List Assigned) (falsified place : ℕ) (marks : List Bool) (ks : List Link) : Type 0 where
  pub links : AreLinks s es ks
  pub each : (assumed : List Lit) → All (IsAssumed assumed) es → IsFalsifiedUnder assumed es (literals_at s falsified) → (l : Lit)
      → Contains (chained s (literals_at s falsified) ks) l → Contains assumed (negated_lit l) ⊎ IsMarkedBefore es place marks l

-- where the trail has no entries without a reason but assumed ones, and a clause is falsified but for negations of assumed ones, what comes of it
-- refutes these
abbrev pub RefutesFrom : List Assigned → (from to : List Lit) → Type 0
RefutesFrom es from to = (assumed : List Lit) → All (IsAssumed assumed) es → IsFalsifiedUnder assumed es from → Refutes assumed to
