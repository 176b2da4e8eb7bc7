-- Clauses of a log of which two literals each are watched, under a trail.
use Rattle.std.specs.Prelude.{◌≡◌, ◌≢◌, ℕ, ◌+◌, ◌-◌, ◌*◌, ◌<◌, ◌≤◌, ◌⊎◌, ⊤, true, All, List, take, length, Contains, Option, Some, None, option_map, slice_get}
use Rattle.slab.specs.Slab.{get}
use Rattle.nz_log.specs.declared.lits.Lit.{Lit}
use Rattle.nz_log.specs.Logs.{LogState, literals_at}
use Rattle.nz_sat.specs.declared.clauses.Held.{Held}
use Rattle.nz_sat.specs.declared.clauses.Part.{Part}
use Rattle.nz_sat.specs.declared.clauses.WatchedClause.{WatchedClause}
use Rattle.nz_sat.specs.declared.kept.Kept.{Kept}
use Rattle.nz_sat.specs.declared.propagate.Visit.{Visit}
use Rattle.nz_sat.specs.declared.propagate.Visit.TheVariants.{Stays, Moved, Falsified}
use Rattle.nz_sat.specs.declared.propagation.Propagation.{Propagation}
use Rattle.nz_sat.specs.declared.trail.Assigned.{Assigned}
use Rattle.nz_sat.specs.declared.watches.Watch.{Watch}
use Rattle.nz_sat.specs.Clauses.{AreFalseBut, HasTrue, IsFalsified, IsHeldIn, IsLone, IsLoneIn, IsSettledBy, IsWatchedIn, held_as, other_in, watched_as}
use Rattle.nz_sat.specs.Lists.{AreOnce, HasKey, HasKeyFrom, list_of}
use Rattle.nz_sat.specs.Sats.{held_part, ids, is_in}
use Rattle.nz_sat.specs.Trails.{IsFalseOn, TrailState, below, depth}

-- The trail, how much of it was looked at, the clauses by their keys, those that have no two different literals, the watches by literal, and below
-- which number the literals with lists are.
pub record State : Type 0 where
  pub trail : TrailState
  pub head : ℕ
  pub held : ℕ → Option WatchedClause
  pub lone : List ℕ
  pub lists : Lit → List Watch
  pub room : ℕ

-- the clauses of which literals are watched, by their keys
abbrev pub held_at : Propagation → ℕ → Option WatchedClause
held_at p = get p.clauses

-- the numbers of those that have no two different literals
abbrev pub lone_ids : Propagation → List ℕ
lone_ids p = ids p.lone.items

abbrev pub watch_state : Propagation → TrailState → State
watch_state p t = record { trail = t; head = p.head; held = held_at p; lone = lone_ids p; lists = list_of p.watches; room = length p.watches.lists.items }

-- ---- Which clauses there are

-- a clause of the log is one of those of which literals are watched
pub record IsWatchedAt (held : ℕ → Option WatchedClause) (i : ℕ) : Type 0 where
  pub key : ℕ
  pub clause : WatchedClause
  pub at : held key ≡ Some clause
  pub is : clause.id ≡ i

-- a clause of the log is one of the clauses
abbrev pub HasClause : Propagation → ℕ → Type 0
HasClause p i = IsWatchedAt (held_at p) i ⊎ Contains (lone_ids p) i

-- a clause is one of those of which literals are watched, with its level and its flag
pub record IsWatchedAs (held : ℕ → Option WatchedClause) (h : Held) : Type 0 where
  pub key : ℕ
  pub clause : WatchedClause
  pub at : held key ≡ Some clause
  pub is : held_as clause ≡ h

-- a clause is one of the clauses, with its level and its flag
abbrev pub HoldsAs : Propagation → Held → Type 0
HoldsAs p h = IsWatchedAs (held_at p) h ⊎ Contains p.lone.items h

-- the same clauses stand under the same keys
abbrev pub HoldSame : (old new : ℕ → Option WatchedClause) → Type 0
HoldSame old new = (key : ℕ) → option_map held_as (new key) ≡ option_map held_as (old key)

-- The clauses stay, and so do the literals that have lists.
pub record KeepsClauses (old new : Propagation) : Type 0 where
  pub watched : HoldSame (held_at old) (held_at new)
  pub lone : new.lone ≡ old.lone
  pub room : length new.watches.lists.items ≡ length old.watches.lists.items

-- ---- Watches

-- A watch in the list of a literal: it is watched in the clause of that key, which has the blocking literal too.
pub record IsWatch (s : LogState) (held : ℕ → Option WatchedClause) (l : Lit) (w : Watch) : Type 0 where
  pub clause : WatchedClause
  pub at : held w.key ≡ Some clause
  pub watched : IsWatchedIn clause l
  pub has : Contains (literals_at s clause.id) w.blocker
  pub other : w.blocker ≢ l
  pub short : w.is_short ≡ true → (m : Lit) → Contains (literals_at s clause.id) m → (m ≡ l) ⊎ (m ≡ w.blocker)

-- Each clause that is held stands once in the lists of its two literals, and in no others.
pub record AreListed (s : LogState) (size : ℕ) (held : ℕ → Option WatchedClause) (lists : Lit → List Watch) : Type 0 where
  pub clauses : (key : ℕ) (h : WatchedClause) → held key ≡ Some h → IsHeldIn s size h
  pub watches : (l : Lit) (i : ℕ) (w : Watch) → slice_get (lists l) i ≡ Some w → IsWatch s held l w
  pub once : (l : Lit) → AreOnce (lists l)
  pub covered : (key : ℕ) (h : WatchedClause) → held key ≡ Some h → (l : Lit) → IsWatchedIn h l → HasKey key (lists l)

-- what is false on a front of the trail left a true literal in each clause in which it is watched
abbrev pub AreSettledBy : List Assigned → List Assigned → LogState → (ℕ → Option WatchedClause) → Type 0
AreSettledBy front es s held = (key : ℕ) (h : WatchedClause) → held key ≡ Some h → IsSettledBy front es s h

-- Each clause of two or more literals is watched by two of them. Where one of these is false, a literal is true or the falsehood wasn't looked at yet;
-- and so it was when each decision was taken, with all looked at.
pub record AreWatched (s : LogState) (state : State) : Type 0 where
  pub room : 2 * state.trail.size ≤ state.room
  pub listed : AreListed s state.trail.size state.held state.lists
  pub lone : All (IsLoneIn s state.trail.size) state.lone
  pub within : state.head ≤ length state.trail.entries
  pub settled : AreSettledBy (take state.head state.trail.entries) state.trail.entries s state.held
  pub were_settled : (k : ℕ) → k < depth state.trail.entries → AreSettledBy (below k state.trail.entries) (below k state.trail.entries) s state.held

-- ---- What outlives a search

-- The clauses that are held are those of which literals are watched, whatever is true.
pub record HoldsWatched (s : LogState) (held : List Held) (p : Propagation) : Type 0 where
  pub size : ℕ
  pub room : 2 * size ≤ length p.watches.lists.items
  pub listed : AreListed s size (held_at p) (list_of p.watches)
  pub lone : All (IsLoneIn s size) (lone_ids p)
  pub covered : (h : Held) → Contains held h → HoldsAs p h
  pub only : (h : Held) → HoldsAs p h → Contains held h

-- The first clauses of those that are held were kept, and nothing was looked at.
pub record IsKept (s : LogState) (held : List Held) (k : Kept) : Type 0 where
  pub within : k.count ≤ length held
  pub holds : HoldsWatched s (take k.count held) k.propagation
  pub head : k.propagation.head ≡ 0

-- ---- A clause more

-- A clause may be held, with these two literals watched: where one of them is false on what was looked at, another one is true.
pub record IsHoldable (s : LogState) (t : TrailState) (head : ℕ) (h : WatchedClause) : Type 0 where
  pub held : IsHeldIn s t.size h
  pub settled : IsSettledBy (take head t.entries) t.entries s h
  pub were_settled : (k : ℕ) → k < depth t.entries → IsSettledBy (below k t.entries) (below k t.entries) s h

-- a clause may be held with two literals watched, or with none where it has no two
abbrev pub MayHold : LogState → TrailState → ℕ → Held → Option (Lit × Lit) → Type 0
MayHold s t head h (Some pair) = IsHoldable s t head (watched_as h pair)
MayHold s t head h None = IsLoneIn s t.size h.id

-- One clause more is held, under a key that was free.
pub record PutsClause (old new : ℕ → Option WatchedClause) (key : ℕ) (c : WatchedClause) : Type 0 where
  pub free : old key ≡ None
  pub there : new key ≡ Some c
  pub others : (j : ℕ) → j ≢ key → new j ≡ old j

-- two different ones of these literals, where there are any
abbrev pub AreTwoOf : List Lit → Option (Lit × Lit) → Type 0
AreTwoOf c (Some pair) = Contains c pair.0 × Contains c pair.1 × (pair.0 ≢ pair.1)
AreTwoOf c None = IsLone c

-- ---- Clauses that go

-- the clauses stay listed, whatever the log is
abbrev pub StayListed : (old new : Propagation) → Type 0
StayListed old new = (s : LogState) (size : ℕ) → AreListed s size (held_at old) (list_of old.watches) → AreListed s size (held_at new) (list_of new.watches)

-- Of the clauses under some keys just those stay that are in a part of them, and so do all others.
pub record KeepsWatched (part : Part) (among : ℕ → Type 0) (old new : Propagation) : Type 0 where
  pub stay : (key : ℕ) (c : WatchedClause) → held_at old key ≡ Some c → is_in part (held_as c) ≡ true → held_at new key ≡ Some c
  pub only : (key : ℕ) (c : WatchedClause) → held_at new key ≡ Some c → (held_at old key ≡ Some c) × (among key → is_in part (held_as c) ≡ true)
  pub listed : StayListed old new
  pub room : length new.watches.lists.items ≡ length old.watches.lists.items
  pub head : new.head ≡ old.head

-- Just the clauses stay that are in a part of them.
pub record KeepsPart (part : Part) (old new : Propagation) : Type 0 where
  pub watched : KeepsWatched part (λ key. ⊤) old new
  pub lone : new.lone.items ≡ held_part part old.lone.items

-- The clauses are listed in a log, with lists for the literals of its atoms below a number.
pub record HaveLists (p : Propagation) : Type 0 where
  pub log : LogState
  pub size : ℕ
  pub room : 2 * size ≤ length p.watches.lists.items
  pub listed : AreListed log size (held_at p) (list_of p.watches)

-- ---- A list that is looked at

-- each literal of a clause that is held is false
pub record IsConflictIn (s : LogState) (state : State) (id : ℕ) : Type 0 where
  pub held : IsWatchedAt state.held id
  pub falsified : IsFalsified state.trail.entries (literals_at s id)

-- each clause in which a literal is watched has a true literal, or stands in its list at a place or behind it
abbrev pub IsAhead : LogState → State → Lit → ℕ → Type 0
IsAhead s state l i = (key : ℕ) (h : WatchedClause) → state.held key ≡ Some h → IsWatchedIn h l → HasTrue state.trail.entries (literals_at s h.id) ⊎ HasKeyFrom i key (state.lists l)

-- how many watches of a list are at a place or behind it
abbrev pub left_from : State → Lit → ℕ → ℕ
left_from state l i = length (state.lists l) - i

-- From a place to the next one all that was ahead is so still, and less of the list is left.
pub record GoesAhead (s : LogState) (old new : State) (l : Lit) (i next : ℕ) : Type 0 where
  pub ahead : IsAhead s old l i → IsAhead s new l next
  pub less : left_from new l next < left_from old l i

-- what comes of a look at the clause of a place
abbrev pub ComesOf : LogState → (old new : State) → Lit → ℕ → Visit → Type 0
ComesOf s old new l i Stays = GoesAhead s old new l i (i + 1)
ComesOf s old new l i Moved = GoesAhead s old new l i i
ComesOf s old new l i (Falsified id) = IsConflictIn s new id

-- The clause of a key has a literal, and each of its others is false.
pub record IsLastOf (s : LogState) (state : State) (key : ℕ) (l : Lit) : Type 0 where
  pub clause : WatchedClause
  pub at : state.held key ≡ Some clause
  pub has : Contains (literals_at s clause.id) l
  pub others : AreFalseBut state.trail.entries l (literals_at s clause.id)

-- the clause of a key has a true literal, or each of them is false
abbrev pub Settles : LogState → State → ℕ → Visit → Type 0
Settles s state key Stays = (h : WatchedClause) → state.held key ≡ Some h → HasTrue state.trail.entries (literals_at s h.id)
Settles s state key Moved = ⊥
Settles s state key (Falsified id) = IsConflictIn s state id

-- At a place of the list of a false literal stands a clause, which has another literal that is neither false nor the other one that is watched.
pub record MayRewatch (s : LogState) (state : State) (l : Lit) (i : ℕ) (next other : Lit) : Type 0 where
  pub watch : Watch
  pub at : slice_get (state.lists l) i ≡ Some watch
  pub clause : WatchedClause
  pub held : state.held watch.key ≡ Some clause
  pub has : Contains (literals_at s clause.id) next
  pub stands : IsFalseOn state.trail.entries next → ⊥
  pub apart : next ≢ other
  pub beside : other ≡ other_in clause l
  pub long : watch.is_short ≡ true → ⊥
