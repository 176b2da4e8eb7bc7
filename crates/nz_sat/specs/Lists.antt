-- The lists of watches by literal.
use Rattle.std.specs.Prelude.{◌≡◌, ◌≢◌, ℕ, ◌+◌, ◌<◌, ◌≤◌, List, [], length, Some, None, slice_get, slice_set, vec_capacity}
use Rattle.std.specs.declared.vec.Vec.{Vec}
use Rattle.std.specs.declared.alloc.Global.{Global}
use Rattle.nz_log.specs.declared.lits.Lit.{Lit}
use Rattle.nz_log.specs.Codes.{code_of}
use Rattle.nz_sat.specs.declared.watches.Watch.{Watch}
use Rattle.nz_sat.specs.declared.watches.Watches.{Watches}

-- the list of a number
abbrev pub list_at : List (Vec Watch Global) → ℕ → List Watch
list_at lists t = elim (slice_get lists t) [ None ↦ [] | Some list ↦ list.items ]

-- it has room for one more
abbrev pub HasRoom : List (Vec Watch Global) → ℕ → Type 0
HasRoom lists t = elim (slice_get lists t) [ None ↦ ⊥ | Some list ↦ length list.items < vec_capacity list ]

-- the list of a literal
abbrev pub list_of : Watches → Lit → List Watch
list_of x l = list_at x.lists.items (code_of l)

-- a clause stands in a list, at a place or behind it
pub record HasKeyFrom (from : ℕ) (key : ℕ) (list : List Watch) : Type 0 where
  pub place : ℕ
  pub watch : Watch
  pub behind : from ≤ place
  pub at : slice_get list place ≡ Some watch
  pub is : watch.key ≡ key

abbrev pub HasKey : ℕ → List Watch → Type 0
HasKey key list = HasKeyFrom 0 key list

-- the watch of a place has another blocking literal
abbrev pub Blocks : ℕ → Lit → (old new : List Watch) → Type 0
Blocks i blocker old new = (w : Watch) → slice_get old i ≡ Some w → new ≡ slice_set old i (record w { blocker = blocker })

-- no clause stands twice in a list
abbrev pub AreOnce : List Watch → Type 0
AreOnce list = (i j : ℕ) (v w : Watch) → slice_get list i ≡ Some v → slice_get list j ≡ Some w → v.key ≡ w.key → i ≡ j

-- a place before one stays, and one that isn't before it comes to one that isn't
abbrev pub IsAfter : (i j k : ℕ) → Type 0
IsAfter i j k = (j < i → k ≡ j) × (i ≤ j → i ≤ k)

-- The watch of a place is taken out, and the others stay: those before it at their places, the others at it or behind it.
pub record TakesOut (i : ℕ) (old new : List Watch) : Type 0 where
  pub shorter : length new + 1 ≡ length old
  pub from : (j : ℕ) (w : Watch) → slice_get new j ≡ Some w → (k : ℕ) × (k ≢ i) × (slice_get old k ≡ Some w)
  pub stays : (j : ℕ) (w : Watch) → j ≢ i → slice_get old j ≡ Some w → (k : ℕ) × (slice_get new k ≡ Some w) × IsAfter i j k
  pub once : AreOnce old → AreOnce new

-- The watch of a clause is taken out.
pub record LeavesKey (key : ℕ) (old new : List Watch) : Type 0 where
  pub place : ℕ
  pub watch : Watch
  pub at : slice_get old place ≡ Some watch
  pub is : watch.key ≡ key
  pub taken : TakesOut place old new
