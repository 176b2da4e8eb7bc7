-- Bounds of one form that exclude each other, and the clauses that say so.
use Rattle.std.specs.Prelude.{◌≡◌, ◌≢◌, ℕ, ◌<◌, ◌-◌, ◌⊎◌, Bool, List, [], ◌∷◌, length, map, All, Contains, None, Option, Some, IsSome, slice_get, true, false}
use Rattle.std.specs.List.{AllAdjacentBelow}
use Rattle.std.specs.declared.cmp.Ordering.TheVariants.{Greater}
use Rattle.nz_spec.specs.numbers.Infinitesimal.{infinitesimal_cmp, ◌≤δ◌}
use Rattle.nz_spec.specs.terms.Table.{Node}
use Rattle.nz_trail.specs.declared.limits.Side.TheVariants.{Lower, Upper}
use Rattle.nz_delta.specs.DeltaSpace.{infinitesimal_of}
use Rattle.nz_log.specs.declared.atoms.Atom.{Atom}
use Rattle.nz_log.specs.declared.lits.Lit.{Lit}
use Rattle.nz_place.specs.declared.place.Place.{Place}
use Rattle.nz_log.specs.Atoms.{IsLitIn}
use Rattle.nz_log.specs.Leveled.{AreToldAtoms}
use Rattle.nz_log.specs.Lits.{negated_lit}
use Rattle.nz_log.specs.Logs.{IsLive, LogState, entry_at, literals_at}
use Rattle.nz_log.specs.Sound.{IsLog}
use Rattle.nz_search.specs.Theories.{IsClash}
use Rattle.nz_log.specs.Growth.{Grows}
use Rattle.nz_reals.specs.declared.neighbours.Lower as code
use Rattle.nz_reals.specs.Known.{Known, SideBound, said_by, said_on}
use Rattle.nz_reals.specs.Stands.{IsOver}
use Rattle.nz_reals.specs.State.{Theory, known_at}
use Rattle.nz_reals.specs.Tells.{IsSumPlace, both}

-- ---- Bounds

-- The one is a lower bound, and the other an upper bound below it.
pub record IsAbove (low high : SideBound) : Type 0 where
  pub lower : low.side ≡ Lower
  pub upper : high.side ≡ Upper
  pub greater : infinitesimal_cmp low.value high.value ≡ Greater

-- The bounds that two literals say of a form leave it no value.
pub record AreOpposed (t : Theory) (l other : Lit) : Type 0 where
  pub first : Known
  pub knows : known_at t l.atom ≡ Some first
  pub second : Known
  pub knows_other : known_at t other.atom ≡ Some second
  pub form : second.form ≡ first.form
  pub above : IsAbove (said_by first l.sign) (said_by second other.sign)

-- the literal is on one of these atoms, of which something is known
abbrev pub IsKnownOn : Theory → List ℕ → Lit → Type 0
IsKnownOn t ids l = Contains ids l.atom × IsSome (known_at t l.atom)

-- ---- Clauses

-- The clause says that two literals on these atoms aren't both true: it has negations of them, each once.
pub record IsExclusion (log : LogState) (ids : List ℕ) (id : ℕ) : Type 0 where
  pub first : Lit
  pub second : Lit
  pub first_on : Contains ids first.atom
  pub second_on : Contains ids second.atom
  pub clash : IsClash log (first ∷ second ∷ []) id

-- none of the clauses that are held has just the negations of two literals
abbrev pub HasNone : LogState → List ℕ → Lit → Lit → Type 0
HasNone log held l m = (id : ℕ) → Contains held id → (literals_at log id ≡ negated_lit l ∷ negated_lit m ∷ []) ⊎ (literals_at log id ≡ negated_lit m ∷ negated_lit l ∷ []) → ⊥

-- The clause says that two literals aren't both true, and none of those that were held says it of the two.
pub record IsFresh (old new : LogState) (held : List ℕ) (id : ℕ) : Type 0 where
  pub first : Lit
  pub second : Lit
  pub clash : IsClash new (first ∷ second ∷ []) id
  pub none : HasNone old held first second

-- The log keeps each of its clauses, its atoms and what was told.
pub record Keeps (old new : LogState) : Type 0 where
  pub live : (i : ℕ) → IsLive old i → IsLive new i
  pub kept : (i : ℕ) → IsLive old i → entry_at new i ≡ entry_at old i
  pub told : new.told ≡ old.told
  pub atoms : new.atoms ≡ old.atoms

-- the atoms of these numbers are there, and over the table
abbrev pub AreAtomsOver : List Node → List Atom → List ℕ → Type 0
AreAtomsOver ns atoms ids = All (λ i. IsLitIn ns atoms (record { atom = i; sign = true })) ids

-- What the log has more is on these atoms: it grows where a level was told of what they name, and stays in order over each table that has them.
pub record AddsOn (ids : List ℕ) (old new : LogState) : Type 0 where
  pub keeps : Keeps old new
  pub grows : AreToldAtoms old ids → Grows old new
  pub sound : (ns : List Node) (levels : List (List ℕ)) → AreAtomsOver ns old.atoms ids → IsLog ns levels old → IsLog ns levels new

-- ---- Which bounds have clauses

-- Something is known of the atom, and the literal says a lower bound.
pub record IsLower (t : Theory) (l : Lit) : Type 0 where
  pub known : Known
  pub knows : known_at t l.atom ≡ Some known
  pub side : (said_by known l.sign).side ≡ Lower

-- The first literal bounds a form with a lesser number than the second does, or the same form at a value that is at most the second's.
pub record IsWeaker (t : Theory) (l other : Lit) : Type 0 where
  pub first : Known
  pub knows : known_at t l.atom ≡ Some first
  pub second : Known
  pub knows_other : known_at t other.atom ≡ Some second
  pub order : (first.form < second.form) ⊎ ((first.form ≡ second.form) × ((said_by first l.sign).value ≤δ (said_by second other.sign).value))

-- of two neighbours the first is the weaker one
abbrev pub AreWeakerFirst : Theory → List Lit → Type 0
AreWeakerFirst t ls = AllAdjacentBelow (IsWeaker t) ls (length ls)

-- Just the lower bounds that literals on these atoms say: those of a form beside each other, the weakest first.
pub record AreLowers (t : Theory) (ids : List ℕ) (ls : List Lit) : Type 0 where
  pub right : All (λ (l : Lit). Contains ids l.atom × IsLower t l) ls
  pub all : (l : Lit) → Contains ids l.atom → IsLower t l → Contains ls l
  pub weaker_first : AreWeakerFirst t ls

-- An operation of the sum of two literals leaves the numbers, over each table that has the units of the theory.
pub record HasNoSum (t : Theory) (l other : Lit) : Type 0 where
  pub place : Place
  pub leaves : (ns : List Node) → IsOver t ns → IsSumPlace ns t (both l other) place

-- one of the clauses says that the two literals aren't both true, unless their sum leaves the numbers
abbrev pub HasClause : Theory → LogState → List ℕ → Lit → Lit → Type 0
HasClause t log cs l other = ((id : ℕ) × Contains cs id × IsClash log (l ∷ other ∷ []) id) ⊎ HasNoSum t l other

-- Two literals bound one form.
pub record AreOfOneForm (t : Theory) (l other : Lit) : Type 0 where
  pub first : Known
  pub knows : known_at t l.atom ≡ Some first
  pub second : Known
  pub knows_other : known_at t other.atom ≡ Some second
  pub form : first.form ≡ second.form

-- The lower bounds that these atoms say are listed. Of two neighbours of one form the stronger one has its clause with the negation of the weaker one.
pub record HasNeighbours (t : Theory) (log : LogState) (ids : List ℕ) (cs : List ℕ) : Type 0 where
  pub lowers : List Lit
  pub are : AreLowers t ids lowers
  pub joined : AllAdjacentBelow (λ (l m : Lit). AreOfOneForm t l m → HasClause t log cs m (negated_lit l)) lowers (length lowers)

-- two literals have their clause where their bounds leave a form no value
abbrev pub AreExcluded : Theory → LogState → List ℕ → Lit → Lit → Type 0
AreExcluded t log cs l other = AreOpposed t l other → HasClause t log cs l other

-- ---- Lower bounds as the code lists them

abbrev pub lits_of : List code.Lower → List Lit
lits_of xs = map (λ (x : code.Lower). x.literal) xs

-- It is the lower bound that its literal says, of this form at this value.
pub record IsSaidLower (t : Theory) (x : code.Lower) : Type 0 where
  pub known : Known
  pub knows : known_at t x.literal.atom ≡ Some known
  pub form : x.var ≡ known.form
  pub says : said_by known x.literal.sign ≡ said_on Lower (infinitesimal_of x.value)

-- The one literal is the negation of the bound of a place, the other one is the bound before it, and they are two.
pub record IsPair (xs : List code.Lower) (i : ℕ) (negated weaker : Lit) : Type 0 where
  pub stronger : code.Lower
  pub at : slice_get xs i ≡ Some stronger
  pub before : code.Lower
  pub at_before : slice_get xs (i - 1) ≡ Some before
  pub first : negated ≡ negated_lit stronger.literal
  pub second : weaker ≡ before.literal
  pub two : weaker ≢ negated

-- a clause has just these two literals
abbrev pub Joins : List code.Lower → ℕ → List Lit → Type 0
Joins xs i c = (l m : Lit) × IsPair xs i l m × ((c ≡ l ∷ m ∷ []) ⊎ (c ≡ m ∷ l ∷ []))

-- one of the clauses joins the bound of a place with the one before
abbrev pub HasJoint : LogState → List ℕ → List code.Lower → ℕ → Type 0
HasJoint log held xs i = (id : ℕ) × Contains held id × IsLive log id × Joins xs i (literals_at log id)

abbrev pub HasNoJoint : LogState → List ℕ → List code.Lower → ℕ → Type 0
HasNoJoint log held xs i = 0 < i → (id : ℕ) → Contains held id → Joins xs i (literals_at log id) → ⊥

-- where a place is marked, one of the clauses joins its bound with the one before
abbrev pub AreJoined : LogState → List ℕ → List code.Lower → List Bool → Type 0
AreJoined log held xs marks = (i : ℕ) → slice_get marks i ≡ Some true → HasJoint log held xs i

-- where it isn't, none does
abbrev pub AreOpen : LogState → List ℕ → List code.Lower → List Bool → Type 0
AreOpen log held xs marks = (i : ℕ) → slice_get marks i ≡ Some false → HasNoJoint log held xs i

-- the place that is noted at the slot of an atom
abbrev pub place_in : List ℕ → List ℕ → ℕ → Option ℕ
place_in slots places atom = elim (slice_get slots atom) [ None ↦ None | Some slot ↦ slice_get places slot ]

-- the bound of a place is the one that is noted for its atom
abbrev pub IsNoted : List code.Lower → List ℕ → List ℕ → ℕ → Type 0
IsNoted xs slots places i = (x : code.Lower) → slice_get xs i ≡ Some x → place_in slots places x.literal.atom ≡ Some i

-- what is noted and has its clause is marked
abbrev pub AreMarked : LogState → List ℕ → List code.Lower → List ℕ → List ℕ → List Bool → Type 0
AreMarked log held xs slots places marks = (i : ℕ) → 0 < i → IsNoted xs slots places i → (id : ℕ) → Contains held id → Joins xs i (literals_at log id) → slice_get marks i ≡ Some true

-- Marks stay, and each that is new is that of a bound that the clause joins with the one before.
pub record Marks (xs : List code.Lower) (c : List Lit) (old new : List Bool) : Type 0 where
  pub long : length new ≡ length old
  pub stay : (i : ℕ) → slice_get old i ≡ Some true → slice_get new i ≡ Some true
  pub right : (i : ℕ) → slice_get new i ≡ Some true → Joins xs i c ⊎ (slice_get old i ≡ Some true)
