-- What the calls inside tell: a literal that is told, and literals that aren't true together.
use Rattle.std.specs.Prelude.{◌≡◌, ℕ, ◌⊎◌, List, [], ◌∷◌, ◌++◌, Contains, length, map, Some, IsSome, pos, slice_get}
use Rattle.std.specs.List.{AllByRecursion}
use Rattle.nz_fractions.specs.Fraction.{Fraction, first_wide, whole}
use Rattle.nz_spec.specs.clauses.Farkas as farkas
use Rattle.nz_spec.specs.clauses.Farkas.{sum_of_multiples, sums_of}
use Rattle.nz_spec.specs.terms.Form.{IsOrderOf}
use Rattle.nz_spec.specs.terms.FormOf.{number_in}
use Rattle.nz_spec.specs.numbers.Infinitesimal.{infinitesimal_cmp}
use Rattle.nz_spec.specs.search.Notes.{sum_site}
use Rattle.nz_spec.specs.search.Places.{LeavesNumbers}
use Rattle.nz_spec.specs.terms.Table.{Node}
use Rattle.nz_frac.specs.Operations.{operation_of}
use Rattle.nz_trail.specs.Bounds.{ClashesWith, IsImplied, asserted, other_side}
use Rattle.nz_lin.specs.declared.bound.BoundMultiple as lin
use Rattle.nz_lin.specs.Bounds as lin_bounds
use Rattle.nz_lin.specs.Bounds.{HasUnits}
use Rattle.nz_log.specs.declared.atoms.Atom.{Atom}
use Rattle.nz_log.specs.Axioms.{multiples_in}
use Rattle.nz_log.specs.declared.lits.Lit.{Lit}
use Rattle.nz_log.specs.declared.multiples.LitMultiple.{LitMultiple}
use Rattle.nz_place.specs.declared.place.Place.{Place}
use Rattle.nz_place.specs.Places.{IsSiteWithin, site_of}
use Rattle.nz_spec.specs.simplex.PositionMoves.{AreConsistent}
use Rattle.nz_spec.specs.simplex.Pivots.{Lead}
use Rattle.nz_spec.specs.search.Work.{WorkList}
use Rattle.nz_search.specs.declared.note.Note.{Note}
use Rattle.nz_search.specs.Theories.{AddsPivots}
use Rattle.nz_simplex.specs.State.{position_over}
use Rattle.nz_simplex.specs.Contradictions.{Contradicts}
use Rattle.nz_simplex.specs.Moves.{IsBounded}
use Rattle.nz_simplex.specs.Standing.{Held}
use Rattle.nz_reals.specs.declared.reals.MarkedLiteral.{MarkedLiteral}
use Rattle.nz_reals.specs.Known.{Known, said_by}
use Rattle.nz_reals.specs.Stands.{IsOver}
use Rattle.nz_reals.specs.State.{Theory, known_at, lit_at, literal_over}

-- ---- A literal that is told

-- the bound that a literal says, for a reason
abbrev pub held_by : Known → Lit → ℕ → Held
held_by k l reason = asserted k.form (said_by k l.sign).side (said_by k l.sign).value reason

-- the literal, and how many bounds stood before
abbrev pub told_now : Theory → Lit → MarkedLiteral
told_now t l = record { literal = l; mark = length t.simplex.asserted }

-- The literal stands last among those that were told. What it says stands as a bound, unless a bound that stands says as much.
pub record IsTold (old new : Theory) (l : Lit) : Type 0 where
  pub known : Known
  pub knows : known_at old l.atom ≡ Some known
  pub same : new.known ≡ old.known
  pub told : new.told ≡ old.told ++ told_now old l ∷ []
  pub bound : let b = held_by known l (length old.told) in
      ((new.simplex ≡ old.simplex) × IsImplied infinitesimal_cmp old.simplex.asserted b)
      ⊎ (IsBounded old.simplex new.simplex b × (¬ IsImplied infinitesimal_cmp old.simplex.asserted b))

-- The literal clashes with one that was told: their bounds leave a form no value.
pub record Clashes (t : Theory) (l : Lit) (k : Known) (other : Lit) : Type 0 where
  pub place : ℕ
  pub told : MarkedLiteral
  pub at : slice_get t.told place ≡ Some told
  pub literal : told.literal ≡ other
  pub clash : ClashesWith infinitesimal_cmp t.simplex.asserted (held_by k l (length t.told)) place

-- Of both literals something is known, and they say bounds of different sides.
pub record AreOnTwoSides (t : Theory) (l other : Lit) : Type 0 where
  pub first : Known
  pub knows : known_at t l.atom ≡ Some first
  pub second : Known
  pub knows_other : known_at t other.atom ≡ Some second
  pub sides : (said_by second other.sign).side ≡ other_side (said_by first l.sign).side

-- ---- Literals that aren't true together

-- multiples of literals over a table
abbrev pub multiples_over : List Node → Theory → List LitMultiple → List farkas.Multiple
multiples_over ns t ms = map (λ (m : LitMultiple). record { literal = literal_over ns t m.literal; multiplier = m.multiplier }) ms

-- the sum of these multiples is a contradiction, over each table
abbrev pub Refutes : Theory → List LitMultiple → Type 0
Refutes t ms = (ns : List Node) → IsOver t ns → Contradicts (number_in ns) (multiples_over ns t ms)

-- something is known of each
abbrev pub AreKnown : Theory → List LitMultiple → Type 0
AreKnown t ms = AllByRecursion (λ (m : LitMultiple). IsSome (known_at t m.literal.atom)) ms

-- they are of literals that were told
abbrev pub AreOf : List Lit → List LitMultiple → Type 0
AreOf ls ms = AllByRecursion (λ (m : LitMultiple). Contains ls m.literal) ms

-- a told literal and its multiplier
abbrev pub multiple_at : Theory → ℕ × Fraction → LitMultiple
multiple_at t w = record { literal = lit_at t w.0; multiplier = w.1 }

-- The sum of these multiples, whose units stand in the order of their numbers, is a contradiction, and this is the first of its operations that leaves the
-- numbers.
pub record IsSumPlace (ns : List Node) (t : Theory) (ms : List LitMultiple) (place : Place) : Type 0 where
  pub site : site_of ns place.site ≡ sum_site (multiples_over ns t ms)
  pub ordered : IsOrderOf (number_in ns) (sums_of (multiples_over ns t ms))
  pub contradicts : Contradicts (number_in ns) (multiples_over ns t ms)
  pub first : first_wide (sum_of_multiples (number_in ns) (multiples_over ns t ms)).operations ≡ Some (operation_of place.wide)
  pub leaves : LeavesNumbers (operation_of place.wide)
  pub within : IsSiteWithin ns place.site

-- each of two literals, once
abbrev pub both : Lit → Lit → List LitMultiple
both l other = record { literal = l; multiplier = whole (pos 1) } ∷ record { literal = other; multiplier = whole (pos 1) } ∷ []

abbrev pub literals_of : List LitMultiple → List Lit
literals_of ms = map (λ (m : LitMultiple). m.literal) ms

-- these bounds are what the literals of these multiples bound, with the multipliers
pub record AreBoundsOf (ns : List Node) (atoms : List Atom) (ms : List LitMultiple) (bs : List lin.BoundMultiple) : Type 0 where
  pub bounds : lin_bounds.multiples_over ns bs ≡ multiples_in ns atoms ms
  pub units : AllByRecursion (λ (m : lin.BoundMultiple). HasUnits ns m.bound) bs

-- ---- A check

-- Pivots are noted, which lead from the one position to the other, under bounds that leave each form a value; all but the point stays.
pub record IsMoved (old new : Theory) (before after : WorkList Note) : Type 0 where
  pub known : new.known ≡ old.known
  pub told : new.told ≡ old.told
  pub forms : new.simplex.forms ≡ old.simplex.forms
  pub asserted : new.simplex.asserted ≡ old.simplex.asserted
  pub consistent : (ns : List Node) → IsOver old ns → AreConsistent (position_over ns old.simplex)
  pub adds : AddsPivots before after
  pub lead : (ns : List Node) → IsOver old ns → Lead (position_over ns old.simplex) adds.pivots (position_over ns new.simplex)
