-- What the rules on sums of bounds ask of multiples, over every table.
use Rattle.std.specs.Prelude.{◌≡◌, List, [], pos, IsTrue}
use Rattle.nz_fractions.specs.Fraction.{fraction_lt, whole}
use Rattle.nz_spec.specs.numbers.Computation.{and_then}
use Rattle.nz_spec.specs.clauses.Farkas.{bound_of, bound_scaled, bounds_joined, is_contradiction, is_multiple}
use Rattle.nz_spec.specs.terms.FormOf.{number_in}
use Rattle.nz_spec.specs.clauses.LinearLiteral.{are_integral}
use Rattle.nz_spec.specs.terms.Table.{Node, IsTable}
use Rattle.nz_lin.specs.declared.bound.Bound.{Bound}
use Rattle.nz_lin.specs.Bounds.{HasUnits, bound_over}
use Rattle.nz_lin.specs.Forms.{parts_over}
use Rattle.nz_log.specs.declared.atoms.Atom.{Atom}
use Rattle.nz_log.specs.declared.multiples.LitMultiple.{LitMultiple}
use Rattle.nz_log.specs.Atoms.{IsLitIn, literal_in}
use Rattle.nz_log.specs.Axioms.{AreMultiples, AreMultiplesIn, multiple_in, sum_in}

-- it is a multiple of a bound, by a number above 0
abbrev pub IsMultiple : List Atom → LitMultiple → Type 0
IsMultiple atoms m = (ns : List Node) → IsTrue (is_multiple (multiple_in ns atoms m))

-- and so is each of these
abbrev pub AreAllMultiples : List Atom → List LitMultiple → Type 0
AreAllMultiples atoms ms = (ns : List Node) → IsTable ns → AreMultiplesIn ns atoms ms → AreMultiples ns atoms ms

-- over a table, a sum has one multiple more
pub record IsAddedOver (ns : List Node) (atoms : List Atom) (m : LitMultiple) (old new : Bound) : Type 0 where
  pub sum : bound_over ns new ≡ (and_then (bound_scaled m.multiplier (bound_of (literal_in ns atoms m.literal))) (λ y. bounds_joined (number_in ns) (bound_over ns old) y)).result
  pub units : HasUnits ns new

abbrev pub IsAdded : List Atom → LitMultiple → (old new : Bound) → Type 0
IsAdded atoms m old new = (ns : List Node) → IsTable ns → HasUnits ns old → IsLitIn ns atoms m.literal → IsAddedOver ns atoms m old new

-- over a table, it is the sum of the multiples
pub record IsSumOver (ns : List Node) (atoms : List Atom) (ms : List LitMultiple) (b : Bound) : Type 0 where
  pub sum : bound_over ns b ≡ (sum_in ns atoms ms).result
  pub units : HasUnits ns b

abbrev pub IsSum : List Atom → List LitMultiple → Bound → Type 0
IsSum atoms ms b = (ns : List Node) → IsTable ns → AreMultiplesIn ns atoms ms → IsSumOver ns atoms ms b

-- the sum is a contradiction
abbrev pub AreRefuted : List Atom → List LitMultiple → Type 0
AreRefuted atoms ms = (ns : List Node) → IsTable ns → AreMultiplesIn ns atoms ms → IsTrue (is_contradiction (sum_in ns atoms ms).result)

-- the sum is one of integers
abbrev pub AreIntegral : List Atom → List LitMultiple → Type 0
AreIntegral atoms ms = (ns : List Node) → IsTable ns → AreMultiplesIn ns atoms ms → IsTrue (are_integral (sum_in ns atoms ms).result.parts)

-- the bound is one of integers
abbrev pub IsOfIntegers : Bound → Type 0
IsOfIntegers b = (ns : List Node) → HasUnits ns b → IsTrue (are_integral (parts_over ns b.sides.parts))

-- the bound is on no units, and 0 isn't within its limit
pub record IsFalse (b : Bound) : Type 0 where
  pub none : b.sides.parts ≡ []
  pub below : IsTrue (fraction_lt b.sides.offset (whole (pos 0)))
