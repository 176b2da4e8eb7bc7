-- Atoms: what a check may name, and what it may branch on.
-- Sources: Dutertre and de Moura, A Fast Linear-Arithmetic Solver for DPLL(T), CAV 2006, sections 2 and 4 (atoms are bounds); Land and Doig, An
-- Automatic Method of Solving Discrete Programming Problems, 1960 (branches); Gomory, Outline of an algorithm for integer solutions to linear programs,
-- 1958 (cuts).
use Rattle.std.specs.Prelude.{◌≡◌, ℕ, suc, ◌<◌, Bool, true, false, ◌⊎◌, List, [], ◌∷◌, ◌++◌, length, flat_map, All, Contains, Some, IsTrue, slice_get, ℤ, pos, ◌+ℤ◌}
use Rattle.std.specs.List.{list_all}
use Rattle.nz_fractions.specs.Fraction.{Fraction, whole, ◌=ℚ◌, floor, neg_ℚ, ◌*ℚ◌, ◌-ℚ◌}
use Rattle.nz_spec.specs.numbers.Infinitesimal.{Infinitesimal}
use Rattle.nz_spec.specs.numbers.Computation.{Computation}
use Rattle.nz_spec.specs.terms.Term.{Term, apply, at_most, terms, no_terms}
use Rattle.nz_spec.specs.terms.Order.{listing_order}
use Rattle.nz_spec.specs.terms.Form.{Numbering, Part, IsOrderOf}
use Rattle.nz_spec.specs.clauses.Literal.{Literal, term_literal, is_at_most, negation_of, SayTheSame, Clause}
use Rattle.nz_spec.specs.clauses.LinearLiteral.{parts_of, are_integral, common_divisor, is_without_units, tight_form}
use Rattle.nz_spec.specs.clauses.Gates.{is_boolean_term}
use Rattle.nz_spec.specs.clauses.Links.{link_clauses, at_most_literal}
use Rattle.nz_spec.specs.clauses.Units.{unit_clauses}
use Rattle.nz_spec.specs.clauses.Farkas.{Multiple, Bound, sums_of, sum_of_multiples, is_multiple, is_linear_literal, bound_of}
use Rattle.nz_spec.specs.clauses.Cuts.{rounded_limit}
use Rattle.nz_spec.specs.simplex.Basis.{Coefficients, IsRow}
use Rattle.nz_spec.specs.simplex.Bland.{Point, Position, is_nonbasic, ◌<δ◌, standing, at_most_bound, IsWithinBounds}
use Rattle.nz_spec.specs.simplex.Climb.{linear_literals}
use Rattle.nz_spec.specs.search.Branches.{Branch, branch_at, is_plain}
use Rattle.nz_spec.specs.search.Search.{Task, Search, signed_literal, tight_if, told_literals, position_of, HasWorth}

-- ---- Literals of the tables

-- A linear literal of a row that the link table or the unit table has for one of these terms, or its negation.
pub record IsTabled (number : Numbering) (ts : List Term) (l : Literal) : Type 0 where
  pub term : Term
  pub listed : Contains ts term
  pub row : Computation Clause
  pub tabled : Contains (link_clauses number term ++ unit_clauses number term) row
  pub linear : IsTrue (is_linear_literal l)
  pub has : Contains row.result l ⊎ Contains row.result (negation_of l)

-- such a literal, with its units in any order, as it is or in its tight form
pub record IsBoundOf (number : Numbering) (ts : List Term) (l : Literal) : Type 0 where
  pub plain : Literal
  pub tabled : IsTabled number ts plain
  pub written : Literal
  pub same : SayTheSame written plain
  pub is_tight : Bool
  pub is : l ≡ tight_if is_tight written

-- That a Boolean one of these terms is true.
pub record IsTruth (ts : List Term) (l : Literal) : Type 0 where
  pub term : Term
  pub boolean : is_boolean_term term ≡ true
  pub listed : Contains ts term
  pub is : l ≡ term_literal term true

-- ---- Bounds at a position

-- A linear literal bounds its sum from above, and the sum is worth more at this position.
pub record IsBroken (p : Position) (l : Literal) : Type 0 where
  pub value : Infinitesimal
  pub has : HasWorth p (parts_of l) value
  pub outside : at_most_bound (bound_of l).is_strict (bound_of l).limit <δ value

-- The sum of a branch lies between its two integers.
pub record LiesBetween (p : Position) (b : Branch) : Type 0 where
  pub value : Infinitesimal
  pub has : HasWorth p b.parts value
  pub above : standing (whole b.above) <δ value
  pub below : value <δ standing (whole (b.above +ℤ pos 1))

-- ---- Cuts

abbrev pub fractional_part : Fraction → Fraction
fractional_part q = q -ℚ whole (floor q)

-- 1, a coefficient of a row, its negation, or the fractional part of one of these
pub data IsOfRow (n : ℕ) (row : Coefficients) (m : Fraction) : Type 0 where
  is_one : m =ℚ whole (pos 1) → IsOfRow n row m
  is_coefficient : (k : ℕ) → k < n → m =ℚ row k → IsOfRow n row m
  is_negation : (k : ℕ) → k < n → m =ℚ neg_ℚ (row k) → IsOfRow n row m
  is_part : (k : ℕ) → k < n → m =ℚ fractional_part (row k) → IsOfRow n row m
  is_part_of_negation : (k : ℕ) → k < n → m =ℚ fractional_part (neg_ℚ (row k)) → IsOfRow n row m

-- The multipliers come from one row of the basis. All are times one factor: 1, or what makes the coefficients of the sum integers without a common divisor.
pub record AreOfRow (p : Position) (ms : List Multiple) (sum : List Part) : Type 0 where
  pub form : ℕ
  pub listed : form < length p.forms
  pub row : Coefficients
  pub is_row : IsRow p.forms (is_nonbasic p.point) form row
  pub factor : Fraction
  pub each : All (λ (m : Multiple). (c : Fraction) × IsOfRow (length p.forms) row c × (m.multiplier =ℚ c *ℚ factor)) ms
  pub scaled : (factor ≡ whole (pos 1)) ⊎ (IsTrue (are_integral sum) × (common_divisor sum ≡ 1))

-- The literal is what a cut says of literals that were told, whose sums are in one order.
pub record IsCut (s : Search) (x : Point) (l : Literal) : Type 0 where
  pub multiples : List Multiple
  pub multiplied : IsTrue (list_all is_multiple multiples)
  pub told : All (λ (m : Multiple). Contains (told_literals s) m.literal) multiples
  pub numbering : Numbering
  pub ordered : IsOrderOf numbering (sums_of multiples)
  pub sum : Bound
  pub sums : (sum_of_multiples numbering multiples).result ≡ sum
  pub integral : IsTrue (are_integral sum.parts)
  pub says : l ≡ is_at_most sum.parts (rounded_limit sum).result
  pub multipliers : AreOfRow (position_of s x) multiples sum.parts

-- ---- Branches

-- A branch is plain, or one of a cut behind none or a plain one.
pub data IsInTurn (q : Task) (s : Search) (x : Point) (l : Literal) (b : Branch) : Type 0 where
  on_unit : is_plain q.listed b.parts ≡ true → IsInTurn q s x l b
  on_cut : is_plain q.listed b.parts ≡ false → IsCut s x l
      → ((i : ℕ) (c : Branch) → suc i ≡ length s.branches → slice_get s.branches i ≡ Some c → is_plain q.listed c.parts ≡ true)
      → IsInTurn q s x l b

-- the bound that an asserted `(<= a b)` is
abbrev pub bounds_asserted : Numbering → Term → List Literal
bounds_asserted number (apply at_most (terms a (terms b no_terms))) = (at_most_literal number a b).result ∷ []
bounds_asserted number t = []

-- The bound is on a sum that has a unit.
abbrev pub HasUnit : Literal → Type 0
HasUnit l = is_without_units (parts_of l) ≡ false

-- It was told, with its units in any order, with one of its signs, as it is or in its tight form.
abbrev pub WasTold : Search → Literal → Type 0
WasTold s l = (m : Literal) × SayTheSame m l × (sign is_tight : Bool) × Contains (told_literals s) (tight_if is_tight (signed_literal m sign))

-- A search may branch on a literal where its sum lies between two integers, and no sum that was branched on lies so. All bounds of what is asserted were
-- told, and no bound is broken.
pub record MayBranch (q : Task) (s : Search) (x : Point) (l : Literal) : Type 0 where
  pub parts : List Part
  pub above : ℤ
  pub is : l ≡ is_at_most parts (whole above)
  pub between : LiesBetween (position_of s x) (branch_at parts above)
  pub turn : IsInTurn q s x l (branch_at parts above)
  pub new : All (λ (b : Branch). LiesBetween (position_of s x) b → ⊥) s.branches
  pub within : IsWithinBounds (position_of s x)
  pub meets : All (λ (m : Literal). HasUnit m → IsBroken (position_of s x) m → ⊥) (flat_map (bounds_asserted q.numbering) q.asserted)
  pub all_told : All (λ (m : Literal). HasUnit m → WasTold s m) (linear_literals q.numbering (flat_map listing_order q.asserted))

-- what a literal branches on, and its other side
abbrev pub branch_by : Literal → Branch
branch_by l = branch_at (parts_of l) (floor (bound_of l).limit)

abbrev pub other_side_of : Literal → Literal
other_side_of l = (tight_form (negation_of l)).result

-- ---- Atoms

-- What an atom is: that a Boolean term of those listed is true; a bound of their tables, as it is or tight; a literal under which the search goes; or a
-- side of a branch.
pub data IsAtom (q : Task) (s : Search) (x : Point) (l : Literal) : Type 0 where
  of_term : IsTruth q.listed l → IsAtom q s x l
  of_table : IsBoundOf q.numbering q.listed l → IsAtom q s x l
  of_beginning : Contains s.under l → IsAtom q s x l
  of_split : MayBranch q s x l → IsAtom q s x l
  of_branch : (m : Literal) → Contains s.atoms m → Contains s.branches (branch_by m) → l ≡ other_side_of m → IsAtom q s x l

-- It is named once, negated or not, and in one order of its units.
pub record MayName (q : Task) (s : Search) (x : Point) (l : Literal) : Type 0 where
  pub atom : IsAtom q s x l
  pub fresh : All (λ (m : Literal). SayTheSame m l → ⊥) s.atoms
  pub negation_fresh : All (λ (m : Literal). SayTheSame m (negation_of l) → ⊥) s.atoms

-- The last atom that was named is one to branch on.
pub record MayBranchOn (q : Task) (s : Search) (x : Point) (atom : ℕ) : Type 0 where
  pub last : suc atom ≡ length s.atoms
  pub may : (l : Literal) → slice_get s.atoms atom ≡ Some l → MayBranch q s x l
