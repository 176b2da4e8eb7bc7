-- How a basis changes: a basic and a nonbasic form are exchanged, and forms join. The coefficients that come of it, and the
-- operations that they take.
-- Source: Dutertre and de Moura, A Fast Linear-Arithmetic Solver for DPLL(T), CAV 2006, section 3 (pivoting). The order of the
-- operations is this solver's own.
use Rattle.std.specs.Prelude.{◌≡◌, ℕ, zero, suc, ◌<◌, ◌==◌, Bool, true, false, not, ◌&&◌, List, [], ◌∷◌, ◌++◌, length, map, flat_map, pos, Contains, ◌↔◌, if◌then◌else◌}
use Rattle.std.specs.List.{AllByRecursion}
use Rattle.nz_fractions.specs.Fraction.{Fraction, whole, ◌=ℚ◌, neg_ℚ, Sum, Product, Quotient, outcome, Operation}
use Rattle.nz_spec.specs.numbers.Computation.{Computation, at_once, and_then}
use Rattle.nz_spec.specs.terms.Term.{Term, Assignment, is_zero}
use Rattle.nz_spec.specs.terms.Form.{Part, unit_form, parts_value}
use Rattle.nz_spec.specs.simplex.Basis.{Valuation, worth, form_at, Coefficients, IsRow, HasItsUnits, IsBasis, IsCoefficient, IsSolution}

-- ---- Numbers and rows

-- the numbers below n that pass a test, in order
abbrev pub numbers : ℕ → (ℕ → Bool) → List ℕ
numbers zero test = []
numbers (suc n) test = if test n then numbers n test ++ n ∷ [] else numbers n test

-- coefficients for each basic form, by its number
abbrev pub Rows : Type 0
Rows = ℕ → Coefficients

abbrev pub AreRows : List (List Part) → (ℕ → Bool) → Rows → Type 0
AreRows fs nonbasic rows = (r : ℕ) → r < length fs → nonbasic r ≡ false → IsRow fs nonbasic r (rows r)

-- coefficients and a multiple of others: at each of the numbers a product, and then the sum with it
abbrev pub plus_multiple : List ℕ → Coefficients → Fraction → Coefficients → Computation Coefficients
plus_multiple ks c s d = record {
  result = λ k. outcome Sum (c k) (outcome Product s (d k));
  operations =
      flat_map
      (λ k.
      record { operator = Product; left = s; right = d k }
      ∷ record { operator = Sum; left = c k; right = outcome Product s (d k) }
      ∷ [])
      ks;
}

-- ---- Exchanges

-- the nonbasic forms after an exchange of the basic form i and the nonbasic j
abbrev pub exchanged : (ℕ → Bool) → ℕ → ℕ → ℕ → Bool
exchanged nonbasic i j k = if k == i then true else if k == j then false else nonbasic k

-- i may be exchanged with j: it is basic, j is nonbasic, and its coefficient there isn't 0
pub record MayExchange (fs : List (List Part)) (nonbasic : ℕ → Bool) (i j : ℕ) : Type 0 where
  pub listed : i < length fs
  pub leaves : nonbasic i ≡ false
  pub enters : nonbasic j ≡ true
  pub coefficient : Fraction
  pub at : IsCoefficient fs nonbasic i j coefficient
  pub nonzero : is_zero coefficient ≡ false

-- The equation i = a_j*j + .. + a_k*k + .. is solved for j: 1/a_j at i, and -(a_k/a_j) at each other k. To negate
-- never leaves the numbers.
abbrev pub solved : List ℕ → ℕ → ℕ → Coefficients → Computation Coefficients
solved ks i j a = record {
  result = λ k.
      if k == i then outcome Quotient (whole (pos 1)) (a j)
      else if k == j then whole (pos 0)
      else neg_ℚ (outcome Quotient (a k) (a j));
  operations =
      record { operator = Quotient; left = whole (pos 1); right = a j }
      ∷ map (λ k. let x : Operation = record { operator = Quotient; left = a k; right = a j } in x) ks;
}

-- Where a row has a coefficient at j, what j was solved to stands in place of it; at i, which is new there, 0 stood before.
abbrev pub replaced : List ℕ → ℕ → Coefficients → Coefficients → Computation Coefficients
replaced ks j q c =
    if is_zero (c j) then at_once c
    else plus_multiple ks (λ k. if k == j then whole (pos 0) else c k) (c j) q

-- First i is solved for j, over the other nonbasic forms, and then each other row follows. All go by rising numbers.
abbrev pub exchange : ℕ → (ℕ → Bool) → Rows → ℕ → ℕ → Computation Rows
exchange n nonbasic rows i j =
    and_then (solved (numbers n (λ k. nonbasic k && not (k == j))) i j (rows i))
    (λ q. record {
      result = λ r. if r == j then q else (replaced (numbers n (exchanged nonbasic i j)) j q (rows r)).result;
      operations =
          flat_map
          (λ r. (replaced (numbers n (exchanged nonbasic i j)) j q (rows r)).operations)
          (numbers n (λ r. not (nonbasic r) && not (r == i)));
    })

-- ---- Forms that join

-- the nonbasic forms when that of number n has joined them
abbrev pub with_nonbasic : (ℕ → Bool) → ℕ → ℕ → Bool
with_nonbasic nonbasic n k = if k == n then true else nonbasic k

-- each unit of a form has its number in the list
abbrev pub AreNumbered : List (List Part) → (Term → ℕ) → List Part → Type 0
AreNumbered fs number f =
    AllByRecursion (λ (p : Part). (number p.unit < length fs) × (form_at fs (number p.unit) ≡ (unit_form p.unit).parts)) f

-- A unit is added with its coefficient: a nonbasic one at its number, a basic one by its row.
abbrev pub part_added : List ℕ → (ℕ → Bool) → Rows → (Term → ℕ) → Coefficients → Part → Computation Coefficients
part_added ks nonbasic rows number c p =
    if nonbasic (number p.unit) then record {
      result = λ k. if k == number p.unit then outcome Sum (c k) p.coefficient else c k;
      operations = record { operator = Sum; left = c (number p.unit); right = p.coefficient } ∷ [];
    }
    else plus_multiple ks c p.coefficient (rows (number p.unit))

-- one unit of a form after another
abbrev pub parts_added : List ℕ → (ℕ → Bool) → Rows → (Term → ℕ) → Coefficients → List Part → Computation Coefficients
parts_added ks nonbasic rows number c [] = at_once c
parts_added ks nonbasic rows number c (p ∷ ps) =
    and_then (part_added ks nonbasic rows number c p) (λ d. parts_added ks nonbasic rows number d ps)

-- the row of a form that joins n others
abbrev pub joining_row : ℕ → (ℕ → Bool) → Rows → (Term → ℕ) → List Part → Computation Coefficients
joining_row n nonbasic rows number f = parts_added (numbers n nonbasic) nonbasic rows number (λ k. whole (pos 0)) f

-- ---- Laws

-- An exchange leaves a basis, and its rows are those that are computed.
pub record ExchangeKeepsBasis : Type 0 where
  pub basis : (fs : List (List Part)) (nonbasic : ℕ → Bool) (i j : ℕ) → IsBasis fs nonbasic → MayExchange fs nonbasic i j → IsBasis fs (exchanged nonbasic i j)
  pub rows : (fs : List (List Part)) (nonbasic : ℕ → Bool) (rows : Rows) (i j : ℕ) → IsBasis fs nonbasic → MayExchange fs nonbasic i j → AreRows fs nonbasic rows
      → AreRows fs (exchanged nonbasic i j) (exchange (length fs) nonbasic rows i j).result

-- The values of the forms under an assignment fit every basis, and an exchange leaves the same solutions.
pub record SolutionsStay : Type 0 where
  pub worth : (fs : List (List Part)) (nonbasic : ℕ → Bool) (v : Valuation) → IsSolution fs nonbasic (λ k. worth v (form_at fs k))
  pub values : (fs : List (List Part)) (nonbasic : ℕ → Bool) (a : Assignment) → IsSolution fs nonbasic (λ k. parts_value a (form_at fs k))
  pub exchange : (fs : List (List Part)) (nonbasic : ℕ → Bool) (i j : ℕ) → IsBasis fs nonbasic → MayExchange fs nonbasic i j
      → (y : ℕ → Fraction) → IsSolution fs nonbasic y ↔ IsSolution fs (exchanged nonbasic i j) y

-- Values that fit a basis are those of the forms where each unit is worth what the form of its number has.
abbrev pub SolutionsAreWorth : Type 0
SolutionsAreWorth = (fs : List (List Part)) (nonbasic : ℕ → Bool) (number : Term → ℕ) (y : ℕ → Fraction) (k : ℕ) → IsBasis fs nonbasic → IsSolution fs nonbasic y
    → k < length fs → AreNumbered fs number (form_at fs k) → worth (λ u. y (number u)) (form_at fs k) =ℚ y k

-- The empty list is a basis. A new unit joins as nonbasic, and a form over units of the list as basic, with the row that is computed; the rows that were there stay.
pub record JoinsKeepBasis : Type 0 where
  pub empty : IsBasis [] (λ k. false)
  pub unit : (fs : List (List Part)) (nonbasic : ℕ → Bool) (u : Term) → IsBasis fs nonbasic → (Contains fs (unit_form u).parts → ⊥)
      → IsBasis (fs ++ (unit_form u).parts ∷ []) (with_nonbasic nonbasic (length fs))
  pub form : (fs : List (List Part)) (nonbasic : ℕ → Bool) (f : List Part) → IsBasis fs nonbasic → HasItsUnits fs f → IsBasis (fs ++ f ∷ []) nonbasic
  pub stays_by_unit : (fs : List (List Part)) (nonbasic : ℕ → Bool) (u : Term) (i : ℕ) (c : Coefficients) → IsBasis fs nonbasic → i < length fs → IsRow fs nonbasic i c
      → IsRow (fs ++ (unit_form u).parts ∷ []) (with_nonbasic nonbasic (length fs)) i c
  pub stays_by_form : (fs : List (List Part)) (nonbasic : ℕ → Bool) (f : List Part) (i : ℕ) (c : Coefficients) → IsBasis fs nonbasic → i < length fs → IsRow fs nonbasic i c
      → IsRow (fs ++ f ∷ []) nonbasic i c
  pub row : (fs : List (List Part)) (nonbasic : ℕ → Bool) (rows : Rows) (number : Term → ℕ) (f : List Part) → IsBasis fs nonbasic → AreRows fs nonbasic rows → AreNumbered fs number f
      → IsRow (fs ++ f ∷ []) nonbasic (length fs) (joining_row (length fs) nonbasic rows number f).result
