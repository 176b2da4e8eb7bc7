-- Bases: lists of linear forms in which each form is just one sum of the nonbasic ones. Coefficients are known by that equation
-- alone, and not by what some table holds.
-- Source: Dutertre and de Moura, A Fast Linear-Arithmetic Solver for DPLL(T), CAV 2006, section 3 (basic and nonbasic variables).
use Rattle.std.specs.Prelude.{◌≡◌, ℕ, zero, suc, ◌<◌, ◌==◌, Bool, true, false, List, [], ◌∷◌, length, pos, Contains, slice_index_or, ◌↔◌, if◌then◌else◌}
use Rattle.std.specs.List.{AllByRecursion}
use Rattle.nz_fractions.specs.Fraction.{Fraction, whole, ◌=ℚ◌, ◌+ℚ◌, ◌*ℚ◌}
use Rattle.nz_spec.specs.terms.Term.{Term, Assignment}
use Rattle.nz_spec.specs.clauses.Literal.{are_same_term}
use Rattle.nz_spec.specs.terms.Form.{Part, unit_form, unit_value, parts_value}

-- ---- Sums

-- the sum of the first n of these, from the left
abbrev pub sum_of : ℕ → (ℕ → Fraction) → Fraction
sum_of zero f = whole (pos 0)
sum_of (suc n) f = sum_of n f +ℚ f n

-- what the units are worth
abbrev pub Valuation : Type 0
Valuation = Term → Fraction

-- what a form without a constant is worth then
abbrev pub worth : Valuation → List Part → Fraction
worth v [] = whole (pos 0)
worth v (p ∷ ps) = p.coefficient *ℚ v p.unit +ℚ worth v ps

-- ---- Lists of forms

-- the form of a number
abbrev pub form_at : List (List Part) → ℕ → List Part
form_at fs i = slice_index_or fs i []

-- a coefficient for each form, by its number
abbrev pub Coefficients : Type 0
Coefficients = ℕ → Fraction

-- the first n values, with these coefficients, in one sum
abbrev pub weighted : ℕ → Coefficients → (ℕ → Fraction) → Fraction
weighted n c y = sum_of n (λ k. c k *ℚ y k)

-- the forms with these coefficients, in one sum
abbrev pub mix : List (List Part) → Coefficients → Valuation → Fraction
mix fs c v = weighted (length fs) c (λ k. worth v (form_at fs k))

-- Only nonbasic forms have coefficients other than 0.
abbrev pub IsZeroAtBasic : (ℕ → Bool) → Coefficients → Type 0
IsZeroAtBasic nonbasic c = (k : ℕ) → nonbasic k ≡ false → c k =ℚ whole (pos 0)

-- The form of number i is the sum of nonbasic forms with these coefficients, whatever the units are worth.
pub record IsRow (fs : List (List Part)) (nonbasic : ℕ → Bool) (i : ℕ) (c : Coefficients) : Type 0 where
  pub at_basic : IsZeroAtBasic nonbasic c
  pub equal : (v : Valuation) → worth v (form_at fs i) =ℚ mix fs c v

-- the units of a form are forms of the list
abbrev pub HasItsUnits : List (List Part) → List Part → Type 0
HasItsUnits fs f = AllByRecursion (λ (p : Part). Contains fs (unit_form p.unit).parts) f

-- Each unit of a form is one of the forms, and each form is just one sum of nonbasic ones.
pub record IsBasis (fs : List (List Part)) (nonbasic : ℕ → Bool) : Type 0 where
  pub units : (i : ℕ) → HasItsUnits fs (form_at fs i)
  pub listed : (k : ℕ) → nonbasic k ≡ true → k < length fs
  pub some : (i : ℕ) → i < length fs → (c : Coefficients) × IsRow fs nonbasic i c
  pub one : (i : ℕ) (c d : Coefficients) → i < length fs → IsRow fs nonbasic i c → IsRow fs nonbasic i d → (k : ℕ) → c k =ℚ d k

-- the coefficient of the form i at the form j
pub record IsCoefficient (fs : List (List Part)) (nonbasic : ℕ → Bool) (i j : ℕ) (q : Fraction) : Type 0 where
  pub row : Coefficients
  pub is_row : IsRow fs nonbasic i row
  pub at : row j =ℚ q

-- These values of the forms fit the basis: each form's is the sum of the nonbasic ones' with its coefficients.
abbrev pub IsSolution : List (List Part) → (ℕ → Bool) → (ℕ → Fraction) → Type 0
IsSolution fs nonbasic y = (i : ℕ) (c : Coefficients) → i < length fs → IsRow fs nonbasic i c → y i =ℚ weighted (length fs) c y

-- 1 at one form
abbrev pub alone : ℕ → Coefficients
alone i k = if k == i then whole (pos 1) else whole (pos 0)

-- ---- Laws

-- Only the zero coefficients sum to nothing.
abbrev pub AreIndependent : List (List Part) → (ℕ → Bool) → Type 0
AreIndependent fs nonbasic = (c : Coefficients) → IsZeroAtBasic nonbasic c → ((v : Valuation) → mix fs c v =ℚ whole (pos 0)) → (k : ℕ) → c k =ℚ whole (pos 0)

-- Coefficients over a basis are unique: the nonbasic forms are independent, and a form has one coefficient at each. A list in which each form is a sum of
-- independent ones is a basis.
pub record CoefficientsAreUnique : Type 0 where
  pub independent : (fs : List (List Part)) (nonbasic : ℕ → Bool) → IsBasis fs nonbasic → AreIndependent fs nonbasic
  pub one : (fs : List (List Part)) (nonbasic : ℕ → Bool) (i j : ℕ) (p q : Fraction) → IsBasis fs nonbasic → i < length fs
      → IsCoefficient fs nonbasic i j p → IsCoefficient fs nonbasic i j q → p =ℚ q
  pub basis : (fs : List (List Part)) (nonbasic : ℕ → Bool) → ((i : ℕ) → HasItsUnits fs (form_at fs i)) → ((k : ℕ) → nonbasic k ≡ true → k < length fs)
      → ((i : ℕ) → i < length fs → (c : Coefficients) × IsRow fs nonbasic i c) → AreIndependent fs nonbasic → IsBasis fs nonbasic

-- the coefficient of a unit in a form
abbrev pub unit_coefficient : Term → List Part → Fraction
unit_coefficient u [] = whole (pos 0)
unit_coefficient u (p ∷ ps) = if are_same_term p.unit u then p.coefficient +ℚ unit_coefficient u ps else unit_coefficient u ps

-- Forms are worth the same whatever the units are worth just where each unit has the same coefficient in both.
abbrev pub WorthIsByUnits : Type 0
WorthIsByUnits = (ps qs : List Part) → ((v : Valuation) → worth v ps =ℚ worth v qs) ↔ ((u : Term) → unit_coefficient u ps =ℚ unit_coefficient u qs)

-- A nonbasic form is the sum of itself, and that sum over any values is its own value.
pub record NonbasicFormIsItself : Type 0 where
  pub row : (fs : List (List Part)) (nonbasic : ℕ → Bool) (i : ℕ) → IsBasis fs nonbasic → nonbasic i ≡ true → IsRow fs nonbasic i (alone i)
  pub value : (n i : ℕ) (y : ℕ → Fraction) → i < n → weighted n (alone i) y =ℚ y i

-- A form is worth under an assignment what its units are.
abbrev pub ValueIsWorth : Type 0
ValueIsWorth = (a : Assignment) (ps : List Part) → parts_value a ps ≡ worth (unit_value a) ps
