-- Linear forms: units with coefficients, and a number that is added. What a form stands for, and how forms are added and scaled.
-- Sources: SMT-LIB 2.6, logics LIRA and QF_LRA (linear terms); Dutertre and de Moura, A Fast Linear-Arithmetic Solver for
-- DPLL(T), CAV 2006, section 3 (sums of variables with coefficients). The order of the operations is this solver's own.
use Rattle.std.specs.Prelude.{◌≡◌, ℕ, ◌≤◌, nat_lt, false, List, [], ◌∷◌, map, flat_map, All, Contains, Option, Some, None, pos, if◌then◌else◌, ⊤}
use Rattle.std.specs.List.{AllByRecursion}
use Rattle.nz_fractions.specs.Fraction.{Fraction, whole, neg_ℚ, ◌+ℚ◌, ◌*ℚ◌, Arithmetic, Difference}
use Rattle.nz_spec.specs.numbers.Computation.{Computation, operated, at_once, turned_into, and_then}
use Rattle.nz_spec.specs.terms.Term.{Term, Assignment, number_of, value_of, is_zero}
use Rattle.nz_spec.specs.terms.Same.{are_same_term}

-- The units of a form stand in the order of their numbers.
abbrev pub Numbering : Type 0
Numbering = Term → ℕ

-- no two of these terms have one number
abbrev pub TellsApart : Numbering → List Term → Type 0
TellsApart number ts = (t u : Term) → Contains ts t → Contains ts u → number t ≡ number u → t ≡ u

-- a unit, which is a term whose value arithmetic takes as it is, with its coefficient
pub record Part : Type 0 where
  pub coefficient : Fraction
  pub unit : Term

pub record Form : Type 0 where
  pub parts : List Part
  pub offset : Fraction

-- ---- Values

abbrev pub unit_value : Assignment → Term → Fraction
unit_value a u = number_of (value_of a u)

abbrev pub parts_value : Assignment → List Part → Fraction
parts_value a [] = whole (pos 0)
parts_value a (p ∷ ps) = p.coefficient *ℚ unit_value a p.unit +ℚ parts_value a ps

abbrev pub form_value : Assignment → Form → Fraction
form_value a f = parts_value a f.parts +ℚ f.offset

-- ---- What a form is

-- a number alone
abbrev pub constant_form : Fraction → Form
constant_form q = record { parts = []; offset = q }

-- a unit alone
abbrev pub unit_form : Term → Form
unit_form u = record { parts = record { coefficient = whole (pos 1); unit = u } ∷ []; offset = whole (pos 0) }

-- a unit before others; with the coefficient 0 it is left out
abbrev pub with_part : Term → Fraction → List Part → List Part
with_part u c ps = if is_zero c then ps else record { coefficient = c; unit = u } ∷ ps

-- one unit may stand before another: it has no greater number and is another term
abbrev pub MayPrecede : Numbering → Part → Part → Type 0
MayPrecede number p q = (number p.unit ≤ number q.unit) × (are_same_term p.unit q.unit ≡ false)

-- each unit may stand before all that come behind it
abbrev pub AreRising : Numbering → List Part → Type 0
AreRising number [] = ⊤
AreRising number (p ∷ ps) = AllByRecursion (MayPrecede number p) ps × AreRising number ps

-- Each unit stands once, at its place, with a coefficient other than 0.
pub record IsSum (number : Numbering) (f : Form) : Type 0 where
  pub rising : AreRising number f.parts
  pub nonzero : AllByRecursion (λ (p : Part). is_zero p.coefficient ≡ false) f.parts

-- ---- One sum in any order

-- the coefficient of a unit in a sum, where it has one
abbrev pub found : Term → List Part → Option Fraction
found u [] = None
found u (p ∷ ps) = if are_same_term p.unit u then Some p.coefficient else found u ps

-- each unit has the same coefficient in both, or none
abbrev pub AreAlike : List Part → List Part → Type 0
AreAlike ps qs = (u : Term) → found u ps ≡ found u qs

-- no unit stands twice
abbrev pub HaveOwnUnits : List Part → Type 0
HaveOwnUnits [] = ⊤
HaveOwnUnits (p ∷ ps) = AllByRecursion (λ (q : Part). are_same_term p.unit q.unit ≡ false) ps × HaveOwnUnits ps

-- the same parts in two orders, with no unit twice
pub record IsReordered (ps qs : List Part) : Type 0 where
  pub before : HaveOwnUnits ps
  pub after : HaveOwnUnits qs
  pub alike : AreAlike ps qs

-- Two sums are one but for the order of their units.
pub data AreSameSum (ps qs : List Part) : Type 0 where
  as_written : ps ≡ qs → AreSameSum ps qs
  reordered : IsReordered ps qs → AreSameSum ps qs

-- The numbers tell the units of these sums apart, and each sum has its units in the order of their numbers.
pub record IsOrderOf (number : Numbering) (sums : List (List Part)) : Type 0 where
  pub apart : TellsApart number (flat_map (λ (ps : List Part). map (λ (p : Part). p.unit) ps) sums)
  pub rising : All (AreRising number) sums

-- ---- Arithmetic

abbrev pub negated_part : Part → Part
negated_part p = record { coefficient = neg_ℚ p.coefficient; unit = p.unit }

abbrev pub negated_form : Form → Form
negated_form f = record { parts = map negated_part f.parts; offset = neg_ℚ f.offset }

-- a part that is added where there was none of its unit, or subtracted
abbrev pub part_alone : Arithmetic → Part → Part
part_alone Difference p = negated_part p
part_alone op p = p

-- A part is added (Sum) or subtracted (Difference), at its place.
abbrev pub part_joined : Numbering → Arithmetic → List Part → Part → Computation (List Part)
part_joined number op [] q = at_once (part_alone op q ∷ [])
part_joined number op (p ∷ ps) q =
    if are_same_term p.unit q.unit then turned_into (λ c. with_part p.unit c ps) (operated op p.coefficient q.coefficient)
    else if nat_lt (number q.unit) (number p.unit) then at_once (part_alone op q ∷ p ∷ ps)
    else turned_into (λ rs. p ∷ rs) (part_joined number op ps q)

-- one part after another
abbrev pub parts_joined : Numbering → Arithmetic → List Part → List Part → Computation (List Part)
parts_joined number op ps [] = at_once ps
parts_joined number op ps (q ∷ qs) = and_then (part_joined number op ps q) (λ rs. parts_joined number op rs qs)

-- the sum or the difference of two forms: unit by unit, and what is added comes last
abbrev pub joined : Numbering → Arithmetic → Form → Form → Computation Form
joined number op f g =
    and_then (parts_joined number op f.parts g.parts)
    (λ ps. turned_into (λ c. record { parts = ps; offset = c }) (operated op f.offset g.offset))

-- one form after another
abbrev pub all_joined : Numbering → Arithmetic → Form → List Form → Computation Form
all_joined number op f [] = at_once f
all_joined number op f (g ∷ gs) = and_then (joined number op f g) (λ h. all_joined number op h gs)

-- each coefficient, and last what is added, is multiplied in this way
abbrev pub parts_scaled : (Fraction → Computation Fraction) → List Part → Computation (List Part)
parts_scaled times [] = at_once []
parts_scaled times (p ∷ ps) = and_then (times p.coefficient) (λ c. turned_into (with_part p.unit c) (parts_scaled times ps))

abbrev pub scaled : (Fraction → Computation Fraction) → Form → Computation Form
scaled times f =
    and_then (parts_scaled times f.parts)
    (λ ps. turned_into (λ c. record { parts = ps; offset = c }) (times f.offset))
