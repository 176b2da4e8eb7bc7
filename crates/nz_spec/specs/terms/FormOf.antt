-- The form of a normal linear term, and the operations that it takes: those of the arguments, from the left, and then its own.
-- Sources: SMT-LIB 2.6, theory Reals_Ints (+, -, *, / and to_real); which terms are units, and the order of the operations, is
-- this solver's own.
use Rattle.std.specs.Prelude.{◌≡◌, Contains, ℕ, suc, ◌<◌, Bool, true, false, not, ◌&&◌, IsTrue, List, [], ◌∷◌, length, fold, Option, Some, None, is_some, pos, if◌then◌else◌}
use Rattle.std.specs.List.{AllByRecursion}
use Rattle.nz_fractions.specs.Fraction.{Fraction, whole, ◌=ℚ◌, Sum, Difference, Product, Quotient, Operation, first_wide}
use Rattle.nz_spec.specs.numbers.Computation.{Computation, operated, at_once, turned_into, and_then}
use Rattle.nz_spec.specs.terms.Term.{Head, sum, difference, product, quotient, to_real, Term, apply, Terms, no_terms, terms, Assignment}
use Rattle.nz_spec.specs.terms.Linear.{head_constant, constant_values, is_linear}
use Rattle.nz_spec.specs.terms.Same.{are_same_term}
use Rattle.nz_spec.specs.terms.Order.{post_order}
use Rattle.nz_spec.specs.terms.Table.{Node, IsTable, with_term, term_in}
use Rattle.nz_spec.specs.terms.Form.{Numbering, TellsApart, Part, Form, constant_form, unit_form, negated_form, all_joined, scaled, unit_value, form_value, IsSum}

-- Arithmetic opens these terms where they aren't constant. Any other term of sort Int or Real is a unit.
abbrev pub is_opened : Head → Bool
is_opened (sum s) = true
is_opened (difference s) = true
is_opened (product s) = true
is_opened quotient = true
is_opened to_real = true
is_opened h = false

-- Arithmetic takes the term's value as it is: it isn't constant, and its operator isn't opened.
abbrev pub is_taken_whole : Term → Bool
is_taken_whole (apply h ts) = not (is_some (head_constant h (constant_values ts))) && not (is_opened h)

-- ---- Products and quotients

-- a number times the constants among these, from the left
abbrev pub product_onto : Fraction → List (Option Fraction) → Computation Fraction
product_onto c [] = at_once c
product_onto c (None ∷ ds) = product_onto c ds
product_onto c (Some d ∷ ds) = and_then (operated Product c d) (λ e. product_onto e ds)

-- the product of the constants among these
abbrev pub constants_product : List (Option Fraction) → Computation Fraction
constants_product [] = at_once (whole (pos 1))
constants_product (None ∷ cs) = constants_product cs
constants_product (Some c ∷ cs) = product_onto c cs

-- the form of the argument that isn't constant, or the constant 1
abbrev pub open_form : List (Option Fraction) → List Form → Form
open_form (None ∷ cs) (f ∷ fs) = f
open_form (Some c ∷ cs) (f ∷ fs) = open_form cs fs
open_form cs fs = constant_form (whole (pos 1))

-- a form times 1/k
abbrev pub divided_by : Fraction → Form → Computation Form
divided_by k f = and_then (operated Quotient (whole (pos 1)) k) (λ r. scaled (λ c. operated Product c r) f)

-- by one constant after another
abbrev pub divided_by_each : Form → List (Option Fraction) → Computation Form
divided_by_each f [] = at_once f
divided_by_each f (None ∷ ks) = divided_by_each f ks
divided_by_each f (Some k ∷ ks) = and_then (divided_by k f) (λ g. divided_by_each g ks)

-- ---- The form of a term

-- an operator over arguments with these forms, some of which are constant; `unit` stands for the term itself
abbrev pub head_form : Numbering → Head → List (Option Fraction) → List Form → Form → Computation Form
head_form number (sum s) cs [] unit = at_once (constant_form (whole (pos 0)))
head_form number (sum s) cs (f ∷ fs) unit = all_joined number Sum f fs
head_form number (difference s) cs [] unit = at_once (constant_form (whole (pos 0)))
head_form number (difference s) cs (f ∷ []) unit = at_once (negated_form f)
head_form number (difference s) cs (f ∷ g ∷ gs) unit = all_joined number Difference f (g ∷ gs)
head_form number (product s) cs fs unit =
    and_then (constants_product cs) (λ p. scaled (λ c. operated Product p c) (open_form cs fs))
head_form number quotient (c ∷ cs) (f ∷ fs) unit = divided_by_each f cs
head_form number quotient cs fs unit = at_once (constant_form (whole (pos 1)))
head_form number to_real cs (f ∷ []) unit = at_once f
head_form number h cs fs unit = at_once unit

-- A constant term is its number: none of its operations leaves the numbers.
abbrev mutual
  pub form_of : Numbering → Term → Computation Form
  form_of number (apply h ts) =
      elim (head_constant h (constant_values ts)) [
        | Some q ↦ at_once (constant_form q)
        | None ↦
            if is_opened h then and_then (forms_of number ts) (λ fs. head_form number h (constant_values ts) fs (unit_form (apply h ts)))
            else at_once (unit_form (apply h ts))
      ]

  pub forms_of : Numbering → Terms → Computation (List Form)
  forms_of number no_terms = at_once []
  forms_of number (terms t ts) = and_then (form_of number t) (λ f. turned_into (λ fs. f ∷ fs) (forms_of number ts))

-- the first operation that leaves the numbers
abbrev pub first_wide_in_form : Numbering → Term → Option Operation
first_wide_in_form number t = first_wide (form_of number t).operations

-- ---- Numbers by a table

-- the place of a term in a list, or behind it
abbrev pub place_of : List Term → Term → ℕ
place_of [] t = 0
place_of (u ∷ us) t = if are_same_term u t then 0 else suc (place_of us t)

-- the number of a term in a table
unfoldable pub number_in : List Node → Numbering
number_in ns t = place_of (fold with_term [] ns) t

-- ---- Laws

-- The form of a linear term has the value of the term, under each assignment.
abbrev pub FormHasValue : Type 0
FormHasValue = (number : Numbering) (a : Assignment) (t : Term) → IsTrue (is_linear t) → form_value a (form_of number t).result =ℚ unit_value a t

-- The form of a term is a sum in which each unit stands once, at its place, with a coefficient other than 0.
abbrev pub FormsAreSums : Type 0
FormsAreSums = (number : Numbering) (t : Term) → IsSum number (form_of number t).result

-- The number of a term in a table is the one by which it is found there.
abbrev pub TermHasItsNumber : Type 0
TermHasItsNumber = (ns : List Node) → IsTable ns → (i : ℕ) → i < length ns → number_in ns (term_in ns i) ≡ i

-- The units of a term's form are among what the term is made of.
abbrev pub UnitsAreParts : Type 0
UnitsAreParts = (number : Numbering) (t : Term) → AllByRecursion (λ (p : Part). Contains (post_order t) p.unit) (form_of number t).result.parts

-- Places in a list tell apart what it has.
abbrev pub PlacesTellApart : Type 0
PlacesTellApart = (us : List Term) → TellsApart (place_of us) us
