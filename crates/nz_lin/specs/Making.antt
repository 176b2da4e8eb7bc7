-- How the form of a term is made of those of its arguments.
use Rattle.std.specs.Prelude.{◌≡◌, ℕ, List, [], ◌∷◌, map, reverse, All, Option, Some, None, IsSome, is_some, slice_get, unwrap_or, pos, if◌then◌else◌}
use Rattle.nz_fractions.specs.Fraction.{Fraction, whole, Arithmetic, Sum, Difference, Product}
use Rattle.nz_spec.specs.numbers.Computation.{Computation, operated, at_once, and_then}
use Rattle.nz_spec.specs.terms.Form as spec
use Rattle.nz_spec.specs.terms.FormOf.{constants_product, open_form, divided_by_each}
use Rattle.nz_spec.specs.terms.Linear.{constant_value}
use Rattle.nz_spec.specs.terms.Table.{Node, term_in}
use Rattle.nz_spec.specs.terms.Term as term
use Rattle.nz_spec.specs.terms.Term.{Head, Term, apply}
use Rattle.nz_lin.specs.declared.linear.Opening.{Opening}
use Rattle.nz_lin.specs.declared.linear.Opening.TheVariants.{Sum as Adds, Difference as Subtracts, Product as Multiplies, Quotient as Divides, ToReal}
use Rattle.nz_lin.specs.declared.linear.Step.{Step}
use Rattle.nz_lin.specs.declared.linear.Step.TheVariants.{Enter, Leave}
use Rattle.nz_lin.specs.Forms.{Numbered, IsFormOf, AreUnits, form_over}

-- ---- Terms that are opened

abbrev pub opening_of : Head → Option Opening
opening_of (term.sum s) = Some Adds
opening_of (term.difference s) = Some Subtracts
opening_of (term.product s) = Some Multiplies
opening_of term.quotient = Some Divides
opening_of term.to_real = Some ToReal
opening_of h = None

-- how arithmetic opens a term, where it isn't constant
abbrev pub opening_in : Term → Option Opening
opening_in (apply h ts) = if is_some (constant_value (apply h ts)) then None else opening_of h

-- ---- Forms that are made

-- by the numbers of terms
abbrev pub Made : Type 0
Made = ℕ → Option Numbered

abbrev pub made_form : Made → ℕ → Numbered
made_form made id = unwrap_or (made id) (record { parts = []; offset = whole (pos 0) })

-- the form of each of these terms
abbrev pub made_forms : List Node → Made → List ℕ → List spec.Form
made_forms ns made ids = map (λ id. form_over ns (made_form made id)) ids

abbrev pub HaveForms : Made → List ℕ → Type 0
HaveForms made ids = All (λ id. IsSome (made id)) ids

abbrev pub HaveUnits : List Node → Made → List ℕ → Type 0
HaveUnits ns made ids = All (λ id. AreUnits ns (made_form made id).parts) ids

-- each form that is made is that of its term
abbrev pub AreMade : List Node → Made → Type 0
AreMade ns made = (id : ℕ) (f : Numbered) → made id ≡ Some f → IsFormOf ns id f

-- the arguments of a term, as far as arithmetic opens it
abbrev pub opened_kids : List Node → ℕ → List ℕ
opened_kids ns id = if is_some (opening_in (term_in ns id)) then elim (slice_get ns id) [ Some n ↦ n.kids | None ↦ [] ] else []

-- ---- Steps

-- to enter each of these, the first one next
abbrev pub entries : List ℕ → List Step
entries ids = map Enter (reverse ids)

-- what is left to do of a term
abbrev pub steps_of : List Node → ℕ → List Step
steps_of ns id = Leave id ∷ entries (opened_kids ns id)

-- ---- Operators over forms

-- the constants among terms, where they are constant
abbrev pub constants_at : List Node → List ℕ → List (Option Fraction)
constants_at ns ids = map (λ id. constant_value (term_in ns id)) ids

-- a sum or a difference of forms, from the left
abbrev pub joined_forms : spec.Numbering → Arithmetic → List spec.Form → Computation spec.Form
joined_forms number op [] = at_once (spec.constant_form (whole (pos 0)))
joined_forms number op (f ∷ fs) = spec.all_joined number op f fs

abbrev pub difference_of : spec.Numbering → List spec.Form → Computation spec.Form
difference_of number (f ∷ []) = at_once (spec.negated_form f)
difference_of number fs = joined_forms number Difference fs

-- a product, where there is one, with one factor more
abbrev pub factor_onto : Option Fraction → Fraction → Computation Fraction
factor_onto None c = at_once c
factor_onto (Some p) c = operated Product p c

abbrev pub product_of : List (Option Fraction) → List spec.Form → Computation spec.Form
product_of cs fs = and_then (constants_product cs) (λ p. spec.scaled (λ c. operated Product p c) (open_form cs fs))

abbrev pub quotient_of : List (Option Fraction) → List spec.Form → Computation spec.Form
quotient_of (c ∷ cs) (f ∷ fs) = divided_by_each f cs
quotient_of cs fs = at_once (spec.constant_form (whole (pos 1)))

abbrev pub real_of : List spec.Form → spec.Form → Computation spec.Form
real_of (f ∷ []) unit = at_once f
real_of fs unit = at_once unit

-- a term that is opened so
abbrev pub opened_by : spec.Numbering → Opening → List (Option Fraction) → List spec.Form → spec.Form → Computation spec.Form
opened_by number Adds cs fs unit = joined_forms number Sum fs
opened_by number Subtracts cs fs unit = difference_of number fs
opened_by number Multiplies cs fs unit = product_of cs fs
opened_by number Divides cs fs unit = quotient_of cs fs
opened_by number ToReal cs fs unit = real_of fs unit
