-- Bounds over integers: which they are, and how they are rounded.
use Rattle.std.proofs.Common.{◌≡◌, Bool, true, false, not, eqb, ◌&&◌, List, [], ◌∷◌, length, Result, Ok, Err, refl, sym, ap₂, subst, if◌then◌else◌}
use Rattle.std.specs.List.{AllByRecursion, list_all}
use Rattle.std.proofs.Math.Bool.{and-true, and-false}
use Rattle.nz_spec.specs.numbers.Computation.{Computation, at_once, turned_into, operated, IsSame}
use Rattle.nz_spec.specs.clauses.Cuts.{rounded_limit}
use Rattle.nz_spec.specs.clauses.Farkas as farkas
use Rattle.nz_spec.specs.terms.Form as spec
use Rattle.nz_spec.specs.terms.Form.{parts_scaled}
use Rattle.nz_fractions.specs.Fraction.{Fraction, Product, floor, whole}
use Rattle.nz_spec.specs.clauses.LinearLiteral.{are_integral, greatest_below, is_whole, is_without_units, rounded, tight_form, tight_multiplier}
use Rattle.nz_spec.specs.clauses.Literal.{Literal, is_at_most, is_below}
use Rattle.nz_spec.specs.terms.Table.{Node}
use Rattle.nz_spec.specs.terms.Term as term
use Rattle.nz_spec.specs.terms.Term.{are_same_sort, int_sort}
use Rattle.nz_term.specs.Constants as sorts
use Rattle.nz_term.specs.declared.heads.Sort.{Sort}
use Rattle.nz_term.specs.declared.heads.Sort.TheVariants.{Int, Real, Bool as Truth}
use Rattle.nz_lin.specs.declared.bound.Bound.{Bound}
use Rattle.nz_term.specs.declared.stops.ArithmeticStop.{ArithmeticStop}
use Rattle.nz_lin.specs.declared.form.Part.{Part}
use Rattle.nz_lin.specs.Bounds.{IsLiteral, bounded, is_integral, is_integral_of, rounded_bound}
use Rattle.nz_lin.specs.Forms.{NamesUnit, parts_over}
use Rattle.nz_lin.proofs.BoundSides.{regrouped, without_units}
use Rattle.nz_lin.proofs.ComputationSequences.{same_done, same_stop}

-- ---- Which bounds are over integers

integral_by : (s : Sort) (c : Fraction) (t : term.Sort) → sorts.sort_of s ≡ t → is_integral_of s c ≡ (is_whole c && are_same_sort t int_sort)
integral_by Int c t e = subst (λ (u : term.Sort). is_whole c ≡ (is_whole c && are_same_sort u int_sort)) e (sym (and-true (is_whole c)))
integral_by Real c t e = subst (λ (u : term.Sort). false ≡ (is_whole c && are_same_sort u int_sort)) e (sym (and-false (is_whole c)))
integral_by Truth c t e = subst (λ (u : term.Sort). false ≡ (is_whole c && are_same_sort u int_sort)) e (sym (and-false (is_whole c)))

module _ (ns : List Node) where
  integral_each : (ps : List Part) → AllByRecursion (NamesUnit ns) ps → list_all is_integral ps ≡ are_integral (parts_over ns ps)
  integral_each [] h = refl
  integral_each (p ∷ ps) h = ap₂ (λ (a b : Bool). a && b) (integral_by p.sort p.coefficient _ h.0.1) (integral_each ps h.1)

  pub over_integers : (ps : List Part) → AllByRecursion (NamesUnit ns) ps
      → (list_all is_integral ps && not (eqb (length ps) 0)) ≡ (are_integral (parts_over ns ps) && not (is_without_units (parts_over ns ps)))
  over_integers ps h = ap₂ (λ (a b : Bool). a && not b) (integral_each ps h) (without_units ns ps)

  pub same_literal : (c d : Computation Literal) (r : Result Bound ArithmeticStop) → IsSame c d → IsLiteral ns c r → IsLiteral ns d r
  same_literal c d (Ok b) s h = (same_done c d _ s h.0, h.1)
  same_literal c d (Err e) s h = same_stop c d e s h

-- ---- What becomes of them

abbrev pub are_over_integers : List spec.Part → Bool
are_over_integers ps = are_integral ps && not (is_without_units ps)

-- a bound with another limit, and rounded
abbrev limited : List spec.Part → Bool → Fraction → farkas.Bound
limited qs s c = record { parts = qs; limit = c; is_strict = s }

abbrev pub rounded_literal : farkas.Bound → Computation Literal
rounded_literal y = turned_into (λ (c : Fraction). is_at_most y.parts c) (rounded_limit y)

round_at_most : (m : Fraction) (ps : List spec.Part) (b : Fraction) → IsSame (rounded_bound m (record { parts = ps; limit = b; is_strict = false })) (rounded m ps b (λ (c : Fraction). at_once (whole (floor c))))
round_at_most m ps b =
    regrouped (parts_scaled (operated Product m) ps) (λ (qs : List spec.Part). turned_into (limited qs false) (operated Product m b)) rounded_literal

round_below : (m : Fraction) (ps : List spec.Part) (b : Fraction) → IsSame (rounded_bound m (record { parts = ps; limit = b; is_strict = true })) (rounded m ps b greatest_below)
round_below m ps b =
    regrouped (parts_scaled (operated Product m) ps) (λ (qs : List spec.Part). turned_into (limited qs true) (operated Product m b)) rounded_literal

tight_by : (s : Bool) (ps : List spec.Part) (b : Fraction) → are_over_integers ps ≡ true
    → IsSame (rounded_bound (tight_multiplier ps) (record { parts = ps; limit = b; is_strict = s })) (tight_form (bounded s ps b))
tight_by true ps b e =
    let x : farkas.Bound = record { parts = ps; limit = b; is_strict = true } in
    let m = tight_multiplier ps in
    subst (λ (t : Bool). IsSame (rounded_bound m x) (if t then rounded m ps b greatest_below else at_once (is_below ps b))) (sym e) (round_below m ps b)
tight_by false ps b e =
    let x : farkas.Bound = record { parts = ps; limit = b; is_strict = false } in
    let m = tight_multiplier ps in
    subst (λ (t : Bool). IsSame (rounded_bound m x) (if t then rounded m ps b (λ (c : Fraction). at_once (whole (floor c))) else at_once (is_at_most ps b))) (sym e) (round_at_most m ps b)

stays_by : (s : Bool) (ps : List spec.Part) (b : Fraction) → are_over_integers ps ≡ false → tight_form (bounded s ps b) ≡ at_once (bounded s ps b)
stays_by true ps b e =
    subst (λ (t : Bool). (if t then rounded (tight_multiplier ps) ps b greatest_below else at_once (is_below ps b)) ≡ at_once (is_below ps b)) (sym e) refl
stays_by false ps b e =
    subst (λ (t : Bool). (if t then rounded (tight_multiplier ps) ps b (λ (c : Fraction). at_once (whole (floor c))) else at_once (is_at_most ps b)) ≡ at_once (is_at_most ps b)) (sym e) refl

-- a bound over integers
pub tight_same : (x : farkas.Bound) → are_over_integers x.parts ≡ true → IsSame (rounded_bound (tight_multiplier x.parts) x) (tight_form (bounded x.is_strict x.parts x.limit))
tight_same x e = tight_by x.is_strict x.parts x.limit e

-- another one
pub stays : (x : farkas.Bound) → are_over_integers x.parts ≡ false → tight_form (bounded x.is_strict x.parts x.limit) ≡ at_once (bounded x.is_strict x.parts x.limit)
stays x e = stays_by x.is_strict x.parts x.limit e
