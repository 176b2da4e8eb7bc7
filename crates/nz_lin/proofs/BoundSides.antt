-- What is made of bounds, from what is made of their two sides.
use Rattle.std.proofs.Common.{◌≡◌, ◌&&◌, ◌||◌, ◌*ℤ◌, Bool, true, false, List, [], ◌∷◌, length, eqb, pos, Less, Equal, Greater, cond, Result, Ok, Err, OnOk, refl, arith, ap, ap₂, subst, ◌∙◌}
use Rattle.std.specs.Prelude.{int_lt}
use Rattle.std.specs.Ordering.{is_lt}
use Rattle.std.proofs.lemmas.Bool.{ne_eqb}
use Rattle.std.proofs.lemmas.List.{append_assoc}
use Rattle.nz_spec.specs.numbers.Computation.{Computation, and_then, IsSame}
use Rattle.nz_spec.specs.clauses.Farkas as farkas
use Rattle.nz_spec.specs.clauses.Farkas.{bound_of, bound_scaled, bounds_joined, multiples_onto}
use Rattle.nz_spec.specs.terms.Form as spec
use Rattle.nz_spec.specs.terms.Form.{Numbering, joined, scaled}
use Rattle.nz_fractions.specs.Fraction.{Fraction, Sum, denominator, first_wide, fraction_cmp, fraction_lt, whole}
use Rattle.nz_spec.specs.clauses.LinearLiteral.{is_without_units}
use Rattle.nz_spec.specs.terms.Table.{Node}
use Rattle.nz_spec.specs.terms.Term.{is_zero}
use Rattle.nz_lin.specs.declared.bound.Bound.{Bound}
use Rattle.nz_lin.specs.declared.bound.BoundMultiple.{BoundMultiple}
use Rattle.nz_term.specs.declared.stops.ArithmeticStop.{ArithmeticStop}
use Rattle.nz_lin.specs.declared.form.Part.{Part}
use Rattle.nz_lin.specs.declared.form.Side.TheVariants.{Left}
use Rattle.nz_lin.specs.Bounds.{bounded, bound_over, literal_over, multiples_over}
use Rattle.nz_lin.specs.Comes.{Comes, IsDone, times}
use Rattle.nz_lin.specs.Forms.{parts_over}
use Rattle.nz_term.specs.Stops.{IsStopAt}
use Rattle.nz_lin.proofs.ComputationSequences.{done_both, one_step, same_more, same_stop, stop_first, stop_second}

-- a form beside a sign
abbrev pub with_sign : Bool → spec.Form → farkas.Bound
with_sign strict f = record { parts = f.parts; limit = f.offset; is_strict = strict }

-- what a literal of the code says
bound_by : (s : Bool) (ps : List spec.Part) (q : Fraction) → bound_of (bounded s ps q) ≡ record { parts = ps; limit = q; is_strict = s }
bound_by true ps q = refl
bound_by false ps q = refl

pub bound_is : (ns : List Node) (b : Bound) → bound_of (literal_over ns b) ≡ bound_over ns b
bound_is ns b = bound_by b.strict _ _

-- a multiple
pub scaled_done : (m : Fraction) (x : farkas.Bound) (f : spec.Form) → IsDone (scaled (times Left m) (record { parts = x.parts; offset = x.limit })) f → IsDone (bound_scaled m x) (with_sign x.is_strict f)
scaled_done m x f h = record { result = ap (with_sign x.is_strict) h.result; fits = h.fits }

pub scaled_stop : (m : Fraction) (x : farkas.Bound) (s : ArithmeticStop) → IsStopAt (first_wide (scaled (times Left m) (record { parts = x.parts; offset = x.limit })).operations) s
    → IsStopAt (first_wide (bound_scaled m x).operations) s
scaled_stop m x s h = h

-- a sum
module _ (number : Numbering) (x y : farkas.Bound) where
  abbrev sides : Computation spec.Form
  sides = joined number Sum (record { parts = x.parts; offset = x.limit }) (record { parts = y.parts; offset = y.limit })

  pub sides_done : (f : spec.Form) → IsDone sides f → IsDone (bounds_joined number x y) (with_sign (x.is_strict || y.is_strict) f)
  sides_done f h = record { result = ap (with_sign (x.is_strict || y.is_strict)) h.result; fits = h.fits }

  pub sides_stop : (s : ArithmeticStop) → IsStopAt (first_wide sides.operations) s → IsStopAt (first_wide (bounds_joined number x y).operations) s
  sides_stop s h = h

-- what comes after a computation that is done
pub comes_after : {A B X : Type 0} (c : Computation A) (f : A → Computation B) (x : A) → IsDone c x → (now : B) (r : Result X ArithmeticStop) → Comes (f x) now r → Comes (and_then c f) now r
comes_after c f x done now (Ok y) h = done_both c f x now done h
comes_after c f x done now (Err s) h = stop_second c f x s done h

-- what is said of what is done, and what follows from it
pub done_implies : {X E : Type 0} (r : Result X E) (P Q : Type 0) → (P → Q) → OnOk r P → OnOk r Q
done_implies (Ok x) P Q f h = f h
done_implies (Err e) P Q f h = h

-- three of them, grouped either way
pub regrouped : {A B C : Type 0} (c : Computation A) (f : A → Computation B) (g : B → Computation C) → IsSame (and_then (and_then c f) g) (and_then c (λ x. and_then (f x) g))
regrouped c f g = record { result = refl; stop = ap first_wide (append_assoc c.operations (f c.result).operations (g (f c.result).result).operations) }

-- ---- One multiple after another

module _ (number : Numbering) (ns : List Node) where
  -- a sum with one multiple more
  abbrev pub with_multiple : farkas.Bound → BoundMultiple → Computation farkas.Bound
  with_multiple x m = and_then (bound_scaled m.multiplier (bound_over ns m.bound)) (λ y. bounds_joined number x y)

  -- the multiple, and then the rest
  abbrev one_more : farkas.Bound → BoundMultiple → List BoundMultiple → Computation farkas.Bound
  one_more x m ms =
      and_then (bound_scaled m.multiplier (bound_over ns m.bound)) (λ y. and_then (bounds_joined number x y) (λ z. multiples_onto number z (multiples_over ns ms)))

  unrolled : (x : farkas.Bound) (m : BoundMultiple) (ms : List BoundMultiple) → multiples_onto number x (multiples_over ns (m ∷ ms)) ≡ one_more x m ms
  unrolled x m ms =
      ap (λ (b : farkas.Bound). and_then (bound_scaled m.multiplier b) (λ y. and_then (bounds_joined number x y) (λ z. multiples_onto number z (multiples_over ns ms)))) (bound_is ns m.bound)

  module _ (x : farkas.Bound) (m : BoundMultiple) (ms : List BoundMultiple) (whole : Computation farkas.Bound) (h : IsSame (multiples_onto number x (multiples_over ns (m ∷ ms))) whole) where
    abbrev scaling : Computation farkas.Bound
    scaling = bound_scaled m.multiplier (bound_over ns m.bound)

    abbrev rest_of : farkas.Bound → Computation farkas.Bound
    rest_of y = and_then (bounds_joined number x y) (λ z. multiples_onto number z (multiples_over ns ms))

    here : IsSame (one_more x m ms) whole
    here = subst (λ (c : Computation farkas.Bound). IsSame c whole) (unrolled x m ms) h

    pub multiple_more : (z : farkas.Bound) → IsDone (with_multiple x m) z → IsSame (multiples_onto number z (multiples_over ns ms)) whole
    multiple_more z done =
        same_more (multiples_onto number z (multiples_over ns ms)) (and_then (with_multiple x m) (λ w. multiples_onto number w (multiples_over ns ms))) whole
        (one_step (with_multiple x m) (λ w. multiples_onto number w (multiples_over ns ms)) z done)
        (same_more (and_then (with_multiple x m) (λ w. multiples_onto number w (multiples_over ns ms))) (one_more x m ms) whole (regrouped scaling (λ y. bounds_joined number x y) (λ w. multiples_onto number w (multiples_over ns ms))) here)

    pub multiple_stop : (s : ArithmeticStop) → IsStopAt (first_wide (with_multiple x m).operations) s → IsStopAt (first_wide whole.operations) s
    multiple_stop s stop =
        same_stop (and_then (with_multiple x m) (λ w. multiples_onto number w (multiples_over ns ms))) whole s
        (same_more (and_then (with_multiple x m) (λ w. multiples_onto number w (multiples_over ns ms))) (one_more x m ms) whole (regrouped scaling (λ y. bounds_joined number x y) (λ w. multiples_onto number w (multiples_over ns ms))) here)
        (stop_first (with_multiple x m) (λ w. multiples_onto number w (multiples_over ns ms)) s stop)

-- ---- Bounds on nothing

below : (p q : Bool) → is_lt (cond p Less (cond q Greater Equal)) ≡ p
below true q = refl
below false true = refl
below false false = refl

pub less_is : (p q : Fraction) → is_lt (fraction_cmp p q) ≡ fraction_lt p q
unfolding fraction_cmp fraction_lt
less_is p q =
    let a = p.numerator *ℤ pos (denominator q) in
    let b = q.numerator *ℤ pos (denominator p) in
    below (int_lt a b) (int_lt b a)

-- two tests of a limit that was read, and what was made of them
module _ (strict : Bool) {limit q zero : Fraction} (read : q ≡ limit) (is : zero ≡ whole (pos 0)) where
  pub excluded : {less none answer : Bool} → less ≡ is_lt (fraction_cmp q zero) → none ≡ is_zero q → answer ≡ (less || none && strict)
      → answer ≡ (fraction_lt limit (whole (pos 0)) || is_zero limit && strict)
  excluded compared tested made =
      made ∙ ap₂ (λ (t u : Bool). t || u && strict) (compared ∙ less_is q zero ∙ ap₂ fraction_lt read is) (tested ∙ ap is_zero read)

pub without_units : (ns : List Node) (ps : List Part) → eqb (length ps) 0 ≡ is_without_units (parts_over ns ps)
without_units ns [] = refl
without_units ns (p ∷ ps) = ne_eqb (length (p ∷ ps)) 0 (λ e. omega arith)
