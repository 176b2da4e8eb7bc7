-- Products and quotients, one argument after another.
use Rattle.std.proofs.Common.{◌≡◌, ℕ, ◌&&◌, Bool, true, false, not, List, [], ◌∷◌, Option, Some, None, Result, refl, sym, ap, subst, ◌∙◌, true≢false}
use Rattle.std.specs.Prelude.{IsTrue, pos, unwrap_or}
use Rattle.std.proofs.lemmas.Option.{same_Some}
use Rattle.nz_spec.specs.numbers.Computation.{Computation, operated, at_once, IsSame}
use Rattle.nz_spec.specs.terms.Form as spec
use Rattle.nz_spec.specs.terms.FormOf.{product_onto, constants_product, open_form, divided_by, divided_by_each}
use Rattle.nz_fractions.specs.Fraction.{Fraction, Arithmetic, Operation, whole, Product, Quotient, first_wide}
use Rattle.nz_spec.specs.terms.Linear.{are_divisors}
use Rattle.nz_spec.specs.terms.Table.{Node}
use Rattle.nz_spec.specs.terms.Term.{is_zero}
use Rattle.nz_term.specs.declared.stops.ArithmeticStop.{ArithmeticStop}
use Rattle.nz_term.specs.declared.stops.ArithmeticStop.TheVariants as stops
use Rattle.nz_lin.specs.declared.form.Side.TheVariants.{Left, Right}
use Rattle.nz_term.specs.Stops.{IsStopAt}
use Rattle.nz_lin.specs.Forms.{Numbered, form_over, AreUnits}
use Rattle.nz_lin.specs.Comes.{IsDone, IsFormed, times}
use Rattle.nz_lin.specs.Making.{Made, constants_at, factor_onto, joined_forms, made_forms, product_of, quotient_of}
use Rattle.nz_fractions.proofs.FirstOperations.{no_operation}
use Rattle.nz_lin.proofs.ComputationSequences.{at_once_done, one_step, same_done, same_formed, same_more, same_stop, stop_first}

-- ---- Products of constants

-- what is left to multiply
abbrev pub rest_product : Option Fraction → List (Option Fraction) → Computation Fraction
rest_product None cs = constants_product cs
rest_product (Some p) cs = product_onto p cs

-- an argument that isn't constant
pub passed_over : (o : Option Fraction) (d : Option Fraction) (cs : List (Option Fraction)) → d ≡ None → rest_product o (d ∷ cs) ≡ rest_product o cs
passed_over None d cs e = ap (λ x. constants_product (x ∷ cs)) e
passed_over (Some p) d cs e = ap (λ x. product_onto p (x ∷ cs)) e

none_at : (p : Option Operation) (s : ArithmeticStop) → IsStopAt None s → IsStopAt p s
none_at p (stops.Wide w) e = absurd cc
none_at p stops.Memory e = tt

module _ (whole_product : Computation Fraction) where
  pub factor_stop : (o : Option Fraction) (c : Fraction) (cs : List (Option Fraction)) → IsSame (rest_product o (Some c ∷ cs)) whole_product
      → (s : ArithmeticStop) → IsStopAt (first_wide (factor_onto o c).operations) s → IsStopAt (first_wide whole_product.operations) s
  factor_stop None c cs h s stop = none_at (first_wide whole_product.operations) s (subst (λ o. IsStopAt o s) no_operation stop)
  factor_stop (Some p) c cs h s stop = same_stop (product_onto p (Some c ∷ cs)) whole_product s h (stop_first (operated Product p c) (λ e. product_onto e cs) s stop)

  pub factor_more : (o : Option Fraction) (c : Fraction) (cs : List (Option Fraction)) → IsSame (rest_product o (Some c ∷ cs)) whole_product
      → (p : Fraction) → IsDone (factor_onto o c) p → IsSame (product_onto p cs) whole_product
  factor_more None c cs h p done = subst (λ (x : Fraction). IsSame (product_onto x cs) whole_product) (sym done.result) h
  factor_more (Some q) c cs h p done =
      same_more (product_onto p cs) (product_onto q (Some c ∷ cs)) whole_product (one_step (operated Product q c) (λ e. product_onto e cs) p done) h

  pub factors_done : (o : Option Fraction) → IsSame (rest_product o []) whole_product → IsDone whole_product (unwrap_or o (whole (pos 1)))
  factors_done None h = same_done (at_once (whole (pos 1))) whole_product (whole (pos 1)) h (at_once_done (whole (pos 1)))
  factors_done (Some p) h = same_done (at_once p) whole_product p h (at_once_done p)

-- ---- The argument that isn't constant

pub open_here : (d : Option Fraction) (cs : List (Option Fraction)) (f : spec.Form) (fs : List spec.Form) → d ≡ None → open_form (d ∷ cs) (f ∷ fs) ≡ f
open_here d cs f fs e = ap (λ x. open_form (x ∷ cs) (f ∷ fs)) e

pub product_formed : (ns : List Node) (cs : List (Option Fraction)) (fs : List spec.Form) (p : Fraction) (g : spec.Form) (r : Result Numbered ArithmeticStop) → IsDone (constants_product cs) p → g ≡ open_form cs fs
    → IsFormed ns (spec.scaled (times Left p) g) r → IsFormed ns (product_of cs fs) r
product_formed ns cs fs p g r done same h =
    same_formed ns (spec.scaled (times Left p) (open_form cs fs)) (product_of cs fs) r
    (one_step (constants_product cs) (λ x. spec.scaled (λ c. operated Product x c) (open_form cs fs)) p done)
    (subst (λ (f : spec.Form). IsFormed ns (spec.scaled (times Left p) f) r) same h)

pub product_stop : (cs : List (Option Fraction)) (fs : List spec.Form) (s : ArithmeticStop) → IsStopAt (first_wide (constants_product cs).operations) s → IsStopAt (first_wide (product_of cs fs).operations) s
product_stop cs fs s stop = stop_first (constants_product cs) (λ p. spec.scaled (λ c. operated Product p c) (open_form cs fs)) s stop

-- ---- Divisors

not_zero : (b c : Bool) → (not b && c) ≡ true → (b ≡ false) × (c ≡ true)
not_zero true c e = absurd (true≢false (sym e))
not_zero false c e = (refl, e)

-- the first of them is a constant other than 0, and so are the others
first_divisor : (d : Option Fraction) (cs : List (Option Fraction)) → are_divisors (d ∷ cs) ≡ true → (k : Fraction) × ((d ≡ Some k) × (is_zero k ≡ false) × (are_divisors cs ≡ true))
first_divisor None cs e = absurd (true≢false (sym e))
first_divisor (Some k) cs e = let both = not_zero (is_zero k) (are_divisors cs) e in (k, (refl, both.0, both.1))

pub nonzero_divisor : (d : Option Fraction) (cs : List (Option Fraction)) (q : Fraction) → IsTrue (are_divisors (d ∷ cs)) → d ≡ Some q → is_zero q ≡ false
nonzero_divisor d cs q e is =
    let k = first_divisor d cs e in
    let same : q ≡ k.0 = same_Some q k.0 (sym is ∙ k.1.0) in
    ap is_zero same ∙ k.1.1

pub later_divisors : (d : Option Fraction) (cs : List (Option Fraction)) → IsTrue (are_divisors (d ∷ cs)) → IsTrue (are_divisors cs)
later_divisors d cs e = (first_divisor d cs e).1.2

module _ (f : spec.Form) (k : Fraction) (cs : List (Option Fraction)) (whole_form : Computation spec.Form) (h : IsSame (divided_by_each f (Some k ∷ cs)) whole_form) where
  pub divide_stop : (s : ArithmeticStop) → IsStopAt (first_wide (divided_by k f).operations) s → IsStopAt (first_wide whole_form.operations) s
  divide_stop s stop = same_stop (divided_by_each f (Some k ∷ cs)) whole_form s h (stop_first (divided_by k f) (λ g. divided_by_each g cs) s stop)

  pub divide_more : (g : spec.Form) → IsDone (divided_by k f) g → IsSame (divided_by_each g cs) whole_form
  divide_more g done = same_more (divided_by_each g cs) (divided_by_each f (Some k ∷ cs)) whole_form (one_step (divided_by k f) (λ x. divided_by_each x cs) g done) h

-- a form times 1/k
module _ (k : Fraction) (f : spec.Form) where
  pub inverse_stop : (s : ArithmeticStop) → IsStopAt (first_wide (operated Quotient (whole (pos 1)) k).operations) s → IsStopAt (first_wide (divided_by k f).operations) s
  inverse_stop s stop = stop_first (operated Quotient (whole (pos 1)) k) (λ r. spec.scaled (λ c. operated Product c r) f) s stop

  pub divided_formed : (ns : List Node) (r : Fraction) → IsDone (operated Quotient (whole (pos 1)) k) r → (result : Result Numbered ArithmeticStop) → IsFormed ns (spec.scaled (times Right r) f) result
      → IsFormed ns (divided_by k f) result
  divided_formed ns r done result h =
      same_formed ns (spec.scaled (times Right r) f) (divided_by k f) result (one_step (operated Quotient (whole (pos 1)) k) (λ x. spec.scaled (λ c. operated Product c x) f) r done) h

-- a number alone
pub one_form : (ns : List Node) (f : Numbered) (q : Fraction) → f ≡ record { parts = []; offset = q } → {p : Fraction} → q ≡ p → (form_over ns f ≡ spec.constant_form p) × AreUnits ns f.parts
one_form ns f q is {p} e =
    (ap (form_over ns) is ∙ ap (λ (x : Fraction). spec.constant_form x) e, subst (λ (h : Numbered). AreUnits ns h.parts) (sym is) (record { names = tt; in_order = tt }))

pub none_joined : (ns : List Node) (number : spec.Numbering) (op : Arithmetic) (made : Made) (ks : List ℕ) → ks ≡ [] → (f : Numbered) (q : Fraction) → f ≡ record { parts = []; offset = q } → q ≡ whole (pos 0)
    → IsDone (joined_forms number op (made_forms ns made ks)) (form_over ns f) × AreUnits ns f.parts
none_joined ns number op made ks none f q is zero =
    let one = one_form ns f q is zero in
    (subst (λ (l : List ℕ). IsDone (joined_forms number op (made_forms ns made l)) (form_over ns f)) (sym none) (record { result = one.0; fits = no_operation }), one.1)

pub none_divided : (ns : List Node) (made : Made) (ks : List ℕ) → ks ≡ [] → (f : Numbered) (q : Fraction) → f ≡ record { parts = []; offset = q } → q ≡ whole (pos 1)
    → IsDone (quotient_of (constants_at ns ks) (made_forms ns made ks)) (form_over ns f) × AreUnits ns f.parts
none_divided ns made ks none f q is zero =
    let one = one_form ns f q is zero in
    (subst (λ (l : List ℕ). IsDone (quotient_of (constants_at ns l) (made_forms ns made l)) (form_over ns f)) (sym none) (record { result = one.0; fits = no_operation }), one.1)
