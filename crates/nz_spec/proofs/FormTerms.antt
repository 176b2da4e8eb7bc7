-- The form of a linear term has the value of the term, and is worth that where its units are worth theirs.
use Rattle.std.proofs.Common.{◌≡◌, ℕ, suc, ◌<◌, Bool, true, false, not, ◌||◌, List, [], ◌∷◌, Option, Some, None, pos, refl, sym, ap, ap₂, ◌∙◌, true≢false, arith}
use Rattle.std.specs.Prelude.{if◌then◌else◌, nat_lt, ⊤}
use Rattle.std.proofs.lemmas.Bool.{and_parts}
use Rattle.std.proofs.lemmas.Bool.Decides.{nat_tests}
use Rattle.nz_fractions.specs.Fraction.{Fraction, whole, ◌=ℚ◌, neg_ℚ, ◌*ℚ◌, ◌/ℚ◌, reciprocal, Arithmetic, Sum, Difference, Product, Quotient, exact, outcome, is_wide}
use Rattle.nz_spec.specs.terms.Term.{NumberSort, over_int, Head, integer, decimal_number, sum, difference, product, quotient, to_real, Term, apply, Terms, no_terms, terms, Value, number, Assignment, number_of, is_zero, is_undefined, carried_out, combined, head_value, value_of, values_of}
use Rattle.nz_spec.specs.terms.Linear.{folded_step, folded, head_constant, constant_value, constant_values, variable_count, are_divisors, is_linear_node, is_linear, are_linear}
use Rattle.nz_spec.specs.numbers.Computation.{Computation, operated, at_once, and_then}
use Rattle.nz_spec.specs.simplex.Basis.{Valuation}
use Rattle.nz_spec.specs.terms.Form.{Numbering, Form, constant_form, unit_form, unit_value}
use Rattle.nz_spec.specs.terms.FormOf.{is_opened, product_onto, constants_product, open_form, divided_by, divided_by_each, head_form, form_of, forms_of, FormHasValue}
use Rattle.nz_fractions.proofs.Laws.{=ℚ_refl, =ℚ-from_same, =ℚ_sym, =ℚ_trans, reduce-same}
use Rattle.nz_fractions.proofs.Arithmetic.{neg_ℚ-same, *ℚ_comm, *ℚ_assoc, *ℚ-one, *ℚ-same, outcome-product}
use Rattle.nz_fractions.proofs.Identities.{zero_left, one_times}
use Rattle.nz_spec.proofs.FormValues.{by_sum, by_difference, form_worth, form_is_worth, Match, all_joined-worth, form_scaled-worth, form_negated-worth, constant-worth, unit-worth}

-- ---- Tests and quotients

less_from : (m n : ℕ) → nat_lt m n ≡ true → m < n
less_from m n e = grind (arith, nat_tests)

less_to : (m n : ℕ) → m < n → nat_lt m n ≡ true
less_to m n h = grind (arith, nat_tests)

-- one less of both
one_less : (n : ℕ) → nat_lt (suc n) 2 ≡ true → nat_lt n 1 ≡ true
one_less n e = less_to n 1 (omega (arith, less_from (suc n) 2 e))

not_true : (b : Bool) → not b ≡ true → b ≡ false
not_true false e = refl
not_true true e = absurd (true≢false (sym e))

outcome-quotient : (p q : Fraction) → outcome Quotient p q =ℚ (p *ℚ reciprocal q)
unfolding outcome exact ◌/ℚ◌
outcome-quotient p q = reduce-same (p /ℚ q)

-- ---- Constants

-- the number of a value, where a constant is listed for it
abbrev Known : List (Option Fraction) → List Value → Type 0
Known [] [] = ⊤
Known [] (v ∷ vs) = ⊥
Known (c ∷ cs) [] = ⊥
Known (c ∷ cs) (v ∷ vs) = ((q : Fraction) → c ≡ Some q → number_of v ≡ q) × Known cs vs

none_is_some : {q : Fraction} {A : Type 0} → None ≡ Some q → A
none_is_some e = absurd (cc)

the_same : {p q : Fraction} → Some p ≡ Some q → p ≡ q
the_same e = cc

-- an operation that is carried out on constants
operation_known : (op : Arithmetic) (p q r : Fraction) (b c : Bool) → is_undefined op q ≡ b → (if b || c then None else Some (outcome op p q)) ≡ Some r
    → number_of (if is_undefined op q then number (whole (pos 0)) else number (outcome op p q)) ≡ r
operation_known op p q r true c f e = none_is_some e
operation_known op p q r false true f e = none_is_some e
operation_known op p q r false false f e =
    ap (λ (b : Bool). number_of (if b then number (whole (pos 0)) else number (outcome op p q))) f ∙ the_same e

step_known : (op : Arithmetic) (c d : Option Fraction) (v w : Value) → ((q : Fraction) → c ≡ Some q → number_of v ≡ q) → ((q : Fraction) → d ≡ Some q → number_of w ≡ q)
    → (r : Fraction) → folded_step op c d ≡ Some r → number_of (carried_out op v w) ≡ r
step_known op None d v w h k r e = none_is_some e
step_known op (Some p) None v w h k r e = none_is_some e
step_known op (Some p) (Some q) v w h k r e =
    ap₂ (λ (x y : Fraction). number_of (if is_undefined op y then number (whole (pos 0)) else number (outcome op x y))) (h p refl) (k q refl)
    ∙ operation_known op p q r (is_undefined op q) (is_wide op p q) refl e

folded_known : (op : Arithmetic) (c : Option Fraction) (ds : List (Option Fraction)) (v : Value) (ws : List Value) → ((q : Fraction) → c ≡ Some q → number_of v ≡ q) → Known ds ws
    → (r : Fraction) → folded op c ds ≡ Some r → number_of (combined (carried_out op) v ws) ≡ r
folded_known op c [] v [] h k r e = h r e
folded_known op c [] v (w ∷ ws) h k r e = absurd k
folded_known op c (d ∷ ds) v [] h k r e = absurd k
folded_known op c (d ∷ ds) v (w ∷ ws) h k r e =
    folded_known op (folded_step op c d) ds (carried_out op v w) ws (step_known op c d v w h k.0) k.1 r e

negated_known : (c : Option Fraction) (v : Value) → ((q : Fraction) → c ≡ Some q → number_of v ≡ q) → (r : Fraction) → head_constant (difference over_int) (c ∷ []) ≡ Some r → neg_ℚ (number_of v) ≡ r
negated_known None v h r e = none_is_some e
negated_known (Some q) v h r e = ap neg_ℚ (h q refl) ∙ the_same e

-- ---- Units

-- what must hold where a head over arguments of these forms makes a unit
abbrev pub Own : Head → List Form → Type 0 → Type 0
Own (sum s) fs P = ⊤
Own (difference s) fs P = ⊤
Own (product s) fs P = ⊤
Own quotient fs P = ⊤
Own to_real (f ∷ []) P = ⊤
Own h fs P = P

own_to : (h : Head) (fs : List Form) (P Q : Type 0) → (P → Q) → Own h fs P → Own h fs Q
own_to (sum s) fs P Q f o = tt
own_to (difference s) fs P Q f o = tt
own_to (product s) fs P Q f o = tt
own_to quotient fs P Q f o = tt
own_to to_real (g ∷ []) P Q f o = tt
own_to to_real [] P Q f o = f o
own_to to_real (g ∷ k ∷ gs) P Q f o = f o
own_to h fs P Q f o = f o

own_of : (h : Head) (fs : List Form) (P : Type 0) → is_opened h ≡ false → Own h fs P → P
own_of (sum s) fs P e o = absurd (true≢false e)
own_of (difference s) fs P e o = absurd (true≢false e)
own_of (product s) fs P e o = absurd (true≢false e)
own_of quotient fs P e o = absurd (true≢false e)
own_of to_real fs P e o = absurd (true≢false e)
own_of h fs P e o = o

own_from : (h : Head) (fs : List Form) (P : Type 0) → P → Own h fs P
own_from (sum s) fs P p = tt
own_from (difference s) fs P p = tt
own_from (product s) fs P p = tt
own_from quotient fs P p = tt
own_from to_real (f ∷ []) P p = tt
own_from to_real [] P p = p
own_from to_real (f ∷ g ∷ gs) P p = p
own_from h fs P p = p

module _ (a : Assignment) where
  head_known : (h : Head) (cs : List (Option Fraction)) (vs : List Value) → Known cs vs → (q : Fraction) → head_constant h cs ≡ Some q → number_of (head_value a h vs) ≡ q
  head_known (integer n) cs vs k q e = the_same e
  head_known (decimal_number n places) cs vs k q e = the_same e
  head_known to_real (c ∷ []) (v ∷ []) k q e = k.0 q e
  head_known to_real (c ∷ []) [] k q e = absurd k
  head_known to_real (c ∷ []) (v ∷ w ∷ vs) k q e = absurd k.1
  head_known to_real [] vs k q e = none_is_some e
  head_known to_real (c ∷ d ∷ cs) vs k q e = none_is_some e
  head_known (sum s) [] vs k q e = none_is_some e
  head_known (sum s) (c ∷ cs) [] k q e = absurd k
  head_known (sum s) (c ∷ cs) (v ∷ vs) k q e = folded_known Sum c cs v vs k.0 k.1 q e
  head_known (difference s) [] vs k q e = none_is_some e
  head_known (difference s) (c ∷ cs) [] k q e = absurd k
  head_known (difference s) (c ∷ []) (v ∷ []) k q e = negated_known c v k.0 q e
  head_known (difference s) (c ∷ []) (v ∷ w ∷ vs) k q e = absurd k.1
  head_known (difference s) (c ∷ d ∷ cs) (v ∷ []) k q e = absurd k.1
  head_known (difference s) (c ∷ d ∷ cs) (v ∷ w ∷ vs) k q e = folded_known Difference c (d ∷ cs) v (w ∷ vs) k.0 k.1 q e
  head_known (product s) [] vs k q e = none_is_some e
  head_known (product s) (c ∷ cs) [] k q e = absurd k
  head_known (product s) (c ∷ cs) (v ∷ vs) k q e = folded_known Product c cs v vs k.0 k.1 q e
  head_known quotient [] vs k q e = none_is_some e
  head_known quotient (c ∷ cs) [] k q e = absurd k
  head_known quotient (c ∷ cs) (v ∷ vs) k q e = folded_known Quotient c cs v vs k.0 k.1 q e
  head_known h cs vs k q e = none_is_some e

  mutual
    pub constant_known : (t : Term) (q : Fraction) → constant_value t ≡ Some q → number_of (value_of a t) ≡ q
    constant_known (apply h ts) q e = head_known h (constant_values ts) (values_of a ts) (constants_known ts) q e

    constants_known : (ts : Terms) → Known (constant_values ts) (values_of a ts)
    constants_known no_terms = _
    constants_known (terms t ts) = (constant_known t, constants_known ts)

  -- ---- Products

  abbrev product_of : List Value → Fraction
  product_of [] = whole (pos 1)
  product_of (v ∷ vs) = number_of v *ℚ product_of vs

  abbrev constant_product : List (Option Fraction) → Fraction
  constant_product [] = whole (pos 1)
  constant_product (None ∷ cs) = constant_product cs
  constant_product (Some c ∷ cs) = c *ℚ constant_product cs

  combined_product : (v : Value) (ws : List Value) → number_of (combined (carried_out Product) v ws) =ℚ (number_of v *ℚ product_of ws)
  combined_product v [] = =ℚ_sym (*ℚ-one (number_of v))
  combined_product v (w ∷ ws) =
      =ℚ_trans (combined_product (carried_out Product v w) ws)
      (=ℚ_trans (*ℚ-same (outcome-product (number_of v) (number_of w)) (=ℚ_refl (product_of ws)))
      (*ℚ_assoc (number_of v) (number_of w) (product_of ws)))

  value_product : (s : NumberSort) (vs : List Value) → number_of (head_value a (product s) vs) =ℚ product_of vs
  value_product s [] = =ℚ_refl (whole (pos 1))
  value_product s (v ∷ vs) = combined_product v vs

  onto_product : (c : Fraction) (ds : List (Option Fraction)) → (product_onto c ds).result =ℚ (c *ℚ constant_product ds)
  onto_product c [] = =ℚ_sym (*ℚ-one c)
  onto_product c (None ∷ ds) = onto_product c ds
  onto_product c (Some d ∷ ds) =
      =ℚ_trans (onto_product (outcome Product c d) ds)
      (=ℚ_trans (*ℚ-same (outcome-product c d) (=ℚ_refl (constant_product ds))) (*ℚ_assoc c d (constant_product ds)))

  whole_product : (cs : List (Option Fraction)) → (constants_product cs).result =ℚ constant_product cs
  whole_product [] = =ℚ_refl (whole (pos 1))
  whole_product (None ∷ cs) = whole_product cs
  whole_product (Some c ∷ cs) = onto_product c cs

  -- of constants alone
  closed_product : (cs : List (Option Fraction)) (vs : List Value) → Known cs vs → nat_lt (variable_count cs) 1 ≡ true → constant_product cs =ℚ product_of vs
  closed_product [] [] k e = =ℚ_refl (whole (pos 1))
  closed_product [] (v ∷ vs) k e = absurd k
  closed_product (c ∷ cs) [] k e = absurd k
  closed_product (None ∷ cs) (v ∷ vs) k e = absurd (omega (arith, less_from (suc (variable_count cs)) 1 e))
  closed_product (Some c ∷ cs) (v ∷ vs) k e =
      *ℚ-same (=ℚ-from_same (sym (k.0 c refl))) (closed_product cs vs k.1 e)

  module _ (numbering : Numbering) (units : Valuation) where
    -- of constants and one other at most
    open_product : (cs : List (Option Fraction)) (fs : List Form) (vs : List Value) → Known cs vs → Match numbering units fs vs
        → nat_lt (variable_count cs) 2 ≡ true → (constant_product cs *ℚ form_worth units (open_form cs fs)) =ℚ product_of vs
    open_product [] [] [] k m e = =ℚ_trans (one_times _) (zero_left (whole (pos 1)))
    open_product [] (f ∷ fs) [] k m e = absurd m
    open_product [] fs (v ∷ vs) k m e = absurd k
    open_product (c ∷ cs) fs [] k m e = absurd k
    open_product (c ∷ cs) [] (v ∷ vs) k m e = absurd m
    open_product (None ∷ cs) (f ∷ fs) (v ∷ vs) k m e =
        =ℚ_trans (*ℚ_comm (constant_product cs) (form_worth units f)) (*ℚ-same m.0 (closed_product cs vs k.1 (one_less (variable_count cs) e)))
    open_product (Some c ∷ cs) (f ∷ fs) (v ∷ vs) k m e =
        =ℚ_trans (*ℚ_assoc c (constant_product cs) (form_worth units (open_form cs fs)))
        (*ℚ-same (=ℚ-from_same (sym (k.0 c refl))) (open_product cs fs vs k.1 m.1 e))

    product-worth : (s : NumberSort) (cs : List (Option Fraction)) (fs : List Form) (u : Form) (vs : List Value) → Known cs vs
        → Match numbering units fs vs → nat_lt (variable_count cs) 2 ≡ true
        → form_worth units (head_form numbering (product s) cs fs u).result =ℚ number_of (head_value a (product s) vs)
    product-worth s cs fs u vs k m e =
        let p = (constants_product cs).result in
        let f = open_form cs fs in
        =ℚ_trans (form_scaled-worth numbering units (operated Product p) p (outcome-product p) f)
        (=ℚ_trans (*ℚ-same (whole_product cs) (=ℚ_refl (form_worth units f)))
        (=ℚ_trans (open_product cs fs vs k m e) (=ℚ_sym (value_product s vs))))

    -- ---- Quotients

    quotient_known : (v w : Value) (k : Fraction) → number_of w ≡ k → is_zero k ≡ false → number_of (carried_out Quotient v w) ≡ outcome Quotient (number_of v) k
    quotient_known v w k is nonzero =
        ap (λ (y : Fraction). number_of (if is_zero y then number (whole (pos 0)) else number (outcome Quotient (number_of v) y))) is
        ∙ ap (λ (b : Bool). number_of (if b then number (whole (pos 0)) else number (outcome Quotient (number_of v) k))) nonzero

    divided-worth : (k : Fraction) (f : Form) (v w : Value) → form_worth units f =ℚ number_of v → number_of w ≡ k → is_zero k ≡ false
        → form_worth units (divided_by k f).result =ℚ number_of (carried_out Quotient v w)
    divided-worth k f v w h is nonzero =
        let r = outcome Quotient (whole (pos 1)) k in
        let turned : r =ℚ reciprocal k = =ℚ_trans (outcome-quotient (whole (pos 1)) k) (one_times (reciprocal k)) in
        =ℚ_trans (form_scaled-worth numbering units (λ c. operated Product c r) r (λ c. =ℚ_trans (outcome-product c r) (*ℚ_comm c r)) f)
        (=ℚ_trans (*ℚ-same turned h)
        (=ℚ_trans (*ℚ_comm (reciprocal k) (number_of v))
        (=ℚ_trans (=ℚ_sym (outcome-quotient (number_of v) k)) (=ℚ-from_same (sym (quotient_known v w k is nonzero))))))

    divided-worths : (f : Form) (ks : List (Option Fraction)) (v : Value) (ws : List Value) → form_worth units f =ℚ number_of v
        → Known ks ws → are_divisors ks ≡ true → form_worth units (divided_by_each f ks).result =ℚ number_of (combined (carried_out Quotient) v ws)
    divided-worths f [] v [] h k e = h
    divided-worths f [] v (w ∷ ws) h k e = absurd k
    divided-worths f (d ∷ ks) v [] h k e = absurd k
    divided-worths f (None ∷ ks) v (w ∷ ws) h k e = absurd (true≢false (sym e))
    divided-worths f (Some d ∷ ks) v (w ∷ ws) h k e =
        let both = and_parts (not (is_zero d)) (are_divisors ks) e in
        divided-worths (divided_by d f).result ks (carried_out Quotient v w) ws
        (divided-worth d f v w h (k.0 d refl) (not_true (is_zero d) both.0)) k.1 both.1

    -- ---- The form of a term

    head-worth : (h : Head) (cs : List (Option Fraction)) (fs : List Form) (u : Form) (vs : List Value) → Known cs vs
        → Match numbering units fs vs → is_linear_node h cs ≡ true → Own h fs (form_worth units u =ℚ number_of (head_value a h vs))
        → form_worth units (head_form numbering h cs fs u).result =ℚ number_of (head_value a h vs)
    head-worth (sum s) cs [] u [] k m e own = constant-worth numbering units (whole (pos 0))
    head-worth (sum s) cs [] u (v ∷ vs) k m e own = absurd m
    head-worth (sum s) cs (f ∷ fs) u [] k m e own = absurd m
    head-worth (sum s) cs (f ∷ fs) u (v ∷ vs) k m e own = all_joined-worth numbering units Sum by_sum f fs v vs m.0 m.1
    head-worth (difference s) cs [] u [] k m e own = constant-worth numbering units (whole (pos 0))
    head-worth (difference s) cs [] u (v ∷ vs) k m e own = absurd m
    head-worth (difference s) cs (f ∷ []) u [] k m e own = absurd m
    head-worth (difference s) cs (f ∷ []) u (v ∷ []) k m e own = =ℚ_trans (form_negated-worth numbering units f) (neg_ℚ-same m.0)
    head-worth (difference s) cs (f ∷ []) u (v ∷ w ∷ vs) k m e own = absurd m.1
    head-worth (difference s) cs (f ∷ g ∷ gs) u [] k m e own = absurd m
    head-worth (difference s) cs (f ∷ g ∷ gs) u (v ∷ []) k m e own = absurd m.1
    head-worth (difference s) cs (f ∷ g ∷ gs) u (v ∷ w ∷ vs) k m e own = all_joined-worth numbering units Difference by_difference f (g ∷ gs) v (w ∷ vs) m.0 m.1
    head-worth (product s) cs fs u vs k m e own = product-worth s cs fs u vs k m e
    head-worth quotient [] [] u [] k m e own = constant-worth numbering units (whole (pos 1))
    head-worth quotient [] (f ∷ fs) u [] k m e own = absurd m
    head-worth quotient [] fs u (v ∷ vs) k m e own = absurd k
    head-worth quotient (c ∷ cs) fs u [] k m e own = absurd k
    head-worth quotient (c ∷ cs) [] u (v ∷ vs) k m e own = absurd m
    head-worth quotient (c ∷ cs) (f ∷ fs) u (v ∷ vs) k m e own = divided-worths f cs v vs m.0 k.1 e
    head-worth to_real cs [] u vs k m e own = own
    head-worth to_real cs (f ∷ []) u [] k m e own = absurd m
    head-worth to_real cs (f ∷ []) u (v ∷ []) k m e own = m.0
    head-worth to_real cs (f ∷ []) u (v ∷ w ∷ vs) k m e own = absurd m.1
    head-worth to_real cs (f ∷ g ∷ gs) u vs k m e own = own
    head-worth h cs fs u vs k m e own = own

    -- by whether the term is constant, and whether arithmetic opens it
    abbrev formed_by : Head → Terms → Option Fraction → Bool → Computation Form
    formed_by h ts c opened =
        elim c [
          | Some q ↦ at_once (constant_form q)
          | None ↦
              if opened then and_then (forms_of numbering ts) (λ fs. head_form numbering h (constant_values ts) fs (unit_form (apply h ts)))
              else at_once (unit_form (apply h ts))
        ]

    worth_by : (h : Head) (ts : Terms) (c : Option Fraction) (opened : Bool) → head_constant h (constant_values ts) ≡ c → is_opened h ≡ opened
        → Match numbering units (forms_of numbering ts).result (values_of a ts) → is_linear_node h (constant_values ts) ≡ true
        → Own h (forms_of numbering ts).result (units (apply h ts) =ℚ unit_value a (apply h ts))
        → form_worth units (formed_by h ts c opened).result =ℚ unit_value a (apply h ts)
    worth_by h ts (Some q) opened is o m e own =
        =ℚ_trans (constant-worth numbering units q) (=ℚ-from_same (sym (head_known h (constant_values ts) (values_of a ts) (constants_known ts) q is)))
    worth_by h ts None true is o m e own =
        let fs = (forms_of numbering ts).result in
        let unit = apply h ts in
        head-worth h (constant_values ts) fs (unit_form unit) (values_of a ts) (constants_known ts) m e
        (own_to h fs (units unit =ℚ unit_value a unit) (form_worth units (unit_form unit) =ℚ unit_value a unit)
        (=ℚ_trans (unit-worth numbering units unit)) own)
    worth_by h ts None false is o m e own =
        =ℚ_trans (unit-worth numbering units (apply h ts)) (own_of h (forms_of numbering ts).result (units (apply h ts) =ℚ unit_value a (apply h ts)) o own)

    -- where the forms of the arguments are worth their values, and the term too, if it is a unit
    pub term-worth : (h : Head) (ts : Terms) → Match numbering units (forms_of numbering ts).result (values_of a ts)
        → is_linear_node h (constant_values ts) ≡ true → Own h (forms_of numbering ts).result (units (apply h ts) =ℚ unit_value a (apply h ts))
        → form_worth units (form_of numbering (apply h ts)).result =ℚ unit_value a (apply h ts)
    term-worth h ts = worth_by h ts (head_constant h (constant_values ts)) (is_opened h) refl refl

  module _ (numbering : Numbering) where
    mutual
      form-value : (t : Term) → is_linear t ≡ true → form_worth (unit_value a) (form_of numbering t).result =ℚ unit_value a t
      form-value (apply h ts) e =
          let both = and_parts (is_linear_node h (constant_values ts)) (are_linear ts) e in
          term-worth numbering (unit_value a) h ts (forms-values ts both.1) both.0
          (own_from h (forms_of numbering ts).result (unit_value a (apply h ts) =ℚ unit_value a (apply h ts)) (=ℚ_refl (unit_value a (apply h ts))))

      forms-values : (ts : Terms) → are_linear ts ≡ true → Match numbering (unit_value a) (forms_of numbering ts).result (values_of a ts)
      forms-values no_terms e = _
      forms-values (terms t ts) e =
          let both = and_parts (is_linear t) (are_linear ts) e in
          (form-value t both.0, forms-values ts both.1)

pub form_has_value : FormHasValue
form_has_value numbering a t e = =ℚ_trans (=ℚ-from_same (form_is_worth a (form_of numbering t).result)) (form-value a numbering t e)
