-- The form of a term is a sum: each unit stands once, at its place, with a coefficient other than 0.
use Rattle.std.proofs.Common.{◌≡◌, ℕ, ◌<◌, ◌≤◌, Bool, true, false, List, [], ◌∷◌, Option, Some, None, map, pos, refl, ap, arith}
use Rattle.std.specs.Prelude.{if◌then◌else◌, nat_lt}
use Rattle.std.specs.List.{AllByRecursion}
use Rattle.std.proofs.lemmas.Bool.Decides.{nat_tests}
use Rattle.nz_fractions.specs.Fraction.{Fraction, denominator, whole, fraction_eq, Arithmetic, Sum, Difference, Product, Quotient, outcome}
use Rattle.nz_spec.specs.terms.Term.{Head, sum, difference, product, quotient, to_real, Term, apply, Terms, no_terms, terms, is_zero}
use Rattle.nz_spec.specs.terms.Linear.{head_constant, constant_values}
use Rattle.nz_spec.specs.terms.Same.{are_same_term}
use Rattle.nz_spec.specs.numbers.Computation.{Computation, operated, at_once, turned_into, and_then}
use Rattle.nz_spec.specs.terms.Form.{Numbering, Part, Form, constant_form, unit_form, with_part, MayPrecede, AreRising, IsSum, negated_part, negated_form, part_alone, part_joined, parts_joined, joined, all_joined, parts_scaled, scaled}
use Rattle.nz_spec.specs.terms.FormOf.{is_opened, constants_product, open_form, divided_by, divided_by_each, head_form, form_of, forms_of, FormsAreSums}
use Rattle.nz_fractions.proofs.Identities.{neg-nonzero}
use Rattle.nz_spec.proofs.Same.{same_term}

-- ---- Zero

abbrev IsNonzero : Part → Type 0
IsNonzero p = is_zero p.coefficient ≡ false

one-nonzero : is_zero (whole (pos 1)) ≡ false
unfolding fraction_eq denominator
one-nonzero = refl

alone-nonzero : (op : Arithmetic) (q : Part) → IsNonzero q → IsNonzero (part_alone op q)
alone-nonzero Sum q h = h
alone-nonzero Difference q h = neg-nonzero q.coefficient h
alone-nonzero Product q h = h
alone-nonzero Quotient q h = h

with_part-nonzero : (u : Term) (c : Fraction) (ps : List Part) → AllByRecursion IsNonzero ps → AllByRecursion IsNonzero (with_part u c ps)
with_part-nonzero u c ps h = by_test (is_zero c) refl
  where
    by_test : (b : Bool) → is_zero c ≡ b → AllByRecursion IsNonzero (if b then ps else record { coefficient = c; unit = u } ∷ ps)
    by_test true e = h
    by_test false e = (e, h)

-- ---- The order

less_from : (m n : ℕ) → nat_lt m n ≡ true → m < n
less_from m n e = grind (arith, nat_tests)

most_from : (m n : ℕ) → nat_lt m n ≡ false → n ≤ m
most_from m n e = grind (arith, nat_tests)

all_weaker : {P Q : Part → Type 0} → ((p : Part) → P p → Q p) → (ps : List Part) → AllByRecursion P ps → AllByRecursion Q ps
all_weaker f [] h = _
all_weaker f (p ∷ ps) h = (f p h.0, all_weaker f ps h.1)

module _ (number : Numbering) where
  lesser_precedes : (p q : Part) → number p.unit < number q.unit → MayPrecede number p q
  lesser_precedes p q h = (omega (arith, h), by_test (are_same_term p.unit q.unit) refl)
    where
      by_test : (b : Bool) → are_same_term p.unit q.unit ≡ b → are_same_term p.unit q.unit ≡ false
      by_test false e = e
      by_test true e = absurd (omega (arith, h, ap number (same_term p.unit q.unit e)))

  precedes_alone : (op : Arithmetic) (p q : Part) → MayPrecede number p q → MayPrecede number p (part_alone op q)
  precedes_alone Sum p q h = h
  precedes_alone Difference p q h = h
  precedes_alone Product p q h = h
  precedes_alone Quotient p q h = h

  alone_precedes : (op : Arithmetic) (q : Part) (ps : List Part) → AllByRecursion (MayPrecede number q) ps → AllByRecursion (MayPrecede number (part_alone op q)) ps
  alone_precedes Sum q ps h = h
  alone_precedes Difference q ps h = all_weaker (λ p k. k) ps h
  alone_precedes Product q ps h = h
  alone_precedes Quotient q ps h = h

  precedes_with : (p : Part) (u : Term) (c : Fraction) (ps : List Part) → MayPrecede number p (record { coefficient = c; unit = u }) → AllByRecursion (MayPrecede number p) ps → AllByRecursion (MayPrecede number p) (with_part u c ps)
  precedes_with p u c ps h hs = by_test (is_zero c)
    where
      by_test : (b : Bool) → AllByRecursion (MayPrecede number p) (if b then ps else record { coefficient = c; unit = u } ∷ ps)
      by_test true = hs
      by_test false = (h, hs)

  with_part-rising : (u : Term) (c : Fraction) (ps : List Part) → AllByRecursion (MayPrecede number (record { coefficient = c; unit = u })) ps → AreRising number ps → AreRising number (with_part u c ps)
  with_part-rising u c ps h hs = by_test (is_zero c)
    where
      by_test : (b : Bool) → AreRising number (if b then ps else record { coefficient = c; unit = u } ∷ ps)
      by_test true = hs
      by_test false = (h, hs)

  -- ---- A part that joins

  -- where the next unit is the same, and where it comes behind
  abbrev joined_by : Arithmetic → Part → List Part → Part → Bool → Bool → Computation (List Part)
  joined_by op p ps q same before =
      if same then turned_into (λ c. with_part p.unit c ps) (operated op p.coefficient q.coefficient)
      else if before then at_once (part_alone op q ∷ p ∷ ps)
      else turned_into (λ rs. p ∷ rs) (part_joined number op ps q)

  precedes_by : (op : Arithmetic) (p r : Part) (rs : List Part) (q : Part) (b c : Bool) → MayPrecede number p r → AllByRecursion (MayPrecede number p) rs → MayPrecede number p q
      → AllByRecursion (MayPrecede number p) (part_joined number op rs q).result → AllByRecursion (MayPrecede number p) (joined_by op r rs q b c).result
  precedes_by op p r rs q true c h hs k ks = precedes_with p r.unit (outcome op r.coefficient q.coefficient) rs h hs
  precedes_by op p r rs q false true h hs k ks = (precedes_alone op p q k, (h, hs))
  precedes_by op p r rs q false false h hs k ks = (h, ks)

  joined-precedes : (op : Arithmetic) (p : Part) (rs : List Part) (q : Part) → AllByRecursion (MayPrecede number p) rs → MayPrecede number p q → AllByRecursion (MayPrecede number p) (part_joined number op rs q).result
  joined-precedes op p [] q h k = (precedes_alone op p q k, _)
  joined-precedes op p (r ∷ rs) q h k =
      precedes_by op p r rs q (are_same_term r.unit q.unit) (nat_lt (number q.unit) (number r.unit)) h.0 h.1 k (joined-precedes op p rs q h.1 k)

  rising_by : (op : Arithmetic) (p : Part) (ps : List Part) (q : Part) (b c : Bool) → are_same_term p.unit q.unit ≡ b → nat_lt (number q.unit) (number p.unit) ≡ c
      → AllByRecursion (MayPrecede number p) ps → AreRising number ps → AreRising number (part_joined number op ps q).result → AreRising number (joined_by op p ps q b c).result
  rising_by op p ps q true c same before h hs k = with_part-rising p.unit (outcome op p.coefficient q.coefficient) ps (all_weaker (λ r m. m) ps h) hs
  rising_by op p ps q false true same before h hs k =
      let below : number q.unit < number p.unit = less_from (number q.unit) (number p.unit) before in
      (alone_precedes op q (p ∷ ps) (lesser_precedes q p below, all_weaker (λ r m. lesser_precedes q r (omega (arith, below, m.0))) ps h), (h, hs))
  rising_by op p ps q false false same before h hs k =
      (joined-precedes op p ps q h (most_from (number q.unit) (number p.unit) before, same), k)

  joined-rising : (op : Arithmetic) (ps : List Part) (q : Part) → AreRising number ps → AreRising number (part_joined number op ps q).result
  joined-rising op [] q h = (_, _)
  joined-rising op (p ∷ ps) q h =
      rising_by op p ps q (are_same_term p.unit q.unit) (nat_lt (number q.unit) (number p.unit)) refl refl h.0 h.1 (joined-rising op ps q h.1)

  nonzero_by : (op : Arithmetic) (p : Part) (ps : List Part) (q : Part) (b c : Bool) → IsNonzero p → AllByRecursion IsNonzero ps → IsNonzero q
      → AllByRecursion IsNonzero (part_joined number op ps q).result → AllByRecursion IsNonzero (joined_by op p ps q b c).result
  nonzero_by op p ps q true c h hs k ks = with_part-nonzero p.unit (outcome op p.coefficient q.coefficient) ps hs
  nonzero_by op p ps q false true h hs k ks = (alone-nonzero op q k, (h, hs))
  nonzero_by op p ps q false false h hs k ks = (h, ks)

  joined-nonzero : (op : Arithmetic) (ps : List Part) (q : Part) → AllByRecursion IsNonzero ps → IsNonzero q → AllByRecursion IsNonzero (part_joined number op ps q).result
  joined-nonzero op [] q h k = (alone-nonzero op q k, _)
  joined-nonzero op (p ∷ ps) q h k =
      nonzero_by op p ps q (are_same_term p.unit q.unit) (nat_lt (number q.unit) (number p.unit)) h.0 h.1 k (joined-nonzero op ps q h.1 k)

  -- ---- Forms that join

  parts-rising : (op : Arithmetic) (ps qs : List Part) → AreRising number ps → AreRising number (parts_joined number op ps qs).result
  parts-rising op ps [] h = h
  parts-rising op ps (q ∷ qs) h = parts-rising op (part_joined number op ps q).result qs (joined-rising op ps q h)

  parts-nonzero : (op : Arithmetic) (ps qs : List Part) → AllByRecursion IsNonzero ps → AllByRecursion IsNonzero qs → AllByRecursion IsNonzero (parts_joined number op ps qs).result
  parts-nonzero op ps [] h k = h
  parts-nonzero op ps (q ∷ qs) h k = parts-nonzero op (part_joined number op ps q).result qs (joined-nonzero op ps q h k.0) k.1

  joined-sum : (op : Arithmetic) (f g : Form) → IsSum number f → IsSum number g → IsSum number (joined number op f g).result
  joined-sum op f g h k = record {
    rising = parts-rising op f.parts g.parts h.rising;
    nonzero = parts-nonzero op f.parts g.parts h.nonzero k.nonzero;
  }

  all_joined-sum : (op : Arithmetic) (f : Form) (gs : List Form) → IsSum number f → AllByRecursion (IsSum number) gs → IsSum number (all_joined number op f gs).result
  all_joined-sum op f [] h k = h
  all_joined-sum op f (g ∷ gs) h k = all_joined-sum op (joined number op f g).result gs (joined-sum op f g h k.0) k.1

  -- ---- Forms that are scaled or negated

  scaled-precedes : (times : Fraction → Computation Fraction) (p : Part) (ps : List Part) → AllByRecursion (MayPrecede number p) ps → AllByRecursion (MayPrecede number p) (parts_scaled times ps).result
  scaled-precedes times p [] h = _
  scaled-precedes times p (r ∷ rs) h = precedes_with p r.unit (times r.coefficient).result (parts_scaled times rs).result h.0 (scaled-precedes times p rs h.1)

  scaled-rising : (times : Fraction → Computation Fraction) (ps : List Part) → AreRising number ps → AreRising number (parts_scaled times ps).result
  scaled-rising times [] h = _
  scaled-rising times (p ∷ ps) h =
      with_part-rising p.unit (times p.coefficient).result (parts_scaled times ps).result
      (all_weaker (λ r m. m) (parts_scaled times ps).result (scaled-precedes times p ps h.0))
      (scaled-rising times ps h.1)

  scaled-nonzero : (times : Fraction → Computation Fraction) (ps : List Part) → AllByRecursion IsNonzero (parts_scaled times ps).result
  scaled-nonzero times [] = _
  scaled-nonzero times (p ∷ ps) = with_part-nonzero p.unit (times p.coefficient).result (parts_scaled times ps).result (scaled-nonzero times ps)

  scaled-sum : (times : Fraction → Computation Fraction) (f : Form) → IsSum number f → IsSum number (scaled times f).result
  scaled-sum times f h = record { rising = scaled-rising times f.parts h.rising; nonzero = scaled-nonzero times f.parts }

  negated-precedes : (p : Part) (ps : List Part) → AllByRecursion (MayPrecede number p) ps → AllByRecursion (MayPrecede number (negated_part p)) (map negated_part ps)
  negated-precedes p [] h = _
  negated-precedes p (r ∷ rs) h = (h.0, negated-precedes p rs h.1)

  negated-rising : (ps : List Part) → AreRising number ps → AreRising number (map negated_part ps)
  negated-rising [] h = _
  negated-rising (p ∷ ps) h = (negated-precedes p ps h.0, negated-rising ps h.1)

  negated-nonzero : (ps : List Part) → AllByRecursion IsNonzero ps → AllByRecursion IsNonzero (map negated_part ps)
  negated-nonzero [] h = _
  negated-nonzero (p ∷ ps) h = (neg-nonzero p.coefficient h.0, negated-nonzero ps h.1)

  negated-sum : (f : Form) → IsSum number f → IsSum number (negated_form f)
  negated-sum f h = record { rising = negated-rising f.parts h.rising; nonzero = negated-nonzero f.parts h.nonzero }

  -- ---- The form of a term

  constant-sum : (q : Fraction) → IsSum number (constant_form q)
  constant-sum q = record { rising = _; nonzero = _ }

  unit-sum : (u : Term) → IsSum number (unit_form u)
  unit-sum u = record { rising = (_, _); nonzero = (one-nonzero, _) }

  open-sum : (cs : List (Option Fraction)) (fs : List Form) → AllByRecursion (IsSum number) fs → IsSum number (open_form cs fs)
  open-sum [] fs h = constant-sum (whole (pos 1))
  open-sum (None ∷ cs) [] h = constant-sum (whole (pos 1))
  open-sum (Some c ∷ cs) [] h = constant-sum (whole (pos 1))
  open-sum (None ∷ cs) (f ∷ fs) h = h.0
  open-sum (Some c ∷ cs) (f ∷ fs) h = open-sum cs fs h.1

  divided-sum : (f : Form) (ks : List (Option Fraction)) → IsSum number f → IsSum number (divided_by_each f ks).result
  divided-sum f [] h = h
  divided-sum f (None ∷ ks) h = divided-sum f ks h
  divided-sum f (Some k ∷ ks) h =
      divided-sum (divided_by k f).result ks (scaled-sum (λ c. operated Product c (outcome Quotient (whole (pos 1)) k)) f h)

  head-sum : (h : Head) (cs : List (Option Fraction)) (fs : List Form) (u : Form) → AllByRecursion (IsSum number) fs → IsSum number u → IsSum number (head_form number h cs fs u).result
  head-sum (sum s) cs [] u hs k = constant-sum (whole (pos 0))
  head-sum (sum s) cs (f ∷ fs) u hs k = all_joined-sum Sum f fs hs.0 hs.1
  head-sum (difference s) cs [] u hs k = constant-sum (whole (pos 0))
  head-sum (difference s) cs (f ∷ []) u hs k = negated-sum f hs.0
  head-sum (difference s) cs (f ∷ g ∷ gs) u hs k = all_joined-sum Difference f (g ∷ gs) hs.0 hs.1
  head-sum (product s) cs fs u hs k = scaled-sum (operated Product (constants_product cs).result) (open_form cs fs) (open-sum cs fs hs)
  head-sum quotient [] [] u hs k = constant-sum (whole (pos 1))
  head-sum quotient [] (f ∷ fs) u hs k = constant-sum (whole (pos 1))
  head-sum quotient (c ∷ cs) [] u hs k = constant-sum (whole (pos 1))
  head-sum quotient (c ∷ cs) (f ∷ fs) u hs k = divided-sum f cs hs.0
  head-sum to_real cs [] u hs k = k
  head-sum to_real cs (f ∷ []) u hs k = hs.0
  head-sum to_real cs (f ∷ g ∷ gs) u hs k = k
  head-sum h cs fs u hs k = k

  -- by whether the term is constant, and whether arithmetic opens it
  abbrev formed_by : Head → Terms → Option Fraction → Bool → Computation Form
  formed_by h ts c opened =
      elim c [
        | Some q ↦ at_once (constant_form q)
        | None ↦
            if opened then and_then (forms_of number ts) (λ fs. head_form number h (constant_values ts) fs (unit_form (apply h ts)))
            else at_once (unit_form (apply h ts))
      ]

  sum_by : (h : Head) (ts : Terms) (c : Option Fraction) (opened : Bool) → AllByRecursion (IsSum number) (forms_of number ts).result → IsSum number (formed_by h ts c opened).result
  sum_by h ts (Some q) opened hs = constant-sum q
  sum_by h ts None true hs = head-sum h (constant_values ts) (forms_of number ts).result (unit_form (apply h ts)) hs (unit-sum (apply h ts))
  sum_by h ts None false hs = unit-sum (apply h ts)

  mutual
    form-sum : (t : Term) → IsSum number (form_of number t).result
    form-sum (apply h ts) = sum_by h ts (head_constant h (constant_values ts)) (is_opened h) (forms-sum ts)

    forms-sum : (ts : Terms) → AllByRecursion (IsSum number) (forms_of number ts).result
    forms-sum no_terms = _
    forms-sum (terms t ts) = (form-sum t, forms-sum ts)

pub forms_are_sums : FormsAreSums
forms_are_sums number t = form-sum number t
