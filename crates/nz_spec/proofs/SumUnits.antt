-- The units of sums and of multiples are those of their parts; of the form of a term they are terms that it is made of.
use Rattle.std.proofs.Common.{Bool, true, false, List, [], ◌∷◌, map, Option, Some, None, pos}
use Rattle.std.specs.Prelude.{Contains, if◌then◌else◌, nat_lt, ⊤}
use Rattle.std.specs.List.{AllByRecursion}
use Rattle.std.proofs.lemmas.List.Elements.{Contains-append_left, Contains-append_right, Contains-push}
use Rattle.nz_fractions.specs.Fraction.{Fraction, whole, Arithmetic, Sum, Difference, Product, Quotient, outcome}
use Rattle.nz_spec.specs.numbers.Computation.{Computation, operated, at_once, turned_into, and_then}
use Rattle.nz_spec.specs.terms.Term.{Head, sum, difference, product, quotient, to_real, Term, apply, Terms, no_terms, terms, is_zero}
use Rattle.nz_spec.specs.terms.Linear.{head_constant, constant_values}
use Rattle.nz_spec.specs.terms.Same.{are_same_term}
use Rattle.nz_spec.specs.terms.Form.{Numbering, Part, Form, constant_form, unit_form, with_part, negated_part, part_alone, part_joined, parts_joined, joined, all_joined, parts_scaled}
use Rattle.nz_spec.specs.terms.FormOf.{is_opened, constants_product, open_form, divided_by, divided_by_each, head_form, form_of, forms_of, UnitsAreParts}
use Rattle.nz_spec.specs.terms.Order.{post_order, post_orders}
use Rattle.nz_spec.specs.clauses.Literal.{term_literal, is_at_most, is_below, Literal}
use Rattle.nz_spec.specs.clauses.LinearLiteral.{parts_of}
use Rattle.nz_spec.specs.clauses.Farkas.{Multiple, Bound, bound_of, bound_scaled, bounds_joined, multiples_onto}

module _ (P : Term → Type 0) where
  abbrev pub OverUnits : List Part → Type 0
  OverUnits ps = AllByRecursion (λ (p : Part). P p.unit) ps

  with_part-over : (u : Term) (c : Fraction) (ps : List Part) → P u → OverUnits ps → OverUnits (with_part u c ps)
  with_part-over u c ps h k = by_test (is_zero c)
    where
      by_test : (b : Bool) → OverUnits (if b then ps else record { coefficient = c; unit = u } ∷ ps)
      by_test true = k
      by_test false = (h, k)

  scaled-over : (times : Fraction → Computation Fraction) (ps : List Part) → OverUnits ps → OverUnits (parts_scaled times ps).result
  scaled-over times [] h = tt
  scaled-over times (p ∷ ps) h = with_part-over p.unit (times p.coefficient).result (parts_scaled times ps).result h.0 (scaled-over times ps h.1)

  negated-over : (ps : List Part) → OverUnits ps → OverUnits (map negated_part ps)
  negated-over [] h = tt
  negated-over (p ∷ ps) h = (h.0, negated-over ps h.1)

  alone-over : (op : Arithmetic) (q : Part) (ps : List Part) → P q.unit → OverUnits ps → OverUnits (part_alone op q ∷ ps)
  alone-over Sum q ps h k = (h, k)
  alone-over Difference q ps h k = (h, k)
  alone-over Product q ps h k = (h, k)
  alone-over Quotient q ps h k = (h, k)

  module _ (number : Numbering) where
    over_by : (op : Arithmetic) (p : Part) (ps : List Part) (q : Part) (b c : Bool) → P p.unit → OverUnits ps → P q.unit → OverUnits (part_joined number op ps q).result
        → OverUnits (if b then turned_into (λ d. with_part p.unit d ps) (operated op p.coefficient q.coefficient) else if c then at_once (part_alone op q ∷ p ∷ ps) else turned_into (λ rs. p ∷ rs) (part_joined number op ps q)).result
    over_by op p ps q true c h hs k ks = with_part-over p.unit (outcome op p.coefficient q.coefficient) ps h hs
    over_by op p ps q false true h hs k ks = alone-over op q (p ∷ ps) k (h, hs)
    over_by op p ps q false false h hs k ks = (h, ks)

    part-over : (op : Arithmetic) (ps : List Part) (q : Part) → OverUnits ps → P q.unit → OverUnits (part_joined number op ps q).result
    part-over op [] q h k = alone-over op q [] k tt
    part-over op (p ∷ ps) q h k =
        over_by op p ps q (are_same_term p.unit q.unit) (nat_lt (number q.unit) (number p.unit)) h.0 h.1 k (part-over op ps q h.1 k)

    parts-over : (op : Arithmetic) (ps qs : List Part) → OverUnits ps → OverUnits qs → OverUnits (parts_joined number op ps qs).result
    parts-over op ps [] h k = h
    parts-over op ps (q ∷ qs) h k = parts-over op (part_joined number op ps q).result qs (part-over op ps q h k.0) k.1

    -- ---- Multiples of literals

    bound-over : (l : Literal) → OverUnits (parts_of l) → OverUnits (bound_of l).parts
    bound-over (term_literal t sign) h = tt
    bound-over (is_at_most ps b) h = h
    bound-over (is_below ps b) h = h

    pub onto-over : (x : Bound) (ms : List Multiple) → OverUnits x.parts → AllByRecursion (λ (m : Multiple). OverUnits (parts_of m.literal)) ms → OverUnits (multiples_onto number x ms).result.parts
    onto-over x [] h k = h
    onto-over x (m ∷ ms) h k =
        let y = (bound_scaled m.multiplier (bound_of m.literal)).result in
        onto-over (bounds_joined number x y).result ms
        (parts-over Sum x.parts y.parts h (scaled-over (operated Product m.multiplier) (bound_of m.literal).parts (bound-over m.literal k.0)))
        k.1

    -- ---- Forms of terms

    abbrev FormsOver : List Form → Type 0
    FormsOver fs = AllByRecursion (λ (f : Form). OverUnits f.parts) fs

    all_joined-over : (op : Arithmetic) (f : Form) (gs : List Form) → OverUnits f.parts → FormsOver gs → OverUnits (all_joined number op f gs).result.parts
    all_joined-over op f [] h k = h
    all_joined-over op f (g ∷ gs) h k = all_joined-over op (joined number op f g).result gs (parts-over op f.parts g.parts h k.0) k.1

    open-over : (cs : List (Option Fraction)) (fs : List Form) → FormsOver fs → OverUnits (open_form cs fs).parts
    open-over [] fs h = tt
    open-over (None ∷ cs) [] h = tt
    open-over (Some c ∷ cs) [] h = tt
    open-over (None ∷ cs) (f ∷ fs) h = h.0
    open-over (Some c ∷ cs) (f ∷ fs) h = open-over cs fs h.1

    divided-over : (f : Form) (ks : List (Option Fraction)) → OverUnits f.parts → OverUnits (divided_by_each f ks).result.parts
    divided-over f [] h = h
    divided-over f (None ∷ ks) h = divided-over f ks h
    divided-over f (Some k ∷ ks) h =
        divided-over (divided_by k f).result ks (scaled-over (λ c. operated Product c (outcome Quotient (whole (pos 1)) k)) f.parts h)

    head-over : (h : Head) (cs : List (Option Fraction)) (fs : List Form) (u : Form) → FormsOver fs → OverUnits u.parts → OverUnits (head_form number h cs fs u).result.parts
    head-over (sum s) cs [] u hs k = tt
    head-over (sum s) cs (f ∷ fs) u hs k = all_joined-over Sum f fs hs.0 hs.1
    head-over (difference s) cs [] u hs k = tt
    head-over (difference s) cs (f ∷ []) u hs k = negated-over f.parts hs.0
    head-over (difference s) cs (f ∷ g ∷ gs) u hs k = all_joined-over Difference f (g ∷ gs) hs.0 hs.1
    head-over (product s) cs fs u hs k = scaled-over (operated Product (constants_product cs).result) (open_form cs fs).parts (open-over cs fs hs)
    head-over quotient [] [] u hs k = tt
    head-over quotient [] (f ∷ fs) u hs k = tt
    head-over quotient (c ∷ cs) [] u hs k = tt
    head-over quotient (c ∷ cs) (f ∷ fs) u hs k = divided-over f cs hs.0
    head-over to_real cs [] u hs k = k
    head-over to_real cs (f ∷ []) u hs k = hs.0
    head-over to_real cs (f ∷ g ∷ gs) u hs k = k
    head-over h cs fs u hs k = k

    -- by whether the term is constant, and whether arithmetic opens it
    abbrev formed_by : Head → Terms → Option Fraction → Bool → Computation Form
    formed_by h ts c opened =
        elim c [
          | Some q ↦ at_once (constant_form q)
          | None ↦
              if opened then and_then (forms_of number ts) (λ fs. head_form number h (constant_values ts) fs (unit_form (apply h ts)))
              else at_once (unit_form (apply h ts))
        ]

    formed-over : (h : Head) (ts : Terms) (c : Option Fraction) (opened : Bool) → FormsOver (forms_of number ts).result → P (apply h ts) → OverUnits (formed_by h ts c opened).result.parts
    formed-over h ts (Some q) opened hs k = tt
    formed-over h ts None true hs k = head-over h (constant_values ts) (forms_of number ts).result (unit_form (apply h ts)) hs (k, tt)
    formed-over h ts None false hs k = (k, tt)

  -- what is so of a term, of its arguments, of theirs and so on
  abbrev mutual
    pub OverTerm : Term → Type 0
    OverTerm (apply h ts) = P (apply h ts) × OverTerms ts

    pub OverTerms : Terms → Type 0
    OverTerms no_terms = ⊤
    OverTerms (terms t ts) = OverTerm t × OverTerms ts

  mutual
    pub form-over : (number : Numbering) (t : Term) → OverTerm t → OverUnits (form_of number t).result.parts
    form-over number (apply h ts) k = formed-over number h ts (head_constant h (constant_values ts)) (is_opened h) (forms-over number ts k.1) k.0

    forms-over : (number : Numbering) (ts : Terms) → OverTerms ts → AllByRecursion (λ (f : Form). OverUnits f.parts) (forms_of number ts).result
    forms-over number no_terms k = tt
    forms-over number (terms t ts) k = (form-over number t k.0, forms-over number ts k.1)

-- ---- What a term is made of

mutual
  over_parts : (P : Term → Type 0) (t : Term) → ((u : Term) → Contains (post_order t) u → P u) → OverTerm P t
  over_parts P (apply h ts) f =
      (f (apply h ts) (Contains-push (post_orders ts) (apply h ts)), over_all P ts (λ u has. f u (Contains-append_left (post_orders ts) (apply h ts ∷ []) u has)))

  over_all : (P : Term → Type 0) (ts : Terms) → ((u : Term) → Contains (post_orders ts) u → P u) → OverTerms P ts
  over_all P no_terms f = tt
  over_all P (terms t ts) f = (
    over_parts P t (λ u has. f u (Contains-append_left (post_order t) (post_orders ts) u has)),
    over_all P ts (λ u has. f u (Contains-append_right (post_order t) (post_orders ts) u has)),
  )

pub units_are_parts : UnitsAreParts
units_are_parts number t = form-over (Contains (post_order t)) number t (over_parts (Contains (post_order t)) t (λ u has. has))
