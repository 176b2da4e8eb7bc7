-- Forms are the same by two numberings that agree on the terms that they are made of.
use Rattle.std.proofs.Common.{◌≡◌, Bool, true, false, List, [], ◌∷◌, map, Option, Some, None, if◌then◌else◌, refl, ap, ◌∙◌}
use Rattle.std.specs.Prelude.{nat_lt, pos, ⊤}
use Rattle.std.specs.List.{AllByRecursion}
use Rattle.nz_spec.specs.numbers.Computation.{Computation, operated, at_once, turned_into, and_then}
use Rattle.nz_spec.specs.terms.Form.{Numbering, Part, Form, constant_form, unit_form, with_part, negated_part, part_alone, part_joined, parts_joined, joined, all_joined, parts_scaled}
use Rattle.nz_spec.specs.terms.FormOf.{is_opened, constants_product, open_form, divided_by, divided_by_each, head_form, form_of, forms_of}
use Rattle.nz_fractions.specs.Fraction.{Fraction, whole, Arithmetic, Sum, Difference, Product, Quotient}
use Rattle.nz_spec.specs.clauses.Links.{minus}
use Rattle.nz_spec.specs.terms.Linear.{head_constant, constant_values}
use Rattle.nz_spec.specs.terms.Same.{are_same_term}
use Rattle.nz_spec.specs.terms.Term.{Head, sum, difference, product, quotient, to_real, Term, apply, Terms, no_terms, terms, is_zero}

-- each of these terms
abbrev pub AllTerms : (Term → Type 0) → Terms → Type 0
AllTerms P no_terms = ⊤
AllTerms P (terms t ts) = P t × AllTerms P ts

module _ (P : Term → Type 0) where
  abbrev pub Among : List Part → Type 0
  Among ps = AllByRecursion (λ (p : Part). P p.unit) ps

  abbrev pub AllAmong : List Form → Type 0
  AllAmong fs = AllByRecursion (λ (f : Form). Among f.parts) fs

  -- ---- What is made of such units has such units

  alone_in : (op : Arithmetic) (p : Part) → P p.unit → P (part_alone op p).unit
  alone_in Sum p h = h
  alone_in Difference p h = h
  alone_in Product p h = h
  alone_in Quotient p h = h

  with_in : (b : Bool) (u : Term) (c : Fraction) (ps : List Part) → P u → Among ps → Among (if b then ps else record { coefficient = c; unit = u } ∷ ps)
  with_in true u c ps h k = k
  with_in false u c ps h k = (h, k)

  placed_in : (same less : Bool) (op : Arithmetic) (p q : Part) (ps : List Part) (rest : Computation (List Part)) (joins : Computation Fraction)
      → P p.unit → P q.unit → Among ps → Among rest.result
      → Among (if same then turned_into (λ d. with_part p.unit d ps) joins else if less then at_once (part_alone op q ∷ p ∷ ps) else turned_into (λ rs. p ∷ rs) rest).result
  placed_in true less op p q ps rest joins h k all more = with_in (is_zero joins.result) p.unit joins.result ps h all
  placed_in false true op p q ps rest joins h k all more = (alone_in op q k, (h, all))
  placed_in false false op p q ps rest joins h k all more = (h, more)

  part_in : (number : Numbering) (op : Arithmetic) (ps : List Part) (q : Part) → Among ps → P q.unit → Among (part_joined number op ps q).result
  part_in number op [] q h k = (alone_in op q k, tt)
  part_in number op (p ∷ ps) q h k =
      placed_in (are_same_term p.unit q.unit) (nat_lt (number q.unit) (number p.unit)) op p q ps (part_joined number op ps q)
      (operated op p.coefficient q.coefficient) h.0 k h.1 (part_in number op ps q h.1 k)

  pub parts_in : (number : Numbering) (op : Arithmetic) (ps qs : List Part) → Among ps → Among qs → Among (parts_joined number op ps qs).result
  parts_in number op ps [] h k = h
  parts_in number op ps (q ∷ qs) h k = parts_in number op (part_joined number op ps q).result qs (part_in number op ps q h k.0) k.1

  all_in : (number : Numbering) (op : Arithmetic) (f : Form) (gs : List Form) → Among f.parts → AllAmong gs → Among (all_joined number op f gs).result.parts
  all_in number op f [] h k = h
  all_in number op f (g ∷ gs) h k = all_in number op (joined number op f g).result gs (parts_in number op f.parts g.parts h k.0) k.1

  pub negated_in : (ps : List Part) → Among ps → Among (map negated_part ps)
  negated_in [] h = tt
  negated_in (p ∷ ps) h = (h.0, negated_in ps h.1)

  scaled_in : (times : Fraction → Computation Fraction) (ps : List Part) → Among ps → Among (parts_scaled times ps).result
  scaled_in times [] h = tt
  scaled_in times (p ∷ ps) h =
      with_in (is_zero (times p.coefficient).result) p.unit (times p.coefficient).result (parts_scaled times ps).result h.0 (scaled_in times ps h.1)

  each_in : (f : Form) (cs : List (Option Fraction)) → Among f.parts → Among (divided_by_each f cs).result.parts
  each_in f [] h = h
  each_in f (None ∷ cs) h = each_in f cs h
  each_in f (Some k ∷ cs) h =
      each_in (divided_by k f).result cs (scaled_in (λ c. operated Product c (operated Quotient (whole (pos 1)) k).result) f.parts h)

  open_in : (cs : List (Option Fraction)) (fs : List Form) → AllAmong fs → Among (open_form cs fs).parts
  open_in [] fs h = tt
  open_in (None ∷ cs) [] h = tt
  open_in (None ∷ cs) (f ∷ fs) h = h.0
  open_in (Some c ∷ cs) [] h = tt
  open_in (Some c ∷ cs) (f ∷ fs) h = open_in cs fs h.1

  head_in : (number : Numbering) (h : Head) (cs : List (Option Fraction)) (fs : List Form) (unit : Form) → AllAmong fs → Among unit.parts
      → Among (head_form number h cs fs unit).result.parts
  head_in number (sum s) cs [] unit all own = tt
  head_in number (sum s) cs (f ∷ fs) unit all own = all_in number Sum f fs all.0 all.1
  head_in number (difference s) cs [] unit all own = tt
  head_in number (difference s) cs (f ∷ []) unit all own = negated_in f.parts all.0
  head_in number (difference s) cs (f ∷ g ∷ gs) unit all own = all_in number Difference f (g ∷ gs) all.0 all.1
  head_in number (product s) cs fs unit all own =
      scaled_in (λ c. operated Product (constants_product cs).result c) (open_form cs fs).parts (open_in cs fs all)
  head_in number quotient (c ∷ cs) (f ∷ fs) unit all own = each_in f cs all.0
  head_in number quotient [] fs unit all own = tt
  head_in number quotient (c ∷ cs) [] unit all own = tt
  head_in number to_real cs (f ∷ []) unit all own = all.0
  head_in number h cs fs unit all own = own

  module _ (closed : (h : Head) (ts : Terms) → P (apply h ts) → AllTerms P ts) (number : Numbering) where
    -- a constant, an operator that is opened, or a unit
    of_in : (o : Option Fraction) (b : Bool) (h : Head) (cs : List (Option Fraction)) (fs : Computation (List Form)) (unit : Form) → AllAmong fs.result → Among unit.parts
        → (let form : Computation Form = elim o [ Some q ↦ at_once (constant_form q) | None ↦ if b then and_then fs (λ gs. head_form number h cs gs unit) else at_once unit ] in
        Among form.result.parts)
    of_in (Some q) b h cs fs unit all own = tt
    of_in None true h cs fs unit all own = head_in number h cs fs.result unit all own
    of_in None false h cs fs unit all own = own

    mutual
      pub form_in : (t : Term) → P t → Among (form_of number t).result.parts
      form_in (apply h ts) p =
          of_in (head_constant h (constant_values ts)) (is_opened h) h (constant_values ts) (forms_of number ts) (unit_form (apply h ts)) (forms_in ts (closed h ts p)) (p, tt)

      forms_in : (ts : Terms) → AllTerms P ts → AllAmong (forms_of number ts).result
      forms_in no_terms h = tt
      forms_in (terms t ts) h = (form_in t h.0, forms_in ts h.1)

  -- ---- By two numberings

  module _ (number other : Numbering) (agree : (t : Term) → P t → number t ≡ other t) where
    same_part : (op : Arithmetic) (ps : List Part) (q : Part) → Among ps → P q.unit → part_joined number op ps q ≡ part_joined other op ps q
    same_part op [] q h k = refl
    same_part op (p ∷ ps) q h k =
        λ i. if are_same_term p.unit q.unit then turned_into (λ c. with_part p.unit c ps) (operated op p.coefficient q.coefficient)
        else if nat_lt (agree q.unit k i) (agree p.unit h.0 i) then at_once (part_alone op q ∷ p ∷ ps)
        else turned_into (λ rs. p ∷ rs) (same_part op ps q h.1 k i)

    same_parts : (op : Arithmetic) (ps qs : List Part) → Among ps → Among qs → parts_joined number op ps qs ≡ parts_joined other op ps qs
    same_parts op ps [] h k = refl
    same_parts op ps (q ∷ qs) h k =
        let d = part_joined other op ps q in
        ap (λ (c : Computation (List Part)). and_then c (λ rs. parts_joined number op rs qs)) (same_part op ps q h k.0)
        ∙ ap (λ (e : Computation (List Part)). and_then d (λ rs. e)) (same_parts op d.result qs (part_in other op ps q h k.0) k.1)

    pub same_joined : (op : Arithmetic) (f g : Form) → Among f.parts → Among g.parts → joined number op f g ≡ joined other op f g
    same_joined op f g h k =
        ap (λ (c : Computation (List Part)). and_then c (λ ps. turned_into (λ d. record { parts = ps; offset = d }) (operated op f.offset g.offset)))
        (same_parts op f.parts g.parts h k)

    same_all : (op : Arithmetic) (f : Form) (gs : List Form) → Among f.parts → AllAmong gs → all_joined number op f gs ≡ all_joined other op f gs
    same_all op f [] h k = refl
    same_all op f (g ∷ gs) h k =
        let d = joined other op f g in
        ap (λ (c : Computation Form). and_then c (λ e. all_joined number op e gs)) (same_joined op f g h k.0)
        ∙ ap (λ (e : Computation Form). and_then d (λ x. e)) (same_all op d.result gs (parts_in other op f.parts g.parts h k.0) k.1)

    same_head : (h : Head) (cs : List (Option Fraction)) (fs : List Form) (unit : Form) → AllAmong fs → head_form number h cs fs unit ≡ head_form other h cs fs unit
    same_head (sum s) cs [] unit all = refl
    same_head (sum s) cs (f ∷ fs) unit all = same_all Sum f fs all.0 all.1
    same_head (difference s) cs [] unit all = refl
    same_head (difference s) cs (f ∷ []) unit all = refl
    same_head (difference s) cs (f ∷ g ∷ gs) unit all = same_all Difference f (g ∷ gs) all.0 all.1
    same_head (product s) cs fs unit all = refl
    same_head quotient [] fs unit all = refl
    same_head quotient (c ∷ cs) [] unit all = refl
    same_head quotient (c ∷ cs) (f ∷ fs) unit all = refl
    same_head to_real cs [] unit all = refl
    same_head to_real cs (f ∷ []) unit all = refl
    same_head to_real cs (f ∷ g ∷ gs) unit all = refl
    same_head h cs fs unit all = refl

    module _ (closed : (h : Head) (ts : Terms) → P (apply h ts) → AllTerms P ts) where
      same_of : (o : Option Fraction) (b : Bool) (h : Head) (cs : List (Option Fraction)) (fs gs : Computation (List Form)) (unit : Form) → fs ≡ gs → AllAmong gs.result
          → (let form : Computation Form = elim o [ Some q ↦ at_once (constant_form q) | None ↦ if b then and_then fs (λ ds. head_form number h cs ds unit) else at_once unit ] in form)
          ≡ elim o [ Some q ↦ at_once (constant_form q) | None ↦ if b then and_then gs (λ ds. head_form other h cs ds unit) else at_once unit ]
      same_of (Some q) b h cs fs gs unit same all = refl
      same_of None true h cs fs gs unit same all =
          ap (λ (c : Computation (List Form)). and_then c (λ ds. head_form number h cs ds unit)) same
          ∙ ap (λ (e : Computation Form). and_then gs (λ ds. e)) (same_head h cs gs.result unit all)
      same_of None false h cs fs gs unit same all = refl

      mutual
        pub same_form : (t : Term) → P t → form_of number t ≡ form_of other t
        same_form (apply h ts) p =
            same_of (head_constant h (constant_values ts)) (is_opened h) h (constant_values ts) (forms_of number ts) (forms_of other ts) (unit_form (apply h ts))
            (same_forms ts (closed h ts p)) (forms_in closed other ts (closed h ts p))

        same_forms : (ts : Terms) → AllTerms P ts → forms_of number ts ≡ forms_of other ts
        same_forms no_terms h = refl
        same_forms (terms t ts) h =
            let d = form_of other t in
            ap (λ (c : Computation Form). and_then c (λ f. turned_into (λ fs. f ∷ fs) (forms_of number ts))) (same_form t h.0)
            ∙ ap (λ (e : Computation (List Form)). and_then d (λ f. turned_into (λ fs. f ∷ fs) e)) (same_forms ts h.1)

      pub same_minus : (t u : Term) → P t → P u → minus number (form_of number t) (form_of number u) ≡ minus other (form_of other t) (form_of other u)
      same_minus t u p q =
          let f = form_of other t in
          let g = form_of other u in
          ap (λ (c : Computation Form). and_then c (λ x. and_then (form_of number u) (λ y. joined number Difference x y))) (same_form t p)
          ∙ ap (λ (d : Computation Form). and_then f (λ x. and_then d (λ y. joined number Difference x y))) (same_form u q)
          ∙ ap (λ (e : Computation Form). and_then f (λ x. and_then g (λ y. e))) (same_joined Difference f.result g.result (form_in closed other t p) (form_in closed other u q))
