-- What forms are worth that are added, subtracted, scaled and negated, and so their values under an assignment.
use Rattle.std.proofs.Common.{◌≡◌, Bool, true, false, List, [], ◌∷◌, map, pos, refl, sym, ap, ap₂, subst}
use Rattle.std.specs.Prelude.{if◌then◌else◌, nat_lt, ⊤}
use Rattle.nz_fractions.specs.Fraction.{Fraction, whole, ◌=ℚ◌, ◌+ℚ◌, neg_ℚ, ◌*ℚ◌, Arithmetic, Sum, Difference, outcome}
use Rattle.nz_spec.specs.terms.Term.{Term, Value, Assignment, number_of, is_zero, carried_out, combined}
use Rattle.nz_spec.specs.terms.Same.{are_same_term}
use Rattle.nz_spec.specs.numbers.Computation.{Computation, operated, at_once, turned_into}
use Rattle.nz_spec.specs.terms.Form.{Numbering, Part, Form, constant_form, unit_form, with_part, negated_part, negated_form, part_alone, part_joined, parts_joined, joined, all_joined, parts_scaled, scaled, unit_value, parts_value, form_value}
use Rattle.nz_spec.specs.simplex.Basis.{Valuation, worth, ValueIsWorth}
use Rattle.nz_fractions.proofs.Laws.{=ℚ_refl, =ℚ-from_same, =ℚ_sym, =ℚ_trans}
use Rattle.nz_fractions.proofs.Order.{same-fraction_eq}
use Rattle.nz_fractions.proofs.Arithmetic.{+ℚ_comm, +ℚ_assoc, +ℚ-zero, +ℚ-same, neg_ℚ-same, *ℚ_assoc, *ℚ-+ℚ, *ℚ-same, outcome-sum, outcome-difference}
use Rattle.nz_fractions.proofs.Identities.{crossed, swapped, zero_left, zero_times, times_zero, one_times, +ℚ-*ℚ, neg-*ℚ, neg-+ℚ, neg-zero}
use Rattle.nz_spec.proofs.Same.{same_term}

-- ---- Adding and subtracting

-- what is added, or subtracted
abbrev pub signed : Arithmetic → Fraction → Fraction
signed Difference x = neg_ℚ x
signed op x = x

pub record Joins (op : Arithmetic) : Type 0 where
  pub outcome_is : (p q : Fraction) → outcome op p q =ℚ (p +ℚ signed op q)
  pub product_is : (p v : Fraction) → (signed op p *ℚ v) =ℚ signed op (p *ℚ v)
  pub sum_is : (p q : Fraction) → signed op (p +ℚ q) =ℚ (signed op p +ℚ signed op q)
  pub zero_is : signed op (whole (pos 0)) =ℚ whole (pos 0)
  pub alike : (p q : Fraction) → p =ℚ q → signed op p =ℚ signed op q
  pub alone : (q : Part) → part_alone op q ≡ record { coefficient = signed op q.coefficient; unit = q.unit }
  pub carried : (v w : Value) → number_of (carried_out op v w) ≡ outcome op (number_of v) (number_of w)

pub by_sum : Joins Sum
by_sum = record {
  outcome_is = outcome-sum;
  product_is = λ p v. =ℚ_refl (p *ℚ v);
  sum_is = λ p q. =ℚ_refl (p +ℚ q);
  zero_is = =ℚ_refl (whole (pos 0));
  alike = λ p q h. h;
  alone = λ q. refl;
  carried = λ v w. refl;
}

pub by_difference : Joins Difference
by_difference = record {
  outcome_is = outcome-difference;
  product_is = neg-*ℚ;
  sum_is = neg-+ℚ;
  zero_is = neg-zero;
  alike = λ p q h. neg_ℚ-same h;
  alone = λ q. refl;
  carried = λ v w. refl;
}

-- ---- What forms are worth, whatever the units are worth

abbrev pub form_worth : Valuation → Form → Fraction
form_worth units f = worth units f.parts +ℚ f.offset

module _ (numbering : Numbering) (units : Valuation) where
  with_part-worth : (u : Term) (c : Fraction) (ps : List Part) → worth units (with_part u c ps) =ℚ (c *ℚ units u +ℚ worth units ps)
  with_part-worth u c ps = by_test (is_zero c) refl
    where
      by_test : (b : Bool) → is_zero c ≡ b → worth units (if b then ps else record { coefficient = c; unit = u } ∷ ps) =ℚ (c *ℚ units u +ℚ worth units ps)
      by_test false e = =ℚ_refl (c *ℚ units u +ℚ worth units ps)
      by_test true e =
          =ℚ_sym (=ℚ_trans
          (+ℚ-same (=ℚ_trans (*ℚ-same (same-fraction_eq c (whole (pos 0)) e) (=ℚ_refl (units u))) (zero_times (units u))) (=ℚ_refl (worth units ps)))
          (zero_left (worth units ps)))

  module _ (op : Arithmetic) (joins : Joins op) where
    -- what a part stands for, as it is added or subtracted
    abbrev part_worth : Part → Fraction
    part_worth q = signed op (q.coefficient *ℚ units q.unit)

    alone-worth : (q : Part) (ps : List Part) → worth units (part_alone op q ∷ ps) =ℚ (part_worth q +ℚ worth units ps)
    alone-worth q ps =
        subst (λ (p : Part). worth units (p ∷ ps) =ℚ (part_worth q +ℚ worth units ps)) (sym (joins.alone q))
        (+ℚ-same (joins.product_is q.coefficient (units q.unit)) (=ℚ_refl (worth units ps)))

    -- the same unit, once with both coefficients
    met : (p : Part) (ps : List Part) (q : Part) → p.unit ≡ q.unit
        → worth units (with_part p.unit (outcome op p.coefficient q.coefficient) ps) =ℚ (worth units (p ∷ ps) +ℚ part_worth q)
    met p ps q same =
        let v = units p.unit in
        let rest = worth units ps in
        let both = outcome op p.coefficient q.coefficient in
        subst (λ (u : Term). worth units (with_part p.unit both ps) =ℚ (worth units (p ∷ ps) +ℚ signed op (q.coefficient *ℚ units u))) same
        (=ℚ_trans (with_part-worth p.unit (outcome op p.coefficient q.coefficient) ps)
        (=ℚ_trans
        (+ℚ-same
        (=ℚ_trans (*ℚ-same (joins.outcome_is p.coefficient q.coefficient) (=ℚ_refl v))
        (=ℚ_trans (+ℚ-*ℚ p.coefficient (signed op q.coefficient) v) (+ℚ-same (=ℚ_refl (p.coefficient *ℚ v)) (joins.product_is q.coefficient v))))
        (=ℚ_refl rest))
        (swapped (p.coefficient *ℚ v) (signed op (q.coefficient *ℚ v)) rest)))

    worth_by : (p : Part) (ps : List Part) (q : Part) (b c : Bool) → are_same_term p.unit q.unit ≡ b
        → worth units (part_joined numbering op ps q).result =ℚ (worth units ps +ℚ part_worth q)
        → worth units (if b then turned_into (λ d. with_part p.unit d ps) (operated op p.coefficient q.coefficient)
        else if c then at_once (part_alone op q ∷ p ∷ ps) else turned_into (λ rs. p ∷ rs) (part_joined numbering op ps q)).result
        =ℚ (worth units (p ∷ ps) +ℚ part_worth q)
    worth_by p ps q true c e ih = met p ps q (same_term p.unit q.unit e)
    worth_by p ps q false true e ih = =ℚ_trans (alone-worth q (p ∷ ps)) (+ℚ_comm (part_worth q) (worth units (p ∷ ps)))
    worth_by p ps q false false e ih =
        let first = p.coefficient *ℚ units p.unit in
        =ℚ_trans (+ℚ-same (=ℚ_refl first) ih) (=ℚ_sym (+ℚ_assoc first (worth units ps) (part_worth q)))

    joined-worth : (ps : List Part) (q : Part) → worth units (part_joined numbering op ps q).result =ℚ (worth units ps +ℚ part_worth q)
    joined-worth [] q = =ℚ_trans (alone-worth q []) (+ℚ_comm (part_worth q) (whole (pos 0)))
    joined-worth (p ∷ ps) q =
        worth_by p ps q (are_same_term p.unit q.unit) (nat_lt (numbering q.unit) (numbering p.unit)) refl (joined-worth ps q)

    pub parts-worth : (ps qs : List Part) → worth units (parts_joined numbering op ps qs).result =ℚ (worth units ps +ℚ signed op (worth units qs))
    parts-worth ps [] =
        =ℚ_sym (=ℚ_trans (+ℚ-same (=ℚ_refl (worth units ps)) joins.zero_is) (+ℚ-zero (worth units ps)))
    parts-worth ps (q ∷ qs) =
        let rest = worth units qs in
        =ℚ_trans (parts-worth (part_joined numbering op ps q).result qs)
        (=ℚ_trans (+ℚ-same (joined-worth ps q) (=ℚ_refl (signed op rest)))
        (=ℚ_trans (+ℚ_assoc (worth units ps) (part_worth q) (signed op rest))
        (+ℚ-same (=ℚ_refl (worth units ps)) (=ℚ_sym (joins.sum_is (q.coefficient *ℚ units q.unit) rest)))))

    pub form_joined-worth : (f g : Form) → form_worth units (joined numbering op f g).result =ℚ (form_worth units f +ℚ signed op (form_worth units g))
    form_joined-worth f g =
        let x = worth units f.parts in
        let y = worth units g.parts in
        =ℚ_trans (+ℚ-same (parts-worth f.parts g.parts) (joins.outcome_is f.offset g.offset))
        (=ℚ_trans (crossed x (signed op y) f.offset (signed op g.offset))
        (+ℚ-same (=ℚ_refl (x +ℚ f.offset)) (=ℚ_sym (joins.sum_is y g.offset))))

  -- forms and values one for one
  abbrev pub Match : List Form → List Value → Type 0
  Match [] [] = ⊤
  Match [] (v ∷ vs) = ⊥
  Match (f ∷ fs) [] = ⊥
  Match (f ∷ fs) (v ∷ vs) = (form_worth units f =ℚ number_of v) × Match fs vs

  pub all_joined-worth : (op : Arithmetic) → Joins op → (f : Form) (gs : List Form) (v : Value) (ws : List Value)
      → form_worth units f =ℚ number_of v → Match gs ws → form_worth units (all_joined numbering op f gs).result =ℚ number_of (combined (carried_out op) v ws)
  all_joined-worth op joins f [] v [] h k = h
  all_joined-worth op joins f [] v (w ∷ ws) h k = absurd k
  all_joined-worth op joins f (g ∷ gs) v [] h k = absurd k
  all_joined-worth op joins f (g ∷ gs) v (w ∷ ws) h k =
      all_joined-worth op joins (joined numbering op f g).result gs (carried_out op v w) ws
      (=ℚ_trans (form_joined-worth op joins f g)
      (=ℚ_trans (+ℚ-same h (joins.alike (form_worth units g) (number_of w) k.0))
      (=ℚ_trans (=ℚ_sym (joins.outcome_is (number_of v) (number_of w))) (=ℚ-from_same (sym (joins.carried v w))))))
      k.1

  -- ---- Scaled and negated

  pub parts_scaled-worth : (times : Fraction → Computation Fraction) (k : Fraction) → ((c : Fraction) → (times c).result =ℚ (k *ℚ c))
      → (ps : List Part) → worth units (parts_scaled times ps).result =ℚ (k *ℚ worth units ps)
  parts_scaled-worth times k is [] = =ℚ_sym (times_zero k)
  parts_scaled-worth times k is (p ∷ ps) =
      let v = units p.unit in
      =ℚ_trans (with_part-worth p.unit (times p.coefficient).result (parts_scaled times ps).result)
      (=ℚ_trans
      (+ℚ-same (=ℚ_trans (*ℚ-same (is p.coefficient) (=ℚ_refl v)) (*ℚ_assoc k p.coefficient v)) (parts_scaled-worth times k is ps))
      (=ℚ_sym (*ℚ-+ℚ k (p.coefficient *ℚ v) (worth units ps))))

  pub form_scaled-worth : (times : Fraction → Computation Fraction) (k : Fraction) → ((c : Fraction) → (times c).result =ℚ (k *ℚ c))
      → (f : Form) → form_worth units (scaled times f).result =ℚ (k *ℚ form_worth units f)
  form_scaled-worth times k is f =
      =ℚ_trans (+ℚ-same (parts_scaled-worth times k is f.parts) (is f.offset)) (=ℚ_sym (*ℚ-+ℚ k (worth units f.parts) f.offset))

  pub parts_negated-worth : (ps : List Part) → worth units (map negated_part ps) =ℚ neg_ℚ (worth units ps)
  parts_negated-worth [] = =ℚ_sym neg-zero
  parts_negated-worth (p ∷ ps) =
      let v = units p.unit in
      =ℚ_trans (+ℚ-same (neg-*ℚ p.coefficient v) (parts_negated-worth ps)) (=ℚ_sym (neg-+ℚ (p.coefficient *ℚ v) (worth units ps)))

  pub form_negated-worth : (f : Form) → form_worth units (negated_form f) =ℚ neg_ℚ (form_worth units f)
  form_negated-worth f =
      =ℚ_trans (+ℚ-same (parts_negated-worth f.parts) (=ℚ_refl (neg_ℚ f.offset))) (=ℚ_sym (neg-+ℚ (worth units f.parts) f.offset))

  pub constant-worth : (q : Fraction) → form_worth units (constant_form q) =ℚ q
  constant-worth q = zero_left q

  pub unit-worth : (u : Term) → form_worth units (unit_form u) =ℚ units u
  unit-worth u =
      =ℚ_trans (+ℚ-zero _) (=ℚ_trans (+ℚ-zero _) (one_times (units u)))

-- ---- Under an assignment a form has the value that it is worth

pub value_is_worth : ValueIsWorth
value_is_worth a [] = refl
value_is_worth a (p ∷ ps) = ap₂ (λ (x y : Fraction). x +ℚ y) refl (value_is_worth a ps)

pub form_is_worth : (a : Assignment) (f : Form) → form_value a f ≡ form_worth (unit_value a) f
form_is_worth a f = ap (λ (x : Fraction). x +ℚ f.offset) (value_is_worth a f.parts)

module _ (numbering : Numbering) (a : Assignment) where
  module _ (op : Arithmetic) (joins : Joins op) where
    pub parts-value : (ps qs : List Part) → parts_value a (parts_joined numbering op ps qs).result =ℚ (parts_value a ps +ℚ signed op (parts_value a qs))
    parts-value ps qs =
        rw (value_is_worth a (parts_joined numbering op ps qs).result, value_is_worth a ps, value_is_worth a qs)
        (parts-worth numbering (unit_value a) op joins ps qs)

    pub form-joined : (f g : Form) → form_value a (joined numbering op f g).result =ℚ (form_value a f +ℚ signed op (form_value a g))
    form-joined f g =
        rw (form_is_worth a (joined numbering op f g).result, form_is_worth a f, form_is_worth a g)
        (form_joined-worth numbering (unit_value a) op joins f g)

  pub parts-scaled : (times : Fraction → Computation Fraction) (k : Fraction) → ((c : Fraction) → (times c).result =ℚ (k *ℚ c))
      → (ps : List Part) → parts_value a (parts_scaled times ps).result =ℚ (k *ℚ parts_value a ps)
  parts-scaled times k is ps =
      rw (value_is_worth a (parts_scaled times ps).result, value_is_worth a ps) (parts_scaled-worth numbering (unit_value a) times k is ps)

  pub parts-negated : (ps : List Part) → parts_value a (map negated_part ps) =ℚ neg_ℚ (parts_value a ps)
  parts-negated ps = rw (value_is_worth a (map negated_part ps), value_is_worth a ps) (parts_negated-worth numbering (unit_value a) ps)

  pub form-negated : (f : Form) → form_value a (negated_form f) =ℚ neg_ℚ (form_value a f)
  form-negated f = rw (form_is_worth a (negated_form f), form_is_worth a f) (form_negated-worth numbering (unit_value a) f)

  pub unit-value : (u : Term) → form_value a (unit_form u) =ℚ unit_value a u
  unit-value u = unit-worth numbering (unit_value a) u
