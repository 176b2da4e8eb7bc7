-- The goal of a group of wishes has the value that its false wishes cost.
use Rattle.std.proofs.Common.{Bool, true, false, List, [], ◌∷◌, pos}
use Rattle.std.specs.Prelude.{if◌then◌else◌}
use Rattle.nz_fractions.specs.Fraction.{Fraction, whole, ◌=ℚ◌, ◌+ℚ◌, ◌*ℚ◌, Sum, Product, outcome}
use Rattle.nz_fractions.proofs.Laws.{=ℚ_refl, =ℚ-from_same, =ℚ_sym}
use Rattle.nz_fractions.proofs.Arithmetic.{+ℚ-zero, +ℚ-same, *ℚ-one, outcome-sum, outcome-product}
use Rattle.nz_fractions.proofs.Identities.{times_zero}
use Rattle.nz_fractions.proofs.Solver.{◌∙ℚ◌, times_right}
use Rattle.nz_spec.specs.numbers.Computation.{operated, and_then}
use Rattle.nz_spec.specs.terms.Term.{Assignment, number_of, whole_number, is_true, value_of}
use Rattle.nz_spec.specs.terms.Form.{Numbering, Form, constant_form, unit_form, unit_value, form_value}
use Rattle.nz_spec.specs.clauses.Wishes.{Wish, cost_of, weighted_cost, wish_joined, wishes_joined, penalty_onto, GroupsHaveValues}
use Rattle.nz_spec.proofs.FormValues.{by_sum, form_is_worth, form-joined, form_scaled-worth, constant-worth, unit-worth}

module _ (number : Numbering) (a : Assignment) where
  -- a weight times the unit of a cost
  weighted-value : (w : Wish) → form_value a (weighted_cost w).result =ℚ (w.weight *ℚ unit_value a (cost_of w))
  weighted-value w =
      =ℚ-from_same (form_is_worth a (weighted_cost w).result)
      ∙ℚ form_scaled-worth number (unit_value a) (operated Product w.weight) w.weight (outcome-product w.weight) (unit_form (cost_of w))
      ∙ℚ times_right w.weight (unit-worth number (unit_value a) (cost_of w))

  joined-value : (f : Form) (w : Wish) → form_value a (wish_joined number f w).result =ℚ (form_value a f +ℚ w.weight *ℚ unit_value a (cost_of w))
  joined-value f w = form-joined number a Sum by_sum f (weighted_cost w).result ∙ℚ +ℚ-same (=ℚ_refl (form_value a f)) (weighted-value w)

  -- A sum that is worth a number is worth, with more wishes, that number with what they cost.
  joined_on : (f : Form) (c : Fraction) (ws : List Wish) → form_value a f =ℚ c → form_value a (wishes_joined number f ws).result =ℚ (penalty_onto a c ws).result
  joined_on f c [] h = h
  joined_on f c (w ∷ ws) h = by_truth (is_true (value_of a w.term)) (joined-value f w) (λ d k. joined_on (wish_joined number f w).result d ws k)
    where
      by_truth : (b : Bool)
          → form_value a (wish_joined number f w).result =ℚ (form_value a f +ℚ w.weight *ℚ number_of (if b then whole_number (pos 0) else whole_number (pos 1)))
          → ((d : Fraction) → form_value a (wish_joined number f w).result =ℚ d
          → form_value a (wishes_joined number (wish_joined number f w).result ws).result =ℚ (penalty_onto a d ws).result)
          → form_value a (wishes_joined number (wish_joined number f w).result ws).result
          =ℚ (if b then penalty_onto a c ws else and_then (operated Sum c w.weight) (λ (d : Fraction). penalty_onto a d ws)).result
      by_truth true k rest = rest c (k ∙ℚ +ℚ-same (=ℚ_refl (form_value a f)) (times_zero w.weight) ∙ℚ +ℚ-zero (form_value a f) ∙ℚ h)
      by_truth false k rest = rest (outcome Sum c w.weight) (k ∙ℚ +ℚ-same h (*ℚ-one w.weight) ∙ℚ =ℚ_sym (outcome-sum c w.weight))

pub groups_have_values : GroupsHaveValues
groups_have_values number a ws =
    joined_on number a (constant_form (whole (pos 0))) (whole (pos 0)) ws
    (=ℚ-from_same (form_is_worth a (constant_form (whole (pos 0)))) ∙ℚ constant-worth number (unit_value a) (whole (pos 0)))
