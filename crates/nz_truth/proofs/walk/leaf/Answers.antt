-- A constant has what it is given, or else the default of its sort.
use Rattle.std.proofs.Common.{◌≡◌, Option, Some, None, option_map, refl, sym, ap, ◌∙◌}
use Rattle.std.specs.Prelude.{unwrap_or}
use Rattle.std.proofs.lemmas.Option.{same_Some}
use Rattle.nz_spec.specs.terms.Linear.{constant_value}
use Rattle.nz_spec.specs.terms.Term.{Assignment, Constant, Head, constant, integer, decimal_number, Terms, apply, default_value, head_sort}
use Rattle.nz_spec.specs.terms.Table.{Node, listed_value}
use Rattle.nz_term.specs.Heads.{head_of}
use Rattle.nz_term.specs.Values.{value_of}
use Rattle.nz_term.specs.declared.assign.Value as own
use Rattle.nz_truth.specs.Outcomes.{IsGiven}
use Rattle.nz_truth.proofs.walk.leaf.Goals as goal

chosen : (o : Option own.Value) (d : own.Value) → value_of (unwrap_or o d) ≡ unwrap_or (option_map value_of o) (value_of d)
chosen None d = refl
chosen (Some v) d = refl

module _ (a : Assignment) (v : own.Value) (ts : Terms) where
  by_head : (h : Head) → None ≡ constant_value (apply h ts) → (value : (c : Constant) → h ≡ constant c → value_of v ≡ a c) → IsGiven a h (value_of v)
  by_head (constant c) none value = value c refl
  by_head (integer n) none value = absurd cc
  by_head (decimal_number n places) none value = absurd cc
  by_head h none value = tt

pub returns-in-None : goal.returns-in-None
returns-in-None c =
    let ns = c.args.terms.now in
    let ps = c.args.assign.now in
    let i = c.args.id in
    let o = c.value.result in
    let d = c.default_value.result in
    record {
      given = λ a given n at ts term.
          let same : n.head ≡ head_of c.head.result = same_Some n.head (head_of c.head.result) (sym (ap (option_map (λ (m : Node). m.head)) at) ∙ c.head.ensures.head) in
          let default : value_of d ≡ default_value (head_sort n.head) = c.default_value.ensures.default ∙ ap default_value (c.sort.ensures.sort ∙ ap head_sort (sym same)) in
          let none : None ≡ constant_value (apply n.head ts) = sym c.in-None.is ∙ c.constant.ensures.constant ∙ ap constant_value term in
          by_head a c.unwrap_or.result ts n.head none (λ k e.
          ap value_of c.unwrap_or.ensures ∙ chosen o d ∙ ap (λ m. unwrap_or m (value_of d)) c.value.ensures.value
          ∙ ap (unwrap_or (listed_value ps i)) (default ∙ ap (λ h. default_value (head_sort h)) e) ∙ given i n k at e);
    }
