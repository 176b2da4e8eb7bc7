-- One nonbasic form more.
use Rattle.std.proofs.Common.{rules, ◌≡◌, ℕ, ◌+◌, ◌<◌, List, [], ◌∷◌, length, get_or, drop, Option, None, Some, Result, Err, sym, ap, ◌∙◌, arith}
use Rattle.std.specs.Prelude.{slice_index_or, option_map, unwrap_or}
use Rattle.std.proofs.lemmas.List.{drop_all, drop_more, get_or_read}
use Rattle.nz_fractions.specs.Fraction.{first_wide}
use Rattle.nz_spec.specs.numbers.Infinitesimal.{Infinitesimal}
use Rattle.nz_spec.specs.simplex.Bland.{value_onto, zero_infinitesimal}
use Rattle.nz_frac.specs.Operations.{operation_of}
use Rattle.nz_frac.specs.declared.frac.Wide.{Wide}
use Rattle.nz_delta.specs.Refused.{refused}
use Rattle.nz_simplex.specs.Choices.{multiple_onto, numbers_in}
use Rattle.nz_simplex.specs.Tabled.{coefficients_in}
use Rattle.nz_fractions.proofs.FirstOperations.{no_operation}
use Rattle.nz_simplex.proofs.RowValues.{onto_more, onto_stop}
use Rattle.nz_simplex.proofs.values.row_value.Goals as goal

-- the number that is read stands at its place
read_number : {S : Type 0} (stands : S → Infinitesimal) (values : List (Option S)) (k : ℕ) (read : Option S) (v : S) → k < length values
    → read ≡ get_or values k read → read ≡ Some v → numbers_in stands values k ≡ stands v
read_number {S} stands values k read v inside is found =
    let there : slice_index_or values k None ≡ Some v = sym (get_or_read values k read inside is None) ∙ found in
    ap (λ (o : Option S). unwrap_or (option_map stands o) zero_infinitesimal) there

pub returns-in_err-sum-clause-stops : goal.returns-in_err-sum-clause-stops
returns-in_err-sum-clause-stops g c =
    let stands = g.S.Coordinate.stands_for in
    let ks = c.args.nonbasic.now in
    let i = c.loop-var.var-index in
    let k = get_or ks i 0 in
    let rest = drop (i + 1) ks in
    let row = coefficients_in c.args.row.now in
    let x = numbers_in stands c.args.values.now in
    let t = stands c.loop-var.sum in
    let v = c.unwrap.result in
    let w = c.in_err-sum.field-0.0 in
    let error : c.from_residual.result ≡ Err w = search rules in
    let left : drop i ks ≡ k ∷ rest = drop_more ks i 0 (omega arith) in
    let inside : k < length c.args.values.now = search rules in
    let number : x k ≡ stands v = read_number stands c.args.values.now k c.index-values-var.result v inside c.index-values-var.is (search rules) in
    let stop : first_wide (multiple_onto t (x k) (row k)).operations ≡ Some (operation_of w) =
    ap (λ (y : Infinitesimal). first_wide (multiple_onto t y (row k)).operations) number
    ∙ ap (λ q. first_wide (multiple_onto t (stands v) q).operations) (sym c.at.ensures.coefficient)
    ∙ sym c.in_err-sum.ensures.stops in
    ap (λ (r : Result g.row.S.Denot Wide). refused r) error
    ∙ sym (onto_stop row x t k rest (operation_of w) stop)
    ∙ sym (ap (λ (l : List ℕ). first_wide (value_onto row x t l).operations) left)
    ∙ c.loop-var.invariant.stops

pub loop-var-preserved : goal.loop-var-preserved
loop-var-preserved g c =
    let stands = g.S.Coordinate.stands_for in
    let ks = c.args.nonbasic.now in
    let i = c.loop-var.var-index in
    let k = get_or ks i 0 in
    let rest = drop (i + 1) ks in
    let row = coefficients_in c.args.row.now in
    let x = numbers_in stands c.args.values.now in
    let t = stands c.loop-var.sum in
    let v = c.unwrap.result in
    let left : drop i ks ≡ k ∷ rest = drop_more ks i 0 (omega arith) in
    let inside : k < length c.args.values.now = search rules in
    let number : x k ≡ stands v = read_number stands c.args.values.now k c.index-values-var.result v inside c.index-values-var.is (search rules) in
    let sum : stands c.in_ok-sum.sum ≡ (multiple_onto t (x k) (row k)).result =
    c.in_ok-sum.ensures.value
    ∙ ap (λ q. (multiple_onto t (stands v) q).result) c.at.ensures.coefficient
    ∙ ap (λ (y : Infinitesimal). (multiple_onto t y (row k)).result) (sym number) in
    let fits : first_wide (multiple_onto t (x k) (row k)).operations ≡ None =
    ap (λ (y : Infinitesimal). first_wide (multiple_onto t y (row k)).operations) number
    ∙ ap (λ q. first_wide (multiple_onto t (stands v) q).operations) (sym c.at.ensures.coefficient)
    ∙ sym c.in_ok-sum.ensures.stops in
    record {
      value =
          ap (λ (u : Infinitesimal). (value_onto row x u rest).result) sum
          ∙ sym (ap (λ (l : List ℕ). (value_onto row x t l).result) left)
          ∙ c.loop-var.invariant.value;
      stops =
          ap (λ (u : Infinitesimal). first_wide (value_onto row x u rest).operations) sum
          ∙ sym (onto_more row x t k rest fits)
          ∙ sym (ap (λ (l : List ℕ). first_wide (value_onto row x t l).operations) left)
          ∙ c.loop-var.invariant.stops;
    }

pub returns-clause-stops : goal.returns-clause-stops
returns-clause-stops g c =
    let row = coefficients_in c.args.row.now in
    let x = numbers_in g.S.Coordinate.stands_for c.args.values.now in
    let t = g.S.Coordinate.stands_for c.loop-var.sum in
    let none : drop c.loop-var.var-index c.args.nonbasic.now ≡ [] = drop_all c.loop-var.var-index c.args.nonbasic.now (omega arith) in
    sym no_operation
    ∙ sym (ap (λ (l : List ℕ). first_wide (value_onto row x t l).operations) none)
    ∙ c.loop-var.invariant.stops
