-- One column more.
use Rattle.std.proofs.Common.{◌≡◌, ℕ, List, get_or, Some, Err, refl, rules, sym, subst, ◌∙◌, arith}
use Rattle.nz_fractions.specs.Fraction.{Fraction, first_wide}
use Rattle.nz_spec.specs.numbers.Computation.{Computation}
use Rattle.nz_frac.specs.Operations.{operation_of}
use Rattle.nz_frac.specs.declared.frac.Wide.{Wide}
use Rattle.nz_tab.specs.Comes.{Comes, IsDone}
use Rattle.nz_tab.specs.Each.{alone, behind, with_multiple}
use Rattle.nz_tab.specs.Exchanges.{sum_row}
use Rattle.nz_tab.specs.Rows.{coefficient}
use Rattle.nz_tab.proofs.Each.{each_none, one_done, turn, turn_stop, turned_all}
use Rattle.nz_tab.proofs.SolvedRows.{multiple_read}
use Rattle.nz_tab.proofs.exchange.put_sum.Goals as goal

pub loop-place-init : goal.loop-place-init
loop-place-init c =
    record {
      done = λ d e. each_none (λ k. alone (with_multiple c.args.factor d (coefficient c.args.row.now) k)) c.args.rows.now.items;
      len = omega arith;
      capacity = refl;
    }

pub returns-in_err-with_multiple-clause-put : goal.returns-in_err-with_multiple-clause-put
returns-in_err-with_multiple-clause-put c = λ d e.
    let ks = c.args.columns.now in
    let i = c.loop-place.place in
    let row = coefficient c.args.row.now in
    let w : Wide = c.in_err-with_multiple.field-0.0 in
    let f : ℕ → Computation (List Fraction) = λ k. alone (with_multiple c.args.factor d row k) in
    let error : c.from_residual.result ≡ Err w = search rules in
    let same = multiple_read c.args.factor c.index-other-place.result c.at.result d row c.args.other.now ks i e c.loop-place-test.true c.index-other-place.is c.at.ensures.coefficient in
    subst (λ r. Comes (behind c.args.rows.now.items (sum_row ks c.args.factor d row)) c.loop-place.rows.items r) (sym error)
    (turn_stop f c.args.rows.now.items ks i c.loop-place.rows.items (c.loop-place.invariant.done d e) c.loop-place-test.true (operation_of w)
    (subst (λ (x : Computation Fraction). first_wide x.operations ≡ Some (operation_of w)) same c.in_err-with_multiple.ensures.sum))

pub loop-place-preserved : goal.loop-place-preserved
loop-place-preserved c =
    let ks = c.args.columns.now in
    let i = c.loop-place.place in
    let row = coefficient c.args.row.now in
    record {
      done = λ d e.
          let f : ℕ → Computation (List Fraction) = λ k. alone (with_multiple c.args.factor d row k) in
          let same = multiple_read c.args.factor c.index-other-place.result c.at.result d row c.args.other.now ks i e c.loop-place-test.true c.index-other-place.is c.at.ensures.coefficient in
          turn f c.args.rows.now.items ks i c.loop-place.rows.items (c.loop-place.invariant.done d e) c.loop-place-test.true c.push_reserved.new.self.items
          (subst (IsDone (behind c.loop-place.rows.items (f (get_or ks i 0)))) (sym c.push_reserved.ensures.items)
          (one_done (with_multiple c.args.factor d row (get_or ks i 0)) c.loop-place.rows.items c.in_ok-with_multiple.field-0
          (subst (λ (x : Computation Fraction). IsDone x c.in_ok-with_multiple.field-0) same c.in_ok-with_multiple.ensures.sum)));
      len = c.push_reserved.ensures.len ∙ omega (arith, c.loop-place.invariant.len);
      capacity = c.push_reserved.ensures.capacity ∙ c.loop-place.invariant.capacity;
    }

pub returns-clause-put : goal.returns-clause-put
returns-clause-put c = λ d e.
    let f : ℕ → Computation (List Fraction) = λ k. alone (with_multiple c.args.factor d (coefficient c.args.row.now) k) in
    turned_all f c.args.rows.now.items c.args.columns.now c.loop-place.place c.loop-place.rows.items (c.loop-place.invariant.done d e) c.loop-place-test.false
