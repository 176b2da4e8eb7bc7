-- One row more.
use Rattle.std.proofs.Common.{◌≡◌, ℕ, ◌+◌, ◌*◌, List, [], length, get_or, Some, Err, rules, sym, ap, subst, ◌∙◌, arith}
use Rattle.nz_fractions.specs.Fraction.{Fraction, first_wide}
use Rattle.nz_spec.specs.simplex.Basis.{Coefficients}
use Rattle.nz_spec.specs.numbers.Computation.{Computation}
use Rattle.nz_frac.specs.Operations.{operation_of}
use Rattle.nz_frac.specs.declared.frac.Wide.{Wide}
use Rattle.nz_tab.specs.Comes.{Comes, IsDone}
use Rattle.nz_tab.specs.Each.{behind, each}
use Rattle.nz_tab.specs.Exchanges.{changed_rows, sum_row}
use Rattle.nz_tab.specs.Rows.{DenseRow, Grid, coefficient, rows_of}
use Rattle.nz_tab.proofs.Each.{each_none, turn, turn_stop}
use Rattle.nz_tab.proofs.rows.Rows.put_changed.Goals as goal
use Rattle.nz_tab.proofs.rows.Rows.put_changed.Goals.{After-at}

-- what a row changes into
abbrev changed : Grid → List ℕ → ℕ → Coefficients → ℕ → Computation (List Fraction)
changed g ks j q r = sum_row ks (rows_of g r j) q (rows_of g r)

one_more : (a w : ℕ) → a * w + w ≡ (a + 1) * w
one_more a w = omega arith

-- the sum over the row that was read is that of the definition
same : (c : After-at) (q : Coefficients)
    → sum_row c.args.columns.now c.at.result q (coefficient c.row-row.result) ≡ changed c.args.self.now c.args.columns.now c.args.enters q (get_or c.args.changed.now c.loop-var.var-index 0)
same c q =
    ap (λ (s : Fraction). sum_row c.args.columns.now s q (coefficient c.row-row.result)) c.at.ensures.coefficient
    ∙ ap (λ (x : DenseRow). sum_row c.args.columns.now (coefficient x c.args.enters) q (coefficient x)) c.row-row.ensures.row

pub loop-var-init : goal.loop-var-init
loop-var-init c =
    let g = c.args.self.now in
    record {
      done = λ q e. subst (IsDone (behind [] (each (changed g c.args.columns.now c.args.enters q) []))) (sym c.clear.ensures.items) (each_none (changed g c.args.columns.now c.args.enters q) []);
      long = c.clear.ensures.len ∙ omega arith;
      capacity = c.clear.ensures.capacity;
    }

pub returns-in_err-put_sum-clause-put : goal.returns-in_err-put_sum-clause-put
returns-in_err-put_sum-clause-put c = λ q e.
    let g = c.args.self.now in
    let rs = c.args.changed.now in
    let w : Wide = c.in_err-put_sum.field-0.0 in
    let error : c.from_residual.result ≡ Err w = search rules in
    subst (λ r. Comes (changed_rows (rows_of g) rs c.args.columns.now c.args.enters q) c.put_sum.new.rows.items r) (sym error)
    (turn_stop (changed g c.args.columns.now c.args.enters q) [] rs c.loop-var.var-index c.loop-var.block.items (c.loop-var.invariant.done q e) (omega (arith, c.loop-var-test.true)) (operation_of w)
    (subst (λ (x : Computation (List Fraction)). first_wide x.operations ≡ Some (operation_of w)) (same (goal.at.returns-in_err-put_sum-clause-put c).After-at q) (c.in_err-put_sum.ensures.put q e)))

pub loop-var-preserved : goal.loop-var-preserved
loop-var-preserved c =
    let g = c.args.self.now in
    let rs = c.args.changed.now in
    let w = length c.args.columns.now in
    record {
      done = λ q e.
          turn (changed g c.args.columns.now c.args.enters q) [] rs c.loop-var.var-index c.loop-var.block.items (c.loop-var.invariant.done q e) (omega (arith, c.loop-var-test.true)) c.put_sum.new.rows.items
          (subst (λ (x : Computation (List Fraction)). IsDone (behind c.loop-var.block.items x) c.put_sum.new.rows.items) (same (goal.at.loop-var-preserved c).After-at q) (c.in_ok-put_sum.ensures.put q e));
      long = c.in_ok-put_sum.ensures.long ∙ ap (λ (m : ℕ). m + w) c.loop-var.invariant.long ∙ one_more c.loop-var.var-index w;
      capacity = c.put_sum.ensures.capacity ∙ c.loop-var.invariant.capacity;
    }
