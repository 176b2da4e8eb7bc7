-- One column more.
use Rattle.std.proofs.Common.{◌≡◌, ℕ, List, get_or, Err, refl, rules, sym, subst, ◌∙◌, arith}
use Rattle.nz_fractions.specs.Fraction.{Fraction}
use Rattle.nz_spec.specs.numbers.Computation.{Computation}
use Rattle.nz_frac.specs.Operations.{operation_of}
use Rattle.nz_tab.specs.Comes.{Comes, IsDone}
use Rattle.nz_tab.specs.Each.{alone, behind}
use Rattle.nz_tab.specs.Exchanges.{solved_part, solved_parts}
use Rattle.nz_tab.specs.Rows.{coefficient}
use Rattle.nz_tab.proofs.Each.{each_none, one_done, turn, turn_stop, turned_all}
use Rattle.nz_tab.proofs.exchange.put_solved.Goals as goal

pub returns-in_err-solved_part-clause-put : goal.returns-in_err-solved_part-clause-put
returns-in_err-solved_part-clause-put c =
    let ks = c.args.columns.now in
    let i = c.loop-column.column-index in
    let w = c.in_err-solved_part.field-0.0 in
    let f : ℕ → Computation (List Fraction) = λ k. alone (solved_part c.args.leaves c.args.divisor c.args.inverse (coefficient c.args.row.now) k) in
    let error : c.from_residual.result ≡ Err w = search rules in
    subst (λ r. Comes (behind c.args.solved.now.items (solved_parts ks c.args.leaves c.args.divisor c.args.inverse (coefficient c.args.row.now))) c.loop-column.solved.items r) (sym error)
    (turn_stop f c.args.solved.now.items ks i c.loop-column.solved.items c.loop-column.invariant.done (omega arith) (operation_of w) c.in_err-solved_part.ensures.part)

pub loop-column-preserved : goal.loop-column-preserved
loop-column-preserved c =
    let ks = c.args.columns.now in
    let i = c.loop-column.column-index in
    let old = c.args.solved.now.items in
    let f : ℕ → Computation (List Fraction) = λ k. alone (solved_part c.args.leaves c.args.divisor c.args.inverse (coefficient c.args.row.now) k) in
    record {
      done =
          turn f old ks i c.loop-column.solved.items c.loop-column.invariant.done (omega arith) c.push_reserved.new.self.items
          (subst (IsDone (behind c.loop-column.solved.items (f (get_or ks i 0)))) (sym c.push_reserved.ensures.items)
          (one_done (solved_part c.args.leaves c.args.divisor c.args.inverse (coefficient c.args.row.now) (get_or ks i 0)) c.loop-column.solved.items c.in_ok-solved_part.field-0 c.in_ok-solved_part.ensures.part));
      len = c.push_reserved.ensures.len ∙ omega (arith, c.loop-column.invariant.len);
      capacity = c.push_reserved.ensures.capacity ∙ c.loop-column.invariant.capacity;
    }

pub returns-clause-put : goal.returns-clause-put
returns-clause-put c =
    let f : ℕ → Computation (List Fraction) = λ k. alone (solved_part c.args.leaves c.args.divisor c.args.inverse (coefficient c.args.row.now) k) in
    turned_all f c.args.solved.now.items c.args.columns.now c.loop-column.column-index c.loop-column.solved.items c.loop-column.invariant.done (omega arith)

pub loop-column-init : goal.loop-column-init
loop-column-init c =
    let f : ℕ → Computation (List Fraction) = λ k. alone (solved_part c.args.leaves c.args.divisor c.args.inverse (coefficient c.args.row.now) k) in
    record { done = each_none f c.args.solved.now.items; len = omega arith; capacity = refl }
