-- A multiple of 0 is 0, and the sum with it is the number.
use Rattle.std.proofs.Common.{◌≡◌, Bool, Option, Some, None, pos, sym, ap, subst, ◌∙◌}
use Rattle.std.specs.Prelude.{if◌then◌else◌}
use Rattle.nz_fractions.specs.Fraction.{Fraction, IsNumber, Operation, Product, Sum, ZerosAreNeverWide, first_wide, is_wide, outcome, whole}
use Rattle.nz_spec.specs.numbers.Computation.{and_then, operated}
use Rattle.nz_tab.specs.Comes.{IsDone}
use Rattle.nz_tab.proofs.exchange.with_multiple.Goals as goal

none_added : ZerosAreNeverWide → (x s : Fraction) → IsNumber x → IsDone (and_then (operated Product s (whole (pos 0))) (λ p. operated Sum x p)) x
unfolding first_wide
none_added law x s h =
    let times : Operation = record { operator = Product; left = s; right = whole (pos 0) } in
    let plus : Operation = record { operator = Sum; left = x; right = outcome Product s (whole (pos 0)) } in
    let rest : Bool → Option Operation = λ b. if b then Some plus else None in
    record {
      result = sym (ap (outcome Sum x) (law.product_right s).1 ∙ (law.sum_right x h).1);
      fits = ap (λ (b : Bool). if b then Some times else rest (is_wide Sum x (outcome Product s (whole (pos 0))))) (law.product_right s).0
          ∙ ap rest (ap (is_wide Sum x) (law.product_right s).1 ∙ (law.sum_right x h).0);
    }

pub returns-then-is_none : goal.returns-then-is_none
returns-then-is_none c =
    let none : c.args.other ≡ whole (pos 0) = c.is_none.ensures.none c.if-is_none.true in
    record {
      sum = subst (λ (z : Fraction). IsDone (and_then (operated Product c.args.factor z) (λ p. operated Sum c.args.number p)) c.args.number) (sym none)
          (none_added c.zeros_are_never_wide.ensures.zeros c.args.number c.args.factor c.num.ensures.number);
    }
