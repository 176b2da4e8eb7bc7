-- One test, and then the other.
use Rattle.std.proofs.Common.{Bool, not, ◌&&◌, eqb, length, sym, ap, ◌∙◌}
use Rattle.nz_lin.proofs.IntegerBounds.{over_integers}
use Rattle.nz_lin.proofs.tight.is_over_integers.Goals as goal

pub returns-then-are_integral : goal.returns-then-are_integral
returns-then-are_integral c = record {
  integers = λ ns units.
      let ps = c.args.parts.now in
      ap (λ (b : Bool). not b) c.is_empty.ensures
      ∙ sym (ap (λ (b : Bool). b && not (eqb (length ps) 0)) (sym c.are_integral.ensures.integral ∙ c.if-are_integral.true))
      ∙ over_integers ns ps units.names;
}

pub returns-else-are_integral : goal.returns-else-are_integral
returns-else-are_integral c = record {
  integers = λ ns units.
      let ps = c.args.parts.now in
      c.if-are_integral.false
      ∙ sym (ap (λ (b : Bool). b && not (eqb (length ps) 0)) (sym c.are_integral.ensures.integral ∙ c.if-are_integral.false))
      ∙ over_integers ns ps units.names;
}
