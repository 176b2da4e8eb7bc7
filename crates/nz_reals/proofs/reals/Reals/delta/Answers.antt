use Rattle.std.proofs.Common.{ℕ, add-one, arith, subst, sym}
use Rattle.nz_spec.specs.numbers.Infinitesimal.{IsLeastLimit}
use Rattle.nz_reals.specs.Limits.{pairs_below}
use Rattle.nz_reals.proofs.InfinitesimalLimits.{numbers_more, one_least}
use Rattle.nz_reals.proofs.reals.Reals.delta.Goals as goal

pub loop-var-init : goal.loop-var-init
loop-var-init c = record { least = one_least c.whole-least.result c.whole-least.ensures; numbers = λ k less. absurd (omega (arith, less)) }

pub loop-var-preserved : goal.loop-var-preserved
loop-var-preserved c = record {
  least =
      subst (λ (n : ℕ). IsLeastLimit (pairs_below c.args.self.now n) c.in_ok-least.least) (sym (add-one c.loop-var.var))
      (c.in_ok-least.ensures.least (pairs_below c.args.self.now c.loop-var.var) c.loop-var.invariant.least);
  numbers = numbers_more c.args.self.now c.loop-var.var c.loop-var.invariant.numbers c.in_ok-least.ensures.numbers;
}
