use Rattle.std.specs.Prelude.{nat_eq, reverse}
use Rattle.std.specs.HashMap.{get}
use Rattle.nz_lin.specs.Making.{AreMade}
use Rattle.nz_lin.proofs.Sizes.{weights}
use Rattle.nz_lin.proofs.TermStack.{Ready}
use Rattle.nz_lin.proofs.linear.lin.Given as goal

-- what is made is right, and when all steps on the stack are done the form is made
abbrev pub invariant-loop-step : goal.invariant-loop-step
invariant-loop-step l = record {
  made : AreMade l.terms (get nat_eq l.forms);
  ready : Ready l.terms l.id (get nat_eq l.forms) (reverse l.steps.items);
}

abbrev pub decreases-loop-step : goal.decreases-loop-step
decreases-loop-step l = weights l.terms l.steps.items
