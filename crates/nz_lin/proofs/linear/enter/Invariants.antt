use Rattle.std.proofs.Common.{◌≡◌, ℕ, ◌∷◌, ◌++◌, map, Bor}
use Rattle.nz_lin.specs.declared.linear.Step.TheVariants.{Enter, Leave}
use Rattle.nz_lin.proofs.linear.enter.Given as goal

-- the last arguments so far are on the stack
abbrev pub invariant-loop-kid : goal.invariant-loop-kid
invariant-loop-kid l = l.steps.items ≡ l.fn.steps.items ++ Leave l.id ∷ map Enter (map (λ (y : Bor ℕ). y.now) l.yielded)
