-- The forms so far have settled.
use Rattle.std.proofs.Common.{take}
use Rattle.nz_simplex.specs.Moves.{IsSettled}
use Rattle.nz_simplex.proofs.simplex.Simplex.settle.Given as goal

abbrev pub invariant-loop-var : goal.invariant-loop-var
invariant-loop-var g l = IsSettled l.fn.self l.self (take l.var-index l.vars)
