use Rattle.std.proofs.Common.{◌≡◌, map, take}
use Rattle.nz_sat.specs.Numbers.{numbered}
use Rattle.nz_sat.proofs.search.learning.by_numbers.Given as goal

-- the literals so far
abbrev pub invariant-loop-literal : goal.invariant-loop-literal
invariant-loop-literal l = l.pairs.items ≡ map (numbered l.atoms) (take l.literal-index l.literals)
