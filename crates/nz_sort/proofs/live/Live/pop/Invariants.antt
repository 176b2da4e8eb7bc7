use Rattle.nz_sort.specs.Changes.{DropsMany}
use Rattle.nz_sort.proofs.live.Live.pop.Given as goal

-- so many levels were taken off
abbrev pub invariant-loop : goal.invariant-loop
invariant-loop l = DropsMany l.counter l.fn.self l.self
