use Rattle.std.proofs.Common.{add-one, sym, subst, arith}
use Rattle.nz_sort.specs.Changes.{DropsMany}
use Rattle.nz_sort.proofs.LevelChanges.{drops_last, left_below}
use Rattle.nz_sort.proofs.live.Live.pop.Goals as goal

pub pop_newest-requires : goal.pop_newest-requires
pop_newest-requires c =
    let left = left_below c.loop.counter c.args.self.now c.loop.self c.loop.invariant in
    record { some = omega (arith, left, c.requires.some) }

pub loop-preserved : goal.loop-preserved
loop-preserved c =
    subst (λ n. DropsMany n c.args.self.now c.pop_newest.new.self) (sym (add-one c.loop.counter))
    (drops_last c.loop.counter c.args.self.now c.loop.self c.pop_newest.new.self c.loop.invariant c.pop_newest.ensures.dropped)
