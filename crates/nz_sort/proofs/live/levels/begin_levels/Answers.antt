use Rattle.std.proofs.Common.{◌∙◌, ◌∷◌, ◌++◌, [], ap, arith}
use Rattle.nz_sort.specs.Layers.{layer_of}
use Rattle.nz_sort.specs.Live.{standing_of}
use Rattle.nz_sort.proofs.LevelChanges.{level_begun}
use Rattle.nz_sort.proofs.live.levels.begin_levels.Goals as goal

pub loop-preserved : goal.loop-preserved
loop-preserved c =
    let below = c.loop.below.items in
    record {
      begun = λ names next e.
          level_begun names next c.loop.counter c.args.names_before (standing_of names c.args.top.now c.args.below.now.items next) c.loop.top c.replace-older.new.dest below c.push_reserved.new.self.items e
          (ap layer_of c.replace-older.ensures.after ∙ c.new-level.ensures.empty) (c.push_reserved.ensures.items ∙ ap (λ l. below ++ l ∷ []) c.replace-older.ensures.value) (c.loop.invariant.begun names next e);
      room = omega (arith, c.loop.invariant.room, c.push_reserved.ensures.len, c.push_reserved.ensures.capacity);
    }
