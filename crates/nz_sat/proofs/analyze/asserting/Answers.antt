-- The level of the deepest one of the others is the greatest of theirs. Where there are no others, none is of a greater level.
use Rattle.std.proofs.Common.{◌≡◌, ap, ◌∙◌, arith}
use Rattle.nz_sat.specs.Trails.{level_on}
use Rattle.nz_sat.proofs.analyze.asserting.Goals as goal
use Rattle.nz_sat.proofs.analyze.asserting.Goals.{in-Some, in-None}

pub returns-clause-others : goal.returns-clause-others
returns-clause-others c m has other =
    elim c.match-beside.branch [
      | in-Some w ↦
          let es = c.args.trail.now.entries in
          let own : c.match-beside.level ≡ level_on es w.in-Some.other.atom = w.level-is ∙ w.level_of-level.ensures.level ∙ ap (level_on es) w.atom.ensures.atom in
          omega (arith, own, w.in-Some.ensures.deepest.2 m has other)
      | in-None w ↦ absurd (other (w.in-None.ensures.deepest m has))
    ]
