-- A bound that stands no more than before leaves the trail as it is.
use Rattle.std.proofs.Common.{refl}
use Rattle.nz_trail.proofs.trail.Trail.assert_bound.Goals as goal

pub returns-in_default : goal.returns-in_default
returns-in_default g c = record {
  kept = c.judge.ensures.kept;
  clash = c.judge.ensures.clash;
  tighter = c.judge.ensures.tighter;
  memory = tt;
  grown = λ e. absurd (c.in_default.not-Tighter (cc));
  unchanged = λ e. refl;
}
