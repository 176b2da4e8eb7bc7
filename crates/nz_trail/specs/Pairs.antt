-- The two bounds of a variable, by the side.
use Rattle.std.specs.Prelude.{Option}
use Rattle.nz_trail.specs.declared.limits.Limit.{Limit}
use Rattle.nz_trail.specs.declared.limits.Limits.{Limits}
use Rattle.nz_trail.specs.declared.limits.Side.{Side}
use Rattle.nz_trail.specs.declared.limits.Side.TheVariants.{Lower, Upper}

module _ {S : Type 0} where
  abbrev pub limit_on : Side → Limits S → Option (Limit S)
  limit_on Lower l = l.lower
  limit_on Upper l = l.upper

  abbrev pub with_limit : Side → Option (Limit S) → Limits S → Limits S
  with_limit Lower o l = record l { lower = o }
  with_limit Upper o l = record l { upper = o }
