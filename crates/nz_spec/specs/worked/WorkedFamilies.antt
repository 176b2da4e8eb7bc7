-- Worked families: along one an integer passes every number, and along one it isn't an integer.
use Rattle.std.specs.Prelude.{[], ◌∷◌, pos}
use Rattle.nz_fractions.specs.Fraction.{Fraction, whole, over}
use Rattle.nz_spec.specs.terms.Model.{IsModel}
use Rattle.nz_spec.specs.simplex.Climb.{naturals, along, Family}
use Rattle.nz_spec.specs.simplex.Families.{IsSteady}
use Rattle.nz_spec.specs.worked.TermSamples.{x_constant, x_term}

-- x is at each natural number that number times this slope
abbrev pub rising : Fraction → Family
rising slope = record { courses = (x_constant, along (record { start = whole (pos 0); slope = slope })) ∷ []; range = naturals }

-- Over models of nothing, with x alone to look at, x may rise by 1, and not by 1/2.
pub record HasSteadyFamily : Type 0 where
  pub steady : IsSteady (IsModel [] []) (x_term ∷ []) (rising (whole (pos 1)))
  pub unsteady : IsSteady (IsModel [] []) (x_term ∷ []) (rising (over (pos 1) 2)) → ⊥
