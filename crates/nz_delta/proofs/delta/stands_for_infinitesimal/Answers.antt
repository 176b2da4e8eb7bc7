use Rattle.std.proofs.Common.{refl}
use Rattle.nz_fractions.specs.Fraction.{◌-ℚ◌}
use Rattle.nz_spec.specs.numbers.Infinitesimal.{◌+δ◌, ◌-δ◌, scaled, infinitesimal_cmp}
use Rattle.nz_fractions.proofs.Arithmetic.{outcome-sum, outcome-difference, outcome-product}
use Rattle.nz_delta.proofs.delta.stands_for_infinitesimal.Goals as goal

pub returns-clause-sum : goal.returns-clause-sum
unfolding ◌+δ◌
returns-clause-sum c =
    λ x y. record { standard = outcome-sum x.c y.c; coefficient = outcome-sum x.k y.k }

pub returns-clause-difference : goal.returns-clause-difference
unfolding ◌-δ◌ ◌-ℚ◌
returns-clause-difference c =
    λ x y. record { standard = outcome-difference x.c y.c; coefficient = outcome-difference x.k y.k }

pub returns-clause-product : goal.returns-clause-product
unfolding scaled
returns-clause-product c =
    λ x q. record { standard = outcome-product x.c q; coefficient = outcome-product x.k q }

pub returns-clause-order : goal.returns-clause-order
unfolding infinitesimal_cmp
returns-clause-order c = λ x y. refl
