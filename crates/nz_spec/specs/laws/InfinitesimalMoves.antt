-- Infinitesimal numbers that are equal as values, and a value that moves by a multiple of another.
use Rattle.std.specs.Prelude.{◌≡◌, true}
use Rattle.std.specs.declared.cmp.Ordering.TheVariants.{Less}
use Rattle.nz_fractions.specs.Fraction.{Fraction}
use Rattle.nz_spec.specs.numbers.Infinitesimal.{Infinitesimal, ◌=δ◌, ◌+δ◌, scaled, infinitesimal_cmp}
use Rattle.nz_spec.specs.terms.Term.{is_zero}

-- ---- Laws

-- Equality of values is one, sums with multiples and the order keep it, a multiple by 0 moves nothing, and less goes along.
pub record InfinitesimalsMove : Type 0 where
  pub itself : (x : Infinitesimal) → x =δ x
  pub back : (x y : Infinitesimal) → x =δ y → y =δ x
  pub along : (x y z : Infinitesimal) → x =δ y → y =δ z → x =δ z
  pub still : (x d : Infinitesimal) (q : Fraction) → is_zero q ≡ true → x =δ (x +δ scaled d q)
  pub same : (x y d e : Infinitesimal) (q : Fraction) → x =δ y → d =δ e → (x +δ scaled d q) =δ (y +δ scaled e q)
  pub ordered : (x y z w : Infinitesimal) → x =δ y → z =δ w → infinitesimal_cmp x z ≡ infinitesimal_cmp y w
  pub less : (x y z : Infinitesimal) → infinitesimal_cmp x y ≡ Less → infinitesimal_cmp y z ≡ Less → infinitesimal_cmp x z ≡ Less
