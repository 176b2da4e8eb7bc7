-- Values at a position that come of values at another one.
use Rattle.std.proofs.Common.{◌≡◌, ℕ, zero, suc, ◌<◌, true, List, [], ◌∷◌, length, Option, Some, None, pos, refl, ap, subst, arith}
use Rattle.std.specs.Prelude.{is_some, option_map, slice_index_or, unwrap_or}
use Rattle.nz_fractions.specs.Fraction.{whole}
use Rattle.nz_fractions.proofs.Laws.{=ℚ_sym}
use Rattle.nz_spec.specs.numbers.Infinitesimal.{Infinitesimal, ◌=δ◌}
use Rattle.nz_spec.specs.laws.InfinitesimalMoves.{InfinitesimalsMove}
use Rattle.nz_spec.specs.simplex.Basis.{NonbasicFormIsItself, alone}
use Rattle.nz_spec.specs.simplex.Bland.{Position, HasBasis, HasValue, is_nonbasic, sum_at, value_in}

-- the value of a nonbasic form stands in the point
pub point_is_value : NonbasicFormIsItself → (p : Position) → HasBasis p → (k : ℕ) (x : Infinitesimal) → p.point k ≡ Some x → HasValue p k x
point_is_value law p basis k x e =
    let nonbasic : is_nonbasic p.point k ≡ true = ap is_some e in
    let inside : k < length p.forms = basis.listed k nonbasic in
    let there : value_in p.point k ≡ x = ap (λ (o : Option Infinitesimal). unwrap_or o origin) e in
    record {
      row = alone k;
      is_row = law.row p.forms (is_nonbasic p.point) k basis nonbasic;
      at =
          subst (λ (y : Infinitesimal). y =δ sum_at (length p.forms) (alone k) (value_in p.point)) there
          (record {
            standard = =ℚ_sym (law.value (length p.forms) k (λ m. (value_in p.point m).standard) inside);
            coefficient = =ℚ_sym (law.value (length p.forms) k (λ m. (value_in p.point m).coefficient) inside);
          });
    }
  where
    origin : Infinitesimal
    origin = record { standard = whole (pos 0); coefficient = whole (pos 0) }

-- what equals a value is one
pub equal_value : InfinitesimalsMove → (p : Position) (k : ℕ) (x y : Infinitesimal) → x =δ y → HasValue p k y → HasValue p k x
equal_value law p k x y e h = record {
  row = h.row;
  is_row = h.is_row;
  at = law.along x y (sum_at (length p.forms) h.row (value_in p.point)) e h.at;
}

-- ---- Values that are known

pub some_inside : {X : Type 0} (xs : List (Option X)) (k : ℕ) (x : X) → slice_index_or xs k None ≡ Some x → k < length xs
some_inside [] k x e = absurd (cc)
some_inside (o ∷ os) zero x e = omega arith
some_inside (o ∷ os) (suc k) x e = let h = some_inside os k x e in omega (arith, h)

pub some_told : {S : Type 0} (stands_for : S → Infinitesimal) (o : Option S) (x : Infinitesimal) → option_map stands_for o ≡ Some x → (y : S) × (o ≡ Some y) × (stands_for y ≡ x)
some_told stands_for None x e = absurd (cc)
some_told stands_for (Some y) x e = (y, refl, ap (λ (o : Option Infinitesimal). unwrap_or o x) e)
