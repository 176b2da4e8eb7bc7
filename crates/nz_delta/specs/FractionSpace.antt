-- The fractions are an ordered vector space over themselves; each result is in lowest terms.
use Rattle.std.specs.Prelude.{◌≡◌, pos}
use Rattle.std.specs.declared.cmp.Ordering.TheVariants.{Equal}
use Rattle.std.proofs.Common.{sym, ◌∙◌}
use Rattle.nz_fractions.specs.Fraction.{Fraction, whole, ◌=ℚ◌, ◌+ℚ◌, neg_ℚ, ◌*ℚ◌, fraction_cmp, outcome, Sum, Difference, Product}
use Rattle.nz_fractions.proofs.Laws.{=ℚ_refl, =ℚ_sym, =ℚ_trans}
use Rattle.nz_fractions.proofs.Order.{fraction_cmp_total, fraction_cmp_is, fraction_ranked}
use Rattle.nz_fractions.proofs.Arithmetic.{outcome-sum, outcome-difference, outcome-product, +ℚ_comm, +ℚ_assoc, +ℚ-zero, +ℚ-neg, +ℚ-same, *ℚ_comm, *ℚ_assoc, *ℚ-one, *ℚ-+ℚ, *ℚ-same, cmp-same, cmp-+ℚ, cmp-*ℚ_pos, cmp-*ℚ_neg}
use Rattle.nz_delta.specs.Space.{IsOrderedSpace}

pub tied : {p q : Fraction} → p =ℚ q → fraction_cmp p q ≡ Equal
tied {p} {q} h = sym (fraction_cmp_is p q Equal h)

pub untied : (p q : Fraction) → fraction_cmp p q ≡ Equal → p =ℚ q
untied p q e = fraction_ranked p q Equal (sym e)

-- sums in lowest terms have the value of the sum, and so have sums of those
pub sums : {p p' q q' : Fraction} → p =ℚ p' → q =ℚ q' → outcome Sum p q =ℚ (p' +ℚ q')
sums {p} {p'} {q} {q'} h k = =ℚ_trans (outcome-sum p q) (+ℚ-same h k)

pub products : {p p' q q' : Fraction} → p =ℚ p' → q =ℚ q' → outcome Product p q =ℚ (p' *ℚ q')
products {p} {p'} {q} {q'} h k = =ℚ_trans (outcome-product p q) (*ℚ-same h k)

plus_comm : (x y : Fraction) → outcome Sum x y =ℚ outcome Sum y x
plus_comm x y = =ℚ_trans (outcome-sum x y) (=ℚ_trans (+ℚ_comm x y) (=ℚ_sym (outcome-sum y x)))

plus_assoc : (x y z : Fraction) → outcome Sum (outcome Sum x y) z =ℚ outcome Sum x (outcome Sum y z)
plus_assoc x y z =
    =ℚ_trans (sums (outcome-sum x y) (=ℚ_refl z))
    (=ℚ_trans (+ℚ_assoc x y z) (=ℚ_sym (sums (=ℚ_refl x) (outcome-sum y z))))

plus_zero : (x : Fraction) → outcome Sum x (whole (pos 0)) =ℚ x
plus_zero x = =ℚ_trans (outcome-sum x (whole (pos 0))) (+ℚ-zero x)

minus_plus : (x y : Fraction) → outcome Sum (outcome Difference x y) y =ℚ x
minus_plus x y =
    =ℚ_trans (sums (outcome-difference x y) (=ℚ_refl y))
    (=ℚ_trans (+ℚ_assoc x (neg_ℚ y) y)
    (=ℚ_trans (+ℚ-same (=ℚ_refl x) (=ℚ_trans (+ℚ_comm (neg_ℚ y) y) (+ℚ-neg y))) (+ℚ-zero x)))

scaled_one : (x : Fraction) → outcome Product x (whole (pos 1)) =ℚ x
scaled_one x = =ℚ_trans (outcome-product x (whole (pos 1))) (*ℚ-one x)

spread : (x y q : Fraction) → ((x +ℚ y) *ℚ q) =ℚ (x *ℚ q +ℚ y *ℚ q)
spread x y q =
    =ℚ_trans (*ℚ_comm (x +ℚ y) q)
    (=ℚ_trans (*ℚ-+ℚ q x y) (+ℚ-same (*ℚ_comm q x) (*ℚ_comm q y)))

scaled_plus : (x y q : Fraction) → outcome Product (outcome Sum x y) q =ℚ outcome Sum (outcome Product x q) (outcome Product y q)
scaled_plus x y q =
    =ℚ_trans (products (outcome-sum x y) (=ℚ_refl q))
    (=ℚ_trans (spread x y q) (=ℚ_sym (sums (outcome-product x q) (outcome-product y q))))

scaled_sum : (x p q : Fraction) → outcome Product x (p +ℚ q) =ℚ outcome Sum (outcome Product x p) (outcome Product x q)
scaled_sum x p q =
    =ℚ_trans (outcome-product x (p +ℚ q))
    (=ℚ_trans (*ℚ-+ℚ x p q) (=ℚ_sym (sums (outcome-product x p) (outcome-product x q))))

scaled_product : (x p q : Fraction) → outcome Product x (p *ℚ q) =ℚ outcome Product (outcome Product x p) q
scaled_product x p q =
    =ℚ_trans (outcome-product x (p *ℚ q))
    (=ℚ_trans (=ℚ_sym (*ℚ_assoc x p q)) (=ℚ_sym (products (outcome-product x p) (=ℚ_refl q))))

scaled_same : {x y p q : Fraction} → x =ℚ y → p =ℚ q → outcome Product x p =ℚ outcome Product y q
scaled_same {x} {y} {p} {q} h k = =ℚ_trans (products h k) (=ℚ_sym (outcome-product y q))

pub fraction_space : IsOrderedSpace (whole (pos 0)) (outcome Sum) (outcome Difference) (outcome Product) fraction_cmp
fraction_space = record {
  ordered = fraction_cmp_total;
  plus_comm = λ x y. tied (plus_comm x y);
  plus_assoc = λ x y z. tied (plus_assoc x y z);
  plus_zero = λ x. tied (plus_zero x);
  minus_plus = λ x y. tied (minus_plus x y);
  scaled_one = λ x. tied (scaled_one x);
  scaled_plus = λ x y q. tied (scaled_plus x y q);
  scaled_sum = λ x p q. tied (scaled_sum x p q);
  scaled_product = λ x p q. tied (scaled_product x p q);
  scaled_same = λ x y p q e h. tied (scaled_same (untied x y e) h);
  moved = λ x y z. cmp-same (outcome-sum x z) (outcome-sum y z) ∙ cmp-+ℚ x y z;
  kept = λ x y q h. cmp-same (outcome-product x q) (outcome-product y q) ∙ cmp-*ℚ_pos x y q h;
  turned = λ x y q h. cmp-same (outcome-product x q) (outcome-product y q) ∙ cmp-*ℚ_neg x y q h;
}
