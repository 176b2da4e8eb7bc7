-- Infinitesimal numbers as an ordered vector space over the fractions: part by part, compared by the first part first.
use Rattle.std.specs.Prelude.{◌≡◌, List, [], ◌∷◌, pos, refl}
use Rattle.std.specs.Ordering.{ordering_then}
use Rattle.std.specs.declared.cmp.Ordering.{Ordering}
use Rattle.std.specs.declared.cmp.Ordering.TheVariants.{Less, Equal, Greater}
use Rattle.std.specs.Cmp.{IsTotalOrder}
use Rattle.std.proofs.Common.{ap₂}
use Rattle.std.proofs.lemmas.Cmp.{on_total, then_total}
use Rattle.nz_fractions.specs.Fraction.{Fraction, whole, fraction_cmp, outcome, Sum, Difference, Product, Operation}
use Rattle.nz_spec.specs.numbers.Infinitesimal.{Infinitesimal}
use Rattle.nz_fractions.proofs.Order.{fraction_cmp_total}
use Rattle.nz_delta.specs.declared.delta.Delta.{Delta}
use Rattle.nz_delta.specs.Space.{IsOrderedSpace}
use Rattle.nz_delta.specs.FractionSpace.{fraction_space}

-- the number that a `Delta` stands for
abbrev pub infinitesimal_of : Delta → Infinitesimal
infinitesimal_of x = record { standard = x.c; coefficient = x.k }

abbrev pub delta_zero : Delta
delta_zero = record { c = whole (pos 0); k = whole (pos 0) }

abbrev pub delta_plus : Delta → Delta → Delta
delta_plus x y = record { c = outcome Sum x.c y.c; k = outcome Sum x.k y.k }

abbrev pub delta_minus : Delta → Delta → Delta
delta_minus x y = record { c = outcome Difference x.c y.c; k = outcome Difference x.k y.k }

abbrev pub delta_scaled : Delta → Fraction → Delta
delta_scaled x by = record { c = outcome Product x.c by; k = outcome Product x.k by }

abbrev pub delta_cmp : Delta → Delta → Ordering
delta_cmp x y = ordering_then (fraction_cmp x.c y.c) (fraction_cmp x.k y.k)

abbrev pub delta_plus_operations : Delta → Delta → List Operation
delta_plus_operations x y =
    record { operator = Sum; left = x.c; right = y.c } ∷ record { operator = Sum; left = x.k; right = y.k } ∷ []

abbrev pub delta_minus_operations : Delta → Delta → List Operation
delta_minus_operations x y =
    record { operator = Difference; left = x.c; right = y.c }
    ∷ record { operator = Difference; left = x.k; right = y.k }
    ∷ []

abbrev pub delta_scaled_operations : Delta → Fraction → List Operation
delta_scaled_operations x by =
    record { operator = Product; left = x.c; right = by } ∷ record { operator = Product; left = x.k; right = by } ∷ []

both_equal : (o p : Ordering) → o ≡ Equal → p ≡ Equal → ordering_then o p ≡ Equal
both_equal o p e f = ap₂ (λ (x y : Ordering). ordering_then x y) e f

first_equal : (o p : Ordering) → ordering_then o p ≡ Equal → o ≡ Equal
first_equal Less p e = e
first_equal Equal p e = refl
first_equal Greater p e = e

second_equal : (o p : Ordering) → ordering_then o p ≡ Equal → p ≡ Equal
second_equal Less p e = absurd (cc)
second_equal Equal p e = e
second_equal Greater p e = absurd (cc)

pub delta_cmp_total : IsTotalOrder delta_cmp
delta_cmp_total =
    then_total
    (on_total (λ (x : Delta). x.c) fraction_cmp_total)
    (on_total (λ (x : Delta). x.k) fraction_cmp_total)

pub delta_space : IsOrderedSpace delta_zero delta_plus delta_minus delta_scaled delta_cmp
delta_space =
    let s = fraction_space in
    record {
      ordered = delta_cmp_total;
      plus_comm = λ x y. both_equal _ _ (s.plus_comm x.c y.c) (s.plus_comm x.k y.k);
      plus_assoc = λ x y z. both_equal _ _ (s.plus_assoc x.c y.c z.c) (s.plus_assoc x.k y.k z.k);
      plus_zero = λ x. both_equal _ _ (s.plus_zero x.c) (s.plus_zero x.k);
      minus_plus = λ x y. both_equal _ _ (s.minus_plus x.c y.c) (s.minus_plus x.k y.k);
      scaled_one = λ x. both_equal _ _ (s.scaled_one x.c) (s.scaled_one x.k);
      scaled_plus = λ x y q. both_equal _ _ (s.scaled_plus x.c y.c q) (s.scaled_plus x.k y.k q);
      scaled_sum = λ x p q. both_equal _ _ (s.scaled_sum x.c p q) (s.scaled_sum x.k p q);
      scaled_product = λ x p q. both_equal _ _ (s.scaled_product x.c p q) (s.scaled_product x.k p q);
      scaled_same = λ x y p q e h.
          both_equal _ _
          (s.scaled_same x.c y.c p q (first_equal (fraction_cmp x.c y.c) (fraction_cmp x.k y.k) e) h)
          (s.scaled_same x.k y.k p q (second_equal (fraction_cmp x.c y.c) (fraction_cmp x.k y.k) e) h);
      moved = λ x y z. ap₂ (λ (o p : Ordering). ordering_then o p) (s.moved x.c y.c z.c) (s.moved x.k y.k z.k);
      kept = λ x y q h. ap₂ (λ (o p : Ordering). ordering_then o p) (s.kept x.c y.c q h) (s.kept x.k y.k q h);
      turned = λ x y q h. ap₂ (λ (o p : Ordering). ordering_then o p) (s.turned x.c y.c q h) (s.turned x.k y.k q h);
    }
