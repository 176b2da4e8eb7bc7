-- Where a part joins a sum.
use Rattle.std.specs.Prelude.{◌≡◌, nat_lt, true, false, List, ◌∷◌, ◌++◌}
use Rattle.std.specs.List.{AllByRecursion}
use Rattle.nz_fractions.specs.Fraction.{Arithmetic}
use Rattle.nz_spec.specs.numbers.Computation.{operated, at_once, turned_into}
use Rattle.nz_spec.specs.terms.Same.{are_same_term}
use Rattle.nz_spec.specs.terms.Form.{Numbering, Part, MayPrecede, with_part, part_alone, part_joined}

-- ---- Laws

-- It passes those that may stand before it, meets its own unit, and stays before a unit of a greater number.
pub record JoinsAtItsPlace : Type 0 where
  pub passes : (number : Numbering) (op : Arithmetic) (front rest : List Part) (q : Part) → AllByRecursion (λ (p : Part). MayPrecede number p q) front
      → part_joined number op (front ++ rest) q ≡ turned_into (λ rs. front ++ rs) (part_joined number op rest q)
  pub meets : (number : Numbering) (op : Arithmetic) (p : Part) (rest : List Part) (q : Part) → are_same_term p.unit q.unit ≡ true
      → part_joined number op (p ∷ rest) q ≡ turned_into (λ c. with_part p.unit c rest) (operated op p.coefficient q.coefficient)
  pub stays : (number : Numbering) (op : Arithmetic) (p : Part) (rest : List Part) (q : Part) → are_same_term p.unit q.unit ≡ false → nat_lt (number q.unit) (number p.unit) ≡ true
      → part_joined number op (p ∷ rest) q ≡ at_once (part_alone op q ∷ p ∷ rest)
