-- Where a part joins a sum.
use Rattle.std.proofs.Common.{◌≡◌, ℕ, ◌≤◌, Bool, true, false, List, [], ◌∷◌, ◌++◌, refl, ap, ap₂, ◌∙◌, arith}
use Rattle.std.specs.Prelude.{if◌then◌else◌, nat_lt}
use Rattle.std.specs.List.{AllByRecursion}
use Rattle.std.proofs.lemmas.Bool.Decides.{nat_tests}
use Rattle.nz_fractions.specs.Fraction.{Arithmetic}
use Rattle.nz_spec.specs.numbers.Computation.{Computation, operated, at_once, turned_into}
use Rattle.nz_spec.specs.terms.Same.{are_same_term}
use Rattle.nz_spec.specs.terms.Form.{Numbering, Part, MayPrecede, with_part, part_alone, part_joined}
use Rattle.nz_spec.specs.laws.FormPlace.{JoinsAtItsPlace}

not_above : (m n : ℕ) → n ≤ m → nat_lt m n ≡ false
not_above m n h = grind (arith, nat_tests)

module _ (number : Numbering) (op : Arithmetic) where
  -- by whether the next unit is the same, and whether it has a greater number
  abbrev joined_by : Part → List Part → Part → Bool → Bool → Computation (List Part)
  joined_by p ps q same before =
      if same then turned_into (λ c. with_part p.unit c ps) (operated op p.coefficient q.coefficient)
      else if before then at_once (part_alone op q ∷ p ∷ ps)
      else turned_into (λ rs. p ∷ rs) (part_joined number op ps q)

  met : (p : Part) (ps : List Part) (q : Part) → are_same_term p.unit q.unit ≡ true
      → part_joined number op (p ∷ ps) q ≡ turned_into (λ c. with_part p.unit c ps) (operated op p.coefficient q.coefficient)
  met p ps q same = ap (λ (b : Bool). joined_by p ps q b (nat_lt (number q.unit) (number p.unit))) same

  stayed : (p : Part) (ps : List Part) (q : Part) → are_same_term p.unit q.unit ≡ false → nat_lt (number q.unit) (number p.unit) ≡ true
      → part_joined number op (p ∷ ps) q ≡ at_once (part_alone op q ∷ p ∷ ps)
  stayed p ps q other before = ap₂ (λ (b c : Bool). joined_by p ps q b c) other before

  passed : (front rest : List Part) (q : Part) → AllByRecursion (λ (p : Part). MayPrecede number p q) front
      → part_joined number op (front ++ rest) q ≡ turned_into (λ rs. front ++ rs) (part_joined number op rest q)
  passed [] rest q h = refl
  passed (p ∷ front) rest q h =
      ap₂ (λ (b c : Bool). joined_by p (front ++ rest) q b c) h.0.1 (not_above (number q.unit) (number p.unit) h.0.0)
      ∙ ap (turned_into (λ (rs : List Part). p ∷ rs)) (passed front rest q h.1)

pub joins_at_its_place : JoinsAtItsPlace
joins_at_its_place = record { passes = passed; meets = met; stays = stayed }
