-- What the sum of multiples of literals is: its units are worth the sum of theirs, its limit is the sum of theirs, and it is strict only where one of them is.
use Rattle.std.proofs.Common.{◌≡◌, Bool, true, false, List, [], ◌∷◌, pos, refl, ap}
use Rattle.std.specs.Prelude.{nat_lt, if◌then◌else◌}
use Rattle.std.specs.List.{AllByRecursion}
use Rattle.std.proofs.lemmas.Bool.{or_parts}
use Rattle.nz_ints.proofs.Ring.{Atom, ◌⊕◌, ◌⊗◌}
use Rattle.nz_fractions.specs.Fraction.{Fraction, whole, ◌=ℚ◌, ◌+ℚ◌, ◌*ℚ◌, Sum, Product, outcome}
use Rattle.nz_fractions.proofs.Laws.{=ℚ_refl, =ℚ-from_same, =ℚ_sym}
use Rattle.nz_fractions.proofs.Order.{same-fraction_eq}
use Rattle.nz_fractions.proofs.Arithmetic.{+ℚ_comm, +ℚ_assoc, +ℚ-zero, +ℚ-same, *ℚ_assoc, *ℚ-+ℚ, outcome-sum, outcome-product}
use Rattle.nz_fractions.proofs.Identities.{times_zero, zero_left, zero_times}
use Rattle.nz_fractions.proofs.Solver.{◌∙ℚ◌, plus_left, plus_right, solve, times_left, times_right}
use Rattle.nz_spec.specs.terms.Term.{Term, is_zero}
use Rattle.nz_spec.specs.numbers.Computation.{operated, at_once, turned_into}
use Rattle.nz_spec.specs.terms.Form.{Numbering, Part, part_alone, part_joined, parts_joined, parts_scaled, with_part}
use Rattle.nz_spec.specs.clauses.Literal.{Literal}
use Rattle.nz_spec.specs.terms.Same.{are_same_term, TellsTerms}
use Rattle.nz_spec.specs.simplex.Basis.{Valuation, worth}
use Rattle.nz_spec.specs.clauses.Farkas.{Bound, Multiple, bound_of, bound_scaled, bounds_joined, multiples_onto}

-- the sum of what literals have, each times its multiplier
abbrev pub total : (Literal → Fraction) → List Multiple → Fraction
total has [] = whole (pos 0)
total has (m ∷ ms) = m.multiplier *ℚ has m.literal +ℚ total has ms

-- ---- What units are worth

module _ (v : Valuation) where
  with_part-worth : (u : Term) (c : Fraction) (ps : List Part) → worth v (with_part u c ps) =ℚ (c *ℚ v u +ℚ worth v ps)
  with_part-worth u c ps = by_test (is_zero c) refl
    where
      by_test : (b : Bool) → is_zero c ≡ b → worth v (if b then ps else record { coefficient = c; unit = u } ∷ ps) =ℚ (c *ℚ v u +ℚ worth v ps)
      by_test false e = =ℚ_refl (c *ℚ v u +ℚ worth v ps)
      by_test true e = =ℚ_sym (plus_left (worth v ps) (times_left (v u) (same-fraction_eq c (whole (pos 0)) e) ∙ℚ zero_times (v u)) ∙ℚ zero_left (worth v ps))

  pub scaled-worth : (m : Fraction) (ps : List Part) → worth v (parts_scaled (operated Product m) ps).result =ℚ (m *ℚ worth v ps)
  scaled-worth m [] = =ℚ_sym (times_zero m)
  scaled-worth m (p ∷ ps) =
      with_part-worth p.unit (outcome Product m p.coefficient) (parts_scaled (operated Product m) ps).result
      ∙ℚ +ℚ-same (times_left (v p.unit) (outcome-product m p.coefficient) ∙ℚ *ℚ_assoc m p.coefficient (v p.unit)) (scaled-worth m ps)
      ∙ℚ =ℚ_sym (*ℚ-+ℚ m (p.coefficient *ℚ v p.unit) (worth v ps))

  module _ (terms : TellsTerms) (number : Numbering) where
    met : (p : Part) (ps : List Part) (q : Part) → p.unit ≡ q.unit
        → worth v (with_part p.unit (outcome Sum p.coefficient q.coefficient) ps) =ℚ (worth v (p ∷ ps) +ℚ q.coefficient *ℚ v q.unit)
    met p ps q same =
        with_part-worth p.unit (outcome Sum p.coefficient q.coefficient) ps
        ∙ℚ plus_left (worth v ps) (times_left (v p.unit) (outcome-sum p.coefficient q.coefficient))
        ∙ℚ solve (p.coefficient ∷ q.coefficient ∷ v p.unit ∷ worth v ps ∷ []) ((Atom 0 ⊕ Atom 1) ⊗ Atom 2 ⊕ Atom 3) ((Atom 0 ⊗ Atom 2 ⊕ Atom 3) ⊕ Atom 1 ⊗ Atom 2) refl
        ∙ℚ plus_right (worth v (p ∷ ps)) (times_right q.coefficient (=ℚ-from_same (ap v same)))

    joined_by : (p : Part) (ps : List Part) (q : Part) (b c : Bool) → are_same_term p.unit q.unit ≡ b
        → worth v (part_joined number Sum ps q).result =ℚ (worth v ps +ℚ q.coefficient *ℚ v q.unit)
        → worth v (if b then turned_into (λ d. with_part p.unit d ps) (operated Sum p.coefficient q.coefficient) else if c then at_once (part_alone Sum q ∷ p ∷ ps) else turned_into (λ rs. p ∷ rs) (part_joined number Sum ps q)).result
        =ℚ (worth v (p ∷ ps) +ℚ q.coefficient *ℚ v q.unit)
    joined_by p ps q true c e rest = met p ps q (terms.same p.unit q.unit e)
    joined_by p ps q false true e rest = +ℚ_comm (q.coefficient *ℚ v q.unit) (worth v (p ∷ ps))
    joined_by p ps q false false e rest =
        plus_right (p.coefficient *ℚ v p.unit) rest ∙ℚ =ℚ_sym (+ℚ_assoc (p.coefficient *ℚ v p.unit) (worth v ps) (q.coefficient *ℚ v q.unit))

    part-worth : (ps : List Part) (q : Part) → worth v (part_joined number Sum ps q).result =ℚ (worth v ps +ℚ q.coefficient *ℚ v q.unit)
    part-worth [] q = +ℚ_comm (q.coefficient *ℚ v q.unit) (whole (pos 0))
    part-worth (p ∷ ps) q = joined_by p ps q (are_same_term p.unit q.unit) (nat_lt (number q.unit) (number p.unit)) refl (part-worth ps q)

    parts-worth : (ps qs : List Part) → worth v (parts_joined number Sum ps qs).result =ℚ (worth v ps +ℚ worth v qs)
    parts-worth ps [] = =ℚ_sym (+ℚ-zero (worth v ps))
    parts-worth ps (q ∷ qs) =
        parts-worth (part_joined number Sum ps q).result qs
        ∙ℚ plus_left (worth v qs) (part-worth ps q)
        ∙ℚ +ℚ_assoc (worth v ps) (q.coefficient *ℚ v q.unit) (worth v qs)

    pub onto-worth : (x : Bound) (ms : List Multiple) → worth v (multiples_onto number x ms).result.parts =ℚ (worth v x.parts +ℚ total (λ (l : Literal). worth v (bound_of l).parts) ms)
    onto-worth x [] = =ℚ_sym (+ℚ-zero (worth v x.parts))
    onto-worth x (m ∷ ms) =
        let y = (bound_scaled m.multiplier (bound_of m.literal)).result in
        let rest = total (λ (l : Literal). worth v (bound_of l).parts) ms in
        onto-worth (bounds_joined number x y).result ms
        ∙ℚ plus_left rest (parts-worth x.parts y.parts ∙ℚ plus_right (worth v x.parts) (scaled-worth m.multiplier (bound_of m.literal).parts))
        ∙ℚ +ℚ_assoc (worth v x.parts) (m.multiplier *ℚ worth v (bound_of m.literal).parts) rest

-- ---- Limits, and what is strict

module _ (number : Numbering) where
  pub onto-limit : (x : Bound) (ms : List Multiple) → (multiples_onto number x ms).result.limit =ℚ (x.limit +ℚ total (λ (l : Literal). (bound_of l).limit) ms)
  onto-limit x [] = =ℚ_sym (+ℚ-zero x.limit)
  onto-limit x (m ∷ ms) =
      let y = (bound_scaled m.multiplier (bound_of m.literal)).result in
      let rest = total (λ (l : Literal). (bound_of l).limit) ms in
      onto-limit (bounds_joined number x y).result ms
      ∙ℚ plus_left rest (outcome-sum x.limit y.limit ∙ℚ plus_right x.limit (outcome-product m.multiplier (bound_of m.literal).limit))
      ∙ℚ +ℚ_assoc x.limit (m.multiplier *ℚ (bound_of m.literal).limit) rest

  pub onto-lax : (x : Bound) (ms : List Multiple) → (multiples_onto number x ms).result.is_strict ≡ false
      → (x.is_strict ≡ false) × AllByRecursion (λ (m : Multiple). (bound_of m.literal).is_strict ≡ false) ms
  onto-lax x [] e = (e, tt)
  onto-lax x (m ∷ ms) e =
      let rest = onto-lax (bounds_joined number x (bound_scaled m.multiplier (bound_of m.literal)).result).result ms e in
      let both = or_parts x.is_strict (bound_of m.literal).is_strict rest.0 in
      (both.0, (both.1, rest.1))
