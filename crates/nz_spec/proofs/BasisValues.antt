-- Values that fit a basis are those of its forms, where the units are worth what the forms of their numbers have.
use Rattle.std.proofs.Common.{ℕ, ◌<◌, Bool, List, [], ◌∷◌, length, pos, refl, ap}
use Rattle.nz_ints.proofs.Ring.{Atom, ◌⊕◌}
use Rattle.nz_fractions.specs.Fraction.{Fraction, whole, ◌=ℚ◌, ◌+ℚ◌, ◌*ℚ◌}
use Rattle.nz_spec.specs.terms.Term.{Term}
use Rattle.nz_spec.specs.terms.Form.{Part}
use Rattle.nz_spec.specs.simplex.Basis.{Valuation, worth, form_at, Coefficients, weighted, IsRow, IsBasis, IsSolution}
use Rattle.nz_spec.specs.simplex.BasisMoves.{AreNumbered, SolutionsAreWorth}
use Rattle.nz_fractions.proofs.Laws.{=ℚ_refl, =ℚ-from_same, =ℚ_sym}
use Rattle.nz_fractions.proofs.Arithmetic.{+ℚ-same}
use Rattle.nz_fractions.proofs.Solver.{◌∙ℚ◌, solve, times_right}
use Rattle.nz_spec.proofs.BasisRows.{weighted-plus, weighted-zero}
use Rattle.nz_spec.proofs.BasisJoins.{unit_worth, added-zero, added-mix, Spans}

module _ (fs : List (List Part)) (nonbasic : ℕ → Bool) (number : Term → ℕ) (y : ℕ → Fraction) (b : IsBasis fs nonbasic) (fits : IsSolution fs nonbasic y) where
  -- what each unit is worth
  abbrev by_number : Valuation
  by_number u = y (number u)

  -- coefficients that sum to these parts, and to their worth
  record Sums (ps : List Part) : Type 0 where
    row : Coefficients
    spans : Spans fs nonbasic ps row
    value : weighted (length fs) row y =ℚ worth by_number ps

  sums : (ps : List Part) → AreNumbered fs number ps → Sums ps
  sums [] h = record {
    row = λ k. whole (pos 0);
    spans = record {
      at_basic = λ k e. =ℚ_refl (whole (pos 0));
      equal = λ v. =ℚ_sym (weighted-zero (length fs) (λ k. worth v (form_at fs k)) (λ k. whole (pos 0)) (λ k. =ℚ_refl (whole (pos 0))));
    };
    value = weighted-zero (length fs) y (λ k. whole (pos 0)) (λ k. =ℚ_refl (whole (pos 0)));
  }
  sums (p ∷ ps) h = by_row (b.some (number p.unit) h.0.0) (sums ps h.1)
    where
      by_row : (d : Coefficients) × IsRow fs nonbasic (number p.unit) d → Sums ps → Sums (p ∷ ps)
      by_row (d, r) rest =
          let q = p.coefficient in
          let c = rest.row in
          let more : Coefficients = λ k. c k +ℚ q *ℚ d k in
          record {
            row = more;
            spans = record {
              at_basic = added-zero fs nonbasic (number p.unit) c d more q rest.spans.at_basic r (λ k. =ℚ_refl (more k));
              equal = λ v.
                  =ℚ_sym (added-mix fs nonbasic (number p.unit) c d more q r (λ k. =ℚ_refl (more k)) v
                  ∙ℚ +ℚ-same (=ℚ_sym (rest.spans.equal v)) (times_right q (=ℚ-from_same (ap (worth v) h.0.1) ∙ℚ unit_worth v p.unit))
                  ∙ℚ solve (worth v ps ∷ (q *ℚ v p.unit) ∷ []) (Atom 0 ⊕ Atom 1) (Atom 1 ⊕ Atom 0) refl);
            };
            value =
                weighted-plus (length fs) y c d q
                ∙ℚ +ℚ-same rest.value (times_right q (=ℚ_sym (fits (number p.unit) d h.0.0 r)))
                ∙ℚ solve (worth by_number ps ∷ (q *ℚ y (number p.unit)) ∷ []) (Atom 0 ⊕ Atom 1) (Atom 1 ⊕ Atom 0) refl;
          }

  worth-fits : (k : ℕ) → k < length fs → AreNumbered fs number (form_at fs k) → worth by_number (form_at fs k) =ℚ y k
  worth-fits k h named =
      let s = sums (form_at fs k) named in
      =ℚ_sym (fits k s.row h (record { at_basic = s.spans.at_basic; equal = s.spans.equal }) ∙ℚ s.value)

pub solutions_are_worth : SolutionsAreWorth
solutions_are_worth fs nonbasic number y k b fits h named = worth-fits fs nonbasic number y b fits k h named
