-- Literals that say bounds of forms.
use Rattle.std.proofs.Common.{◌≡◌, false, List, [], ◌∷◌, map, pos, negsuc, refl}
use Rattle.std.specs.List.{AllByRecursion}
use Rattle.nz_ints.proofs.Ring.{Atom, Literal, ◌⊕◌, ◌⊗◌, Minus}
use Rattle.nz_fractions.specs.Fraction.{Fraction, whole, ◌=ℚ◌, ◌*ℚ◌, neg_ℚ}
use Rattle.nz_fractions.proofs.Laws.{=ℚ_refl}
use Rattle.nz_fractions.proofs.Arithmetic.{+ℚ-same, neg_ℚ-same}
use Rattle.nz_fractions.proofs.Identities.{neg-nonzero, neg-zero}
use Rattle.nz_fractions.proofs.Solver.{◌∙ℚ◌, solve}
use Rattle.nz_spec.specs.terms.Term.{is_zero}
use Rattle.nz_spec.specs.terms.Form.{Numbering, Part, AreRising, MayPrecede, negated_part}
use Rattle.nz_spec.specs.terms.FormOf.{FormsAreSums}
use Rattle.nz_spec.specs.simplex.Basis.{Valuation, worth}
use Rattle.nz_simplex.specs.Contradictions.{AreSum}
use Rattle.nz_simplex.specs.SaidBounds.{LiteralsSayBounds, SumsStay}
use Rattle.nz_simplex.proofs.SumsInOrder.{scaled_sum}
use Rattle.nz_simplex.proofs.Totals.{scaled-worth}

-- ---- Parts with the other sign

negated_worth : (v : Valuation) (ps : List Part) → worth v (map negated_part ps) =ℚ neg_ℚ (worth v ps)
negated_worth v [] = solve [] (Literal (pos 0)) (Minus (Literal (pos 0))) refl
negated_worth v (p ∷ ps) =
    +ℚ-same (=ℚ_refl (neg_ℚ p.coefficient *ℚ v p.unit)) (negated_worth v ps)
    ∙ℚ solve (p.coefficient ∷ v p.unit ∷ worth v ps ∷ []) (Minus (Atom 0) ⊗ Atom 1 ⊕ Minus (Atom 2)) (Minus (Atom 0 ⊗ Atom 1 ⊕ Atom 2)) refl

module _ (number : Numbering) where
  negated_behind : (p : Part) (ps : List Part) → AllByRecursion (MayPrecede number p) ps → AllByRecursion (MayPrecede number (negated_part p)) (map negated_part ps)
  negated_behind p [] h = tt
  negated_behind p (q ∷ qs) h = (h.0, negated_behind p qs h.1)

  negated_rising : (ps : List Part) → AreRising number ps → AreRising number (map negated_part ps)
  negated_rising [] h = tt
  negated_rising (p ∷ ps) h = (negated_behind p ps h.0, negated_rising ps h.1)

  all_negated_nonzero : (ps : List Part) → AllByRecursion (λ (p : Part). is_zero p.coefficient ≡ false) ps → AllByRecursion (λ (p : Part). is_zero p.coefficient ≡ false) (map negated_part ps)
  all_negated_nonzero [] h = tt
  all_negated_nonzero (p ∷ ps) h = (neg-nonzero p.coefficient h.0, all_negated_nonzero ps h.1)

  negated_sum : (ps : List Part) → AreSum number ps → AreSum number (map negated_part ps)
  negated_sum ps s = record { rising = negated_rising ps s.rising; nonzero = all_negated_nonzero ps s.nonzero }

-- ---- Signs

neg_times : (m q : Fraction) → neg_ℚ (m *ℚ q) =ℚ (m *ℚ neg_ℚ q)
neg_times m q = solve (m ∷ q ∷ []) (Minus (Atom 0 ⊗ Atom 1)) (Atom 0 ⊗ Minus (Atom 1)) refl

neg_times_neg : (m q : Fraction) → neg_ℚ (m *ℚ neg_ℚ q) =ℚ (m *ℚ q)
neg_times_neg m q = solve (m ∷ q ∷ []) (Minus (Atom 0 ⊗ Minus (Atom 1))) (Atom 0 ⊗ Atom 1) refl

neg_one : neg_ℚ (whole (pos 1)) =ℚ whole (negsuc 0)
neg_one = solve [] (Minus (Literal (pos 1))) (Literal (negsuc 0)) refl

-- ---- The laws

pub literals_say_bounds : LiteralsSayBounds
literals_say_bounds = record {
  upper = λ number f ps factor limit b sum positive parts is. (
    record { linear = refl; sum = sum; positive = positive; parts = parts; limit = is; strict = =ℚ_refl (whole (pos 0)) },
    record {
      linear = refl;
      sum = negated_sum number ps sum;
      positive = positive;
      parts = λ v. negated_worth v ps ∙ℚ neg_ℚ-same (parts v) ∙ℚ neg_times factor (worth v f);
      limit = neg_ℚ-same is ∙ℚ neg_times factor limit;
      strict = neg_one;
    },
  );
  lower = λ number f ps factor limit b sum positive parts is. (
    record { linear = refl; sum = sum; positive = positive; parts = parts; limit = is; strict = neg-zero },
    record {
      linear = refl;
      sum = negated_sum number ps sum;
      positive = positive;
      parts = λ v. negated_worth v ps ∙ℚ neg_ℚ-same (parts v) ∙ℚ neg_times_neg factor (worth v f);
      limit = neg_ℚ-same is ∙ℚ neg_times_neg factor limit;
      strict = =ℚ_refl (whole (negsuc 0));
    },
  );
}

pub sums_stay : FormsAreSums → SumsStay
sums_stay sums = record {
  form = λ number t. let s = sums number t in record { rising = s.rising; nonzero = s.nonzero };
  scaled = scaled_sum;
  negated = negated_sum;
  scaled_worth = scaled-worth;
  negated_worth = negated_worth;
}
