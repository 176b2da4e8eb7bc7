-- Literals and their negations.
use Rattle.std.proofs.Common.{◌≡◌, true, false, List, [], ◌∷◌, map, refl, ap₂}
use Rattle.nz_fractions.specs.Fraction.{Fraction}
use Rattle.nz_fractions.proofs.Identities.{neg-back}
use Rattle.nz_spec.specs.terms.Form.{Part, negated_part}
use Rattle.nz_spec.specs.clauses.Literal.{Literal, term_literal, is_at_most, is_below, negation_of}
use Rattle.nz_spec.specs.clauses.Farkas.{is_linear_literal}

pub parts-back : (ps : List Part) → map negated_part (map negated_part ps) ≡ ps
parts-back [] = refl
parts-back (p ∷ ps) =
    ap₂ (λ (c : Fraction) (qs : List Part). let r : Part = record { coefficient = c; unit = p.unit } in r ∷ qs) (neg-back p.coefficient) (parts-back ps)

pub literal-back : (l : Literal) → negation_of (negation_of l) ≡ l
literal-back (term_literal t true) = refl
literal-back (term_literal t false) = refl
literal-back (is_at_most ps b) = ap₂ is_at_most (parts-back ps) (neg-back b)
literal-back (is_below ps b) = ap₂ is_below (parts-back ps) (neg-back b)

pub negation-linear : (l : Literal) → is_linear_literal (negation_of l) ≡ is_linear_literal l
negation-linear (term_literal t sign) = refl
negation-linear (is_at_most ps b) = refl
negation-linear (is_below ps b) = refl
