-- Which literals say which bounds, and which lists of parts are sums.
use Rattle.std.specs.Prelude.{List, pos, true, false, map}
use Rattle.nz_fractions.specs.Fraction.{Fraction, whole, ◌=ℚ◌, ◌<ℚ◌, ◌*ℚ◌, neg_ℚ, Product}
use Rattle.nz_spec.specs.numbers.Computation.{operated}
use Rattle.nz_spec.specs.terms.Term.{Term}
use Rattle.nz_spec.specs.terms.Form.{Numbering, Part, negated_part, parts_scaled}
use Rattle.nz_spec.specs.terms.FormOf.{form_of}
use Rattle.nz_spec.specs.clauses.Literal.{is_at_most, negation_of}
use Rattle.nz_spec.specs.simplex.Basis.{Valuation, worth}
use Rattle.nz_spec.specs.simplex.Bland.{at_least_bound, at_most_bound}
use Rattle.nz_trail.specs.declared.limits.Side.TheVariants.{Lower, Upper}
use Rattle.nz_simplex.specs.Contradictions.{AreSum, SaysBound}

-- ---- Laws

-- That a multiple of a form is at most a number says an upper bound of the form, and the negation says a strict lower one. Of the form with the other sign
-- it is the other way round.
pub record LiteralsSayBounds : Type 0 where
  pub upper : (number : Numbering) (f ps : List Part) (factor limit b : Fraction) → AreSum number ps → whole (pos 0) <ℚ factor
      → ((v : Valuation) → worth v ps =ℚ (factor *ℚ worth v f)) → b =ℚ (factor *ℚ limit)
      → SaysBound number f Upper (at_most_bound false limit) factor (is_at_most ps b) × SaysBound number f Lower (at_least_bound true limit) factor (negation_of (is_at_most ps b))
  pub lower : (number : Numbering) (f ps : List Part) (factor limit b : Fraction) → AreSum number ps → whole (pos 0) <ℚ factor
      → ((v : Valuation) → worth v ps =ℚ (factor *ℚ neg_ℚ (worth v f))) → b =ℚ (factor *ℚ neg_ℚ limit)
      → SaysBound number f Lower (at_least_bound false limit) factor (is_at_most ps b) × SaysBound number f Upper (at_most_bound true limit) factor (negation_of (is_at_most ps b))

-- The parts of a term's form are a sum. A sum that is multiplied or negated is one, and worth as much more.
pub record SumsStay : Type 0 where
  pub form : (number : Numbering) (t : Term) → AreSum number (form_of number t).result.parts
  pub scaled : (number : Numbering) (m : Fraction) (ps : List Part) → AreSum number ps → AreSum number (parts_scaled (operated Product m) ps).result
  pub negated : (number : Numbering) (ps : List Part) → AreSum number ps → AreSum number (map negated_part ps)
  pub scaled_worth : (v : Valuation) (m : Fraction) (ps : List Part) → worth v (parts_scaled (operated Product m) ps).result =ℚ (m *ℚ worth v ps)
  pub negated_worth : (v : Valuation) (ps : List Part) → worth v (map negated_part ps) =ℚ neg_ℚ (worth v ps)
