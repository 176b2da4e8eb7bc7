-- Literals over other units: whether a sum of multiples is a contradiction doesn't depend on which terms the units are. So what holds over one table of terms
-- holds over each that has the terms of the literals.
use Rattle.std.specs.Prelude.{List, map}
use Rattle.std.specs.List.{AllByRecursion}
use Rattle.nz_spec.specs.terms.Term.{Term}
use Rattle.nz_spec.specs.terms.Form.{Numbering, Part}
use Rattle.nz_spec.specs.clauses.Literal.{Literal, term_literal, is_at_most, is_below}
use Rattle.nz_spec.specs.clauses.Farkas.{Multiple, bound_of}
use Rattle.nz_simplex.specs.Contradictions.{AreSum, Contradicts}

module _ (other : Term → Term) where
  abbrev pub other_part : Part → Part
  other_part p = record { coefficient = p.coefficient; unit = other p.unit }

  -- the same literal over other units
  abbrev pub other_literal : Literal → Literal
  other_literal (term_literal t sign) = term_literal t sign
  other_literal (is_at_most ps b) = is_at_most (map other_part ps) b
  other_literal (is_below ps b) = is_below (map other_part ps) b

  abbrev pub other_multiple : Multiple → Multiple
  other_multiple m = record { literal = other_literal m.literal; multiplier = m.multiplier }

-- ---- Laws

-- Where the parts stay sums, a contradiction stays one.
abbrev pub ContradictionsStay : Type 0
ContradictionsStay = (number later : Numbering) (other : Term → Term) (ms : List Multiple) → Contradicts number ms
    → AllByRecursion (λ (m : Multiple). AreSum later (bound_of (other_literal other m.literal)).parts) ms → Contradicts later (map (other_multiple other) ms)
