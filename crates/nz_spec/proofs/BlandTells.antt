-- What rows tell of a position: which forms break a bound, and which can help.
use Rattle.std.proofs.Common.{◌≡◌, ℕ, ◌<◌, false, true, ◌⊎◌, inl, inr, length, Some, pos}
use Rattle.nz_fractions.specs.Fraction.{whole, ◌=ℚ◌, ◌<ℚ◌}
use Rattle.nz_spec.specs.numbers.Infinitesimal.{Infinitesimal}
use Rattle.nz_spec.specs.simplex.BasisMoves.{Rows, AreRows}
use Rattle.nz_spec.specs.simplex.Bland.{is_nonbasic, row_value, Position, HasBasis, HasValue, Side, other_side, bound_on, IsOutside, Breaks, HasRoom, CanHelp, RowsTell}
use Rattle.nz_fractions.proofs.Laws.{=ℚ_refl, =ℚ_sym, ≤ℚ-from_eq, <ℚ-≤ℚ_trans, ≤ℚ-<ℚ_trans}
use Rattle.nz_fractions.proofs.Solver.{◌∙ℚ◌}
use Rattle.nz_spec.proofs.BlandValues.{value_is_computed}
use Rattle.nz_spec.proofs.BlandRefutes.{outside-equal}
use Rattle.nz_spec.proofs.BlandPositions.{positions_have_values}

module _ (s : Position) (rows : Rows) (b : HasBasis s) (are : AreRows s.forms (is_nonbasic s.point) rows) (i : ℕ) (h : i < length s.forms) (e : is_nonbasic s.point i ≡ false) where
  -- what is computed from its row is the value of a form
  computed-value : HasValue s i (row_value (length s.forms) (rows i) s.point).result
  computed-value = record {
    row = rows i;
    is_row = are i h e;
    at = value_is_computed (length s.forms) (rows i) s.point (are i h e).at_basic;
  }

  breaks-told : (side : Side) (bound : Infinitesimal) → bound_on side s i ≡ Some bound → IsOutside side bound (row_value (length s.forms) (rows i) s.point).result → Breaks s side bound i
  breaks-told side bound f o = record {
    listed = h;
    basic = e;
    bounded = f;
    value = (row_value (length s.forms) (rows i) s.point).result;
    has = computed-value;
    outside = o;
  }

  breaks-tell : (side : Side) (bound : Infinitesimal) → Breaks s side bound i → IsOutside side bound (row_value (length s.forms) (rows i) s.point).result
  breaks-tell side bound breaks =
      outside-equal side bound breaks.value (row_value (length s.forms) (rows i) s.point).result
      (positions_have_values.one s i breaks.value (row_value (length s.forms) (rows i) s.point).result b h breaks.has computed-value)
      breaks.outside

  module _ (side : Side) (j : ℕ) where
    helps-told : is_nonbasic s.point j ≡ true → ((whole (pos 0) <ℚ rows i j) × HasRoom s side j) ⊎ ((rows i j <ℚ whole (pos 0)) × HasRoom s (other_side side) j) → CanHelp s i side j
    helps-told f way = record {
      nonbasic = f;
      coefficient = rows i j;
      at = record { row = rows i; is_row = are i h e; at = =ℚ_refl (rows i j) };
      way = way;
    }

    helps-tell : CanHelp s i side j → ((whole (pos 0) <ℚ rows i j) × HasRoom s side j) ⊎ ((rows i j <ℚ whole (pos 0)) × HasRoom s (other_side side) j)
    helps-tell help = by_way help.way
      where
        same : help.coefficient =ℚ rows i j
        same = =ℚ_sym help.at.at ∙ℚ b.one i help.at.row (rows i) h help.at.is_row (are i h e) j

        by_way : ((whole (pos 0) <ℚ help.coefficient) × HasRoom s side j) ⊎ ((help.coefficient <ℚ whole (pos 0)) × HasRoom s (other_side side) j)
            → ((whole (pos 0) <ℚ rows i j) × HasRoom s side j) ⊎ ((rows i j <ℚ whole (pos 0)) × HasRoom s (other_side side) j)
        by_way (inl w) = inl (<ℚ-≤ℚ_trans w.0 (≤ℚ-from_eq same), w.1)
        by_way (inr w) = inr (≤ℚ-<ℚ_trans (≤ℚ-from_eq (=ℚ_sym same)) w.0, w.1)

pub rows_tell : RowsTell
rows_tell = record {
  breaks = λ s rows side bound i b are h e f. (breaks-told s rows b are i h e side bound f, breaks-tell s rows b are i h e side bound);
  helps = λ s rows side i j b are h e f. (helps-told s rows b are i h e side j f, helps-tell s rows b are i h e side j);
}
