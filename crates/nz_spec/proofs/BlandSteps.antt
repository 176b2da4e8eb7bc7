-- Check steps: what is exchanged may be, and the values after it.
use Rattle.std.proofs.Common.{◌≡◌, ℕ, ◌<◌, Bool, true, false, ◌⊎◌, inl, inr, [], ◌∷◌, length, Some, None, pos, negsuc, refl, sym, ap, ◌∙◌, subst, true≢false}
use Rattle.std.specs.Prelude.{◌==◌, if◌then◌else◌, ◌≢◌, ◌↔◌, unwrap_or, is_some}
use Rattle.nz_ints.proofs.Ring.{Atom, Literal, ◌⊕◌, ◌⊗◌, Minus}
use Rattle.nz_lists.proofs.Numbers.{equal-number, other-number, same-number}
use Rattle.nz_fractions.specs.Fraction.{Fraction, whole, ◌=ℚ◌, ◌<ℚ◌, ◌+ℚ◌, ◌-ℚ◌, neg_ℚ, ◌*ℚ◌}
use Rattle.nz_spec.specs.numbers.Infinitesimal.{Infinitesimal, ◌+δ◌, ◌-δ◌, scaled}
use Rattle.nz_spec.specs.terms.Term.{is_zero}
use Rattle.nz_spec.specs.simplex.Basis.{Coefficients, weighted, IsRow, IsBasis, IsCoefficient, alone, IsSolution}
use Rattle.nz_spec.specs.simplex.BasisMoves.{AreRows, exchange, exchanged, MayExchange}
use Rattle.nz_spec.specs.simplex.Bland.{Point, is_nonbasic, zero_infinitesimal, value_in, Position, HasBasis, HasValue, Side, other_side, HasRoom, CanHelp, exchanged_point, IsCheckStep, CheckStepsKeepBasis}
use Rattle.nz_fractions.proofs.Laws.{=ℚ_refl, =ℚ-from_same, =ℚ_sym, ≤ℚ-from_eq, <ℚ_irrefl}
use Rattle.nz_fractions.proofs.Order.{same-fraction_eq}
use Rattle.nz_fractions.proofs.Arithmetic.{+ℚ-same}
use Rattle.nz_fractions.proofs.Identities.{zero_times}
use Rattle.nz_fractions.proofs.Solver.{◌∙ℚ◌, solve, times_left, times_right}
use Rattle.nz_spec.proofs.BasisSums.{sum-same, sum-plus, sum-single}
use Rattle.nz_spec.proofs.BasisRows.{weighted-same, weighted-alone, nonbasic_form_is_itself}
use Rattle.nz_spec.proofs.BasisExchange.{row-sum_stays, nonzero_at, exchange_keeps_basis, solutions_stay}

-- a coefficient above or below 0 isn't 0
pub signed-nonzero : (q : Fraction) → (whole (pos 0) <ℚ q) ⊎ (q <ℚ whole (pos 0)) → is_zero q ≡ false
signed-nonzero q h = by_test (is_zero q) refl
  where
    unequal : q =ℚ whole (pos 0) → (whole (pos 0) <ℚ q) ⊎ (q <ℚ whole (pos 0)) → ⊥
    unequal e (inl k) = <ℚ_irrefl k (≤ℚ-from_eq e)
    unequal e (inr k) = <ℚ_irrefl k (≤ℚ-from_eq (=ℚ_sym e))

    by_test : (b : Bool) → is_zero q ≡ b → b ≡ false
    by_test true e = absurd (unequal (same-fraction_eq q (whole (pos 0)) e) h)
    by_test false e = refl

helper-sign : (s : Position) (i : ℕ) (side : Side) (j : ℕ) (h : CanHelp s i side j) → (whole (pos 0) <ℚ h.coefficient) ⊎ (h.coefficient <ℚ whole (pos 0))
helper-sign s i side j h = by_way h.way
  where
    by_way : ((whole (pos 0) <ℚ h.coefficient) × HasRoom s side j) ⊎ ((h.coefficient <ℚ whole (pos 0)) × HasRoom s (other_side side) j) → (whole (pos 0) <ℚ h.coefficient) ⊎ (h.coefficient <ℚ whole (pos 0))
    by_way (inl w) = inl w.0
    by_way (inr w) = inr w.0

pub nonbasic-exchanged : (x : Point) (i j : ℕ) (b : Infinitesimal) (k : ℕ) → exchanged (is_nonbasic x) i j k ≡ is_nonbasic (exchanged_point x i j b) k
nonbasic-exchanged x i j b k = by_tests (k == i) (k == j)
  where
    by_tests : (d e : Bool) → (if d then true else if e then false else is_some (x k)) ≡ is_some (if d then Some b else if e then None else x k)
    by_tests true e = refl
    by_tests false true = refl
    by_tests false false = refl

-- ---- The form that comes to stand at its bound

module _ (s : Position) (i j : ℕ) (bound : Infinitesimal) where
  abbrev pub standing_at : Position
  standing_at = record s { point = exchanged_point s.point i j bound }

  stands-nonbasic : is_nonbasic standing_at.point i ≡ true
  stands-nonbasic = by_test (i == i) (equal-number i i refl)
    where
      by_test : (d : Bool) → d ≡ true → is_some (if d then Some bound else if i == j then None else s.point i) ≡ true
      by_test true e = refl
      by_test false e = absurd (true≢false (sym e))

  pub stands-value : value_in standing_at.point i ≡ bound
  stands-value = by_test (i == i) (equal-number i i refl)
    where
      by_test : (d : Bool) → d ≡ true → unwrap_or (if d then Some bound else if i == j then None else s.point i) zero_infinitesimal ≡ bound
      by_test true e = refl
      by_test false e = absurd (true≢false (sym e))

  pub stands-at : i < length s.forms → HasBasis standing_at → HasValue standing_at i bound
  stands-at listed b = record {
    row = alone i;
    is_row = nonbasic_form_is_itself.row s.forms (is_nonbasic standing_at.point) i b stands-nonbasic;
    at = record {
      standard =
          =ℚ_sym (weighted-alone (length s.forms) i (λ k. (value_in standing_at.point k).standard) listed
          ∙ℚ =ℚ-from_same (ap (λ (x : Infinitesimal). x.standard) stands-value));
      coefficient =
          =ℚ_sym (weighted-alone (length s.forms) i (λ k. (value_in standing_at.point k).coefficient) listed
          ∙ℚ =ℚ-from_same (ap (λ (x : Infinitesimal). x.coefficient) stands-value));
    };
  }

module _ (s t : Position) (i j : ℕ) (b : HasBasis s) (step : IsCheckStep s t i j) where
  abbrev next : Position
  next = standing_at s i j step.bound

  abbrev now_nonbasic : ℕ → Bool
  now_nonbasic = exchanged (is_nonbasic s.point) i j

  tests : now_nonbasic ≡ is_nonbasic next.point
  tests e k = nonbasic-exchanged s.point i j step.bound k e

  abbrev may : MayExchange s.forms (is_nonbasic s.point) i j
  may = record {
    listed = step.breaks.listed;
    leaves = step.breaks.basic;
    enters = step.helps.nonbasic;
    coefficient = step.helps.coefficient;
    at = step.helps.at;
    nonzero = signed-nonzero step.helps.coefficient (helper-sign s i (other_side step.side) j step.helps);
  }

  next-basis : HasBasis next
  next-basis =
      subst (λ (test : ℕ → Bool). IsBasis s.forms test) tests
      (exchange_keeps_basis.basis s.forms (is_nonbasic s.point) i j b may)

  -- ---- The other forms

  value-elsewhere : (k : ℕ) → k ≢ i → k ≢ j → value_in next.point k ≡ value_in s.point k
  value-elsewhere k p q = by_tests (k == i) (k == j) (other-number k i p) (other-number k j q)
    where
      by_tests : (d e : Bool) → d ≡ false → e ≡ false → unwrap_or (if d then Some step.bound else if e then None else s.point k) zero_infinitesimal ≡ unwrap_or (s.point k) zero_infinitesimal
      by_tests true e f g = absurd (true≢false f)
      by_tests false true f g = absurd (true≢false g)
      by_tests false false f g = refl

  -- the values of one part: x before, z after, w that of i before, u its bound
  part-moves : (x z : Coefficients) (w u : Fraction) → z i =ℚ u → ((k : ℕ) → k ≢ i → k ≢ j → z k =ℚ x k)
      → (a : Coefficients) → IsRow s.forms (is_nonbasic s.point) i a → w =ℚ weighted (length s.forms) a x
      → (r : ℕ) (c d : Coefficients) → r < length s.forms → IsRow s.forms (is_nonbasic s.point) r c → IsRow s.forms now_nonbasic r d
      → weighted (length s.forms) d z =ℚ (weighted (length s.forms) c x +ℚ (u +ℚ neg_ℚ w) *ℚ d i)
  part-moves x z w u top same a m e r c d p o q =
      sum-same (length s.forms) (λ k. d k *ℚ z k) (λ k. d k *ℚ y k +ℚ d k *ℚ (z k +ℚ neg_ℚ (y k)))
      (λ k l. solve (d k ∷ z k ∷ y k ∷ []) (Atom 0 ⊗ Atom 1) (Atom 0 ⊗ Atom 2 ⊕ Atom 0 ⊗ (Atom 1 ⊕ Minus (Atom 2))) refl)
      ∙ℚ sum-plus (length s.forms) (λ k. d k *ℚ y k) (λ k. d k *ℚ (z k +ℚ neg_ℚ (y k)))
      ∙ℚ +ℚ-same old
      (sum-single (length s.forms) i (λ k. d k *ℚ (z k +ℚ neg_ℚ (y k))) step.breaks.listed (λ k l f. by_number k f (k == j) refl)
      ∙ℚ times_right (d i) (+ℚ-same top (neg-same (y-here)))
      ∙ℚ solve (d i ∷ u ∷ w ∷ []) (Atom 0 ⊗ (Atom 1 ⊕ Minus (Atom 2))) ((Atom 1 ⊕ Minus (Atom 2)) ⊗ Atom 0) refl)
    where
      -- the values of the nonbasic forms before, and that of i
      y : Coefficients
      y k = if k == i then w else x k

      neg-same : {f g : Fraction} → f =ℚ g → neg_ℚ f =ℚ neg_ℚ g
      neg-same {f} {g} h = solve (f ∷ []) (Minus (Atom 0)) (Literal (negsuc 0) ⊗ Atom 0) refl ∙ℚ times_right (whole (negsuc 0)) h ∙ℚ solve (g ∷ []) (Literal (negsuc 0) ⊗ Atom 0) (Minus (Atom 0)) refl

      y-here : (if i == i then w else x i) =ℚ w
      y-here = by_test (i == i) (equal-number i i refl)
        where
          by_test : (f : Bool) → f ≡ true → (if f then w else x i) =ℚ w
          by_test true g = =ℚ_refl w
          by_test false g = absurd (true≢false (sym g))

      y-there : (k : ℕ) → k ≢ i → (if k == i then w else x k) =ℚ x k
      y-there k h = by_test (k == i) (other-number k i h)
        where
          by_test : (f : Bool) → f ≡ false → (if f then w else x k) =ℚ x k
          by_test true g = absurd (true≢false g)
          by_test false g = =ℚ_refl (x k)

      -- a row over the nonbasic forms before has nothing at i
      unmoved : (k : ℕ) (f : Coefficients) → IsRow s.forms (is_nonbasic s.point) k f → weighted (length s.forms) f y =ℚ weighted (length s.forms) f x
      unmoved k f g = sum-same (length s.forms) (λ l. f l *ℚ y l) (λ l. f l *ℚ x l) (λ l h. by_place l (l == i) refl)
        where
          by_place : (l : ℕ) (h : Bool) → (l == i) ≡ h → (f l *ℚ (if h then w else x l)) =ℚ (f l *ℚ x l)
          by_place l true h =
              let none : f l =ℚ whole (pos 0) = subst (λ (m : ℕ). f m =ℚ whole (pos 0)) (sym (same-number l i h)) (g.at_basic i step.breaks.basic) in
              times_left w none ∙ℚ zero_times w ∙ℚ =ℚ_sym (times_left (x l) none ∙ℚ zero_times (x l))
          by_place l false h = =ℚ_refl (f l *ℚ x l)

      old : weighted (length s.forms) d y =ℚ weighted (length s.forms) c x
      old =
          =ℚ_sym (row-sum_stays s.forms (is_nonbasic s.point) i j step.helps.at.row step.breaks.listed step.breaks.basic step.helps.nonbasic step.helps.at.is_row
          (nonzero_at s.forms (is_nonbasic s.point) i j may) b y
          (unmoved i step.helps.at.row step.helps.at.is_row
          ∙ℚ weighted-same (length s.forms) x step.helps.at.row a (b.one i step.helps.at.row a step.breaks.listed step.helps.at.is_row m)
          ∙ℚ =ℚ_sym e
          ∙ℚ =ℚ_sym y-here)
          r c d p o q)
          ∙ℚ unmoved r c o

      out : now_nonbasic j ≡ false
      out = by_tests (j == i) (j == j) (other-number j i apart) (equal-number j j refl)
        where
          apart : j ≢ i
          apart f = true≢false (sym step.helps.nonbasic ∙ ap (is_nonbasic s.point) f ∙ step.breaks.basic)

          by_tests : (f g : Bool) → f ≡ false → g ≡ true → (if f then true else if g then false else is_nonbasic s.point j) ≡ false
          by_tests true g h k = absurd (true≢false h)
          by_tests false true h k = refl
          by_tests false false h k = absurd (true≢false (sym k))

      by_number : (k : ℕ) → k ≢ i → (f : Bool) → (k == j) ≡ f → (d k *ℚ (z k +ℚ neg_ℚ (y k))) =ℚ whole (pos 0)
      by_number k g true f =
          times_left (z k +ℚ neg_ℚ (y k)) (subst (λ (m : ℕ). d m =ℚ whole (pos 0)) (sym (same-number k j f)) (q.at_basic j out))
          ∙ℚ zero_times (z k +ℚ neg_ℚ (y k))
      by_number k g false f =
          times_right (d k) (+ℚ-same (same k g (λ (l : k ≡ j). true≢false (sym (equal-number k j l) ∙ f))) (neg-same (y-there k g)))
          ∙ℚ solve (d k ∷ x k ∷ []) (Atom 0 ⊗ (Atom 1 ⊕ Minus (Atom 1))) (Literal (pos 0)) refl

  next-moves : (r : ℕ) (v w : Infinitesimal) (q : Fraction) → r < length s.forms → HasValue s r v → HasValue s i w → IsCoefficient s.forms (is_nonbasic next.point) r i q
      → HasValue next r (v +δ scaled (step.bound -δ w) q)
  unfolding ◌+δ◌ ◌-δ◌ scaled ◌-ℚ◌
  next-moves r v w q p hv hw c =
      let d : IsRow s.forms now_nonbasic r c.row = subst (λ (test : ℕ → Bool). IsRow s.forms test r c.row) (sym tests) c.is_row in
      record {
        row = c.row;
        is_row = c.is_row;
        at = record {
          standard =
              =ℚ_sym (part-moves (λ k. (value_in s.point k).standard) (λ k. (value_in next.point k).standard) w.standard step.bound.standard
              (=ℚ-from_same (ap (λ (x : Infinitesimal). x.standard) (stands-value s i j step.bound)))
              (λ k e f. =ℚ-from_same (ap (λ (x : Infinitesimal). x.standard) (value-elsewhere k e f)))
              hw.row hw.is_row hw.at.standard r hv.row c.row p hv.is_row d
              ∙ℚ +ℚ-same (=ℚ_sym hv.at.standard) (times_right (step.bound.standard +ℚ neg_ℚ w.standard) c.at));
          coefficient =
              =ℚ_sym (part-moves (λ k. (value_in s.point k).coefficient) (λ k. (value_in next.point k).coefficient) w.coefficient step.bound.coefficient
              (=ℚ-from_same (ap (λ (x : Infinitesimal). x.coefficient) (stands-value s i j step.bound)))
              (λ k e f. =ℚ-from_same (ap (λ (x : Infinitesimal). x.coefficient) (value-elsewhere k e f)))
              hw.row hw.is_row hw.at.coefficient r hv.row c.row p hv.is_row d
              ∙ℚ +ℚ-same (=ℚ_sym hv.at.coefficient) (times_right (step.bound.coefficient +ℚ neg_ℚ w.coefficient) c.at));
        };
      }

-- a step leaves the same solutions
pub step-solutions : (s t : Position) (i j : ℕ) → HasBasis s → IsCheckStep s t i j → (y : Coefficients) → IsSolution s.forms (is_nonbasic s.point) y ↔ IsSolution t.forms (is_nonbasic t.point) y
step-solutions s t i j b step y =
    subst (λ (u : Position). IsSolution s.forms (is_nonbasic s.point) y ↔ IsSolution u.forms (is_nonbasic u.point) y) (sym step.after)
    (subst (λ (test : ℕ → Bool). IsSolution s.forms (is_nonbasic s.point) y ↔ IsSolution s.forms test y) (tests s t i j b step)
    (solutions_stay.exchange s.forms (is_nonbasic s.point) i j b (may s t i j b step) y))

pub check_steps_keep_basis : CheckStepsKeepBasis
check_steps_keep_basis = record {
  basis = λ s t i j b step. subst (λ (u : Position). HasBasis u) (sym step.after) (next-basis s t i j b step);
  rows = λ s t i j rows b step are.
      subst (λ (u : Position). AreRows u.forms (is_nonbasic u.point) (exchange (length s.forms) (is_nonbasic s.point) rows i j).result) (sym step.after)
      (subst (λ (test : ℕ → Bool). AreRows s.forms test (exchange (length s.forms) (is_nonbasic s.point) rows i j).result) (tests s t i j b step)
      (exchange_keeps_basis.rows s.forms (is_nonbasic s.point) rows i j b (may s t i j b step) are));
  stands = λ s t i j b step. subst (λ (u : Position). HasValue u i step.bound) (sym step.after) (stands-at s i j step.bound step.breaks.listed (next-basis s t i j b step));
  moves = λ s t i j r v w q b step p hv hw c.
      subst (λ (u : Position). HasValue u r (v +δ scaled (step.bound -δ w) q)) (sym step.after)
      (next-moves s t i j b step r v w q p hv hw (subst (λ (u : Position). IsCoefficient u.forms (is_nonbasic u.point) r i q) step.after c));
}
