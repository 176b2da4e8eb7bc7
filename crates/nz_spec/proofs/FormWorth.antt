-- Forms are worth the same, whatever the units are worth, just where each unit has the same coefficient in both.
use Rattle.std.proofs.Common.{◌≡◌, ℕ, zero, suc, ◌≤◌, Bool, true, false, List, [], ◌∷◌, ◌++◌, length, map, pos, refl, sym, ap, ◌∙◌, subst, true≢false, arith}
use Rattle.std.specs.Prelude.{if◌then◌else◌}
use Rattle.nz_ints.proofs.Ring.{Atom, Literal, ◌⊕◌, ◌⊗◌, Minus}
use Rattle.nz_fractions.specs.Fraction.{Fraction, whole, ◌=ℚ◌, ◌+ℚ◌, neg_ℚ, ◌*ℚ◌}
use Rattle.nz_spec.specs.terms.Term.{Term}
use Rattle.nz_spec.specs.clauses.Literal.{are_same_term}
use Rattle.nz_spec.specs.terms.Form.{Part, negated_part}
use Rattle.nz_spec.specs.simplex.Basis.{Valuation, worth, unit_coefficient, WorthIsByUnits}
use Rattle.nz_fractions.proofs.Laws.{=ℚ_refl, =ℚ-from_same, =ℚ_sym}
use Rattle.nz_fractions.proofs.Arithmetic.{+ℚ-same, +ℚ-neg, neg_ℚ-same}
use Rattle.nz_fractions.proofs.Identities.{times_zero}
use Rattle.nz_fractions.proofs.Solver.{◌∙ℚ◌, solve, equal_from_difference, plus_left, plus_right, times_left, times_right}
use Rattle.nz_spec.proofs.Same.{same_term, one_term}
use Rattle.nz_spec.proofs.BasisJoins.{only, only-here, only-there}

-- ---- One unit

-- where a unit is worth 1 and each other one nothing, a form is worth its coefficient
worth-only : (u : Term) (ps : List Part) → worth (only u) ps =ℚ unit_coefficient u ps
worth-only u [] = =ℚ_refl (whole (pos 0))
worth-only u (p ∷ ps) = by_test (are_same_term p.unit u) refl (worth-only u ps)
  where
    by_test : (b : Bool) → are_same_term p.unit u ≡ b → worth (only u) ps =ℚ unit_coefficient u ps → (p.coefficient *ℚ only u p.unit +ℚ worth (only u) ps) =ℚ (if b then p.coefficient +ℚ unit_coefficient u ps else unit_coefficient u ps)
    by_test true e rest =
        +ℚ-same
        (times_right p.coefficient (=ℚ-from_same (ap (only u) (same_term p.unit u e)) ∙ℚ only-here u)
        ∙ℚ solve (p.coefficient ∷ []) (Atom 0 ⊗ Literal (pos 1)) (Atom 0) refl)
        rest
    by_test false e rest =
        +ℚ-same
        (times_right p.coefficient (only-there u p.unit (λ (q : p.unit ≡ u). true≢false (sym (subst (λ (t : Term). are_same_term t u ≡ true) (sym q) (one_term u)) ∙ e)))
        ∙ℚ times_zero p.coefficient)
        rest
        ∙ℚ solve (unit_coefficient u ps ∷ []) (Literal (pos 0) ⊕ Atom 0) (Atom 0) refl

-- ---- All but one unit

abbrev others : Term → List Part → List Part
others u [] = []
others u (p ∷ ps) = if are_same_term p.unit u then others u ps else p ∷ others u ps

others-short : (u : Term) (ps : List Part) → length (others u ps) ≤ length ps
others-short u [] = omega arith
others-short u (p ∷ ps) = by_test (are_same_term p.unit u) (others-short u ps)
  where
    by_test : (b : Bool) → length (others u ps) ≤ length ps → length (if b then others u ps else p ∷ others u ps) ≤ suc (length ps)
    by_test true h = omega (arith, h)
    by_test false h = omega (arith, h)

-- a form is a multiple of a unit, and the others
worth-split : (v : Valuation) (u : Term) (ps : List Part) → worth v ps =ℚ (unit_coefficient u ps *ℚ v u +ℚ worth v (others u ps))
worth-split v u [] = solve (v u ∷ []) (Literal (pos 0)) (Literal (pos 0) ⊗ Atom 0 ⊕ Literal (pos 0)) refl
worth-split v u (p ∷ ps) = by_test (are_same_term p.unit u) refl (worth-split v u ps)
  where
    by_test : (b : Bool) → are_same_term p.unit u ≡ b → worth v ps =ℚ (unit_coefficient u ps *ℚ v u +ℚ worth v (others u ps))
        → (p.coefficient *ℚ v p.unit +ℚ worth v ps) =ℚ ((if b then p.coefficient +ℚ unit_coefficient u ps else unit_coefficient u ps) *ℚ v u +ℚ worth v (if b then others u ps else p ∷ others u ps))
    by_test true e rest =
        +ℚ-same (times_right p.coefficient (=ℚ-from_same (ap v (same_term p.unit u e)))) rest
        ∙ℚ solve (p.coefficient ∷ v u ∷ unit_coefficient u ps ∷ worth v (others u ps) ∷ []) (Atom 0 ⊗ Atom 1 ⊕ (Atom 2 ⊗ Atom 1 ⊕ Atom 3)) ((Atom 0 ⊕ Atom 2) ⊗ Atom 1 ⊕ Atom 3) refl
    by_test false e rest =
        plus_right (p.coefficient *ℚ v p.unit) rest
        ∙ℚ solve ((p.coefficient *ℚ v p.unit) ∷ v u ∷ unit_coefficient u ps ∷ worth v (others u ps) ∷ []) (Atom 0 ⊕ (Atom 2 ⊗ Atom 1 ⊕ Atom 3)) (Atom 2 ⊗ Atom 1 ⊕ (Atom 0 ⊕ Atom 3)) refl

-- the unit itself has no coefficient in the others
own-gone : (u : Term) (ps : List Part) → unit_coefficient u (others u ps) ≡ whole (pos 0)
own-gone u [] = refl
own-gone u (p ∷ ps) = by_test (are_same_term p.unit u) refl (own-gone u ps)
  where
    by_test : (b : Bool) → are_same_term p.unit u ≡ b → unit_coefficient u (others u ps) ≡ whole (pos 0) → unit_coefficient u (if b then others u ps else p ∷ others u ps) ≡ whole (pos 0)
    by_test true e rest = rest
    by_test false e rest = skipped (are_same_term p.unit u) e ∙ rest
      where
        skipped : (c : Bool) → c ≡ false → (if c then p.coefficient +ℚ unit_coefficient u (others u ps) else unit_coefficient u (others u ps)) ≡ unit_coefficient u (others u ps)
        skipped true g = absurd (true≢false g)
        skipped false g = refl

-- and another has its own
other-stays : (u w : Term) → are_same_term u w ≡ false → (ps : List Part) → unit_coefficient w (others u ps) ≡ unit_coefficient w ps
other-stays u w n [] = refl
other-stays u w n (p ∷ ps) = by_test (are_same_term p.unit u) refl (other-stays u w n ps)
  where
    by_test : (b : Bool) → are_same_term p.unit u ≡ b → unit_coefficient w (others u ps) ≡ unit_coefficient w ps → unit_coefficient w (if b then others u ps else p ∷ others u ps) ≡ (if are_same_term p.unit w then p.coefficient +ℚ unit_coefficient w ps else unit_coefficient w ps)
    by_test true e rest = rest ∙ sym (skipped (are_same_term p.unit w) (subst (λ (t : Term). are_same_term t w ≡ false) (sym (same_term p.unit u e)) n))
      where
        skipped : (c : Bool) → c ≡ false → (if c then p.coefficient +ℚ unit_coefficient w ps else unit_coefficient w ps) ≡ unit_coefficient w ps
        skipped true g = absurd (true≢false g)
        skipped false g = refl
    by_test false e rest = ap (λ (q : Fraction). if are_same_term p.unit w then p.coefficient +ℚ q else q) rest

others-nothing : (u : Term) (ps : List Part) → ((w : Term) → unit_coefficient w ps =ℚ whole (pos 0)) → (w : Term) → unit_coefficient w (others u ps) =ℚ whole (pos 0)
others-nothing u ps h w = by_test (are_same_term u w) refl
  where
    by_test : (b : Bool) → are_same_term u w ≡ b → unit_coefficient w (others u ps) =ℚ whole (pos 0)
    by_test true e = =ℚ-from_same (ap (λ (t : Term). unit_coefficient t (others u ps)) (sym (same_term u w e)) ∙ own-gone u ps)
    by_test false e = =ℚ-from_same (other-stays u w e ps) ∙ℚ h w

-- ---- All units

-- without coefficients a form is worth nothing; n is at least its length
worth-nothing : (n : ℕ) (v : Valuation) (ps : List Part) → length ps ≤ n → ((u : Term) → unit_coefficient u ps =ℚ whole (pos 0)) → worth v ps =ℚ whole (pos 0)
worth-nothing n v [] l h = =ℚ_refl (whole (pos 0))
worth-nothing zero v (p ∷ ps) l h = absurd (omega (arith, l))
worth-nothing (suc n) v (p ∷ ps) l h =
    worth-split v p.unit (p ∷ ps)
    ∙ℚ +ℚ-same
    (times_left (v p.unit) (h p.unit))
    (worth-nothing n v (others p.unit (p ∷ ps)) (shorter (are_same_term p.unit p.unit) (one_term p.unit) (others-short p.unit ps)) (others-nothing p.unit (p ∷ ps) h))
    ∙ℚ solve (v p.unit ∷ []) (Literal (pos 0) ⊗ Atom 0 ⊕ Literal (pos 0)) (Literal (pos 0)) refl
  where
    shorter : (b : Bool) → b ≡ true → length (others p.unit ps) ≤ length ps → length (if b then others p.unit ps else p ∷ others p.unit ps) ≤ n
    shorter true e s = omega (arith, l, s)
    shorter false e s = absurd (true≢false (sym e))

-- ---- Differences

pub worth-difference : (v : Valuation) (ps qs : List Part) → worth v (ps ++ map negated_part qs) =ℚ (worth v ps +ℚ neg_ℚ (worth v qs))
worth-difference v [] [] = solve [] (Literal (pos 0)) (Literal (pos 0) ⊕ Minus (Literal (pos 0))) refl
worth-difference v [] (q ∷ qs) =
    plus_right (neg_ℚ q.coefficient *ℚ v q.unit) (worth-difference v [] qs)
    ∙ℚ solve (q.coefficient ∷ v q.unit ∷ worth v qs ∷ []) (Minus (Atom 0) ⊗ Atom 1 ⊕ (Literal (pos 0) ⊕ Minus (Atom 2))) (Literal (pos 0) ⊕ Minus (Atom 0 ⊗ Atom 1 ⊕ Atom 2)) refl
worth-difference v (p ∷ ps) qs =
    plus_right (p.coefficient *ℚ v p.unit) (worth-difference v ps qs)
    ∙ℚ solve ((p.coefficient *ℚ v p.unit) ∷ worth v ps ∷ worth v qs ∷ []) (Atom 0 ⊕ (Atom 1 ⊕ Minus (Atom 2))) ((Atom 0 ⊕ Atom 1) ⊕ Minus (Atom 2)) refl

-- a coefficient is what a form is worth where its unit alone counts
coefficient-difference : (u : Term) (ps qs : List Part) → unit_coefficient u (ps ++ map negated_part qs) =ℚ (unit_coefficient u ps +ℚ neg_ℚ (unit_coefficient u qs))
coefficient-difference u ps qs =
    =ℚ_sym (worth-only u (ps ++ map negated_part qs))
    ∙ℚ worth-difference (only u) ps qs
    ∙ℚ +ℚ-same (worth-only u ps) (neg_ℚ-same (worth-only u qs))

pub worth_is_by_units : WorthIsByUnits
worth_is_by_units ps qs = (
  λ h u. =ℚ_sym (worth-only u ps) ∙ℚ h (only u) ∙ℚ worth-only u qs,
  λ h v.
      equal_from_difference (worth v ps) (worth v qs)
      (=ℚ_sym (worth-difference v ps qs)
      ∙ℚ worth-nothing (length (ps ++ map negated_part qs)) v (ps ++ map negated_part qs) (omega arith)
      (λ u. coefficient-difference u ps qs ∙ℚ plus_left (neg_ℚ (unit_coefficient u qs)) (h u) ∙ℚ +ℚ-neg (unit_coefficient u qs))),
)
