-- How long a run of check steps can be: postures are numbers below a power of 4, and no two of them are the same.
use Rattle.std.proofs.Common.{◌≡◌, ℕ, zero, suc, ◌<◌, ◌≤◌, ◌+◌, ◌*◌, ◌^◌, Bool, true, false, ◌⊎◌, inl, inr, length, Option, Some, None, refl, sym, ap, ◌∙◌, subst, true≢false, arith, pow-suc}
use Rattle.std.specs.Prelude.{◌==◌, ◌≢◌, if◌then◌else◌, is_some, option_map}
use Rattle.nz_lists.proofs.Numbers.{equal-number, same-number}
use Rattle.nz_spec.specs.numbers.Infinitesimal.{Infinitesimal}
use Rattle.nz_spec.specs.simplex.Bland.{Position, HasBasis, Stand, at_lower, at_upper, at_neither, is_at, posture_of}
use Rattle.nz_spec.specs.laws.BlandRuns.{IsRun, RunsAreShort}
use Rattle.nz_spec.proofs.BlandSteps.{check_steps_keep_basis}
use Rattle.nz_spec.proofs.BlandPositions.{place}
use Rattle.nz_spec.proofs.BlandReturns.{no_posture_returns}

-- ---- As many different numbers as there are below a bound

-- where the greatest number that is allowed stands, the last one is put
abbrev lowered : (ℕ → ℕ) → ℕ → ℕ → ℕ → ℕ
lowered f m top t = if f t == top then f m else f t

lowered-is : (f : ℕ → ℕ) (m top t : ℕ) → ((f t ≡ top) × (lowered f m top t ≡ f m)) ⊎ ((f t ≢ top) × (lowered f m top t ≡ f t))
lowered-is f m top t = by_test (f t == top) refl
  where
    by_test : (b : Bool) → (f t == top) ≡ b → ((f t ≡ top) × ((if b then f m else f t) ≡ f m)) ⊎ ((f t ≢ top) × ((if b then f m else f t) ≡ f t))
    by_test true e = inl (same-number (f t) top e, refl)
    by_test false e = inr (λ (q : f t ≡ top). true≢false (sym (equal-number (f t) top q) ∙ e), refl)

different : (b n : ℕ) (f : ℕ → ℕ) → ((t : ℕ) → t < n → f t < b) → ((i j : ℕ) → i < j → j < n → f i ≢ f j) → n ≤ b
different b zero f below apart = omega arith
different zero (suc m) f below apart = absurd (omega (arith, below 0 (omega arith)))
different (suc top) (suc m) f below apart =
    omega (arith, different top m (lowered f m top) (λ t h. less t h (lowered-is f m top t)) (λ i j h k. other i j h k (lowered-is f m top i) (lowered-is f m top j)))
  where
    less : (t : ℕ) → t < m → ((f t ≡ top) × (lowered f m top t ≡ f m)) ⊎ ((f t ≢ top) × (lowered f m top t ≡ f t)) → lowered f m top t < top
    less t h (inl e) = under (f m) top (lowered f m top t) (below m (omega arith)) (λ (q : f m ≡ top). apart t m h (omega arith) (e.0 ∙ sym q)) e.1
      where
        under : (i k l : ℕ) → i < suc k → (i ≡ k → ⊥) → l ≡ i → l < k
        under i k l p q r = grind (arith, p, q, r)
    less t h (inr e) = under (f t) top (lowered f m top t) (below t (omega (arith, h))) e.0 e.1
      where
        under : (i k l : ℕ) → i < suc k → (i ≡ k → ⊥) → l ≡ i → l < k
        under i k l p q r = grind (arith, p, q, r)

    other : (i j : ℕ) → i < j → j < m → ((f i ≡ top) × (lowered f m top i ≡ f m)) ⊎ ((f i ≢ top) × (lowered f m top i ≡ f i)) → ((f j ≡ top) × (lowered f m top j ≡ f m)) ⊎ ((f j ≢ top) × (lowered f m top j ≡ f j)) → lowered f m top i ≢ lowered f m top j
    other i j h k (inl d) (inl e) q = apart i j h (omega (arith, k)) (d.0 ∙ sym e.0)
    other i j h k (inl d) (inr e) q = apart j m k (omega arith) (sym e.1 ∙ sym q ∙ d.1)
    other i j h k (inr d) (inl e) q = apart i m (omega (arith, h, k)) (omega arith) (sym d.1 ∙ q ∙ e.1)
    other i j h k (inr d) (inr e) q = apart i j h (omega (arith, k)) (sym d.1 ∙ q ∙ e.1)

-- ---- A posture as a number

abbrev digit : Option Stand → ℕ
digit None = 0
digit (Some at_lower) = 1
digit (Some at_upper) = 2
digit (Some at_neither) = 3

digit-small : (o : Option Stand) → digit o < 4
digit-small None = omega arith
digit-small (Some at_lower) = omega arith
digit-small (Some at_upper) = omega arith
digit-small (Some at_neither) = omega arith

stand_by : ℕ → Option Stand
stand_by k = if k == 0 then None else if k == 1 then Some at_lower else if k == 2 then Some at_upper else Some at_neither

stand-digit : (o : Option Stand) → stand_by (digit o) ≡ o
unfolding stand_by
stand-digit None = refl
stand-digit (Some at_lower) = refl
stand-digit (Some at_upper) = refl
stand-digit (Some at_neither) = refl

same-digit : (o p : Option Stand) → digit o ≡ digit p → o ≡ p
same-digit o p e = sym (stand-digit o) ∙ ap stand_by e ∙ stand-digit p

-- the first v stands
code : ℕ → (ℕ → Option Stand) → ℕ
code zero f = 0
code (suc v) f = 4 * code v f + digit (f v)

code-small : (v : ℕ) (f : ℕ → Option Stand) → code v f < 4 ^ v
unfolding code
code-small zero f = omega arith
code-small (suc v) f = subst (λ (p : ℕ). (4 * code v f + digit (f v)) < p) (sym (pow-suc 4 v)) (omega (arith, code-small v f, digit-small (f v)))

same-code : (v : ℕ) (f g : ℕ → Option Stand) → code v f ≡ code v g → (k : ℕ) → k < v → f k ≡ g k
unfolding code
same-code zero f g e k h = absurd (omega (arith, h))
same-code (suc v) f g e k h = by_place (last k v h) (λ l. same-code v f g (omega (arith, e, digit-small (f v), digit-small (g v))) k l)
  where
    last : (k v : ℕ) → k < suc v → (k ≡ v) ⊎ (k < v)
    last k v h = grind (arith, h)

    by_place : (k ≡ v) ⊎ (k < v) → (k < v → f k ≡ g k) → f k ≡ g k
    by_place (inl i) rest =
        subst (λ (j : ℕ). f j ≡ g j) (sym i) (same-digit (f v) (g v) (omega (arith, e, digit-small (f v), digit-small (g v))))
    by_place (inr i) rest = rest i

-- ---- Runs

module _ (n : ℕ) (p : ℕ → Position) (b : HasBasis (p 0)) (run : IsRun n p) where
  run-basis : (t : ℕ) → t ≤ n → HasBasis (p t)
  run-basis zero h = b
  run-basis (suc t) h =
      check_steps_keep_basis.basis (p t) (p (suc t)) (run.leaving t) (run.entering t) (run-basis t (omega (arith, h))) (run.step t (omega (arith, h)))

  run-forms : (t : ℕ) → t ≤ n → length (p t).forms ≡ length (p 0).forms
  run-forms zero h = refl
  run-forms (suc t) h = ap (λ (u : Position). length u.forms) (run.step t (omega (arith, h))).after ∙ run-forms t (omega (arith, h))

  -- a number past the list has no stand
  no-stand : (t : ℕ) → t ≤ n → (k : ℕ) → length (p 0).forms ≤ k → posture_of (p t) k ≡ None
  no-stand t h k l = by_test ((p t).point k) refl
    where
      by_test : (o : Option Infinitesimal) → (p t).point k ≡ o → option_map (λ x. if is_at ((p t).lower k) x then at_lower else if is_at ((p t).upper k) x then at_upper else at_neither) o ≡ None
      by_test None e = refl
      by_test (Some v) e = absurd (omega (arith, l, run-forms t h, (run-basis t h).listed k (ap is_some e)))

pub runs_are_short : RunsAreShort
runs_are_short n p ready run =
    omega (
      arith,
      different (4 ^ length (p 0).forms) (suc n) (λ t. code (length (p 0).forms) (posture_of (p t)))
          (λ t h. code-small (length (p 0).forms) (posture_of (p t)))
          (λ i j h k e. no_posture_returns n p ready run i j h (omega (arith, k)) (λ l. by_place i j h k e l (place l (length (p 0).forms)))),
    )
  where
    by_place : (i j : ℕ) → i < j → j < suc n → code (length (p 0).forms) (posture_of (p i)) ≡ code (length (p 0).forms) (posture_of (p j)) → (l : ℕ) → (l < length (p 0).forms) ⊎ (length (p 0).forms ≤ l) → posture_of (p i) l ≡ posture_of (p j) l
    by_place i j h k e l (inl m) = same-code (length (p 0).forms) (posture_of (p i)) (posture_of (p j)) e l m
    by_place i j h k e l (inr m) =
        no-stand n p ready.basis run i (omega (arith, h, k)) l m ∙ sym (no-stand n p ready.basis run j (omega (arith, k)) l m)
