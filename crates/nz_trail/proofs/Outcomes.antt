-- What comes of a bound: exactly one of three.
use Rattle.std.proofs.Common.{◌≡◌, ℕ, List, refl, sym, ap₂, subst}
use Rattle.std.specs.Prelude.{◌↔◌}
use Rattle.std.specs.declared.cmp.Ordering.{Ordering}
use Rattle.std.specs.Cmp.{IsTotalOrder}
use Rattle.nz_trail.specs.declared.limits.AssertOutcome.{AssertOutcome}
use Rattle.nz_trail.specs.declared.limits.AssertOutcome.TheVariants.{Kept, Tighter, Clash}
use Rattle.nz_trail.specs.Bounds.{Asserted, IsImplied, IsExcluded, ClashesWith, IsConsistent}
use Rattle.nz_trail.proofs.AssertedBounds.{clash_excludes, clashes_with_one, implied_not_excluded}

module _ {S : Type 0} (order : S → S → Ordering) where
  -- what the clauses say of the answer
  pub record IsToldOf (list : List (Asserted S)) (b : Asserted S) (told : AssertOutcome) : Type 0 where
    pub kept : (told ≡ Kept) ↔ IsImplied order list b
    pub clash : (r s : ℕ) → (told ≡ Clash r s) ↔ ((r ≡ b.reason) × ClashesWith order list b s)
    pub tighter : (told ≡ Tighter) ↔ ((¬ IsImplied order list b) × (¬ IsExcluded order list b))

module _ {S : Type 0} {order : S → S → Ordering} (total : IsTotalOrder order) (list : List (Asserted S)) (b : Asserted S) where
  pub kept_told : IsConsistent order list → IsImplied order list b → IsToldOf order list b Kept
  kept_told agree implied = record {
    kept = (λ e. implied, λ i. refl);
    clash = λ r s. (λ e. cc, λ p. absurd (implied_not_excluded total list b agree implied (clash_excludes total list b s p.1)));
    tighter = (λ e. cc, λ p. absurd (p.0 implied));
  }

  pub clash_told : ¬ IsImplied order list b → (other : ℕ) → ClashesWith order list b other → IsToldOf order list b (Clash b.reason other)
  clash_told news other clash = record {
    kept = (λ e. cc, λ i. absurd (news i));
    clash = λ r s. (
      λ e.
          let first : b.reason ≡ r = cc in
          let second : other ≡ s = cc in
          (sym first, subst (λ (n : ℕ). ClashesWith order list b n) second clash),
      λ p. ap₂ Clash (sym p.0) (clashes_with_one total list b other s clash p.1),
    );
    tighter = (λ e. cc, λ p. absurd (p.1 (clash_excludes total list b other clash)));
  }

  pub tighter_told : ¬ IsImplied order list b → ¬ IsExcluded order list b → IsToldOf order list b Tighter
  tighter_told news free = record {
    kept = (λ e. cc, λ i. absurd (news i));
    clash = λ r s. (λ e. cc, λ p. absurd (free (clash_excludes total list b s p.1)));
    tighter = (λ e. (news, free), λ p. refl);
  }
