-- A list that is changed place by place: what holds of the places that were taken, and what of the others.
use Rattle.std.proofs.Common.{◌≡◌, ℕ, ◌+◌, ◌<◌, ◌≤◌, ◌⊎◌, inl, inr, List, length, get_or, sym, ◌∙◌, subst, arith}
use Rattle.std.specs.Prelude.{◌≢◌, set}
use Rattle.std.proofs.lemmas.List.{get_or-set_same, get_or-set_other}
use Rattle.nz_lists.proofs.Numbers.{same_or_below}

module _ {X : Type 0} (P : ℕ → X → X → Type 0) (old now : List X) (i : ℕ) (r d : X) (inside : i < length now) (rest : (k : ℕ) → i ≤ k → get_or now k d ≡ get_or old k d) where
  -- what holds of each place that was taken holds with one more
  pub taken_more : ((k : ℕ) → k < i → P k (get_or old k d) (get_or now k d)) → P i (get_or old i d) r
      → (k : ℕ) → k < i + 1 → P k (get_or old k d) (get_or (set now i r) k d)
  taken_more done last k h = by_place (same_or_below k i (omega (arith, h)))
    where
      by_place : (k ≡ i) ⊎ (k < i) → P k (get_or old k d) (get_or (set now i r) k d)
      by_place (inl same) =
          subst (λ (n : ℕ). P n (get_or old n d) (get_or (set now i r) n d)) (sym same)
          (subst (λ (x : X). P i (get_or old i d) x) (sym (get_or-set_same now i r d inside)) last)
      by_place (inr below) =
          let other : k ≢ i = omega (arith, below) in
          subst (λ (x : X). P k (get_or old k d) x) (sym (get_or-set_other now i k r d other)) (done k below)

  -- the others are as they were
  pub rest_more : (k : ℕ) → i + 1 ≤ k → get_or (set now i r) k d ≡ get_or old k d
  rest_more k h =
      let other : k ≢ i = omega (arith, h) in
      get_or-set_other now i k r d other ∙ rest k (omega (arith, h))
