-- What is left of a list where a closure tests each element.
use Rattle.std.proofs.Common.{◌≡◌, Bool, true, false, if◌then◌else◌, List, [], ◌∷◌, length, refl, ap, subst, ◌∙◌, arith, filter}
use Rattle.std.specs.List.{items_where_true}
use Rattle.std.specs.List.Retain.{IsFiltered, ReturnsInTurn}

-- where the closure stays the same
module _ {X F : Type 0} (R : F → X → Bool → F → Type 0) (test : X → Bool) (f : F) (h : (x : X) (b : Bool) (g : F) → R f x b g → (b ≡ test x) × (g ≡ f)) where
  kept_by : (bs : List Bool) (xs : List X) (q : F) → length bs ≡ length xs → ReturnsInTurn R f bs xs q → items_where_true bs xs ≡ filter test xs
  kept_by [] [] q long t = refl
  kept_by [] (x ∷ xs) q long t = absurd (omega arith)
  kept_by (b ∷ bs) [] q long t = absurd t
  kept_by (true ∷ bs) (x ∷ xs) q long t =
      let one = h x true t.0 t.1 in
      ap (λ (l : List X). x ∷ l) (kept_by bs xs q (omega arith) (subst (λ (y : F). ReturnsInTurn R y bs xs q) one.1 t.2))
      ∙ ap (λ (b : Bool). if b then x ∷ filter test xs else filter test xs) one.0
  kept_by (false ∷ bs) (x ∷ xs) q long t =
      let one = h x false t.0 t.1 in
      kept_by bs xs q (omega arith) (subst (λ (y : F). ReturnsInTurn R y bs xs q) one.1 t.2)
      ∙ ap (λ (b : Bool). if b then x ∷ filter test xs else filter test xs) one.0

  pub retained : (xs ys : List X) → IsFiltered R f xs ys → ys ≡ filter test xs
  retained xs ys k = k.4 ∙ kept_by k.0 xs k.1 k.2 k.3
