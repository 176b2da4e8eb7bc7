-- Marks of numbers: just those that were put are marked.
use Rattle.std.proofs.Common.{◌≡◌, ℕ, zero, suc, ◌<◌, ◌+◌, ◌++◌, Bool, true, false, true≢false, List, [], ◌∷◌, length, get_or, take, inl, inr, refl, sym, subst, ◌∙◌, arith}
use Rattle.std.specs.Prelude.{Contains, replicate, slice_set}
use Rattle.std.proofs.lemmas.Bool.{cases_eq}
use Rattle.std.proofs.lemmas.List.{get_or-set_other, get_or-set_same, take_more}
use Rattle.std.proofs.lemmas.List.Elements.{All-append, All-contains, All-contains_itself, All-from_recursion, All-weaker, Contains-append_left, Contains-append_right}
use Rattle.nz_reals.specs.Constants.{is_marked}
use Rattle.nz_engine.specs.Checking.{AreMarksOf}

none_marked : (n i : ℕ) → is_marked (replicate n false) i ≡ false
none_marked zero i = refl
none_marked (suc n) zero = refl
none_marked (suc n) (suc i) = none_marked n i

pub marks_none : (n : ℕ) (marks : List Bool) → marks ≡ replicate n false → AreMarksOf [] marks
marks_none n marks is =
    subst (AreMarksOf []) (sym is)
    (record { right = λ i marked. absurd (true≢false (sym marked ∙ none_marked n i)); all = λ i has. All-contains (λ (k : ℕ). is_marked (replicate n false) k ≡ true) [] i (All-from_recursion _ [] tt) has })

-- one number more is marked
pub marks_push : (front : List ℕ) (t : ℕ) (marks : List Bool) → t < length marks → AreMarksOf front marks → AreMarksOf (front ++ t ∷ []) (slice_set marks t true)
marks_push front t marks below h =
    let new = slice_set marks t true in
    let Is : ℕ → Type 0 = λ i. is_marked new i ≡ true in
    let here : Is t = get_or-set_same marks t true false below in
    let kept : (i : ℕ) → is_marked marks i ≡ true → Is i = λ i was.
    elim (cases_eq i t) [
      | inl same ↦ subst Is (sym same) here
      | inr differs ↦ get_or-set_other marks t i true false differs ∙ was
    ] in
    record {
      right = λ i marked.
          elim (cases_eq i t) [
            | inl same ↦ Contains-append_right front (t ∷ []) i (subst (Contains (t ∷ [])) (sym same) (0, omega arith, refl))
            | inr differs ↦ Contains-append_left front (t ∷ []) i (h.right i (sym (get_or-set_other marks t i true false differs) ∙ marked))
          ];
      all = λ i has.
          All-contains Is (front ++ t ∷ []) i
          (All-append Is front (t ∷ []) (All-weaker (Contains front) Is (λ k c. kept k (h.all k c)) front (All-contains_itself front)) (All-from_recursion Is (t ∷ []) (here, tt))) has;
    }

pub marks_more : (listed : List ℕ) (n : ℕ) (marks : List Bool) → n < length listed → get_or listed n 0 < length marks → AreMarksOf (take n listed) marks
    → AreMarksOf (take (n + 1) listed) (slice_set marks (get_or listed n 0) true)
marks_more listed n marks inside below h =
    subst (λ (xs : List ℕ). AreMarksOf xs (slice_set marks (get_or listed n 0) true)) (sym (take_more listed n 0 inside)) (marks_push (take n listed) (get_or listed n 0) marks below h)
