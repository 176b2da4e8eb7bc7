-- Fronts of lists: of one that goes on, and of one that is used a piece after another.
use Rattle.std.proofs.Common.{◌≡◌, ℕ, ◌+◌, ◌<◌, ◌≤◌, List, [], ◌∷◌, ◌++◌, length, take, drop, get_or, refl, sym, ap, ◌∙◌, append_assoc, arith, length-take}
use Rattle.std.proofs.Math.Seq.{take-add}
use Rattle.std.proofs.lemmas.List.{take-take}

-- what is a front stays one where more comes
pub front_of_more : {X : Type 0} (front old new : List X) → take (length front) old ≡ front → take (length old) new ≡ old → take (length front) new ≡ front
front_of_more front old new e f =
    let long : length front ≤ length old = omega (arith, ap length e, length-take (length front) old) in
    sym (take-take (length front) (length old) new long) ∙ ap (take (length front)) f ∙ e

-- the front of one item
pub take_one : {X : Type 0} (xs : List X) (d : X) → 0 < length xs → take 1 xs ≡ get_or xs 0 d ∷ []
take_one [] d h = absurd (omega arith)
take_one (x ∷ xs) d h = refl

-- what was taken so far, and the next ones taken
pub taken_more : {X : Type 0} (before xs : List X) (m n : ℕ) → (before ++ take m xs) ++ take n (drop m xs) ≡ before ++ take (m + n) xs
taken_more before xs m n = append_assoc before (take m xs) (take n (drop m xs)) ∙ ap (λ k. before ++ k) (sym (take-add m n xs))
