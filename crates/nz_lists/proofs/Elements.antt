-- What holds of each element of a list, by recursion on the list.
use Rattle.std.proofs.Common.{Bool, true, false, List, [], ◌∷◌, ◌++◌, map}
use Rattle.std.specs.Prelude.{fold, if◌then◌else◌}
use Rattle.std.specs.List.{AllByRecursion, list_any}
use Rattle.std.proofs.lemmas.List.Elements.{All-append, All-from_recursion, recursion_from_All}

pub AllByRecursion-append : {X : Type 0} (P : X → Type 0) (xs ys : List X) → AllByRecursion P xs → AllByRecursion P ys → AllByRecursion P (xs ++ ys)
AllByRecursion-append P xs ys f g = recursion_from_All P (xs ++ ys) (All-append P xs ys (All-from_recursion P xs f) (All-from_recursion P ys g))

pub AllByRecursion-map : {X Y : Type 0} (P : Y → Type 0) (f : X → Y) (xs : List X) → AllByRecursion P (map f xs) → AllByRecursion (λ x. P (f x)) xs
AllByRecursion-map P f [] h = tt
AllByRecursion-map P f (x ∷ xs) h = (h.0, AllByRecursion-map P f xs h.1)

pub AllByRecursion-weaker : {X : Type 0} (P Q : X → Type 0) → ((x : X) → P x → Q x) → (xs : List X) → AllByRecursion P xs → AllByRecursion Q xs
AllByRecursion-weaker P Q f [] h = tt
AllByRecursion-weaker P Q f (x ∷ xs) h = (f x h.0, AllByRecursion-weaker P Q f xs h.1)

-- a list into which each of another is put that isn't there
module _ {X : Type 0} (P : X → Type 0) (same : X → X → Bool) where
  put_at : (b : Bool) (xs : List X) (x : X) → AllByRecursion P xs → P x → AllByRecursion P (if b then xs else xs ++ x ∷ [])
  put_at true xs x h p = h
  put_at false xs x h p = AllByRecursion-append P xs (x ∷ []) h (p, tt)

  pub AllByRecursion-put : (xs ys : List X) → AllByRecursion P ys → AllByRecursion P xs
      → AllByRecursion P (fold (λ zs z. if list_any (same z) zs then zs else zs ++ z ∷ []) ys xs)
  AllByRecursion-put [] ys h k = h
  AllByRecursion-put (x ∷ xs) ys h k =
      AllByRecursion-put xs (if list_any (same x) ys then ys else ys ++ x ∷ []) (put_at (list_any (same x) ys) ys x h k.0) k.1
