-- Lists whose members are parsed one after another: there is a list where each member is one.
use Rattle.std.proofs.Common.{◌≡◌, ℕ, suc, ◌<◌, ◌+◌, List, [], ◌∷◌, ◌++◌, length, map, drop, get_or, Option, Some, None, refl, sym, ap, ◌∙◌, drop-cons, add-one}
use Rattle.std.proofs.lemmas.List.{map-append}

module _ {E : Type 0} {L : Type 0} (onto : Option E → Option L → Option L) where
  -- these members, and then what the others come to
  abbrev pub before : List E → Option L → Option L
  before [] others = others
  before (e ∷ es) others = onto (Some e) (before es others)

  one_more : (es : List E) (e : E) (others : Option L) → before (es ++ e ∷ []) others ≡ before es (onto (Some e) others)
  one_more [] e others = refl
  one_more (f ∷ es) e others = ap (onto (Some f)) (one_more es e others)

  pub none_before : ((e : E) → onto (Some e) None ≡ None) → (es : List E) → before es None ≡ None
  none_before ends [] = refl
  none_before ends (e ∷ es) = ap (onto (Some e)) (none_before ends es) ∙ ends e

  module _ {X : Type 0} {Y : Type 0} (view : Y → E) (read : X → Option E) (all : List X → Option L) (step : (x : X) (xs : List X) → all (x ∷ xs) ≡ onto (read x) (all xs)) where
    -- a member more was read
    pub parsed_next : (xs : List X) (i : ℕ) (z : X) (w : Option L) (ys : List Y) (y : Y) → i < length xs → Some (view y) ≡ read (get_or xs i z)
        → w ≡ before (map view ys) (all (drop i xs)) → w ≡ before (map view (ys ++ y ∷ [])) (all (drop (i + 1) xs))
    parsed_next xs i z w ys y below is so =
        so ∙ ap (λ l. before (map view ys) (all l)) (drop-cons xs i z below)
        ∙ ap (before (map view ys)) (step (get_or xs i z) (drop (suc i) xs) ∙ ap (λ o. onto o (all (drop (suc i) xs))) (sym is))
        ∙ sym (one_more (map view ys) (view y) (all (drop (suc i) xs)))
        ∙ ap (λ l. before l (all (drop (suc i) xs))) (sym (map-append view ys (y ∷ [])))
        ∙ ap (λ j. before (map view (ys ++ y ∷ [])) (all (drop j xs))) (sym (add-one i))

    -- a member is none
    pub parsed_none : ((o : Option L) → onto None o ≡ None) → ((e : E) → onto (Some e) None ≡ None) → (xs : List X) (i : ℕ) (z : X) (w : Option L) (es : List E)
        → i < length xs → None ≡ read (get_or xs i z) → w ≡ before es (all (drop i xs)) → None ≡ w
    parsed_none fails ends xs i z w es below is so =
        sym (so ∙ ap (λ l. before es (all l)) (drop-cons xs i z below)
        ∙ ap (before es) (step (get_or xs i z) (drop (suc i) xs) ∙ ap (λ o. onto o (all (drop (suc i) xs))) (sym is) ∙ fails (all (drop (suc i) xs)))
        ∙ none_before ends es)
