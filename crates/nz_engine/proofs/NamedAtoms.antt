-- Atoms that are named, one after another.
use Rattle.std.proofs.Common.{◌≡◌, inl, inr, ℕ, zero, suc, ◌<◌, ◌+◌, List, Some, [], ◌∷◌, ◌++◌, append_assoc, length, take, get_or, refl, sym, ap, subst, ◌∙◌, arith}
use Rattle.std.specs.Prelude.{Contains, slice_get}
use Rattle.std.proofs.lemmas.List.{take_more}
use Rattle.std.proofs.lemmas.List.Elements.{All-append, All-contains, All-from_recursion, All-weaker, Contains-append_cases, Contains-append_left, Contains-append_right}
use Rattle.nz_engine.specs.Preparing.{Names}
use Rattle.nz_engine.proofs.Onces.{once_append, once_from_stand, stand_from_once}

only_one : (x y : ℕ) → Contains (x ∷ []) y → x ≡ y
only_one x y c = All-contains (λ z. x ≡ z) (x ∷ []) y (All-from_recursion (λ z. x ≡ z) (x ∷ []) (refl, tt)) c

-- one that isn't
pub names_new : (old : List ℕ) (atom : ℕ) → (Contains old atom → ⊥) → Names old (atom ∷ []) (old ++ atom ∷ [])
names_new old atom fresh =
    record {
      joined = atom ∷ [];
      behind = refl;
      each = All-from_recursion (Contains (old ++ atom ∷ [])) (atom ∷ []) (Contains-append_right old (atom ∷ []) atom (0, omega arith, refl), tt);
      only = λ i there. Contains-append_cases old (atom ∷ []) i there;
      once = λ h.
          stand_from_once (old ++ atom ∷ [])
          (once_append old (atom ∷ []) (once_from_stand old h) (once_from_stand (atom ∷ []) (λ i j t a b. one_place i t a ∙ sym (one_place j t b)))
          (λ i c d. fresh (subst (Contains old) (sym (only_one atom i d)) c)));
    }
  where
    one_place : (i t : ℕ) → slice_get (atom ∷ []) i ≡ Some t → i ≡ 0
    one_place zero t e = refl
    one_place (suc i) t e = cc

-- some, and then others
pub names_both : (old mid new xs ys : List ℕ) → Names old xs mid → Names mid ys new → Names old (xs ++ ys) new
names_both old mid new xs ys a b =
    let kept : (i : ℕ) → Contains mid i → Contains new i = λ i has. subst (λ (is : List ℕ). Contains is i) (sym b.behind) (Contains-append_left mid b.joined i has) in
    record {
      joined = a.joined ++ b.joined;
      behind = b.behind ∙ ap (λ (is : List ℕ). is ++ b.joined) a.behind ∙ append_assoc old a.joined b.joined;
      each = All-append (Contains new) xs ys (All-weaker (Contains mid) (Contains new) kept xs a.each) b.each;
      only = λ i there.
          elim (b.only i there) [
            | inl was ↦ elim (a.only i was) [ inl first ↦ inl first | inr second ↦ inr (Contains-append_left xs ys i second) ]
            | inr is ↦ inr (Contains-append_right xs ys i is)
          ];
      once = λ h. b.once (a.once h);
    }

-- the next of a list
pub names_next : (old mid new xs : List ℕ) (k d : ℕ) → k < length xs → Names old (take k xs) mid → Names mid (get_or xs k d ∷ []) new → Names old (take (k + 1) xs) new
names_next old mid new xs k d below a b =
    subst (λ (is : List ℕ). Names old is new) (sym (take_more xs k d below)) (names_both old mid new (take k xs) (get_or xs k d ∷ []) a b)
