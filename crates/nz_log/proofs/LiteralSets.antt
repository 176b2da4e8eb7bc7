-- Literals put into a set one by one, and taken out of it: it is the set of what is left of the list.
use Rattle.std.proofs.Common.{◌≡◌, Bool, true, false, not, ◌==◌, ◌&&◌, ◌||◌, List, [], ◌∷◌, ◌++◌, if◌then◌else◌, refl, sym, ap, subst, ◌∙◌, true≢false}
use Rattle.std.specs.Prelude.{fold}
use Rattle.std.specs.List.{list_any}
use Rattle.std.proofs.lemmas.Bool.{and_parts, eqb-true, eq-eqb}
use Rattle.std.proofs.lemmas.List.{append-nil}
use Rattle.std.proofs.lemmas.List.Elements.{filter-append}
use Rattle.std.proofs.lemmas.List.Folds.{list_any-append}
use Rattle.std.proofs.lemmas.List.Sums.{fold-append}
use Rattle.std.proofs.lemmas.Map.Views.{any-filter_same}
use Rattle.nz_spec.specs.clauses.Literal.{are_same_sign, with_one, once, without}
use Rattle.nz_log.specs.declared.lits.Lit.{Lit}
use Rattle.nz_log.specs.Lits.{are_same_lit, negated_lit, lit_resolvent}

-- ---- Which literals are one

same_sign : (p q : Bool) → are_same_sign p q ≡ true → p ≡ q
same_sign true true e = refl
same_sign true false e = absurd (true≢false (sym e))
same_sign false true e = absurd (true≢false (sym e))
same_sign false false e = refl

sign_same : (p : Bool) → are_same_sign p p ≡ true
sign_same true = refl
sign_same false = refl

pub same_lit : (l m : Lit) → are_same_lit l m ≡ true → l ≡ m
same_lit l m e =
    let parts = and_parts (l.atom == m.atom) (are_same_sign l.sign m.sign) e in
    let atom : l.atom ≡ m.atom = eqb-true l.atom m.atom parts.0 in
    let sign : l.sign ≡ m.sign = same_sign l.sign m.sign parts.1 in
    λ i. record { atom = atom i; sign = sign i }

pub lit_same : (l : Lit) → are_same_lit l l ≡ true
lit_same l = ap (λ (b : Bool). b && are_same_sign l.sign l.sign) (eq-eqb l.atom l.atom refl) ∙ sign_same l.sign

-- ---- Sets as lists

module _ {X : Type 0} (same : X → X → Bool) (tells : (x y : X) → same x y ≡ true → x ≡ y) (one : (x : X) → same x x ≡ true) where
  -- what is there stays
  any_with : (b : Bool) (p : X → Bool) (ys : List X) (x : X) → list_any p ys ≡ true → list_any p (if b then ys else ys ++ x ∷ []) ≡ true
  any_with true p ys x h = h
  any_with false p ys x h = list_any-append p ys (x ∷ []) ∙ ap (λ (c : Bool). c || list_any p (x ∷ [])) h

  any_put : (p : X → Bool) (xs ys : List X) → list_any p ys ≡ true → list_any p (fold (with_one same) ys xs) ≡ true
  any_put p [] ys h = h
  any_put p (x ∷ xs) ys h = any_put p xs (with_one same ys x) (any_with (list_any (same x) ys) p ys x h)

  or_right : (b : Bool) → (b || true) ≡ true
  or_right true = refl
  or_right false = refl

  -- and what is put is there
  with_there : (b : Bool) (x : X) (ys : List X) → list_any (same x) ys ≡ b → list_any (same x) (if b then ys else ys ++ x ∷ []) ≡ true
  with_there true x ys e = e
  with_there false x ys e =
      list_any-append (same x) ys (x ∷ []) ∙ ap (λ (c : Bool). list_any (same x) ys || (c || false)) (one x) ∙ or_right (list_any (same x) ys)

  put_first : (b : Bool) (x y : X) (xs ys : List X) → same x y ≡ b → (list_any (same x) xs ≡ true → list_any (same x) (fold (with_one same) (with_one same ys y) xs) ≡ true)
      → (b || list_any (same x) xs) ≡ true → list_any (same x) (fold (with_one same) (with_one same ys y) xs) ≡ true
  put_first true x y xs ys e more h =
      any_put (same x) xs (with_one same ys y)
      (subst (λ (z : X). list_any (same z) (with_one same ys y) ≡ true) (sym (tells x y e)) (with_there (list_any (same y) ys) y ys refl))
  put_first false x y xs ys e more h = more h

  put_there : (x : X) (xs ys : List X) → list_any (same x) xs ≡ true → list_any (same x) (fold (with_one same) ys xs) ≡ true
  put_there x [] ys h = absurd (true≢false (sym h))
  put_there x (y ∷ xs) ys h = put_first (same x y) x y xs ys refl (put_there x xs (with_one same ys y)) h

  -- one more behind those that are put
  put_with : (b : Bool) (x : X) (zs ys : List X) → list_any (same x) zs ≡ b
      → fold (with_one same) ys (if b then zs else zs ++ x ∷ []) ≡ with_one same (fold (with_one same) ys zs) x
  put_with true x zs ys e =
      ap (λ (c : Bool). if c then fold (with_one same) ys zs else fold (with_one same) ys zs ++ x ∷ []) (sym (put_there x zs ys e))
  put_with false x zs ys e = fold-append (with_one same) ys zs (x ∷ [])

  put_put : (xs zs ys : List X) → fold (with_one same) ys (fold (with_one same) zs xs) ≡ fold (with_one same) (fold (with_one same) ys zs) xs
  put_put [] zs ys = refl
  put_put (x ∷ xs) zs ys =
      put_put xs (with_one same zs x) ys ∙ ap (λ (us : List X). fold (with_one same) us xs) (put_with (list_any (same x) zs) x zs ys refl)

  -- the set of a set is itself
  once_once : (xs : List X) → once same (once same xs) ≡ once same xs
  once_once xs = put_put xs [] []

  -- ---- Without one

  -- another one is there also without it
  any_without : (l x : X) (ys : List X) → same l x ≡ false → list_any (same x) (without same l ys) ≡ list_any (same x) ys
  any_without l x ys other =
      any-filter_same (same x) (λ y. not (same l y)) true (λ y e. ap (λ (z : X). not (same l z)) (sym (tells x y e)) ∙ ap not other) ys

  without_new : (b c : Bool) (l x : X) (ys : List X) → same l x ≡ c → list_any (same x) ys ≡ b
      → without same l (if b then ys else ys ++ x ∷ []) ≡ (if not c then with_one same (without same l ys) x else without same l ys)
  without_new true true l x ys e h = refl
  without_new true false l x ys e h =
      ap (λ (d : Bool). if d then without same l ys else without same l ys ++ x ∷ []) (sym (any_without l x ys e ∙ h))
  without_new false true l x ys e h =
      filter-append (λ y. not (same l y)) ys (x ∷ []) ∙ ap (λ (d : Bool). without same l ys ++ (if not d then x ∷ [] else [])) e ∙ append-nil (without same l ys)
  without_new false false l x ys e h =
      filter-append (λ y. not (same l y)) ys (x ∷ []) ∙ ap (λ (d : Bool). without same l ys ++ (if not d then x ∷ [] else [])) e
      ∙ ap (λ (d : Bool). if d then without same l ys else without same l ys ++ x ∷ []) (sym (any_without l x ys e ∙ h))

  put_kept : (c : Bool) (x : X) (xs ys : List X)
      → fold (with_one same) (if not c then with_one same ys x else ys) xs ≡ fold (with_one same) ys (if not c then x ∷ xs else xs)
  put_kept true x xs ys = refl
  put_kept false x xs ys = refl

  without_put : (l : X) (xs ys : List X) → without same l (fold (with_one same) ys xs) ≡ fold (with_one same) (without same l ys) (without same l xs)
  without_put l [] ys = refl
  without_put l (x ∷ xs) ys =
      without_put l xs (with_one same ys x)
      ∙ ap (λ (us : List X). fold (with_one same) us (without same l xs)) (without_new (list_any (same x) ys) (same l x) l x ys refl refl)
      ∙ put_kept (same l x) x (without same l xs) (without same l ys)

-- ---- Resolvents

pub set_of_set : (c : List Lit) → once are_same_lit (once are_same_lit c) ≡ once are_same_lit c
set_of_set c = once_once are_same_lit same_lit lit_same c

-- the resolvent is made of the set of the first clause
pub resolvent_of_set : (l : Lit) (c d s : List Lit) → s ≡ once are_same_lit c
    → fold (with_one are_same_lit) (without are_same_lit l s) (without are_same_lit (negated_lit l) d) ≡ lit_resolvent l c d
resolvent_of_set l c d s e =
    ap (λ (us : List Lit). fold (with_one are_same_lit) (without are_same_lit l us) (without are_same_lit (negated_lit l) d)) e
    ∙ ap (λ (us : List Lit). fold (with_one are_same_lit) us (without are_same_lit (negated_lit l) d)) (without_put are_same_lit same_lit lit_same l c [])
    ∙ sym (fold-append (with_one are_same_lit) [] (without are_same_lit l c) (without are_same_lit (negated_lit l) d))
