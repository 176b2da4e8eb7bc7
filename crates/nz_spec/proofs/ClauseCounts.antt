-- How many clauses there are over so many atoms: a clause that names no atom twice is told by the sign that each atom has in it, if any.
use Rattle.std.proofs.Common.{◌≡◌, ◌⊎◌, ℕ, zero, suc, ◌<◌, ◌≤◌, ◌^◌, Bool, true, false, List, [], ◌∷◌, ◌++◌, length, map, slice_get, Option, Some, None, inl, inr, refl, sym, ap, subst, ◌∙◌, true≢false, arith, length-append}
use Rattle.std.specs.Prelude.{◌==◌, Contains, option_map, unwrap_or, is_some, if◌then◌else◌}
use Rattle.std.proofs.Math.Nat.{pow-suc}
use Rattle.std.proofs.lemmas.List.{length-map}
use Rattle.std.proofs.lemmas.List.Elements.{Contains-append_left, Contains-append_right}
use Rattle.std.proofs.lemmas.Option.{slice_get-get_or, slice_get-map}
use Rattle.nz_lists.proofs.Members.{has_cases, has_first, has_found, has_more, has_none, map_from, map_has}
use Rattle.nz_lists.proofs.Numbers.{equal-number, same-number, same_or_below}
use Rattle.nz_spec.specs.clauses.Literal.{AreSameSet, StandOnce}

-- ---- Lists within lists

module _ {X : Type 0} where
  -- a list without an element that it has
  record Without (ys : List X) (x : X) : Type 0 where
    rest : List X
    fewer : length ys ≡ suc (length rest)
    others : (y : X) → Contains ys y → (x ≡ y) ⊎ Contains rest y

  without : (ys : List X) (x : X) → Contains ys x → Without ys x
  without [] x has = absurd (has_none x has)
  without (z ∷ ys) x has =
      elim (has_cases z x ys has) [
        | inl same ↦ record { rest = ys; fewer = refl; others = λ y there. subst (λ (w : X). (w ≡ y) ⊎ Contains ys y) same (has_cases z y ys there) }
        | inr later ↦
            let behind = without ys x later in
            record {
              rest = z ∷ behind.rest;
              fewer = ap suc behind.fewer;
              others = λ y there. elim (has_cases z y ys there) [
                | inl same ↦ inr (subst (Contains (z ∷ behind.rest)) same (has_first z behind.rest))
                | inr more ↦ elim (behind.others y more) [ inl is ↦ inl is | inr still ↦ inr (has_more z y behind.rest still) ]
              ];
            }
      ]

  -- what stands first stands no more behind
  pub first_apart : (x : X) (xs : List X) → StandOnce (x ∷ xs) → Contains xs x → ⊥
  first_apart x xs once (k, within, at) =
      let there : slice_get xs k ≡ Some x = slice_get-get_or xs k x within ∙ ap Some at in
      let same = once 0 (suc k) x refl there in
      omega (arith, same)

  pub once_behind : (x : X) (xs : List X) → StandOnce (x ∷ xs) → StandOnce xs
  once_behind x xs once i j y at_i at_j = let same = once (suc i) (suc j) y at_i at_j in omega (arith, same)

  -- A list that has each element once is at most as long as one that has them all.
  pub once_within : (xs ys : List X) → StandOnce xs → ((x : X) → Contains xs x → Contains ys x) → length xs ≤ length ys
  once_within [] ys once within = omega arith
  once_within (x ∷ xs) ys once within =
      let w = without ys x (within x (has_first x xs)) in
      let behind = once_within xs w.rest (once_behind x xs once)
      (λ y has. elim (w.others y (within y (has_more x y xs has))) [
        | inl same ↦ absurd (first_apart x xs once (subst (Contains xs) (sym same) has))
        | inr there ↦ there
      ]) in
      omega (arith, w.fewer, behind)

-- what stands at a place of a map
pub mapped_at : {X Y : Type 0} (f : X → Y) (xs : List X) (i : ℕ) (y : Y) → slice_get (map f xs) i ≡ Some y → (x : X) × (slice_get xs i ≡ Some x) × (f x ≡ y)
mapped_at {X} {Y} f xs i y at = by_found (slice_get xs i) refl (sym (slice_get-map f xs i) ∙ at)
  where
    by_found : (o : Option X) → slice_get xs i ≡ o → option_map f o ≡ Some y → (x : X) × (slice_get xs i ≡ Some x) × (f x ≡ y)
    by_found None e h = absurd (true≢false (sym (ap is_some h)))
    by_found (Some x) e h = (x, e, ap (λ (o : Option Y). unwrap_or o y) h)

-- ---- Signs of atoms

-- the sign that an atom has in a clause
abbrev sign_in : List (ℕ × Bool) → ℕ → Option Bool
sign_in [] k = None
sign_in (p ∷ ps) k = if p.0 == k then Some p.1 else sign_in ps k

-- those of the atoms below n, the last one first
abbrev signs_of : ℕ → List (ℕ × Bool) → List (Option Bool)
signs_of zero c = []
signs_of (suc n) c = sign_in c n ∷ signs_of n c

-- all lists of so many signs: the last atom is absent, positive or negative
abbrev behind_sign : Option Bool → List (List (Option Bool)) → List (List (Option Bool))
behind_sign o sss = map (λ (ss : List (Option Bool)). o ∷ ss) sss

abbrev all_signs : ℕ → List (List (Option Bool))
all_signs zero = [] ∷ []
all_signs (suc n) = behind_sign None (all_signs n) ++ (behind_sign (Some true) (all_signs n) ++ behind_sign (Some false) (all_signs n))

signs_counted : (n : ℕ) → length (all_signs n) ≡ 3 ^ n
signs_counted zero = refl
signs_counted (suc n) =
    let all = all_signs n in
    let last : Option Bool → List (Option Bool) → List (Option Bool) = λ o ss. o ∷ ss in
    omega (
      arith,
      pow-suc 3 n,
      signs_counted n,
      length-append (behind_sign None all) (behind_sign (Some true) all ++ behind_sign (Some false) all),
      length-append (behind_sign (Some true) all) (behind_sign (Some false) all),
      length-map all (last None),
      length-map all (last (Some true)),
      length-map all (last (Some false)),
    )

-- lists of signs of n atoms, with the sign of one more
more_listed : (n : ℕ) (o : Option Bool) (ss : List (Option Bool)) → Contains (all_signs n) ss → Contains (all_signs (suc n)) (o ∷ ss)
more_listed n o ss has =
    let all = all_signs n in
    let own : Contains (behind_sign o all) (o ∷ ss) = map_has (λ (rs : List (Option Bool)). o ∷ rs) all ss has in
    by_sign o own
  where
    by_sign : (s : Option Bool) → Contains (behind_sign s (all_signs n)) (s ∷ ss) → Contains (all_signs (suc n)) (s ∷ ss)
    by_sign None own =
        Contains-append_left (behind_sign None (all_signs n)) (behind_sign (Some true) (all_signs n) ++ behind_sign (Some false) (all_signs n)) (None ∷ ss) own
    by_sign (Some true) own =
        Contains-append_right (behind_sign None (all_signs n)) (behind_sign (Some true) (all_signs n) ++ behind_sign (Some false) (all_signs n)) (Some true ∷ ss)
        (Contains-append_left (behind_sign (Some true) (all_signs n)) (behind_sign (Some false) (all_signs n)) (Some true ∷ ss) own)
    by_sign (Some false) own =
        Contains-append_right (behind_sign None (all_signs n)) (behind_sign (Some true) (all_signs n) ++ behind_sign (Some false) (all_signs n)) (Some false ∷ ss)
        (Contains-append_right (behind_sign (Some true) (all_signs n)) (behind_sign (Some false) (all_signs n)) (Some false ∷ ss) own)

signs_listed : (n : ℕ) (c : List (ℕ × Bool)) → Contains (all_signs n) (signs_of n c)
signs_listed zero c = has_first [] []
signs_listed (suc n) c = more_listed n (sign_in c n) (signs_of n c) (signs_listed n c)

abbrev first_sign : List (Option Bool) → Option Bool
first_sign [] = None
first_sign (o ∷ ss) = o

abbrev later_signs : List (Option Bool) → List (Option Bool)
later_signs [] = []
later_signs (o ∷ ss) = ss

same_sign : (n : ℕ) (c d : List (ℕ × Bool)) → signs_of n c ≡ signs_of n d → (k : ℕ) → k < n → sign_in c k ≡ sign_in d k
same_sign zero c d same k h = absurd (omega (arith, h))
same_sign (suc n) c d same k h =
    elim (same_or_below k n h) [
      | inl last ↦ subst (λ (i : ℕ). sign_in c i ≡ sign_in d i) (sym last) (ap first_sign same)
      | inr before ↦ same_sign n c d (ap later_signs same) k before
    ]

-- ---- Clauses

abbrev atoms_of : List (ℕ × Bool) → List ℕ
atoms_of c = map (λ (p : ℕ × Bool). p.0) c

-- each atom is below n, and none is named twice
pub record IsOver (n : ℕ) (c : List (ℕ × Bool)) : Type 0 where
  pub below : (p : ℕ × Bool) → Contains c p → p.0 < n
  pub once : StandOnce (atoms_of c)

sign_found : (c : List (ℕ × Bool)) (p : ℕ × Bool) → StandOnce (atoms_of c) → Contains c p → sign_in c p.0 ≡ Some p.1
sign_found [] p once has = absurd (has_none p has)
sign_found (r ∷ rs) p once has = by_test (r.0 == p.0) refl (has_cases r p rs has) (sign_found rs p (once_behind r.0 (atoms_of rs) once))
  where
    by_test : (b : Bool) → (r.0 == p.0) ≡ b → (r ≡ p) ⊎ Contains rs p → (Contains rs p → sign_in rs p.0 ≡ Some p.1) → (if b then Some r.1 else sign_in rs p.0) ≡ Some p.1
    by_test true e (inl same) behind = ap (λ (s : ℕ × Bool). Some s.1) same
    by_test true e (inr more) behind =
        absurd (first_apart r.0 (atoms_of rs) once (subst (Contains (atoms_of rs)) (sym (same-number r.0 p.0 e)) (map_has (λ (s : ℕ × Bool). s.0) rs p more)))
    by_test false e (inl same) behind = absurd (true≢false (sym (equal-number r.0 p.0 (ap (λ (s : ℕ × Bool). s.0) same)) ∙ e))
    by_test false e (inr more) behind = behind more

sign_from : (c : List (ℕ × Bool)) (p : ℕ × Bool) → sign_in c p.0 ≡ Some p.1 → Contains c p
sign_from [] p e = absurd (true≢false (sym (ap is_some e)))
sign_from (r ∷ rs) p e = by_test (r.0 == p.0) refl e (sign_from rs p)
  where
    by_test : (b : Bool) → (r.0 == p.0) ≡ b → (if b then Some r.1 else sign_in rs p.0) ≡ Some p.1 → (sign_in rs p.0 ≡ Some p.1 → Contains rs p) → Contains (r ∷ rs) p
    by_test true same h behind =
        let sign : r.1 ≡ p.1 = ap (λ (o : Option Bool). unwrap_or o r.1) h in
        let pair : r ≡ p = ap (λ (k : ℕ). let q : ℕ × Bool = (k, r.1) in q) (same-number r.0 p.0 same) ∙ ap (λ (b : Bool). let q : ℕ × Bool = (p.0, b) in q) sign in
        subst (Contains (r ∷ rs)) pair (has_first r rs)
    by_test false other h behind = has_more r p rs (behind h)

-- clauses with the same signs are one as sets
same_set : (n : ℕ) (c d : List (ℕ × Bool)) → IsOver n c → IsOver n d → signs_of n c ≡ signs_of n d → AreSameSet c d
same_set n c d h k same p = (
  λ has. sign_from d p (sym (same_sign n c d same p.0 (h.below p has)) ∙ sign_found c p h.once has),
  λ has. sign_from c p (same_sign n c d same p.0 (k.below p has) ∙ sign_found d p k.once has),
)

-- ---- How many

-- no two of them are one as sets
abbrev DifferAsSets : List (List (ℕ × Bool)) → Type 0
DifferAsSets cs = (i j : ℕ) (c d : List (ℕ × Bool)) → slice_get cs i ≡ Some c → slice_get cs j ≡ Some d → AreSameSet c d → i ≡ j

-- Clauses over n atoms that differ as sets are at most 3 ^ n.
pub clauses_few : (n : ℕ) (cs : List (List (ℕ × Bool))) → ((c : List (ℕ × Bool)) → Contains cs c → IsOver n c) → DifferAsSets cs → length cs ≤ 3 ^ n
clauses_few n cs over differ =
    let signs = map (signs_of n) cs in
    let few = once_within signs (all_signs n)
    (λ i j ss at_i at_j.
    let c = mapped_at (signs_of n) cs i ss at_i in
    let d = mapped_at (signs_of n) cs j ss at_j in
    differ i j c.0 d.0 c.1 d.1 (same_set n c.0 d.0 (over c.0 (has_found cs i c.0 c.1)) (over d.0 (has_found cs j d.0 d.1)) (c.2 ∙ sym d.2)))
    (λ ss has. let c = map_from (signs_of n) cs ss has in subst (Contains (all_signs n)) c.2 (signs_listed n c.0)) in
    omega (arith, few, signs_counted n, length-map cs (signs_of n))
