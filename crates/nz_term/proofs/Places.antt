-- Where terms stand in their order: behind their parts.
use Rattle.std.proofs.Common.{◌≡◌, inl, inr, ℕ, zero, suc, ◌<◌, List, [], ◌∷◌, ◌++◌, length, map, take, get_or, sym, ap, subst, ◌∙◌, arith, append_assoc}
use Rattle.std.specs.Prelude.{All, Contains, flat_map, Some, slice_get, option_map, ⊤}
use Rattle.std.specs.List.{take-map}
use Rattle.std.proofs.lemmas.List.Elements.{All-take, Contains-append_left, Contains-append_right, Contains-append_cases, Contains-push}
use Rattle.std.proofs.lemmas.Option.{slice_get-map, slice_get_within}
use Rattle.nz_spec.specs.terms.Term.{Term, apply, Terms, no_terms, terms}
use Rattle.nz_spec.specs.terms.Table.{Node, term_in, terms_at, IsTable, HasOneNumberEach, TermOfNode}
use Rattle.nz_spec.specs.terms.Order.{post_order, post_orders, AreFirst, ComeBehindArguments}
use Rattle.nz_term.proofs.Traversal.{IsWithin, parts, none, alone, joined, behind, ahead, second_first}

-- ---- Parts come before

-- the parts of each term are among what is past or comes before it
abbrev AreGrounded : List Term → List Term → Type 0
AreGrounded past [] = ⊤
AreGrounded past (t ∷ ts) = IsWithin (parts t) past × AreGrounded (t ∷ past) ts

-- what is past may be more
grounded_more : (past now ts : List Term) → IsWithin past now → AreGrounded past ts → AreGrounded now ts
grounded_more past now [] w g = tt
grounded_more past now (t ∷ ts) w g =
    (λ u k. w u (g.0 u k), grounded_more (t ∷ past) (t ∷ now) ts (joined (t ∷ []) past (t ∷ now) (ahead (t ∷ []) now) (λ u k. behind (t ∷ []) now u (w u k))) g.1)

mutual
  grounded : (t : Term) (past more : List Term) → AreGrounded (post_order t ++ past) more → AreGrounded past (post_order t ++ more)
  grounded (apply h ts) past more g =
      let t = apply h ts in
      let own = post_orders ts in
      subst (AreGrounded past) (sym (append_assoc own (t ∷ []) more))
      (all_grounded ts past (t ∷ more) (ahead own past, grounded_more ((own ++ t ∷ []) ++ past) (t ∷ (own ++ past)) more (second_first own (t ∷ []) past) g))

  all_grounded : (ts : Terms) (past more : List Term) → AreGrounded (post_orders ts ++ past) more → AreGrounded past (post_orders ts ++ more)
  all_grounded no_terms past more g = g
  all_grounded (terms t ts) past more g =
      let own = post_order t in
      let others = post_orders ts in
      subst (AreGrounded past) (sym (append_assoc own others more))
      (grounded t past (others ++ more)
      (all_grounded ts (own ++ past) more (grounded_more ((own ++ others) ++ past) (others ++ (own ++ past)) more (second_first own others past) g)))

roots_grounded : (roots past : List Term) → AreGrounded past (flat_map post_order roots)
roots_grounded [] past = tt
roots_grounded (r ∷ roots) past = grounded r past (flat_map post_order roots) (roots_grounded roots (post_order r ++ past))

-- a place in a list with one term more in front
one_on : (seen rest : List Term) (first : Term) → IsWithin (parts first) seen
    → ((k : ℕ) (t : Term) → slice_get rest k ≡ Some t → IsWithin (parts t) ((first ∷ seen) ++ take k rest))
    → (k : ℕ) (t : Term) → slice_get (first ∷ rest) k ≡ Some t → IsWithin (parts t) (seen ++ take k (first ∷ rest))
one_on seen rest first h more zero t at =
    let same : first ≡ t = cc in
    λ u k. ahead seen [] u (h u (subst (λ x. Contains (parts x) u) (sym same) k))
one_on seen rest first h more (suc k) t at =
    λ u m. joined (first ∷ seen) (take k rest) (seen ++ first ∷ take k rest)
    (joined (first ∷ []) seen (seen ++ first ∷ take k rest) (λ v n. behind seen (first ∷ take k rest) v (ahead (first ∷ []) (take k rest) v n)) (ahead seen (first ∷ take k rest)))
    (λ v n. behind seen (first ∷ take k rest) v (behind (first ∷ []) (take k rest) v n)) u (more k t at u m)

parts_before : (past seen all list : List Term) → IsWithin past seen → AreGrounded past all → AreFirst seen all list
    → (k : ℕ) (t : Term) → slice_get list k ≡ Some t → IsWithin (parts t) (seen ++ take k list)
parts_before past seen [] list w g f k t at =
    let nothing : slice_get [] k ≡ Some t = subst (λ (l : List Term). slice_get l k ≡ Some t) f at in
    cc
parts_before past seen (s ∷ ts) list w g f k t at =
    elim f [
      | inl l ↦
          parts_before (s ∷ past) seen ts list (joined (s ∷ []) past seen (λ u m. subst (Contains seen) (alone s u m) l.0) w) g.1 l.1 k t at
      | inr r ↦
          subst (λ l. IsWithin (parts t) (seen ++ take k l)) (sym r.2)
          (one_on seen r.1 s (λ u m. w u (g.0 u m))
          (parts_before (s ∷ past) (s ∷ seen) ts r.1
          (joined (s ∷ []) past (s ∷ seen) (ahead (s ∷ []) seen) (λ u m. behind (s ∷ []) seen u (w u m))) g.1 r.3)
          k t (subst (λ (l : List Term). slice_get l k ≡ Some t) r.2 at))
    ]

-- ---- Each term is listed

listed : (seen all list : List Term) → AreFirst seen all list → IsWithin all (seen ++ list)
listed seen [] list f = λ t k. absurd (none t k)
listed seen (s ∷ ts) list f =
    elim f [
      | inl l ↦ joined (s ∷ []) ts (seen ++ list) (λ t k. ahead seen list t (subst (Contains seen) (alone s t k) l.0)) (listed seen ts list l.1)
      | inr r ↦
          let rest = r.1 in
          subst (λ l. IsWithin (s ∷ ts) (seen ++ l)) (sym r.2)
          (joined (s ∷ []) ts (seen ++ s ∷ rest) (λ t k. behind seen (s ∷ rest) t (ahead (s ∷ []) rest t k))
          (λ t k. joined (s ∷ seen) rest (seen ++ s ∷ rest)
          (joined (s ∷ []) seen (seen ++ s ∷ rest) (λ u m. behind seen (s ∷ rest) u (ahead (s ∷ []) rest u m)) (ahead seen (s ∷ rest)))
          (λ u m. behind seen (s ∷ rest) u (behind (s ∷ []) rest u m)) t (listed (s ∷ seen) ts rest r.3 t k)))
    ]

own : (t : Term) → Contains (post_order t) t
own (apply h ts) = Contains-push (post_orders ts) (apply h ts)

-- ---- Numbers

module _ (f : ℕ → Term) where
  -- a root is in its own post-order
  roots_within : (roots : List ℕ) (j d : ℕ) → j < length roots → Contains (flat_map post_order (map f roots)) (f (get_or roots j d))
  roots_within [] j d below = absurd (omega arith)
  roots_within (r ∷ roots) zero d below = ahead (post_order (f r)) (flat_map post_order (map f roots)) (f r) (own (f r))
  roots_within (r ∷ roots) (suc j) d below = behind (post_order (f r)) (flat_map post_order (map f roots)) (f (get_or roots j d)) (roots_within roots j d (omega arith))

  kids_within : (kids : List ℕ) (j d : ℕ) → j < length kids → Contains (post_orders (terms_at f kids)) (f (get_or kids j d))
  kids_within [] j d below = absurd (omega arith)
  kids_within (i ∷ kids) zero d below = ahead (post_order (f i)) (post_orders (terms_at f kids)) (f i) (own (f i))
  kids_within (i ∷ kids) (suc j) d below = behind (post_order (f i)) (post_orders (terms_at f kids)) (f (get_or kids j d)) (kids_within kids j d (omega arith))

  -- the number of a term that is among the terms of these is one of these
  pub number_back : (n : ℕ) → ((i j : ℕ) → i < n → j < n → f i ≡ f j → i ≡ j) → (is : List ℕ) → All (λ i. i < n) is → (i : ℕ) → i < n
      → Contains (map f is) (f i) → Contains is i
  number_back n one [] below i within k = absurd (none (f i) k)
  number_back n one (j ∷ is) below i within k =
      elim (Contains-append_cases (f j ∷ []) (map f is) (f i) k) [
        | inl l ↦ Contains-append_left (j ∷ []) is i (0, omega arith, one j i (below 0 j (omega arith)) within (alone (f j) (f i) l))
        | inr r ↦ Contains-append_right (j ∷ []) is i (number_back n one is (λ m d l. below (suc m) d (omega arith)) i within r)
      ]

-- ---- The order of the terms of these roots

module _ (ns : List Node) (one : HasOneNumberEach ns) (roots ids : List ℕ) (listed_below : All (λ i. i < length ns) ids)
    (first : AreFirst [] (flat_map post_order (map (term_in ns) roots)) (map (term_in ns) ids)) where
  pub come_behind : IsTable ns → TermOfNode → ComeBehindArguments ns ids
  come_behind table law k i n at node j d below =
      let f = term_in ns in
      let kid = get_or n.kids j d in
      let placed : slice_get (map f ids) k ≡ Some (f i) = slice_get-map f ids k ∙ ap (option_map f) at in
      let term : f i ≡ apply n.head (terms_at f n.kids) = law ns table i n node in
      let before = parts_before [] [] (flat_map post_order (map f roots)) (map f ids) (λ t m. m) (roots_grounded (map f roots) []) first k (f i) placed in
      let there : Contains (parts (f i)) (f kid) = subst (λ t. Contains (parts t) (f kid)) (sym term) (kids_within f n.kids j d below) in
      let small : kid < i = table.before i n node j d below in
      let inside : i < length ns = slice_get_within ns i n node in
      number_back f (length ns) one (take k ids) (All-take (λ m. m < length ns) k ids listed_below) kid (omega arith)
      (subst (λ l. Contains l (f kid)) (take-map f k ids) (before (f kid) there))

  pub roots_listed : All (λ r. r < length ns) roots → All (Contains ids) roots
  roots_listed within j d below =
      let f = term_in ns in
      let root = get_or roots j d in
      number_back f (length ns) one ids listed_below root (within j d below)
      (listed [] (flat_map post_order (map f roots)) (map f ids) first (f root) (roots_within f roots j d below))
