-- Putting terms into their order, one step after another.
use Rattle.std.proofs.Common.{◌≡◌, inl, inr, ℕ, zero, suc, ◌+◌, ◌*◌, ◌<◌, ◌≤◌, List, [], ◌∷◌, ◌++◌, length, map, slice_index_or, refl, sym, ap, subst, ◌∙◌, arith, append_assoc, append-nil, length-append}
use Rattle.std.specs.Prelude.{Contains, flat_map, ⊤}
use Rattle.std.proofs.lemmas.List.Elements.{Contains-append_left, Contains-append_right, Contains-append_cases}
use Rattle.nz_spec.specs.terms.Term.{Head, Term, apply, Terms, no_terms, terms}
use Rattle.nz_spec.specs.terms.Table.{terms_at}
use Rattle.nz_spec.specs.terms.Order.{post_order, post_orders, AreFirst}
use Rattle.nz_term.specs.declared.order.Step.{Step}
use Rattle.nz_term.specs.declared.order.Step.TheVariants.{Enter, Leave}

-- ---- Terms of lists

-- each term of the one list is in the other
abbrev pub IsWithin : List Term → List Term → Type 0
IsWithin xs ys = (t : Term) → Contains xs t → Contains ys t

-- an empty list has nothing
pub none : {X : Type 0} (x : X) → Contains [] x → ⊥
none x k = omega (arith, k.1)

-- a list of one has that one
pub alone : {X : Type 0} (y x : X) → Contains (y ∷ []) x → y ≡ x
alone y x k = Contains_one y x k.0 k.1 k.2
  where
    Contains_one : {X : Type 0} (y x : X) (k : ℕ) → k < 1 → slice_index_or (y ∷ []) k x ≡ x → y ≡ x
    Contains_one y x zero l e = e
    Contains_one y x (suc k) l e = absurd (omega arith)

-- more terms in front of both
pub in_front : (xs ys zs : List Term) → IsWithin ys zs → IsWithin (xs ++ ys) (xs ++ zs)
in_front xs ys zs w t k =
    elim (Contains-append_cases xs ys t k) [
      | inl l ↦ Contains-append_left xs zs t l
      | inr r ↦ Contains-append_right xs zs t (w t r)
    ]

-- what is there already adds nothing
pub joined : (xs ys zs : List Term) → IsWithin xs zs → IsWithin ys zs → IsWithin (xs ++ ys) zs
joined xs ys zs v w t k =
    elim (Contains-append_cases xs ys t k) [
      | inl l ↦ v t l
      | inr r ↦ w t r
    ]

pub behind : (xs ys : List Term) → IsWithin ys (xs ++ ys)
behind xs ys t k = Contains-append_right xs ys t k

pub ahead : (xs ys : List Term) → IsWithin xs (xs ++ ys)
ahead xs ys t k = Contains-append_left xs ys t k

-- three lists, in another order
pub second_first : (xs ys zs : List Term) → IsWithin ((xs ++ ys) ++ zs) (ys ++ (xs ++ zs))
second_first xs ys zs =
    joined (xs ++ ys) zs (ys ++ (xs ++ zs))
    (joined xs ys (ys ++ (xs ++ zs)) (λ t k. behind ys (xs ++ zs) t (ahead xs zs t k)) (ahead ys (xs ++ zs)))
    (λ t k. behind ys (xs ++ zs) t (behind xs zs t k))

pub first_first : (xs ys zs : List Term) → IsWithin (ys ++ (xs ++ zs)) ((xs ++ ys) ++ zs)
first_first xs ys zs =
    joined ys (xs ++ zs) ((xs ++ ys) ++ zs)
    (λ t k. ahead (xs ++ ys) zs t (behind xs ys t k))
    (joined xs zs ((xs ++ ys) ++ zs) (λ t k. ahead (xs ++ ys) zs t (ahead xs ys t k)) (behind (xs ++ ys) zs))

-- ---- Terms and their parts

-- what a term is made of, without itself
abbrev pub parts : Term → List Term
parts (apply h ts) = post_orders ts

pub whole : (t : Term) → post_order t ≡ parts t ++ t ∷ []
whole (apply h ts) = refl

-- no part of a term is larger than it
mutual
  no_larger : (t u : Term) → Contains (post_order t) u → length (post_order u) ≤ length (post_order t)
  no_larger (apply h ts) u k =
      elim (Contains-append_cases (post_orders ts) (apply h ts ∷ []) u k) [
        | inl l ↦ omega (arith, none_larger ts u l, length-append (post_orders ts) (apply h ts ∷ []))
        | inr r ↦ omega (arith, ap (λ (x : Term). length (post_order x)) (alone (apply h ts) u r))
      ]

  none_larger : (ts : Terms) (u : Term) → Contains (post_orders ts) u → length (post_order u) ≤ length (post_orders ts)
  none_larger no_terms u k = absurd (none u k)
  none_larger (terms t ts) u k =
      elim (Contains-append_cases (post_order t) (post_orders ts) u k) [
        | inl l ↦ omega (arith, no_larger t u l, length-append (post_order t) (post_orders ts))
        | inr r ↦ omega (arith, none_larger ts u r, length-append (post_order t) (post_orders ts))
      ]

-- so no term is a part of itself
not_part : (t : Term) → Contains (parts t) t → ⊥
not_part (apply h ts) k = omega (arith, none_larger ts (apply h ts) k, length-append (post_orders ts) (apply h ts ∷ []))

-- ---- Lists that have each term once

-- terms that were seen are passed over
pub passed_over : (seen ts rest list : List Term) → IsWithin ts seen → AreFirst seen rest list → AreFirst seen (ts ++ rest) list
passed_over seen [] rest list w h = h
passed_over seen (t ∷ ts) rest list w h =
    inl (w t (ahead (t ∷ []) ts t (0, omega arith, refl)), passed_over seen ts rest list (λ u k. w u (behind (t ∷ []) ts u k)) h)

-- ---- Steps, the next one first, where each number has a term

module _ (f : ℕ → Term) where
  -- the terms still to come, if none of them was seen before
  abbrev pub to_come : List Step → List Term
  to_come [] = []
  to_come (Enter i ∷ s) = post_order (f i) ++ to_come s
  to_come (Leave i ∷ s) = f i ∷ to_come s

  -- the parts of each term to be left, but not the term itself, are among what was seen or comes before
  abbrev pub AreReady : List Term → List Step → Type 0
  AreReady past [] = ⊤
  AreReady past (Enter i ∷ s) = AreReady (post_order (f i) ++ past) s
  AreReady past (Leave i ∷ s) = IsWithin (parts (f i)) past × (Contains past (f i) → ⊥) × AreReady (f i ∷ past) s

  -- a measure of what is left to do
  abbrev pub effort : List Step → ℕ
  effort [] = 0
  effort (Enter i ∷ s) = 2 * length (post_order (f i)) + effort s
  effort (Leave i ∷ s) = suc (effort s)

  -- Where these terms are done, seen from the last, the steps lead to the list of all.
  pub record AreOnWay (all seen done : List Term) (steps : List Step) : Type 0 where
    pub first : (list : List Term) → AreFirst seen (to_come steps) list → AreFirst [] all (done ++ list)
    pub closed : (t : Term) → Contains seen t → IsWithin (post_order t) seen
    pub ready : AreReady seen steps

  -- what was seen counts as a set
  ready_same : (past now : List Term) (s : List Step) → IsWithin past now → IsWithin now past → AreReady past s → AreReady now s
  ready_same past now [] v w r = tt
  ready_same past now (Enter i ∷ s) v w r =
      ready_same (post_order (f i) ++ past) (post_order (f i) ++ now) s (in_front (post_order (f i)) past now v) (in_front (post_order (f i)) now past w) r
  ready_same past now (Leave i ∷ s) v w r =
      (λ t k. v t (r.0 t k), λ k. r.1 (w (f i) k), ready_same (f i ∷ past) (f i ∷ now) s (in_front (f i ∷ []) past now v) (in_front (f i ∷ []) now past w) r.2)

  -- ---- Entries of several terms

  to_come_entries : (is : List ℕ) (s : List Step) → to_come (map Enter is ++ s) ≡ post_orders (terms_at f is) ++ to_come s
  to_come_entries [] s = refl
  to_come_entries (i ∷ is) s =
      ap (λ l. post_order (f i) ++ l) (to_come_entries is s) ∙ sym (append_assoc (post_order (f i)) (post_orders (terms_at f is)) (to_come s))

  pub effort_entries : (is : List ℕ) (s : List Step) → effort (map Enter is ++ s) ≡ 2 * length (post_orders (terms_at f is)) + effort s
  effort_entries [] s = omega arith
  effort_entries (i ∷ is) s =
      omega (arith, effort_entries is s, length-append (post_order (f i)) (post_orders (terms_at f is)))

  ready_entries : (is : List ℕ) (past : List Term) (s : List Step) → AreReady (post_orders (terms_at f is) ++ past) s → AreReady past (map Enter is ++ s)
  ready_entries [] past s r = r
  ready_entries (i ∷ is) past s r =
      let own = post_order (f i) in
      let others = post_orders (terms_at f is) in
      ready_entries is (own ++ past) s
      (ready_same ((own ++ others) ++ past) (others ++ (own ++ past)) s (second_first own others past) (first_first own others past) r)

  orders_of_roots : (is : List ℕ) → post_orders (terms_at f is) ≡ flat_map post_order (map f is)
  orders_of_roots [] = refl
  orders_of_roots (i ∷ is) = ap (λ l. post_order (f i) ++ l) (orders_of_roots is)

  -- ---- From the roots to the end

  pub start : (roots : List ℕ) → AreOnWay (flat_map post_order (map f roots)) [] [] (map Enter roots ++ [])
  start roots = record {
    first = λ list h. subst (λ l. AreFirst [] l list) (to_come_entries roots [] ∙ append-nil (post_orders (terms_at f roots)) ∙ orders_of_roots roots) h;
    closed = λ t k. absurd (none t k);
    ready = ready_entries roots [] [] tt;
  }

  pub finish : (all seen done : List Term) → AreOnWay all seen done [] → AreFirst [] all done
  finish all seen done w = subst (AreFirst [] all) (append-nil done) (w.first [] refl)

  -- a term that is done is not entered
  pub skip : (all seen done : List Term) (i : ℕ) (s : List Step) → Contains seen (f i) → AreOnWay all seen done (Enter i ∷ s) → AreOnWay all seen done s
  skip all seen done i s k w =
      let own = post_order (f i) in
      record {
        first = λ list h. w.first list (passed_over seen own (to_come s) list (w.closed (f i) k) h);
        closed = w.closed;
        ready = ready_same (own ++ seen) seen s (joined own seen seen (w.closed (f i) k) (λ t l. l)) (behind own seen) w.ready;
      }

  -- another one is, and left after its arguments
  pub enter : (all seen done : List Term) (i : ℕ) (s : List Step) (h : Head) (kids : List ℕ) → (Contains seen (f i) → ⊥) → f i ≡ apply h (terms_at f kids)
      → AreOnWay all seen done (Enter i ∷ s) → AreOnWay all seen done (map Enter kids ++ Leave i ∷ s)
  enter all seen done i s h kids new term w =
      let own = post_order (f i) in
      let inner = post_orders (terms_at f kids) in
      let made : parts (f i) ≡ inner = ap parts term in
      let both : own ≡ inner ++ f i ∷ [] = whole (f i) ∙ ap (λ l. l ++ f i ∷ []) made in
      let same : to_come (map Enter kids ++ Leave i ∷ s) ≡ own ++ to_come s =
      to_come_entries kids (Leave i ∷ s) ∙ sym (append_assoc inner (f i ∷ []) (to_come s)) ∙ ap (λ l. l ++ to_come s) (sym both) in
      let around : AreReady ((inner ++ f i ∷ []) ++ seen) s = subst (λ l. AreReady (l ++ seen) s) both w.ready in
      record {
        first = λ list k. w.first list (subst (λ l. AreFirst seen l list) same k);
        closed = w.closed;
        ready = ready_entries kids seen (Leave i ∷ s) (
          λ t k. ahead inner seen t (subst (λ l. Contains l t) made k),
          λ k. elim (Contains-append_cases inner seen (f i) k) [
            | inl l ↦ not_part (f i) (subst (λ x. Contains x (f i)) (sym made) l)
            | inr r ↦ new r
          ],
          ready_same ((inner ++ f i ∷ []) ++ seen) (f i ∷ (inner ++ seen)) s (second_first inner (f i ∷ []) seen) (first_first inner (f i ∷ []) seen) around,
        );
      }

  -- a term is left behind its arguments
  pub leave : (all seen done : List Term) (i : ℕ) (s : List Step) → AreOnWay all seen done (Leave i ∷ s) → AreOnWay all (f i ∷ seen) (done ++ f i ∷ []) s
  leave all seen done i s w =
      let t = f i in
      let inside : IsWithin (post_order t) (t ∷ seen) =
      subst (λ l. IsWithin l (t ∷ seen)) (sym (whole t))
      (joined (parts t) (t ∷ []) (t ∷ seen) (λ u k. behind (t ∷ []) seen u (w.ready.0 u k)) (ahead (t ∷ []) seen)) in
      record {
        first = λ list h. subst (AreFirst [] all) (sym (append_assoc done (t ∷ []) list)) (w.first (t ∷ list) (inr (w.ready.1, list, refl, h)));
        closed = λ u k. elim (Contains-append_cases (t ∷ []) seen u k) [
          | inl l ↦ subst (λ x. IsWithin (post_order x) (t ∷ seen)) (alone t u l) inside
          | inr r ↦ (λ x n. behind (t ∷ []) seen x (w.closed u r x n))
        ];
        ready = w.ready.2;
      }
