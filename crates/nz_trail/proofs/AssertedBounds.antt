-- What stands where one more bound is asserted, or the newest one is taken back.
use Rattle.std.proofs.Common.{◌≡◌, ℕ, List, [], ◌∷◌, ◌++◌, Option, Some, None, ◌⊎◌, inl, inr, refl, sym, ap, subst, ◌∙◌, append_assoc, arith, length, length-append}
use Rattle.std.specs.Prelude.{All, Any, Contains, IfSome, IsSomeAnd}
use Rattle.std.specs.declared.cmp.Ordering.{Ordering}
use Rattle.std.specs.Cmp.{IsTotalOrder}
use Rattle.std.proofs.lemmas.List.Elements.{All-push, All-contains, Contains-append_left, Contains-append_right, Contains-push_cases, All-contains_itself}
use Rattle.nz_trail.specs.declared.limits.Limit.{Limit}
use Rattle.nz_trail.specs.declared.limits.Side.{Side}
use Rattle.nz_trail.specs.declared.limits.Side.TheVariants.{Lower, Upper}
use Rattle.nz_trail.specs.Bounds.{Asserted, IsOn, IsTighter, AreApart, IsTightest, Stands, IsImplied, IsExcluded, ClashesWith, IsConsistent, asserted, other_side}
use Rattle.nz_trail.proofs.Ordered.{tighter_stable, tighter_irreflexive, tighter_past, tighter_asymmetric, apart_past, apart_from}

-- ---- Lists

all_from : {X : Type 0} (P : X → Type 0) (xs : List X) → ((x : X) → Contains xs x → P x) → All P xs
all_from P xs h k d inside = let itself = All-contains_itself xs in h _ (itself k d inside)

all_front : {X : Type 0} (P : X → Type 0) (xs ys : List X) → All P (xs ++ ys) → All P xs
all_front P xs ys h = all_from P xs (λ x at. All-contains P (xs ++ ys) x h (Contains-append_left xs ys x at))

any_from : {X : Type 0} (P : X → Type 0) (xs : List X) (x : X) → Contains xs x → P x → Any P xs
any_from P xs x at p = (at.0, x, at.1, at.2, p)

-- the element of a place between two parts is in the list
within_parts : {X : Type 0} (xs before : List X) (x : X) (after : List X) → xs ≡ before ++ x ∷ after → Contains xs x
within_parts xs before x after parts =
    subst (λ ys. Contains ys x) (sym parts) (Contains-append_right before (x ∷ after) x (0, omega arith, refl))

-- an element of a list with one more at its end is that one, or stands in the list
pub front_parts : {X : Type 0} (xs : List X) (y : X) (before : List X) (x : X) (after : List X) → xs ++ y ∷ [] ≡ before ++ x ∷ after
    → (x ≡ y) ⊎ ((rest : List X) × (xs ≡ before ++ x ∷ rest))
front_parts [] y [] x after e = let same : x ≡ y = cc in inl same
front_parts [] y (z ∷ zs) x after e =
    let none : [] ≡ zs ++ x ∷ after = cc in
    absurd (omega (arith, ap length none, length-append zs (x ∷ after)))
front_parts (w ∷ ws) y [] x after e = let same : w ∷ ws ≡ x ∷ ws = cc in inr (ws, same)
front_parts (w ∷ ws) y (z ∷ zs) x after e =
    let head : w ≡ z = cc in
    let tail : ws ++ y ∷ [] ≡ zs ++ x ∷ after = cc in
    elim (front_parts ws y zs x after tail) [
      | inl same ↦ inl same
      | inr r ↦ let both : w ∷ ws ≡ z ∷ (zs ++ x ∷ r.0) = cc (head, r.1) in inr (r.0, both)
    ]

-- of two places of a list, they are one or one is before the other
two_places : {X : Type 0} (before : List X) (x : X) (after front : List X) (y : X) (rest : List X) → before ++ x ∷ after ≡ front ++ y ∷ rest
    → (x ≡ y) ⊎ (Contains front x ⊎ Contains before y)
two_places [] x after [] y rest e = let same : x ≡ y = cc in inl same
two_places [] x after (z ∷ zs) y rest e = let same : z ≡ x = cc in inr (inl (0, omega arith, same))
two_places (w ∷ ws) x after [] y rest e = let same : w ≡ y = cc in inr (inr (0, omega arith, same))
two_places (w ∷ ws) x after (z ∷ zs) y rest e =
    let tail : ws ++ x ∷ after ≡ zs ++ y ∷ rest = cc in
    elim (two_places ws x after zs y rest tail) [
      | inl same ↦ inl same
      | inr (inl at) ↦ inr (inl (Contains-append_right (z ∷ []) zs x at))
      | inr (inr at) ↦ inr (inr (Contains-append_right (w ∷ []) ws y at))
    ]

module _ {S : Type 0} {order : S → S → Ordering} (total : IsTotalOrder order) where
  -- ---- One bound more

  -- one that is not implied is tighter than each of its variable and side
  tighter_than_each : (list : List (Asserted S)) (b : Asserted S) → ¬ IsImplied order list b
      → All (λ e. IsOn b.var b.side e → IsTighter order b.side b.value e.value) list
  tighter_than_each list b news =
      all_from (λ e. IsOn b.var b.side e → IsTighter order b.side b.value e.value) list
      (λ e at on. tighter_stable total b.side b.value e.value
      (λ n. news (any_from (λ (x : Asserted S). IsOn b.var b.side x × (¬ IsTighter order b.side b.value x.value)) list e at (on, n))))

  pub stands_put : (list : List (Asserted S)) (b : Asserted S) → ¬ IsImplied order list b
      → Stands order (list ++ b ∷ []) b.var b.side (Some (record { value = b.value; reason = b.reason }))
  stands_put list b news =
      let each = tighter_than_each list b news in
      record {
        before = list;
        after = [];
        parts = refl;
        tightest = All-push (λ e. IsOn b.var b.side e → ¬ IsTighter order b.side e.value b.value) list b
            (λ k d inside on. tighter_asymmetric total b.side b.value _ (each k d inside on))
            (λ on. tighter_irreflexive total b.side b.value);
        first = each;
      }

  pub stands_other : (list : List (Asserted S)) (b : Asserted S) (v : ℕ) (side : Side) (o : Option (Limit S)) → ¬ IsOn v side b
      → Stands order list v side o → Stands order (list ++ b ∷ []) v side o
  stands_other list b v side None other h = All-push (λ e. ¬ IsOn v side e) list b h other
  stands_other list b v side (Some l) other h = record {
    before = h.before;
    after = h.after ++ b ∷ [];
    parts = ap (λ xs. xs ++ b ∷ []) h.parts ∙ append_assoc h.before (asserted v side l.value l.reason ∷ h.after) (b ∷ []);
    tightest = All-push (λ e. IsOn v side e → ¬ IsTighter order side e.value l.value) list b h.tightest (λ on. absurd (other on));
    first = h.first;
  }

  -- ---- The newest one back

  pub stands_back : (list : List (Asserted S)) (b : Asserted S) (v : ℕ) (side : Side) (o : Option (Limit S)) → ¬ IsOn v side b
      → Stands order (list ++ b ∷ []) v side o → Stands order list v side o
  stands_back list b v side None other h = all_front (λ e. ¬ IsOn v side e) list (b ∷ []) h
  stands_back list b v side (Some l) other h =
      let it = asserted v side l.value l.reason in
      elim (front_parts list b h.before it h.after h.parts) [
        | inl same ↦ absurd (other (subst (λ (x : Asserted S). IsOn v side x) same (record { var = refl; side = refl })))
        | inr r ↦ record {
          before = h.before;
          after = r.0;
          parts = r.1;
          tightest = all_front (λ e. IsOn v side e → ¬ IsTighter order side e.value l.value) list (b ∷ []) h.tightest;
          first = h.first;
        }
      ]

  -- ---- The tightest is one

  pub tightest_unique : (list : List (Asserted S)) (v : ℕ) (side : Side) (x y : S) (r s : ℕ) → IsTightest order list (asserted v side x r)
      → IsTightest order list (asserted v side y s) → asserted v side x r ≡ asserted v side y s
  tightest_unique list v side x y r s h k =
      let one = asserted v side x r in
      let two = asserted v side y s in
      elim (two_places h.before one h.after k.before two k.after (sym h.parts ∙ k.parts)) [
        | inl same ↦ same
        | inr (inl at) ↦
            let tighter = All-contains (λ e. IsOn v side e → IsTighter order side y e.value) k.before one k.first at (record { var = refl; side = refl }) in
            absurd
            (All-contains (λ e. IsOn v side e → ¬ IsTighter order side e.value x) list two h.tightest
            (within_parts list k.before two k.after k.parts) (record { var = refl; side = refl }) tighter)
        | inr (inr at) ↦
            let tighter = All-contains (λ e. IsOn v side e → IsTighter order side x e.value) h.before two h.first at (record { var = refl; side = refl }) in
            absurd
            (All-contains (λ e. IsOn v side e → ¬ IsTighter order side e.value y) list one k.tightest
            (within_parts list h.before one h.after h.parts) (record { var = refl; side = refl }) tighter)
      ]

  pub clashes_with_one : (list : List (Asserted S)) (b : Asserted S) (r s : ℕ) → ClashesWith order list b r → ClashesWith order list b s → r ≡ s
  clashes_with_one list b r s h k =
      ap (λ (x : Asserted S). x.reason) (tightest_unique list b.var (other_side b.side) h.value k.value r s h.tightest k.tightest)

  -- ---- What is implied and what is excluded

  pub implied_by : (list : List (Asserted S)) (v : ℕ) (side : Side) (value : S) (reason : ℕ) (o : Option (Limit S)) → Stands order list v side o
      → IsSomeAnd o (λ l. ¬ IsTighter order side value l.value) → IsImplied order list (asserted v side value reason)
  implied_by list v side value reason None h n = absurd n
  implied_by list v side value reason (Some l) h n =
      any_from (λ (e : Asserted S). IsOn v side e × (¬ IsTighter order side value e.value)) list (asserted v side l.value l.reason)
      (within_parts list h.before (asserted v side l.value l.reason) h.after h.parts) (record { var = refl; side = refl }, n)

  pub not_implied : (list : List (Asserted S)) (v : ℕ) (side : Side) (value : S) (reason : ℕ) (o : Option (Limit S)) → Stands order list v side o
      → IfSome o (λ l. IsTighter order side value l.value) → ¬ IsImplied order list (asserted v side value reason)
  not_implied list v side value reason None h t (k, e, inside, at, p) =
      All-contains (λ x. ¬ IsOn v side x) list e h (k, inside, at) p.0
  not_implied list v side value reason (Some l) h t (k, e, inside, at, p) =
      p.1
      (tighter_past total side value l.value e.value t
      (All-contains (λ x. IsOn v side x → ¬ IsTighter order side x.value l.value) list e h.tightest (k, inside, at) p.0))

  pub not_excluded : (list : List (Asserted S)) (v : ℕ) (side : Side) (value : S) (reason : ℕ) (o : Option (Limit S))
      → Stands order list v (other_side side) o → IfSome o (λ l. ¬ AreApart order side value l.value)
      → ¬ IsExcluded order list (asserted v side value reason)
  not_excluded list v side value reason None h n (k, e, inside, at, p) =
      All-contains (λ x. ¬ IsOn v (other_side side) x) list e h (k, inside, at) p.0
  not_excluded list v side value reason (Some l) h n (k, e, inside, at, p) =
      n
      (apart_past total side value e.value l.value p.1
      (All-contains (λ x. IsOn v (other_side side) x → ¬ IsTighter order (other_side side) x.value l.value) list e h.tightest (k, inside, at) p.0))

  pub clash_by : (list : List (Asserted S)) (v : ℕ) (side : Side) (value : S) (reason : ℕ) (o : Option (Limit S)) (l : Limit S)
      → Stands order list v (other_side side) o → o ≡ Some l → AreApart order side value l.value
      → ClashesWith order list (asserted v side value reason) l.reason
  clash_by list v side value reason o l h is apart = record {
    value = l.value;
    tightest = subst (λ (p : Option (Limit S)). Stands order list v (other_side side) p) is h;
    apart = apart;
  }

  -- one that clashes is excluded
  pub clash_excludes : (list : List (Asserted S)) (b : Asserted S) (r : ℕ) → ClashesWith order list b r → IsExcluded order list b
  clash_excludes list b r h =
      let other = asserted b.var (other_side b.side) h.value r in
      any_from (λ (e : Asserted S). IsOn b.var (other_side b.side) e × AreApart order b.side b.value e.value) list other
      (within_parts list h.tightest.before other h.tightest.after h.tightest.parts) (record { var = refl; side = refl }, h.apart)

  -- ---- Consistent bounds

  -- of two sides, in either order
  apart_sides : (list : List (Asserted S)) → IsConsistent order list → (v : ℕ) (side : Side) (x y : Asserted S) → Contains list x → Contains list y
      → IsOn v side x → IsOn v (other_side side) y → ¬ AreApart order side x.value y.value
  apart_sides list agree v Lower x y at there on off = agree v x y at there on off
  apart_sides list agree v Upper x y at there on off = agree v y x there at off on

  -- none is implied and excluded
  pub implied_not_excluded : (list : List (Asserted S)) (b : Asserted S) → IsConsistent order list → IsImplied order list b → ¬ IsExcluded order list b
  implied_not_excluded list b agree (k, x, inside, at, p) (m, y, there, is, q) =
      apart_sides list agree b.var b.side x y (k, inside, at) (m, there, is) p.0 q.0 (apart_from total b.side b.value x.value y.value q.1 p.1)

  pub consistent_front : (list more : List (Asserted S)) → IsConsistent order (list ++ more) → IsConsistent order list
  consistent_front list more agree v l u at there = agree v l u (Contains-append_left list more l at) (Contains-append_left list more u there)

  excluded_by : (list : List (Asserted S)) (b e : Asserted S) (v : ℕ) (side : Side) → Contains list e → IsOn v side b → IsOn v (other_side side) e
      → AreApart order side b.value e.value → IsExcluded order list b
  excluded_by list b e v side at on off apart =
      any_from (λ (x : Asserted S). IsOn b.var (other_side b.side) x × AreApart order b.side b.value x.value) list e at (
        record { var = off.var ∙ sym on.var; side = off.side ∙ ap other_side (sym on.side) },
        subst (λ (s : Side). AreApart order s b.value e.value) (sym on.side) apart,
      )

  pub consistent_put : (list : List (Asserted S)) (b : Asserted S) → IsConsistent order list → ¬ IsExcluded order list b → IsConsistent order (list ++ b ∷ [])
  consistent_put list b agree free v l u at there on off apart =
      elim (Contains-push_cases list b l at) [
        | inl old ↦ elim (Contains-push_cases list b u there) [
          | inl as_old ↦ agree v l u old as_old on off apart
          | inr new ↦
              let is : IsOn v Upper b = subst (λ (x : Asserted S). IsOn v Upper x) (sym new) off in
              let far : AreApart order Upper b.value l.value = subst (λ (x : Asserted S). AreApart order Upper x.value l.value) (sym new) apart in
              free (excluded_by list b l v Upper old is on far)
        ]
        | inr new ↦
            let is : IsOn v Lower b = subst (λ (x : Asserted S). IsOn v Lower x) (sym new) on in
            elim (Contains-push_cases list b u there) [
              | inl old ↦
                  let far : AreApart order Lower b.value u.value = subst (λ (x : Asserted S). AreApart order Lower x.value u.value) (sym new) apart in
                  free (excluded_by list b u v Lower old is off far)
              | inr same ↦
                  let both : Lower ≡ Upper = sym is.side ∙ ap (λ (x : Asserted S). x.side) same ∙ off.side in
                  cc
            ]
      ]
