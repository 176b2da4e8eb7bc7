-- The table of what stands, and what each entry replaced.
use Rattle.std.proofs.Common.{◌≡◌, ◌≢◌, ℕ, zero, suc, ◌<◌, ◌≤◌, List, [], ◌∷◌, ◌++◌, length, map, get_or, Option, Some, None, ◌⊎◌, inl, inr, refl, sym, ap, subst, ◌∙◌, arith}
use Rattle.std.specs.Prelude.{All, slice_get, slice_set}
use Rattle.std.specs.declared.cmp.Ordering.{Ordering}
use Rattle.std.proofs.lemmas.Bool.{cases_eq}
use Rattle.std.proofs.lemmas.List.{take-append-le, take_at, map_push, length_push, length-set, get_or_push}
use Rattle.std.proofs.lemmas.List.Elements.{All-push, All-map, All-take}
use Rattle.std.proofs.lemmas.Option.{same_Some, slice_get_within, slice_get-get_or, slice_get_read}
use Rattle.std.specs.Cmp.{IsTotalOrder}
use Rattle.nz_lists.proofs.Places.{slice_get_kept, slice_get-push_cases}
use Rattle.nz_trail.specs.declared.limits.Limit.{Limit}
use Rattle.nz_trail.specs.declared.limits.Limits.{Limits}
use Rattle.nz_trail.specs.declared.limits.Side.{Side}
use Rattle.nz_trail.specs.declared.limits.Side.TheVariants.{Lower, Upper}
use Rattle.nz_trail.specs.declared.trail.Entry.{Entry}
use Rattle.nz_trail.specs.Bounds.{Asserted, TrailState, IsOn, Stands, IsImplied, IsExcluded, IsConsistent}
use Rattle.nz_trail.specs.Pairs.{limit_on, with_limit}
use Rattle.nz_trail.specs.Stored.{IsTable, IsTabled, asserted_of, state_of}
use Rattle.nz_trail.proofs.AssertedBounds.{stands_put, stands_other, stands_back, consistent_put, consistent_front}

-- ---- Lists

slice_get-set_same : {X : Type 0} (xs : List X) (i : ℕ) (x y : X) → slice_get (slice_set xs i x) i ≡ Some y → x ≡ y
slice_get-set_same [] i x y at = cc
slice_get-set_same (z ∷ zs) zero x y at = same_Some x y at
slice_get-set_same (z ∷ zs) (suc i) x y at = slice_get-set_same zs i x y at

slice_get-set_other : {X : Type 0} (xs : List X) (i j : ℕ) (x : X) → j ≢ i → slice_get (slice_set xs i x) j ≡ slice_get xs j
slice_get-set_other [] i j x other = refl
slice_get-set_other (z ∷ zs) zero zero x other = absurd (other refl)
slice_get-set_other (z ∷ zs) zero (suc j) x other = refl
slice_get-set_other (z ∷ zs) (suc i) zero x other = refl
slice_get-set_other (z ∷ zs) (suc i) (suc j) x other = slice_get-set_other zs i j x (λ e. other (ap suc e))

-- ---- Pairs

module _ {S : Type 0} where
  with_same : (side : Side) (o : Option (Limit S)) (l : Limits S) → limit_on side (with_limit side o l) ≡ o
  with_same Lower o l = refl
  with_same Upper o l = refl

  -- the other side of a pair is as before
  with_other : (side at : Side) (o : Option (Limit S)) (l : Limits S)
      → (side ≡ at) ⊎ ((side ≢ at) × (limit_on side (with_limit at o l) ≡ limit_on side l))
  with_other Lower Lower o l = inl refl
  with_other Lower Upper o l = inr (λ e. cc, refl)
  with_other Upper Lower o l = inr (λ e. cc, refl)
  with_other Upper Upper o l = inl refl

  -- a pair without bounds
  none_on : (side : Side) (l : Limits S) → record { lower = None; upper = None } ≡ l → limit_on side l ≡ None
  none_on Lower l e = ap (λ (x : Limits S). x.lower) (sym e)
  none_on Upper l e = ap (λ (x : Limits S). x.upper) (sym e)

-- ---- The table

module _ {S : Type 0} (order : S → S → Ordering) where
  -- what stands of one variable and side is changed, the rest stays
  table_set : (limits : List (Limits S)) (old new : List (Asserted S)) (b : Asserted S) (o : Option (Limit S)) (pair : Limits S)
      → slice_get limits b.var ≡ Some pair
      → ((v : ℕ) (side : Side) (p : Option (Limit S)) → ¬ IsOn v side b → Stands order old v side p → Stands order new v side p)
      → Stands order new b.var b.side o → IsTable order limits old
      → IsTable order (slice_set limits b.var (with_limit b.side o pair)) new
  table_set limits old new b o pair there others own table v side l at =
      elim (cases_eq v b.var) [
        | inl same ↦
            let moved : slice_get (slice_set limits b.var (with_limit b.side o pair)) b.var ≡ Some l =
            ap (slice_get (slice_set limits b.var (with_limit b.side o pair))) (sym same) ∙ at in
            let is : with_limit b.side o pair ≡ l = slice_get-set_same limits b.var (with_limit b.side o pair) l moved in
            let found : slice_get limits v ≡ Some pair = ap (slice_get limits) same ∙ there in
            elim (with_other side b.side o pair) [
              | inl on ↦
                  let limit : o ≡ limit_on side l =
                  sym (with_same b.side o pair) ∙ ap (λ (s : Side). limit_on s (with_limit b.side o pair)) (sym on) ∙ ap (limit_on side) is in
                  subst (λ (p : Option (Limit S)). Stands order new v side p) limit
                  (subst (λ (s : Side). Stands order new v s o) (sym on) (subst (λ (n : ℕ). Stands order new n b.side o) (sym same) own))
              | inr kept ↦
                  subst (λ (p : Option (Limit S)). Stands order new v side p) (sym kept.1 ∙ ap (limit_on side) is)
                  (others v side (limit_on side pair) (λ on. kept.0 (sym on.side)) (table v side pair found))
            ]
        | inr other ↦
            others v side (limit_on side l) (λ on. other (sym on.var))
            (table v side l (sym (slice_get-set_other limits b.var v (with_limit b.side o pair) other) ∙ at))
      ]

  -- a pair that was read has what stands
  pub read_stands : (limits : List (Limits S)) (entries : List (Entry S)) (s : TrailState S) → state_of limits entries ≡ s
      → IsTabled order limits entries → (v : ℕ) (pair : Limits S) → v < s.vars → pair ≡ get_or limits v pair
      → (side : Side) (o : Option (Limit S)) → o ≡ limit_on side pair → Stands order s.asserted v side o
  read_stands limits entries s seen old v pair known read side o is =
      let many : length limits ≡ s.vars = ap (λ (x : TrailState S). x.vars) seen in
      let at : slice_get limits v ≡ Some pair = slice_get_read limits s.vars v pair (sym many) known read in
      subst (λ (x : TrailState S). Stands order x.asserted v side o) seen
      (subst (λ (p : Option (Limit S)). Stands order (map asserted_of entries) v side p) (sym is) (old.table v side pair at))

-- ---- The whole

module _ {S : Type 0} {order : S → S → Ordering} where
  -- one variable more
  pub tabled_var : (limits : List (Limits S)) (entries : List (Entry S)) → IsTabled order limits entries
      → IsTabled order (limits ++ record { lower = None; upper = None } ∷ []) entries
  tabled_var limits entries old =
      let none : Limits S = record { lower = None; upper = None } in
      record {
        table = λ v side l at.
            elim (slice_get-push_cases limits none v l at) [
              | inl before ↦ old.table v side l before
              | inr new ↦
                  subst (λ (o : Option (Limit S)). Stands order (map asserted_of entries) v side o) (sym (none_on side l new.1))
                  (All-map (λ (x : Asserted S). ¬ IsOn v side x) asserted_of entries
                  (λ k d inside on.
                  let small = old.known k d inside in
                  omega (arith, small, on.var, new.0)))
            ];
        replaced = old.replaced;
        known = λ k d inside.
            let small = old.known k d inside in
            omega (arith, small, length_push limits none);
        consistent = old.consistent;
      }

module _ {S : Type 0} {order : S → S → Ordering} (total : IsTotalOrder order) where
  -- one bound more, which is tighter than what stands and agrees with it
  pub tabled_put : (limits : List (Limits S)) (entries : List (Entry S)) (e : Entry S) (pair : Limits S) → IsTabled order limits entries
      → slice_get limits e.var ≡ Some pair → e.replaced ≡ limit_on e.side pair
      → ¬ IsImplied order (map asserted_of entries) (asserted_of e) → ¬ IsExcluded order (map asserted_of entries) (asserted_of e)
      → IsTabled order (slice_set limits e.var (with_limit e.side (Some e.limit) pair)) (entries ++ e ∷ [])
  tabled_put limits entries e pair old there was news agreeing =
      let list = map asserted_of entries in
      let b : Asserted S = asserted_of e in
      let more : list ++ b ∷ [] ≡ map asserted_of (entries ++ e ∷ []) = sym (map_push asserted_of entries e) in
      let long = length-set limits e.var (with_limit e.side (Some e.limit) pair) in
      let inside : e.var < length limits = slice_get_within limits e.var pair there in
      record {
        table = subst (λ (xs : List (Asserted S)). IsTable order (slice_set limits e.var (with_limit e.side (Some e.limit) pair)) xs) more
            (table_set order limits list (list ++ b ∷ []) b (Some e.limit) pair there (λ v side p. stands_other total list b v side p)
            (stands_put total list b news) old.table);
        replaced = λ i x at.
            elim (slice_get-push_cases entries e i x at) [
              | inl before ↦
                  let short : i ≤ length entries = let in_list : i < length entries = slice_get_within entries i x before in omega arith in
                  subst (λ (front : List (Entry S)). Stands order (map asserted_of front) x.var x.side x.replaced) (sym (take-append-le i entries (e ∷ []) short))
                  (old.replaced i x before)
              | inr last ↦
                  subst (λ (front : List (Entry S)). Stands order (map asserted_of front) x.var x.side x.replaced) (sym (take_at entries (e ∷ []) i (sym last.0)))
                  (subst (λ (y : Entry S). Stands order list y.var y.side y.replaced) last.1
                  (subst (λ (o : Option (Limit S)). Stands order list e.var e.side o) (sym was) (old.table e.var e.side pair there)))
            ];
        known = All-push (λ (x : Entry S). x.var < length (slice_set limits e.var (with_limit e.side (Some e.limit) pair))) entries e
            (λ k d within.
            let small = old.known k d within in
            omega (arith, small, long))
            (omega (arith, inside, long));
        consistent = subst (λ (xs : List (Asserted S)). IsConsistent order xs) more (consistent_put total list b old.consistent agreeing);
      }

  -- the newest bound back
  pub tabled_pop : (limits : List (Limits S)) (entries : List (Entry S)) (e : Entry S) (pair : Limits S) → IsTabled order limits (entries ++ e ∷ [])
      → slice_get limits e.var ≡ Some pair → IsTabled order (slice_set limits e.var (with_limit e.side e.replaced pair)) entries
  tabled_pop limits entries e pair old there =
      let list = map asserted_of entries in
      let b : Asserted S = asserted_of e in
      let more : map asserted_of (entries ++ e ∷ []) ≡ list ++ b ∷ [] = map_push asserted_of entries e in
      let long = length-set limits e.var (with_limit e.side e.replaced pair) in
      let at_end : slice_get (entries ++ e ∷ []) (length entries) ≡ Some e =
      slice_get-get_or (entries ++ e ∷ []) (length entries) e (omega (arith, length_push entries e)) ∙ ap Some (get_or_push entries e e (length entries) refl) in
      let before : Stands order list e.var e.side e.replaced =
      subst (λ (front : List (Entry S)). Stands order (map asserted_of front) e.var e.side e.replaced) (take_at entries (e ∷ []) (length entries) refl)
      (old.replaced (length entries) e at_end) in
      record {
        table = table_set order limits (list ++ b ∷ []) list b e.replaced pair there (λ v side p. stands_back total list b v side p) before
            (subst (λ (xs : List (Asserted S)). IsTable order limits xs) more old.table);
        replaced = λ i x at.
            let short : i ≤ length entries = let in_list : i < length entries = slice_get_within entries i x at in omega arith in
            subst (λ (front : List (Entry S)). Stands order (map asserted_of front) x.var x.side x.replaced) (take-append-le i entries (e ∷ []) short)
            (old.replaced i x (slice_get_kept entries (e ∷ []) i x at));
        known = λ k d within.
            let small = All-take (λ (x : Entry S). x.var < length limits) (length entries) (entries ++ e ∷ []) old.known in
            let front : All (λ (x : Entry S). x.var < length limits) entries =
            subst (λ (xs : List (Entry S)). All (λ (x : Entry S). x.var < length limits) xs) (take_at entries (e ∷ []) (length entries) refl) small in
            let one = front k d within in
            omega (arith, one, long);
        consistent = consistent_front total list (b ∷ []) (subst (λ (xs : List (Asserted S)). IsConsistent order xs) more old.consistent);
      }
