-- Bounds of scalars, and of the numbers that these stand for: what one more tells, and with which it clashes, is the same.
use Rattle.std.proofs.Common.{◌≡◌, ℕ, zero, suc, ◌<◌, List, [], ◌∷◌, ◌++◌, length, map, refl, sym, ap, ◌∙◌, subst, arith}
use Rattle.std.specs.Prelude.{Result, Ok, Err, All, Any, slice_index_or, ◌↔◌}
use Rattle.std.specs.declared.cmp.Ordering.{Ordering}
use Rattle.std.proofs.lemmas.List.{length-map, map-append, get_or_default}
use Rattle.std.proofs.lemmas.List.Elements.{All-map, All-weaker, All-from_recursion, recursion_from_All}
use Rattle.nz_lists.proofs.Places.{slice_index_or-map}
use Rattle.nz_lists.proofs.Elements.{AllByRecursion-map}
use Rattle.nz_spec.specs.numbers.Infinitesimal.{Infinitesimal, infinitesimal_cmp}
use Rattle.nz_trail.specs.Bounds.{AreApart, Asserted, ClashesWith, IsExcluded, IsImplied, IsOn, IsTighter, IsTightest, asserted, other_side}
use Rattle.nz_trail.specs.declared.limits.AssertOutcome.{AssertOutcome}
use Rattle.nz_trail.specs.declared.limits.AssertOutcome.TheVariants.{Kept, Tighter, Clash}
use Rattle.nz_trail.specs.declared.limits.Side.{Side}
use Rattle.nz_trail.specs.declared.limits.Side.TheVariants.{Lower, Upper}
use Rattle.nz_simplex.specs.Standing.{Held, told}

-- ---- Results

pub same_ok : {X E : Type 0} {x y : X} → ◌≡◌ {A = Result X E} (Ok x) (Ok y) → x ≡ y
same_ok {X} {E} {x} {y} e = ap value e
  where
    value : Result X E → X
    value (Ok z) = z
    value (Err z) = x

-- ---- Lists that are mapped

module _ {X Y : Type 0} (f : X → Y) where
  any_mapped : (P : X → Type 0) (Q : Y → Type 0) → ((x : X) → P x → Q (f x)) → (xs : List X) → Any P xs → Any Q (map f xs)
  any_mapped P Q h xs (k, x, inside, at, p) =
      (k, f x, subst (λ (n : ℕ). k < n) (sym (length-map xs f)) inside, slice_index_or-map f xs k x ∙ ap f at, h x p)

  element : (xs : List X) (k : ℕ) → k < length xs → (x : X) × (slice_index_or xs k x ≡ x)
  element [] k h = absurd (omega (arith, h))
  element (x ∷ xs) zero h = (x, refl)
  element (x ∷ xs) (suc k) h = element xs k (omega (arith, h))

  any_unmapped : (P : X → Type 0) (Q : Y → Type 0) → ((x : X) → Q (f x) → P x) → (xs : List X) → Any Q (map f xs) → Any P xs
  any_unmapped P Q h xs (k, y, inside, at, q) =
      let here : k < length xs = subst (λ (n : ℕ). k < n) (length-map xs f) inside in
      let found = element xs k here in
      let same : y ≡ f found.0 =
      sym at
      ∙ get_or_default (map f xs) k y (f found.0) inside
      ∙ slice_index_or-map f xs k found.0
      ∙ ap f found.1 in
      (k, found.0, here, found.1, h found.0 (subst Q same q))

  all_unmapped : (P : X → Type 0) (Q : Y → Type 0) → ((x : X) → Q (f x) → P x) → (xs : List X) → All Q (map f xs) → All P xs
  all_unmapped P Q h xs all =
      All-weaker (λ x. Q (f x)) P h xs
      (All-from_recursion (λ x. Q (f x)) xs (AllByRecursion-map Q f xs (recursion_from_All Q (map f xs) all)))

  all_mapped : (P : X → Type 0) (Q : Y → Type 0) → ((x : X) → P x → Q (f x)) → (xs : List X) → All P xs → All Q (map f xs)
  all_mapped P Q h xs all = All-map Q f xs (All-weaker P (λ x. Q (f x)) h xs all)

  -- the parts of a list that is mapped come of parts of the list
  unmapped_parts : (xs : List X) (before : List Y) (y : Y) (after : List Y) → map f xs ≡ before ++ y ∷ after
      → (front : List X) × (a : X) × (rest : List X) × (xs ≡ front ++ a ∷ rest) × (map f front ≡ before) × (f a ≡ y) × (map f rest ≡ after)
  unmapped_parts [] [] y after e = absurd (cc)
  unmapped_parts [] (z ∷ zs) y after e = absurd (cc)
  unmapped_parts (x ∷ xs) [] y after e =
      let head : f x ≡ y = cc in
      let tail : map f xs ≡ after = cc in
      ([], x, xs, refl, refl, head, tail)
  unmapped_parts (x ∷ xs) (z ∷ zs) y after e =
      let head : f x ≡ z = cc in
      let tail : map f xs ≡ zs ++ y ∷ after = cc in
      let rest = unmapped_parts xs zs y after tail in
      let front : f x ∷ map f rest.0 ≡ z ∷ zs = cc (head, rest.4) in
      (x ∷ rest.0, rest.1, rest.2, ap (λ (l : List X). x ∷ l) rest.3, front, rest.5, rest.6)

-- ---- Bounds

-- what an outcome tells of a bound, over those that were asserted
pub record Tells (bs : List Held) (b : Held) (o : AssertOutcome) : Type 0 where
  pub kept : (o ≡ Kept) ↔ IsImplied infinitesimal_cmp bs b
  pub clash : (r : ℕ) → (s : ℕ) → (o ≡ Clash r s) ↔ ((r ≡ b.reason) × ClashesWith infinitesimal_cmp bs b s)
  pub tighter : (o ≡ Tighter) ↔ ((¬ IsImplied infinitesimal_cmp bs b) × (¬ IsExcluded infinitesimal_cmp bs b))

module _ {S : Type 0} (stands_for : S → Infinitesimal) (order : S → S → Ordering) (same : (x y : S) → order x y ≡ infinitesimal_cmp (stands_for x) (stands_for y)) where
  pub tighter_to : (side : Side) (x y : S) → IsTighter order side x y → IsTighter infinitesimal_cmp side (stands_for x) (stands_for y)
  tighter_to Lower x y h = sym (same x y) ∙ h
  tighter_to Upper x y h = sym (same x y) ∙ h

  pub tighter_from : (side : Side) (x y : S) → IsTighter infinitesimal_cmp side (stands_for x) (stands_for y) → IsTighter order side x y
  tighter_from Lower x y h = same x y ∙ h
  tighter_from Upper x y h = same x y ∙ h

  apart_to : (side : Side) (x y : S) → AreApart order side x y → AreApart infinitesimal_cmp side (stands_for x) (stands_for y)
  apart_to Lower x y h = sym (same x y) ∙ h
  apart_to Upper x y h = sym (same y x) ∙ h

  apart_from : (side : Side) (x y : S) → AreApart infinitesimal_cmp side (stands_for x) (stands_for y) → AreApart order side x y
  apart_from Lower x y h = same x y ∙ h
  apart_from Upper x y h = same y x ∙ h

  on_to : (v : ℕ) (side : Side) (e : Asserted S) → IsOn v side e → IsOn v side (told stands_for e)
  on_to v side e on = record { var = on.var; side = on.side }

  on_from : (v : ℕ) (side : Side) (e : Asserted S) → IsOn v side (told stands_for e) → IsOn v side e
  on_from v side e on = record { var = on.var; side = on.side }

  module _ (list : List (Asserted S)) where
    abbrev numbers : List Held
    numbers = map (told stands_for) list

    pub implied_same : (b : Asserted S) → IsImplied order list b ↔ IsImplied infinitesimal_cmp numbers (told stands_for b)
    implied_same b = (
      any_mapped (told stands_for) (λ e. IsOn b.var b.side e × (¬ IsTighter order b.side b.value e.value))
          (λ e. IsOn b.var b.side e × (¬ IsTighter infinitesimal_cmp b.side (stands_for b.value) e.value))
          (λ e h. (on_to b.var b.side e h.0, λ t. h.1 (tighter_from b.side b.value e.value t))) list,
      any_unmapped (told stands_for) (λ e. IsOn b.var b.side e × (¬ IsTighter order b.side b.value e.value))
          (λ e. IsOn b.var b.side e × (¬ IsTighter infinitesimal_cmp b.side (stands_for b.value) e.value))
          (λ e h. (on_from b.var b.side e h.0, λ t. h.1 (tighter_to b.side b.value e.value t))) list,
    )

    pub excluded_same : (b : Asserted S) → IsExcluded order list b ↔ IsExcluded infinitesimal_cmp numbers (told stands_for b)
    excluded_same b = (
      any_mapped (told stands_for) (λ e. IsOn b.var (other_side b.side) e × AreApart order b.side b.value e.value)
          (λ e. IsOn b.var (other_side b.side) e × AreApart infinitesimal_cmp b.side (stands_for b.value) e.value)
          (λ e h. (on_to b.var (other_side b.side) e h.0, apart_to b.side b.value e.value h.1)) list,
      any_unmapped (told stands_for) (λ e. IsOn b.var (other_side b.side) e × AreApart order b.side b.value e.value)
          (λ e. IsOn b.var (other_side b.side) e × AreApart infinitesimal_cmp b.side (stands_for b.value) e.value)
          (λ e h. (on_from b.var (other_side b.side) e h.0, apart_from b.side b.value e.value h.1)) list,
    )

    tightest_to : (b : Asserted S) → IsTightest order list b → IsTightest infinitesimal_cmp numbers (told stands_for b)
    tightest_to b t = record {
      before = map (told stands_for) t.before;
      after = map (told stands_for) t.after;
      parts = ap (map (told stands_for)) t.parts ∙ map-append (told stands_for) t.before (b ∷ t.after);
      tightest =
          all_mapped (told stands_for) (λ e. IsOn b.var b.side e → ¬ IsTighter order b.side e.value b.value)
          (λ e. IsOn b.var b.side e → ¬ IsTighter infinitesimal_cmp b.side e.value (stands_for b.value))
          (λ e h on t. h (on_from b.var b.side e on) (tighter_from b.side e.value b.value t)) list t.tightest;
      first =
          all_mapped (told stands_for) (λ e. IsOn b.var b.side e → IsTighter order b.side b.value e.value)
          (λ e. IsOn b.var b.side e → IsTighter infinitesimal_cmp b.side (stands_for b.value) e.value)
          (λ e h on. tighter_to b.side b.value e.value (h (on_from b.var b.side e on))) t.before t.first;
    }

    tightest_from : (h : Held) → IsTightest infinitesimal_cmp numbers h → (b : Asserted S) × (told stands_for b ≡ h) × IsTightest order list b
    tightest_from h t =
        let found = unmapped_parts (told stands_for) list t.before h t.after t.parts in
        let b = found.1 in
        let at : IsTightest infinitesimal_cmp numbers (told stands_for b) = subst (IsTightest infinitesimal_cmp numbers) (sym found.5) t in
        let front : All (λ e. IsOn b.var b.side e → IsTighter infinitesimal_cmp b.side (stands_for b.value) e.value) (map (told stands_for) found.0) =
        subst
        (λ (l : List Held). All (λ e. IsOn b.var b.side e → IsTighter infinitesimal_cmp b.side (stands_for b.value) e.value) l) (sym found.4)
        (subst (λ (g : Held). All (λ e. IsOn g.var g.side e → IsTighter infinitesimal_cmp g.side g.value e.value) t.before) (sym found.5) t.first) in (
          b,
          found.5,
          record {
            before = found.0;
            after = found.2;
            parts = found.3;
            tightest =
                all_unmapped (told stands_for) (λ e. IsOn b.var b.side e → ¬ IsTighter order b.side e.value b.value)
                (λ e. IsOn b.var b.side e → ¬ IsTighter infinitesimal_cmp b.side e.value (stands_for b.value))
                (λ e g on t. g (on_to b.var b.side e on) (tighter_to b.side e.value b.value t)) list at.tightest;
            first =
                all_unmapped (told stands_for) (λ e. IsOn b.var b.side e → IsTighter order b.side b.value e.value)
                (λ e. IsOn b.var b.side e → IsTighter infinitesimal_cmp b.side (stands_for b.value) e.value)
                (λ e g on. tighter_from b.side b.value e.value (g (on_to b.var b.side e on))) found.0 front;
          },
        )

    pub clash_same : (b : Asserted S) (other : ℕ) → ClashesWith order list b other ↔ ClashesWith infinitesimal_cmp numbers (told stands_for b) other
    clash_same b other = (to, from)
      where
        to : ClashesWith order list b other → ClashesWith infinitesimal_cmp numbers (told stands_for b) other
        to c = record {
          value = stands_for c.value;
          tightest = tightest_to (asserted b.var (other_side b.side) c.value other) c.tightest;
          apart = apart_to b.side b.value c.value c.apart;
        }

        from : ClashesWith infinitesimal_cmp numbers (told stands_for b) other → ClashesWith order list b other
        from c =
            let found = tightest_from (asserted b.var (other_side b.side) c.value other) c.tightest in
            let e = found.0 in
            let value : stands_for e.value ≡ c.value = ap (λ (h : Held). h.value) found.1 in
            let var : e.var ≡ b.var = ap (λ (h : Held). h.var) found.1 in
            let side : e.side ≡ other_side b.side = ap (λ (h : Held). h.side) found.1 in
            let reason : e.reason ≡ other = ap (λ (h : Held). h.reason) found.1 in
            let is : e ≡ asserted b.var (other_side b.side) e.value other =
            ap (λ (v : ℕ). asserted v e.side e.value e.reason) var
            ∙ ap (λ (s : Side). asserted b.var s e.value e.reason) side
            ∙ ap (asserted b.var (other_side b.side) e.value) reason in
            record {
              value = e.value;
              tightest = subst (IsTightest order list) is found.2;
              apart = apart_from b.side b.value e.value (subst (λ (x : Infinitesimal). AreApart infinitesimal_cmp b.side (stands_for b.value) x) (sym value) c.apart);
            }

    -- ---- What comes of a bound

    -- a bound that is to stand
    pub stands_shown : (b : Asserted S) → (¬ IsImplied order list b) × (¬ IsExcluded order list b)
        → (¬ IsImplied infinitesimal_cmp numbers (told stands_for b)) × (¬ IsExcluded infinitesimal_cmp numbers (told stands_for b))
    stands_shown b p = (λ i. p.0 ((implied_same b).1 i), λ x. p.1 ((excluded_same b).1 x))

    pub outcome_shown : (b : Asserted S) (o : AssertOutcome) → (o ≡ Kept) ↔ IsImplied order list b → ((r : ℕ) → (s : ℕ) → (o ≡ Clash r s) ↔ ((r ≡ b.reason) × ClashesWith order list b s))
        → (o ≡ Tighter) ↔ ((¬ IsImplied order list b) × (¬ IsExcluded order list b)) → Tells numbers (told stands_for b) o
    outcome_shown b o kept clash tighter = record {
      kept = (λ e. (implied_same b).0 (kept.0 e), λ i. kept.1 ((implied_same b).1 i));
      clash = λ r s. (
        λ e. let there = (clash r s).0 e in (there.0, (clash_same b s).0 there.1),
        λ p. (clash r s).1 (p.0, (clash_same b s).1 p.1),
      );
      tighter = (
        λ e. stands_shown b (tighter.0 e),
        λ p. tighter.1 (λ i. p.0 ((implied_same b).0 i), λ x. p.1 ((excluded_same b).0 x)),
      );
    }
