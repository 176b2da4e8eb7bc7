-- What a trail tells that stands is what stands of the numbers.
use Rattle.std.proofs.Common.{◌≡◌, ℕ, Bool, true, false, List, [], ◌∷◌, ◌++◌, map, Option, Some, None, refl, sym, ap, ap₂, ◌∙◌, subst, true≢false}
use Rattle.std.specs.Prelude.{◌==◌, ◌&&◌, All, fold, option_map, if◌then◌else◌}
use Rattle.std.specs.Ordering.{is_lt, ordering_reverse}
use Rattle.std.specs.declared.cmp.Ordering.{Ordering}
use Rattle.std.specs.declared.cmp.Ordering.TheVariants.{Less, Equal, Greater}
use Rattle.std.specs.Cmp.{IsTotalOrder}
use Rattle.std.proofs.lemmas.List.Elements.{All-head, All-tail}
use Rattle.std.proofs.lemmas.Bool.{and_parts}
use Rattle.nz_lists.proofs.Numbers.{equal-number, same-number}
use Rattle.nz_spec.specs.numbers.Infinitesimal.{Infinitesimal, infinitesimal_cmp}
use Rattle.nz_spec.specs.simplex.PositionMoves.{is_outside}
use Rattle.nz_trail.specs.Bounds.{Asserted, IsOn, IsTighter, Stands, asserted}
use Rattle.nz_trail.specs.declared.limits.Limit.{Limit}
use Rattle.nz_trail.specs.declared.limits.Side.{Side}
use Rattle.nz_trail.specs.declared.limits.Side.TheVariants.{Lower, Upper}
use Rattle.nz_simplex.specs.Standing.{Held, half, is_side, is_bound_of, is_news, standing_with, standing, told, told_on}

-- ---- Tests

not_less : (o : Ordering) → ¬ (o ≡ Less) → is_lt o ≡ false
not_less Less n = absurd (n refl)
not_less Equal n = refl
not_less Greater n = refl

not_greater : (o : Ordering) → ¬ (o ≡ Greater) → is_lt (ordering_reverse o) ≡ false
not_greater Less n = refl
not_greater Equal n = refl
not_greater Greater n = absurd (n refl)

side_itself : (side : Side) → is_side side side ≡ true
side_itself Lower = refl
side_itself Upper = refl

pub side_same : (side other : Side) → is_side side other ≡ true → other ≡ side
side_same Lower Lower e = refl
side_same Lower Upper e = cc
side_same Upper Lower e = cc
side_same Upper Upper e = refl

module _ {S : Type 0} (stands_for : S → Infinitesimal) (order : S → S → Ordering) (total : IsTotalOrder order)
    (same : (x y : S) → order x y ≡ infinitesimal_cmp (stands_for x) (stands_for y)) where
  pub tighter_news : (side : Side) (x y : S) → IsTighter order side x y → is_outside (half side) (stands_for x) (stands_for y) ≡ true
  tighter_news Lower x y e = ap is_lt (sym (same y x) ∙ total.antisymm y x ∙ ap ordering_reverse e)
  tighter_news Upper x y e = ap is_lt (sym (same x y) ∙ e)

  slack_kept : (side : Side) (x y : S) → ¬ IsTighter order side x y → is_outside (half side) (stands_for x) (stands_for y) ≡ false
  slack_kept Lower x y n = ap is_lt (sym (same y x) ∙ total.antisymm y x) ∙ not_greater (order x y) n
  slack_kept Upper x y n = ap is_lt (sym (same x y)) ∙ not_less (order x y) n

  module _ (v : ℕ) (side : Side) where
    pub on_told : (e : Asserted S) → is_bound_of v side (told stands_for e) ≡ true → IsOn v side e
    on_told e t = record {
      var = same-number e.var v (and_parts (e.var == v) (is_side side e.side) t).0;
      side = side_same side e.side (and_parts (e.var == v) (is_side side e.side) t).1;
    }

    -- what stands before the tightest is looser
    news_step : (x : S) (e : Asserted S) (o : Option Held) → is_news side (stands_for x) o ≡ true → (IsOn v side e → IsTighter order side x e.value)
        → is_news side (stands_for x) (standing_with v side o (told stands_for e)) ≡ true
    news_step x e o news first = by_test (is_bound_of v side (told stands_for e)) (is_news side (stands_for e.value) o) refl
      where
        by_test : (m n : Bool) → is_bound_of v side (told stands_for e) ≡ m → is_news side (stands_for x) (if m && n then Some (told stands_for e) else o) ≡ true
        by_test true true t = tighter_news side x e.value (first (on_told e t))
        by_test true false t = news
        by_test false n t = news

    news_before : (x : S) (before : List (Asserted S)) (o : Option Held) → is_news side (stands_for x) o ≡ true → All (λ e. IsOn v side e → IsTighter order side x e.value) before
        → is_news side (stands_for x) (fold (standing_with v side) o (map (told stands_for) before)) ≡ true
    news_before x [] o news first = news
    news_before x (e ∷ es) o news first =
        news_before x es (standing_with v side o (told stands_for e))
        (news_step x e o news (All-head (λ b. IsOn v side b → IsTighter order side x b.value) e es first))
        (All-tail (λ b. IsOn v side b → IsTighter order side x b.value) e es first)

    -- what comes behind the tightest changes nothing
    kept_step : (x : S) (r : ℕ) (e : Asserted S) → (IsOn v side e → ¬ IsTighter order side e.value x)
        → standing_with v side (Some (told stands_for (asserted v side x r))) (told stands_for e) ≡ Some (told stands_for (asserted v side x r))
    kept_step x r e tightest = by_test (is_bound_of v side (told stands_for e)) (is_outside (half side) (stands_for e.value) (stands_for x)) refl refl
      where
        by_test : (m n : Bool) → is_bound_of v side (told stands_for e) ≡ m → is_outside (half side) (stands_for e.value) (stands_for x) ≡ n
            → (if m && n then Some (told stands_for e) else Some (told stands_for (asserted v side x r))) ≡ Some (told stands_for (asserted v side x r))
        by_test true true t u = absurd (true≢false (sym u ∙ slack_kept side e.value x (tightest (on_told e t))))
        by_test true false t u = refl
        by_test false n t u = refl

    kept_after : (x : S) (r : ℕ) (after : List (Asserted S)) → All (λ e. IsOn v side e → ¬ IsTighter order side e.value x) after
        → fold (standing_with v side) (Some (told stands_for (asserted v side x r))) (map (told stands_for) after) ≡ Some (told stands_for (asserted v side x r))
    kept_after x r [] tightest = refl
    kept_after x r (e ∷ es) tightest =
        ap (λ (o : Option Held). fold (standing_with v side) o (map (told stands_for) es))
        (kept_step x r e (All-head (λ b. IsOn v side b → ¬ IsTighter order side b.value x) e es tightest))
        ∙ kept_after x r es (All-tail (λ b. IsOn v side b → ¬ IsTighter order side b.value x) e es tightest)

    none_step : (e : Asserted S) → ¬ IsOn v side e → standing_with v side None (told stands_for e) ≡ None
    none_step e off = by_test (is_bound_of v side (told stands_for e)) refl
      where
        by_test : (m : Bool) → is_bound_of v side (told stands_for e) ≡ m → (if m && true then Some (told stands_for e) else None) ≡ None
        by_test true t = absurd (off (on_told e t))
        by_test false t = refl

    none_stands : (list : List (Asserted S)) → All (λ e. ¬ IsOn v side e) list → fold (standing_with v side) None (map (told stands_for) list) ≡ None
    none_stands [] off = refl
    none_stands (e ∷ es) off =
        ap (λ (o : Option Held). fold (standing_with v side) o (map (told stands_for) es)) (none_step e (All-head (λ b. ¬ IsOn v side b) e es off))
        ∙ none_stands es (All-tail (λ b. ¬ IsOn v side b) e es off)

    taken : (x : S) (r : ℕ) (o : Option Held) → is_news side (stands_for x) o ≡ true
        → standing_with v side o (told stands_for (asserted v side x r)) ≡ Some (told stands_for (asserted v side x r))
    taken x r o news =
        ap₂ (λ (m n : Bool). if m && n then Some (told stands_for (asserted v side x r)) else o)
        (ap₂ (λ (a b : Bool). a && b) (equal-number v v refl) (side_itself side)) news

    folded : (o : Option Held) (xs ys : List (Asserted S))
        → fold (standing_with v side) o (map (told stands_for) (xs ++ ys)) ≡ fold (standing_with v side) (fold (standing_with v side) o (map (told stands_for) xs)) (map (told stands_for) ys)
    folded o [] ys = refl
    folded o (e ∷ es) ys = folded (standing_with v side o (told stands_for e)) es ys

    behind : (xs ys : List (Asserted S)) (P : Asserted S → Type 0) → All P (xs ++ ys) → All P ys
    behind [] ys P h = h
    behind (x ∷ xs) ys P h = behind xs ys P (All-tail P x (xs ++ ys) h)

    pub standing_told : (list : List (Asserted S)) (o : Option (Limit S)) → Stands order list v side o → option_map (told_on stands_for v side) o ≡ standing (map (told stands_for) list) v side
    standing_told list None off = sym (none_stands list off)
    standing_told list (Some l) t =
        let b = asserted v side l.value l.reason in
        let before = t.before in
        let after = t.after in
        let P : Asserted S → Type 0 = λ e. IsOn v side e → ¬ IsTighter order side e.value l.value in
        let all : All P (before ++ b ∷ after) = subst (All P) t.parts t.tightest in
        let later : All P after = All-tail P b after (behind before (b ∷ after) P all) in
        sym
        (ap (λ (bs : List (Asserted S)). fold (standing_with v side) None (map (told stands_for) bs)) t.parts
        ∙ folded None before (b ∷ after)
        ∙ ap (λ (o : Option Held). fold (standing_with v side) o (map (told stands_for) after))
        (taken l.value l.reason (fold (standing_with v side) None (map (told stands_for) before)) (news_before l.value before None refl t.first))
        ∙ kept_after l.value l.reason after later)
