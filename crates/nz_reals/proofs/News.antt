-- Whether a bound is tighter than what stands.
use Rattle.std.proofs.Common.{◌≡◌, ℕ, ◌⊎◌, inl, inr, Bool, true, false, List, [], ◌∷◌, Option, Some, None, refl, sym, ap, ap₂, ◌∙◌, subst, true≢false, arith, Less, Equal, Greater, Ordering}
use Rattle.std.proofs.lemmas.Bool.{false_from_ne_true}
use Rattle.std.specs.Prelude.{◌==◌, ◌&&◌, Contains, fold, if◌then◌else◌}
use Rattle.std.specs.Ordering.{is_lt, ordering_reverse}
use Rattle.std.specs.Cmp.{first_so, second_so}
use Rattle.nz_lists.proofs.Members.{has_cases}
use Rattle.nz_lists.proofs.Numbers.{equal-number, same-number}
use Rattle.nz_spec.specs.numbers.Infinitesimal.{Infinitesimal, infinitesimal_cmp, InfinitesimalsAreOrdered}
use Rattle.nz_spec.specs.simplex.PositionMoves.{is_outside}
use Rattle.nz_trail.specs.Bounds.{IsImplied, IsOn, IsTighter}
use Rattle.nz_trail.specs.declared.limits.Side.{Side}
use Rattle.nz_trail.specs.declared.limits.Side.TheVariants.{Lower, Upper}
use Rattle.nz_simplex.specs.Standing.{Held, half, is_bound_of, is_news, is_side, standing, standing_with}
use Rattle.nz_reals.proofs.Whys.{stands_among}

-- ---- Tighter

-- x isn't tighter than y
abbrev Slack : Side → Infinitesimal → Infinitesimal → Type 0
Slack side x y = is_outside (half side) x y ≡ false

less_told : (o : Ordering) → is_lt o ≡ true → o ≡ Less
less_told Less e = refl
less_told Equal e = absurd (true≢false (sym e))
less_told Greater e = absurd (true≢false (sym e))

module _ (order : InfinitesimalsAreOrdered) where
  slack_all : (side : Side) (x y z : Infinitesimal) → Slack side x y → Slack side y z → Slack side x z
  slack_all Lower x y z h k = false_from_ne_true (is_outside (half Lower) x z) (λ t.
      let less = order.less_at_most z x y (less_told (infinitesimal_cmp z x) t) (order.at_most x y (λ e. true≢false (sym (ap is_lt e) ∙ h))) in
      true≢false (sym (ap is_lt less) ∙ k))
  slack_all Upper x y z h k = false_from_ne_true (is_outside (half Upper) x z) (λ t.
      let less = order.at_most_less y x z (order.at_most y x (λ e. true≢false (sym (ap is_lt e) ∙ h))) (less_told (infinitesimal_cmp x z) t) in
      true≢false (sym (ap is_lt less) ∙ k))

  -- what isn't tighter than something isn't tighter than what is
  slack_news : (side : Side) (x y z : Infinitesimal) → Slack side x z → is_outside (half side) y z ≡ true → Slack side x y
  slack_news Lower x y z h t = false_from_ne_true (is_outside (half Lower) x y) (λ u.
      let less = order.total.trans z y x (less_told (infinitesimal_cmp z y) t) (less_told (infinitesimal_cmp y x) u) in
      true≢false (sym (ap is_lt less) ∙ h))
  slack_news Upper x y z h t = false_from_ne_true (is_outside (half Upper) x y) (λ u.
      let less = order.total.trans x y z (less_told (infinitesimal_cmp x y) u) (less_told (infinitesimal_cmp y z) t) in
      true≢false (sym (ap is_lt less) ∙ h))

  slack_itself : (side : Side) (x : Infinitesimal) → Slack side x x
  slack_itself Lower x = false_from_ne_true (is_outside (half Lower) x x) (λ t. order.never_less x (less_told (infinitesimal_cmp x x) t))
  slack_itself Upper x = false_from_ne_true (is_outside (half Upper) x x) (λ t. order.never_less x (less_told (infinitesimal_cmp x x) t))

  -- in the words of a trail
  slack_is : (side : Side) (x y : Infinitesimal) → ¬ IsTighter infinitesimal_cmp side x y → Slack side x y
  slack_is Lower x y n = false_from_ne_true (is_outside (half Lower) x y) (λ t. n (order.total.antisymm x y ∙ ap ordering_reverse (less_told (infinitesimal_cmp y x) t)))
  slack_is Upper x y n = false_from_ne_true (is_outside (half Upper) x y) (λ t. n (less_told (infinitesimal_cmp x y) t))

  is_slack : (side : Side) (x y : Infinitesimal) → Slack side x y → ¬ IsTighter infinitesimal_cmp side x y
  is_slack Lower x y h t = true≢false (sym (ap is_lt (order.total.antisymm y x ∙ ap ordering_reverse t)) ∙ h)
  is_slack Upper x y h t = true≢false (sym (ap is_lt t) ∙ h)

-- ---- What stands

abbrev NotNews : Side → Infinitesimal → Option Held → Type 0
NotNews side x o = is_news side x o ≡ false

module _ (order : InfinitesimalsAreOrdered) (v : ℕ) (side : Side) where
  keeps_one : (x : Infinitesimal) (o : Option Held) (e : Held) → NotNews side x o → NotNews side x (standing_with v side o e)
  keeps_one x o e h = by_test (is_bound_of v side e) (is_news side e.value o) refl o h
    where
      by_news : (p : Option Held) → is_news side e.value p ≡ true → NotNews side x p → NotNews side x (Some e)
      by_news None t k = absurd (true≢false k)
      by_news (Some y) t k = slack_news order side x e.value y.value k t

      by_test : (m n : Bool) → is_news side e.value o ≡ n → (p : Option Held) → NotNews side x o → NotNews side x (if m && n then Some e else o)
      by_test true true t p k = by_news o t k
      by_test true false t p k = k
      by_test false n t p k = k

  keeps : (x : Infinitesimal) (o : Option Held) (es : List Held) → NotNews side x o → NotNews side x (fold (standing_with v side) o es)
  keeps x o [] h = h
  keeps x o (e ∷ es) h = keeps x (standing_with v side o e) es (keeps_one x o e h)

  finds_one : (o : Option Held) (e : Held) → is_bound_of v side e ≡ true → NotNews side e.value (standing_with v side o e)
  finds_one o e on = by_test (is_bound_of v side e) (is_news side e.value o) on refl
    where
      by_test : (m n : Bool) → m ≡ true → is_news side e.value o ≡ n → NotNews side e.value (if m && n then Some e else o)
      by_test true true f t = slack_itself order side e.value
      by_test true false f t = t
      by_test false n f t = absurd (true≢false (sym f))

  pub finds : (o : Option Held) (es : List Held) (e : Held) → Contains es e → is_bound_of v side e ≡ true → NotNews side e.value (fold (standing_with v side) o es)
  finds o [] e h on = absurd (omega (arith, h.1))
  finds o (x ∷ xs) e h on = by_case (λ more. finds (standing_with v side o x) xs e more on) (has_cases x e xs h)
    where
      by_case : (Contains xs e → NotNews side e.value (fold (standing_with v side) (standing_with v side o x) xs)) → (x ≡ e) ⊎ Contains xs e → NotNews side e.value (fold (standing_with v side) (standing_with v side o x) xs)
      by_case rest (inl same) =
          subst (λ (y : Held). NotNews side e.value (fold (standing_with v side) (standing_with v side o y) xs)) (sym same)
          (keeps e.value (standing_with v side o e) xs (finds_one o e on))
      by_case rest (inr more) = rest more

-- ---- Bounds that say nothing new, and others

side_itself : (side : Side) → is_side side side ≡ true
side_itself Lower = refl
side_itself Upper = refl

bound_is_of : (v : ℕ) (side : Side) (e : Held) → IsOn v side e → is_bound_of v side e ≡ true
bound_is_of v side e on =
    ap₂ (λ (a b : Bool). a && b) (ap (λ (n : ℕ). n == v) on.var ∙ equal-number v v refl) (ap (λ (s : Side). is_side side s) on.side ∙ side_itself side)

side_told : (side other : Side) → is_side side other ≡ true → other ≡ side
side_told Lower Lower e = refl
side_told Lower Upper e = absurd (true≢false (sym e))
side_told Upper Lower e = absurd (true≢false (sym e))
side_told Upper Upper e = refl

of_bound : (v : ℕ) (side : Side) (e : Held) → is_bound_of v side e ≡ true → IsOn v side e
of_bound v side e t = record { var = same-number e.var v (first_so (e.var == v) (is_side side e.side) t); side = side_told side e.side (second_so (e.var == v) (is_side side e.side) t) }

-- where one is at least as tight, what stands is
pub implied_old : InfinitesimalsAreOrdered → (bs : List Held) (b : Held) → IsImplied infinitesimal_cmp bs b → is_news b.side b.value (standing bs b.var b.side) ≡ false
implied_old order bs b implied =
    let e = implied.1 in
    let on = implied.4.0 in
    let slack = slack_is order b.side b.value e.value implied.4.1 in
    by_case (standing bs b.var b.side) (finds order b.var b.side None bs e (implied.0, implied.2, implied.3) (bound_is_of b.var b.side e on)) slack
  where
    by_case : (o : Option Held) → NotNews b.side implied.1.value o → Slack b.side b.value implied.1.value → NotNews b.side b.value o
    by_case None h k = absurd (true≢false h)
    by_case (Some y) h k = slack_all order b.side b.value implied.1.value y.value k h

-- and where none is, it isn't
pub other_news : InfinitesimalsAreOrdered → (bs : List Held) (b : Held) → ¬ IsImplied infinitesimal_cmp bs b → is_news b.side b.value (standing bs b.var b.side) ≡ true
other_news order bs b none = by_case (standing bs b.var b.side) refl
  where
    by_test : (y : Held) → standing bs b.var b.side ≡ Some y → (t : Bool) → is_outside (half b.side) b.value y.value ≡ t → t ≡ true
    by_test y e true f = refl
    by_test y e false f =
        let among = stands_among bs b.var b.side y e in
        let has = among.has in
        absurd (none (has.0, y, has.1, has.2, (of_bound b.var b.side y among.of, is_slack order b.side b.value y.value f)))

    by_case : (o : Option Held) → standing bs b.var b.side ≡ o → is_news b.side b.value o ≡ true
    by_case None e = refl
    by_case (Some y) e = by_test y e (is_outside (half b.side) b.value y.value) refl
