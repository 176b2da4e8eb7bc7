-- One bound more: what stands then, and the position with it.
use Rattle.std.proofs.Common.{◌≡◌, ℕ, suc, ◌⊎◌, inl, inr, Bool, true, false, List, [], ◌∷◌, ◌++◌, map, Option, Some, None, refl, sym, ap, ◌∙◌, subst, true≢false, arith}
use Rattle.std.specs.Prelude.{◌==◌, ◌&&◌, Any, fold, option_map, slice_index_or, unwrap_or, if◌then◌else◌}
use Rattle.std.specs.Ordering.{ordering_reverse}
use Rattle.std.specs.declared.cmp.Ordering.{Ordering}
use Rattle.std.specs.Cmp.{IsTotalOrder}
use Rattle.std.proofs.lemmas.List.Sums.{fold_push}
use Rattle.nz_lists.proofs.Places.{slice_index_or-map}
use Rattle.nz_lists.proofs.Numbers.{equal-number, other-number, same-number}
use Rattle.nz_fractions.specs.Fraction.{Fraction}
use Rattle.nz_spec.specs.numbers.Infinitesimal.{Infinitesimal, infinitesimal_cmp}
use Rattle.nz_spec.specs.simplex.Bland.{IsOutside, Position}
use Rattle.nz_spec.specs.simplex.PositionMoves.{bounds_with, is_outside, moved_within}
use Rattle.nz_tab.specs.Tables.{Table}
use Rattle.nz_trail.specs.Bounds.{AreApart, Asserted, IsExcluded, IsImplied, IsOn, TrailState, asserted, other_side}
use Rattle.nz_trail.specs.declared.limits.Side.{Side}
use Rattle.nz_trail.specs.declared.limits.Side.TheVariants.{Lower, Upper}
use Rattle.nz_simplex.specs.Choices.{is_moving, is_past_known}
use Rattle.nz_simplex.specs.Standing.{Held, half, is_side, is_bound_of, is_news, standing_with, standing, bound_in, told}
use Rattle.nz_simplex.specs.State.{State, nonbasic_in, value_in, point_in}
use Rattle.nz_simplex.specs.Stored.{state_of}
use Rattle.nz_simplex.specs.Tabled.{marks_in}
use Rattle.nz_simplex.proofs.Standings.{on_told, tighter_news, side_same}

-- ---- What stands was asserted

any_here : {X : Type 0} (P : X → Type 0) (x : X) (xs : List X) → P x → Any P (x ∷ xs)
any_here P x xs p = (0, x, omega arith, refl, p)

any_there : {X : Type 0} (P : X → Type 0) (x : X) (xs : List X) → Any P xs → Any P (x ∷ xs)
any_there P x xs (k, y, inside, at, p) = (suc k, y, omega (arith, inside), at, p)

some_same : (h g : Held) → Some h ≡ Some g → h ≡ g
some_same h g e = ap (λ (o : Option Held). unwrap_or o h) e

module _ {S : Type 0} (stands_for : S → Infinitesimal) (order : S → S → Ordering) (total : IsTotalOrder order)
    (same : (x y : S) → order x y ≡ infinitesimal_cmp (stands_for x) (stands_for y)) where
  module _ (v : ℕ) (side : Side) (h : Held) where
    abbrev IsIt : Asserted S → Type 0
    IsIt e = IsOn v side e × (told stands_for e ≡ h)

    one_taken : (o : Option Held) (e : Asserted S) (es : List (Asserted S)) → standing_with v side o (told stands_for e) ≡ Some h → (o ≡ Some h) ⊎ Any IsIt (e ∷ es)
    one_taken o e es = by_tests (is_bound_of v side (told stands_for e)) (is_news side (stands_for e.value) o) refl
      where
        by_tests : (b c : Bool) → is_bound_of v side (told stands_for e) ≡ b → (if b && c then Some (told stands_for e) else o) ≡ Some h → (o ≡ Some h) ⊎ Any IsIt (e ∷ es)
        by_tests true true t is = inr (any_here IsIt e es (on_told stands_for order total same v side e t, some_same (told stands_for e) h is))
        by_tests true false t is = inl is
        by_tests false c t is = inl is

    asserted_there : (o : Option Held) (list : List (Asserted S)) → fold (standing_with v side) o (map (told stands_for) list) ≡ Some h → (o ≡ Some h) ⊎ Any IsIt list
    asserted_there o [] is = inl is
    asserted_there o (e ∷ es) is = by_case (asserted_there (standing_with v side o (told stands_for e)) es is)
      where
        by_case : (standing_with v side o (told stands_for e) ≡ Some h) ⊎ Any IsIt es → (o ≡ Some h) ⊎ Any IsIt (e ∷ es)
        by_case (inl first) = one_taken o e es first
        by_case (inr rest) = inr (any_there IsIt e es rest)

    standing_there : (list : List (Asserted S)) → standing (map (told stands_for) list) v side ≡ Some h → Any IsIt list
    standing_there list is = by_case (asserted_there None list is)
      where
        by_case : (None ≡ Some h) ⊎ Any IsIt list → Any IsIt list
        by_case (inl none) = absurd (cc)
        by_case (inr found) = found

  module _ (list : List (Asserted S)) (b : Asserted S) where
    -- what isn't implied is news
    pub news_told : ¬ IsImplied order list b → is_news b.side (stands_for b.value) (standing (map (told stands_for) list) b.var b.side) ≡ true
    news_told news = by_standing (standing (map (told stands_for) list) b.var b.side) refl
      where
        by_test : (h : Held) → Any (IsIt b.var b.side h) list → (c : Bool) → is_outside (half b.side) (stands_for b.value) h.value ≡ c → c ≡ true
        by_test h found true e = refl
        by_test h (k, x, inside, at, there) false e =
            absurd
            (news (
              k,
              x,
              inside,
              at,
              (
                there.0,
                λ tighter.
                    true≢false
                    (sym (tighter_news stands_for order total same b.side b.value x.value tighter)
                    ∙ ap (λ (g : Held). is_outside (half b.side) (stands_for b.value) g.value) there.1
                    ∙ e),
              ),
            ))

        by_standing : (o : Option Held) → standing (map (told stands_for) list) b.var b.side ≡ o → is_news b.side (stands_for b.value) o ≡ true
        by_standing None e = refl
        by_standing (Some h) e = by_test h (standing_there b.var b.side h list e) (is_outside (half b.side) (stands_for b.value) h.value) refl

    apart_told : (side : Side) (x y : S) → IsOutside (half (other_side side)) (stands_for y) (stands_for x) → AreApart order side x y
    apart_told Lower x y h = total.antisymm x y ∙ ap ordering_reverse (same y x ∙ h)
    apart_told Upper x y h = total.antisymm y x ∙ ap ordering_reverse (same x y ∙ h)

    -- what isn't excluded leaves the form a value
    pub value_left : ¬ IsExcluded order list b → (other : Infinitesimal) → bound_in (map (told stands_for) list) (other_side b.side) b.var ≡ Some other
        → IsOutside (half (other_side b.side)) other (stands_for b.value) → ⊥
    value_left agrees other = by_standing (standing (map (told stands_for) list) b.var (other_side b.side)) refl
      where
        by_standing : (o : Option Held) → standing (map (told stands_for) list) b.var (other_side b.side) ≡ o → option_map (λ (h : Held). h.value) o ≡ Some other
            → IsOutside (half (other_side b.side)) other (stands_for b.value) → ⊥
        by_standing None e is out = absurd (cc)
        by_standing (Some h) e is out =
            let found = standing_there b.var (other_side b.side) h list e in
            let x = found.1 in
            let value : other ≡ stands_for x.value = sym (ap (λ (o : Option Infinitesimal). unwrap_or o other) is) ∙ ap (λ (g : Held). g.value) (sym found.4.1) in
            agrees (
              found.0,
              x,
              found.2,
              found.3,
              (found.4.0, apart_told b.side b.value x.value (subst (λ (z : Infinitesimal). IsOutside (half (other_side b.side)) z (stands_for b.value)) value out)),
            )

-- ---- What stands with one bound more

swapped : (k v : ℕ) → (v == k) ≡ (k == v)
swapped k v = by_test (k == v) refl
  where
    by_test : (b : Bool) → (k == v) ≡ b → (v == k) ≡ b
    by_test true e = equal-number v k (sym (same-number k v e))
    by_test false e = other-number v k (λ (is : v ≡ k). true≢false (sym (equal-number k v (sym is)) ∙ e))

module _ (bs : List Held) (b : Held) (news : is_news b.side b.value (standing bs b.var b.side) ≡ true) (k : ℕ) (side : Side) where
  standing_more : standing (bs ++ b ∷ []) k side ≡ (if (k == b.var) && is_side side b.side then Some b else standing bs k side)
  standing_more = fold_push (standing_with k side) None bs b ∙ ap (λ (c : Bool). if (c && is_side side b.side) && is_news side b.value (standing bs k side) then Some b else standing bs k side) (swapped k b.var) ∙ by_tests (k == b.var) (is_side side b.side) refl refl
    where
      by_tests : (c d : Bool) → (k == b.var) ≡ c → is_side side b.side ≡ d
          → (if (c && d) && is_news side b.value (standing bs k side) then Some b else standing bs k side) ≡ (if c && d then Some b else standing bs k side)
      by_tests true true e f =
          let own : is_news side b.value (standing bs k side) ≡ true =
          subst (λ (n : ℕ). is_news side b.value (standing bs n side) ≡ true) (sym (same-number k b.var e))
          (subst (λ (s : Side). is_news s b.value (standing bs b.var s) ≡ true) (side_same side b.side f) news) in
          ap (λ (c : Bool). if c then Some b else standing bs k side) own
      by_tests true false e f = refl
      by_tests false d e f = refl

module _ (p : Position) (bs : List Held) (lower : p.lower ≡ bound_in bs Lower) (upper : p.upper ≡ bound_in bs Upper) (v : ℕ) (x : Infinitesimal) (r : ℕ) where
  pub bound_more : (side own : Side) (k : ℕ) → is_news own x (standing bs v own) ≡ true → bound_in (bs ++ asserted v own x r ∷ []) side k ≡ bounds_with (half side) (half own) p v x k
  bound_more side own k news = ap (option_map (λ (h : Held). h.value)) (standing_more bs (asserted v own x r) news k side) ∙ by_sides side own
    where
      taken : (c : Bool) (o : Option Held) → option_map (λ (h : Held). h.value) (if c && true then Some (asserted v own x r) else o) ≡ (if c then Some x else option_map (λ (h : Held). h.value) o)
      taken true o = refl
      taken false o = refl

      passed : (c : Bool) (o : Option Held) → option_map (λ (h : Held). h.value) (if c && false then Some (asserted v own x r) else o) ≡ option_map (λ (h : Held). h.value) o
      passed true o = refl
      passed false o = refl

      by_sides : (a b : Side) → option_map (λ (h : Held). h.value) (if (k == v) && is_side a b then Some (asserted v own x r) else standing bs k a) ≡ bounds_with (half a) (half b) p v x k
      by_sides Lower Lower = taken (k == v) (standing bs k Lower) ∙ ap (λ (f : ℕ → Option Infinitesimal). if k == v then Some x else f k) (sym lower)
      by_sides Lower Upper = passed (k == v) (standing bs k Lower) ∙ ap (λ (f : ℕ → Option Infinitesimal). f k) (sym lower)
      by_sides Upper Lower = passed (k == v) (standing bs k Upper) ∙ ap (λ (f : ℕ → Option Infinitesimal). f k) (sym upper)
      by_sides Upper Upper = taken (k == v) (standing bs k Upper) ∙ ap (λ (f : ℕ → Option Infinitesimal). if k == v then Some x else f k) (sym upper)

-- ---- The point with one bound more

module _ {S : Type 0} (stands_for : S → Infinitesimal) (side : Side) (bound : S) where
  abbrev pub within : Option Infinitesimal → Option Infinitesimal
  within o = option_map (moved_within (half side) (stands_for bound)) o

  -- a value within the bound stays, and another one comes to it
  value_within : (o : Option S) → is_past_known stands_for side bound o ≡ false → within (option_map stands_for o) ≡ option_map stands_for o
  value_within None e = refl
  value_within (Some x) e = ap (λ (b : Bool). Some (if b then stands_for bound else stands_for x)) e

  value_past : (o : Option S) → is_past_known stands_for side bound o ≡ true → within (option_map stands_for o) ≡ Some (stands_for bound)
  value_past None e = absurd (true≢false (sym e))
  value_past (Some x) e = ap (λ (b : Bool). Some (if b then stands_for bound else stands_for x)) e

  module _ (tab : Table) (trail : TrailState S) (values : List (Option S)) (why : List (ℕ × Fraction)) (v : ℕ) where
    abbrev here : State
    here = state_of stands_for tab trail values why

    known_value : value_in here v ≡ option_map stands_for (slice_index_or values v None)
    known_value = slice_index_or-map (option_map stands_for) values v None

    pub point_kept : is_moving stands_for (marks_in tab) values v side bound ≡ false → (k : ℕ) → point_in here k ≡ (if k == v then within (point_in here k) else point_in here k)
    point_kept still k = by_test (k == v) refl
      where
        by_mark : (b : Bool) → nonbasic_in here v ≡ b → (b && is_past_known stands_for side bound (slice_index_or values v None)) ≡ false
            → (if b then value_in here v else None) ≡ within (if b then value_in here v else None)
        by_mark true e h = known_value ∙ sym (value_within (slice_index_or values v None) h) ∙ ap within (sym known_value)
        by_mark false e h = refl

        by_test : (b : Bool) → (k == v) ≡ b → point_in here k ≡ (if b then within (point_in here k) else point_in here k)
        by_test true e = subst (λ (n : ℕ). point_in here n ≡ within (point_in here n)) (sym (same-number k v e)) (by_mark (nonbasic_in here v) refl still)
        by_test false e = refl

    pub moving_marked : is_moving stands_for (marks_in tab) values v side bound ≡ true → nonbasic_in here v ≡ true
    moving_marked = by_mark (nonbasic_in here v)
      where
        by_mark : (b : Bool) → (b && is_past_known stands_for side bound (slice_index_or values v None)) ≡ true → b ≡ true
        by_mark true e = refl
        by_mark false e = e

    pub moving_point : is_moving stands_for (marks_in tab) values v side bound ≡ true → within (point_in here v) ≡ Some (stands_for bound)
    moving_point = by_mark (nonbasic_in here v)
      where
        by_mark : (b : Bool) → (b && is_past_known stands_for side bound (slice_index_or values v None)) ≡ true → within (if b then value_in here v else None) ≡ Some (stands_for bound)
        by_mark true e = ap within known_value ∙ value_past (slice_index_or values v None) e
        by_mark false e = absurd (true≢false (sym e))
