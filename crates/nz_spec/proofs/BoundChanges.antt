-- What a literal does to a position when it is told, and when it is taken back.
use Rattle.std.proofs.Common.{◌≡◌, ℕ, Bool, true, false, List, [], ◌∷◌, ◌++◌, take, drop, Option, Some, None, refl, sym, ap, ◌∙◌, subst, true≢false, Ordering, Less, Equal, Greater, take-append-drop}
use Rattle.std.specs.Prelude.{◌==◌, ◌&&◌, fold, IfSome, is_some, option_map, unwrap_or, if◌then◌else◌}
use Rattle.std.specs.List.{list_any}
use Rattle.std.specs.Ordering.{is_lt}
use Rattle.std.proofs.lemmas.Bool.{and_parts, and_right}
use Rattle.std.proofs.lemmas.List.Sums.{fold-append, fold_push}
use Rattle.nz_lists.proofs.Numbers.{equal-number, same-number, other-number}
use Rattle.nz_spec.specs.numbers.Infinitesimal.{Infinitesimal, infinitesimal_cmp}
use Rattle.nz_spec.specs.terms.Form.{Part}
use Rattle.nz_spec.specs.clauses.Literal.{Literal}
use Rattle.nz_spec.specs.simplex.Bland.{Point, zero_infinitesimal, Position, Side, lower_side, upper_side, other_side, bound_on, IsOutside, NonbasicFormsFit}
use Rattle.nz_spec.specs.simplex.PositionMoves.{with_unit, with_form, is_outside, moved_within, with_bound, AreLooser}
use Rattle.nz_spec.specs.simplex.LiteralBounds.{is_unit_alone, is_unit_form, with_new_unit, joined, FormBound, bound_said, are_same_side, tighter_of, with_bound_said, tightest, position_under, moved_by, is_news, TellingSetsBounds}
use Rattle.nz_spec.proofs.InfinitesimalOrder.{=δ_refl, at_most-less, less-at_most}
use Rattle.nz_spec.proofs.BlandRefutes.{IsPast, past-equal}
use Rattle.nz_spec.proofs.ToldBounds.{IsPlain, IsTight, inside-past, same_side, after, stays-tight, stays-plain, bound-is}

-- ---- Positions that are one

-- they have the same forms, point and bounds
same-position : (p q : Position) → p.forms ≡ q.forms → ((k : ℕ) → p.point k ≡ q.point k)
    → ((side : Side) (k : ℕ) → bound_on side p k ≡ bound_on side q k) → p ≡ q
same-position p q forms point bounds =
    λ e. record { forms = forms e; point = λ k. point k e; lower = λ k. bounds lower_side k e; upper = λ k. bounds upper_side k e }

-- ---- Values that are outside

less_told : (o : Ordering) → is_lt o ≡ true → o ≡ Less
less_told Less e = refl
less_told Equal e = absurd (true≢false (sym e))
less_told Greater e = absurd (true≢false (sym e))

pub test-outside : (side : Side) (bound x : Infinitesimal) → is_outside side bound x ≡ true → IsOutside side bound x
test-outside lower_side bound x e = less_told (infinitesimal_cmp x bound) e
test-outside upper_side bound x e = less_told (infinitesimal_cmp bound x) e

-- what is outside of a bound is outside of one that is as tight
pub outside-tight : (side : Side) (bound tight x : Infinitesimal) → IsPast (other_side side) bound tight → IsOutside side bound x
    → IsOutside side tight x
outside-tight lower_side bound tight x h o = less-at_most x bound tight o h
outside-tight upper_side bound tight x h o = at_most-less tight bound x h o

-- ---- A bound beside what stands

-- it is tighter than this one, or there is none
abbrev is_tighter : Side → Infinitesimal → Option Infinitesimal → Bool
is_tighter side x o = elim o [ Some y ↦ is_outside side x y | None ↦ true ]

tighter-taken : (side : Side) (x : Infinitesimal) (o : Option Infinitesimal) → is_tighter side x o ≡ true → Some (tighter_of side x o) ≡ Some x
tighter-taken side x None e = refl
tighter-taken side x (Some y) e = ap (λ (a : Bool). Some (if a then x else y)) e

looser-left : (side : Side) (x : Infinitesimal) (o : Option Infinitesimal) → is_tighter side x o ≡ false → Some (tighter_of side x o) ≡ o
looser-left side x None e = absurd (true≢false e)
looser-left side x (Some y) e = ap (λ (a : Bool). Some (if a then x else y)) e

-- a value that isn't outside of what stands isn't moved by a looser bound
looser-moves_none : (side : Side) (x v : Infinitesimal) (o : Option Infinitesimal) → is_tighter side x o ≡ false
    → ((y : Infinitesimal) → o ≡ Some y → IsOutside side y v → ⊥) → moved_within side x v ≡ v
looser-moves_none side x v None e fit = absurd (true≢false e)
looser-moves_none side x v (Some y) e fit = by_test (is_outside side x v) refl
  where
    by_test : (a : Bool) → is_outside side x v ≡ a → (if a then x else v) ≡ v
    by_test true g = absurd (fit y refl (outside-tight side x y v (inside-past side x y e) (test-outside side x v g)))
    by_test false g = refl

-- ---- A bound that is set

its-form : (i k : ℕ) → (k == i) ≡ ((i == k) && true)
its-form i k = by_test (i == k) refl
  where
    by_test : (a : Bool) → (i == k) ≡ a → (k == i) ≡ (a && true)
    by_test true e = equal-number k i (sym (same-number i k e))
    by_test false e = other-number k i (λ (is : k ≡ i). true≢false (sym (equal-number i k (sym is)) ∙ e))

bound-set : (s : Position) (side half : Side) (i k : ℕ) (bound : Infinitesimal)
    → bound_on half (with_bound s side i bound) k ≡ (if (i == k) && are_same_side side half then Some bound else bound_on half s k)
bound-set s lower_side lower_side i k bound = ap (λ (a : Bool). if a then Some bound else s.lower k) (its-form i k)
bound-set s lower_side upper_side i k bound = ap (λ (a : Bool). if a then Some bound else s.upper k) (sym (and_right (i == k) false refl))
bound-set s upper_side lower_side i k bound = ap (λ (a : Bool). if a then Some bound else s.lower k) (sym (and_right (i == k) false refl))
bound-set s upper_side upper_side i k bound = ap (λ (a : Bool). if a then Some bound else s.upper k) (its-form i k)

-- what holds at the form and side of a bound, and elsewhere
at_each : (b : FormBound) (P : Side → ℕ → Bool → Type 0) → P b.side b.form true → ((side : Side) (k : ℕ) → P side k false)
    → (side : Side) (k : ℕ) → P side k ((b.form == k) && are_same_side b.side side)
at_each b P here there side k = by_test ((b.form == k) && are_same_side b.side side) refl
  where
    by_test : (a : Bool) → ((b.form == k) && are_same_side b.side side) ≡ a → P side k a
    by_test true e =
        let both = and_parts (b.form == k) (are_same_side b.side side) e in
        subst (λ (half : Side). P half k true) (same_side b.side side both.1)
        (subst (λ (i : ℕ). P b.side i true) (same-number b.form k both.0) here)
    by_test false e = there side k

-- where the point is, by what is said
abbrev pub moved_where : Point → Option FormBound → Point
moved_where x o =
    elim o [
      | Some b ↦ λ k. if k == b.form then option_map (moved_within b.side b.bound) (x k) else x k
      | None ↦ x
    ]

mapped-same : {A : Type 0} (f : A → A) (o : Option A) → ((v : A) → o ≡ Some v → f v ≡ v) → option_map f o ≡ o
mapped-same f None h = refl
mapped-same f (Some v) h = ap Some (h v refl)

module _ (s : Position) (b : FormBound) where
  -- what stands after this bound is said, at its form and side or elsewhere
  abbrev stands_after : Side → ℕ → Bool → Option Infinitesimal
  stands_after side k a = if a then Some (tighter_of side b.bound (bound_on side s k)) else bound_on side s k

  bounds-news : is_news s b ≡ true → (side : Side) (k : ℕ)
      → after side k (bound_on side s k) (Some b) ≡ bound_on side (with_bound s b.side b.form b.bound) k
  bounds-news news side k =
      at_each b (λ half i a. stands_after half i a ≡ (if a then Some b.bound else bound_on half s i))
      (tighter-taken b.side b.bound (bound_on b.side s b.form) news)
      (λ half i. refl)
      side k
      ∙ sym (bound-set s b.side side b.form k b.bound)

  bounds-stay : is_news s b ≡ false → (side : Side) (k : ℕ) → after side k (bound_on side s k) (Some b) ≡ bound_on side s k
  bounds-stay old =
      at_each b (λ half i a. stands_after half i a ≡ bound_on half s i)
      (looser-left b.side b.bound (bound_on b.side s b.form) old)
      (λ half i. refl)

  point-stays : is_news s b ≡ false → NonbasicFormsFit s → (k : ℕ) → moved_where s.point (Some b) k ≡ s.point k
  point-stays old fit k = by_test (k == b.form) refl
    where
      fits : (v : Infinitesimal) → s.point k ≡ Some v → k ≡ b.form → (y : Infinitesimal) → bound_on b.side s b.form ≡ Some y
          → IsOutside b.side y v → ⊥
      fits v at is y stands o =
          fit b.side k y (ap is_some at) (ap (bound_on b.side s) is ∙ stands)
          (subst (λ (z : Option Infinitesimal). IsOutside b.side y (unwrap_or z zero_infinitesimal)) (sym at) o)

      by_test : (a : Bool) → (k == b.form) ≡ a → (if a then option_map (moved_within b.side b.bound) (s.point k) else s.point k) ≡ s.point k
      by_test true e =
          mapped-same (moved_within b.side b.bound) (s.point k)
          (λ v at. looser-moves_none b.side b.bound v (bound_on b.side s b.form) old (fits v at (same-number k b.form e)))
      by_test false e = refl

-- ---- A literal that is told

module _ (fs : List (List Part)) (x : Point) (ls : List Literal) (l : Literal) where
  abbrev before : Position
  before = position_under fs x ls

  bound-told : (y : Point) (side : Side) (k : ℕ)
      → bound_on side (position_under fs y (ls ++ l ∷ [])) k ≡ after side k (bound_on side before k) (bound_said fs l)
  bound-told y lower_side k = fold_push (with_bound_said fs lower_side k) None ls l
  bound-told y upper_side k = fold_push (with_bound_said fs upper_side k) None ls l

  position-told : (o : Option FormBound) → bound_said fs l ≡ o → (q : Position) → fs ≡ q.forms → ((k : ℕ) → moved_where x o k ≡ q.point k)
      → ((side : Side) (k : ℕ) → after side k (bound_on side before k) o ≡ bound_on side q k) → position_under fs (moved_by fs l x) (ls ++ l ∷ []) ≡ q
  position-told o said q forms point bounds =
      same-position (position_under fs (moved_by fs l x) (ls ++ l ∷ [])) q forms
      (λ k. ap (λ (p : Option FormBound). moved_where x p k) said ∙ point k)
      (λ side k. bound-told (moved_by fs l x) side k ∙ ap (after side k (bound_on side before k)) said ∙ bounds side k)

  tighter-told : (b : FormBound) → bound_said fs l ≡ Some b → is_news before b ≡ true
      → position_under fs (moved_by fs l x) (ls ++ l ∷ []) ≡ with_bound before b.side b.form b.bound
  tighter-told b said news =
      position-told (Some b) said (with_bound before b.side b.form b.bound) refl (λ k. refl) (bounds-news before b news)

  looser-told : (b : FormBound) → bound_said fs l ≡ Some b → is_news before b ≡ false → NonbasicFormsFit before
      → position_under fs (moved_by fs l x) (ls ++ l ∷ []) ≡ before
  looser-told b said old fit = position-told (Some b) said before refl (point-stays before b old fit) (bounds-stay before b old)

  nothing-told : bound_said fs l ≡ None → position_under fs (moved_by fs l x) (ls ++ l ∷ []) ≡ before
  nothing-told said = position-told None said before refl (λ k. refl) (λ side k. refl)

-- ---- Literals that are taken back

-- what stands at first stands in the end, or a tighter bound
tight-later : (fs : List (List Part)) (ls : List Literal) (n : ℕ) (side : Side) (k : ℕ) (bound : Infinitesimal)
    → tightest fs (take n ls) side k ≡ Some bound → IsTight side bound (tightest fs ls side k)
tight-later fs ls n side k bound e =
    subst (IsTight side bound)
    (sym (fold-append (with_bound_said fs side k) None (take n ls) (drop n ls))
    ∙ ap (λ (ms : List Literal). tightest fs ms side k) (take-append-drop n ls))
    (stays-tight side k fs bound (tightest fs (take n ls) side k) (drop n ls) (record {
      bound = bound;
      is = e;
      within = past-equal (other_side side) bound bound (=δ_refl bound);
      plain = subst (λ (o : Option Infinitesimal). IfSome o (IsPlain side)) e (stays-plain side k fs None (take n ls) tt);
    }))

taken-back : (fs : List (List Part)) (x : Point) (ls : List Literal) (n : ℕ) → AreLooser (position_under fs x (take n ls)) (position_under fs x ls)
taken-back fs x ls n side k bound y e o =
    let tight = tight-later fs ls n side k bound (sym (bound-is fs x (take n ls) side k) ∙ e) in
    (tight.bound, bound-is fs x ls side k ∙ tight.is, outside-tight side bound tight.bound y tight.within o)

-- ---- Forms that join

-- it has no bound
abbrev IsUnbounded : Position → Type 0
IsUnbounded s = position_under s.forms s.point [] ≡ s

unit-joined : (s : Position) (p : Part) → IsUnbounded s → IsUnbounded (with_new_unit s p)
unit-joined s p h = by_test (list_any (λ f. is_unit_alone f p.unit) s.forms)
  where
    by_test : (a : Bool) → IsUnbounded (if a then s else with_unit s p.unit)
    by_test true = h
    by_test false = ap (λ (t : Position). with_unit t p.unit) h

units-joined : (s : Position) (ps : List Part) → IsUnbounded s → IsUnbounded (fold with_new_unit s ps)
units-joined s [] h = h
units-joined s (p ∷ ps) h = units-joined (with_new_unit s p) ps (unit-joined s p h)

form-joined : (s : Position) (f : List Part) → IsUnbounded s → IsUnbounded (joined s f)
form-joined s f h = by_test (is_unit_form f)
  where
    by_test : (a : Bool) → IsUnbounded (if a then fold with_new_unit s f else with_form (fold with_new_unit s f) f)
    by_test true = units-joined s f h
    by_test false = ap (λ (t : Position). with_form t f) (units-joined s f h)

pub telling_sets_bounds : TellingSetsBounds
telling_sets_bounds = record {
  tighter = tighter-told;
  looser = looser-told;
  nothing = nothing-told;
  back = taken-back;
  join = λ fs x f. form-joined (position_under fs x []) f refl;
}
