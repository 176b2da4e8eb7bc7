-- What the reasons and multipliers of a clash are.
use Rattle.std.proofs.Common.{◌≡◌, ℕ, zero, suc, ◌<◌, ◌⊎◌, inl, inr, Bool, true, false, List, [], ◌∷◌, ◌++◌, length, Option, Some, None, refl, sym, ap, ◌∙◌, subst, arith, pos}
use Rattle.std.specs.Cmp.{first_so}
use Rattle.std.specs.Prelude.{Contains, flat_map, fold, option_map, unwrap_or, ◌==◌, ◌&&◌, if◌then◌else◌}
use Rattle.std.specs.List.{AllByRecursion}
use Rattle.nz_lists.proofs.Elements.{AllByRecursion-append}
use Rattle.nz_lists.proofs.Members.{has_first, has_more}
use Rattle.nz_lists.proofs.Numbers.{same-number}
use Rattle.nz_fractions.specs.Fraction.{Fraction, whole, neg_ℚ}
use Rattle.nz_fractions.proofs.Laws.{=ℚ_refl}
use Rattle.nz_fractions.proofs.Signs.{above_told, below_told}
use Rattle.nz_spec.specs.simplex.BasisMoves.{numbers}
use Rattle.nz_spec.specs.simplex.Bland as bland
use Rattle.nz_spec.specs.simplex.Bland.{bound_on}
use Rattle.nz_spec.specs.numbers.Infinitesimal.{Infinitesimal}
use Rattle.nz_spec.specs.search.Places.{IsSizeIn}
use Rattle.nz_spec.specs.terms.Table.{Node}
use Rattle.nz_spec.specs.terms.Term.{is_zero}
use Rattle.nz_trail.specs.Bounds.{other_side}
use Rattle.nz_trail.specs.declared.limits.Side.{Side}
use Rattle.nz_trail.specs.declared.limits.Side.TheVariants.{Lower, Upper}
use Rattle.nz_simplex.specs.Checks.{IsRefuted, holding_side, multiplier}
use Rattle.nz_simplex.specs.Choices.{is_below_zero, size_of}
use Rattle.nz_simplex.specs.Standing.{Held, bound_in, half, is_bound_of, is_news, is_side, reason_in, standing, standing_with}
use Rattle.nz_simplex.specs.State.{State, nonbasic_in, position_over}

-- ---- What stands is one of the bounds

-- a bound of this form and side among the bounds
pub record IsAmong (bs : List Held) (v : ℕ) (side : Side) (b : Held) : Type 0 where
  pub has : Contains bs b
  pub of : is_bound_of v side b ≡ true

among_more : (x : Held) (xs : List Held) (v : ℕ) (side : Side) (b : Held) → IsAmong xs v side b → IsAmong (x ∷ xs) v side b
among_more x xs v side b h = record { has = has_more x b xs h.has; of = h.of }

stands_from : (bs : List Held) (v : ℕ) (side : Side) (o : Option Held) (b : Held) → fold (standing_with v side) o bs ≡ Some b → (o ≡ Some b) ⊎ IsAmong bs v side b
stands_from [] v side o b e = inl e
stands_from (x ∷ xs) v side o b e = by_rest (stands_from xs v side (standing_with v side o x) b e)
  where
    by_test : (t : Bool) → (is_bound_of v side x && is_news side x.value o) ≡ t → (if t then Some x else o) ≡ Some b → (o ≡ Some b) ⊎ IsAmong (x ∷ xs) v side b
    by_test true t f =
        let same : x ≡ b = cc in
        inr (subst (IsAmong (x ∷ xs) v side) same (record { has = has_first x xs; of = first_so (is_bound_of v side x) (is_news side x.value o) t }))
    by_test false t f = inl f

    by_rest : (standing_with v side o x ≡ Some b) ⊎ IsAmong xs v side b → (o ≡ Some b) ⊎ IsAmong (x ∷ xs) v side b
    by_rest (inl f) = by_test (is_bound_of v side x && is_news side x.value o) refl f
    by_rest (inr h) = inr (among_more x xs v side b h)

pub stands_among : (bs : List Held) (v : ℕ) (side : Side) (b : Held) → standing bs v side ≡ Some b → IsAmong bs v side b
stands_among bs v side b e = by_case (stands_from bs v side None b e)
  where
    by_case : (None ≡ Some b) ⊎ IsAmong bs v side b → IsAmong bs v side b
    by_case (inl f) = absurd cc
    by_case (inr h) = h

-- the reason of a bound that stands is that of a bound of the form
pub reason_among : (bs : List Held) (v : ℕ) (side : Side) (x : Infinitesimal) → bound_in bs side v ≡ Some x → (b : Held) × Contains bs b × (reason_in bs side v ≡ b.reason) × (b.var ≡ v)
reason_among bs v side x e = by_case (standing bs v side) refl e
  where
    by_case : (o : Option Held) → standing bs v side ≡ o → option_map (λ (b : Held). b.value) o ≡ Some x → (b : Held) × Contains bs b × (reason_in bs side v ≡ b.reason) × (b.var ≡ v)
    by_case None f g = absurd cc
    by_case (Some b) f g =
        let among = stands_among bs v side b f in (
          b,
          among.has,
          ap (λ (o : Option Held). unwrap_or (option_map (λ (h : Held). h.reason) o) 0) f,
          same-number b.var v (first_so (b.var == v) (is_side side b.side) among.of),
        )

pub side_bound : (ns : List Node) (s : State) (side : Side) (v : ℕ) → bound_on (half side) (position_over ns s) v ≡ bound_in s.asserted side v
side_bound ns s Lower v = refl
side_bound ns s Upper v = refl

pub half_other : (side : Side) → bland.other_side (half side) ≡ half (other_side side)
half_other Lower = refl
half_other Upper = refl

-- ---- Lists of lists

module _ {X Y : Type 0} (P : Y → Type 0) (f : X → List Y) where
  each_flat : (xs : List X) → AllByRecursion (λ (x : X). AllByRecursion P (f x)) xs → AllByRecursion P (flat_map f xs)
  each_flat [] h = tt
  each_flat (x ∷ xs) h = AllByRecursion-append P (f x) (flat_map f xs) h.0 (each_flat xs h.1)

numbers_below : (P : ℕ → Type 0) (n : ℕ) (test : ℕ → Bool) → ((k : ℕ) → k < n → P k) → AllByRecursion P (numbers n test)
numbers_below P zero test f = tt
numbers_below P (suc n) test f = by_test (test n) (numbers_below P n test (λ k less. f k (omega (arith, less))))
  where
    by_test : (b : Bool) → AllByRecursion P (numbers n test) → AllByRecursion P (if b then numbers n test ++ n ∷ [] else numbers n test)
    by_test true h = AllByRecursion-append P (numbers n test) (n ∷ []) h (f n (omega arith), tt)
    by_test false h = h

-- ---- The reasons and multipliers

module _ (ns : List Node) (s : State) (r : IsRefuted ns s) (P : ℕ × Fraction → Type 0)
    (each : (b : Held) (m : Fraction) → Contains s.asserted b → IsSizeIn (length (position_over ns s).forms) r.row m → P (b.reason, m)) where
  held : (side : Side) (v : ℕ) (m : Fraction) (x : Infinitesimal) → bound_on (half side) (position_over ns s) v ≡ Some x → IsSizeIn (length (position_over ns s).forms) r.row m → P (reason_in s.asserted side v, m)
  held side v m x e size =
      let b = reason_among s.asserted v side x (sym (side_bound ns s side v) ∙ e) in
      subst (λ (n : ℕ). P (n, m)) (sym b.2) (each b.0 m b.1 size)

  one_held : (k : ℕ) → k < length (position_over ns s).forms → AllByRecursion P (multiplier s.asserted r.side r.row k)
  one_held k less = by_zero (is_zero (r.row k)) refl
    where
      by_sign : is_zero (r.row k) ≡ false → (b : Bool) → is_below_zero (r.row k) ≡ b → P (reason_in s.asserted (if b then r.side else other_side r.side) k, if b then neg_ℚ (r.row k) else r.row k)
      by_sign nonzero true e = held r.side k (neg_ℚ (r.row k)) (r.bounds k) (r.refutes.below_zero k (below_told (r.row k) e)) (inr (k, less, inr (=ℚ_refl (neg_ℚ (r.row k)))))
      by_sign nonzero false e =
          held (other_side r.side) k (r.row k) (r.bounds k)
          (subst (λ (h : bland.Side). bound_on h (position_over ns s) k ≡ Some (r.bounds k)) (half_other r.side) (r.refutes.above_zero k (above_told (r.row k) nonzero e)))
          (inr (k, less, inl (=ℚ_refl (r.row k))))

      by_zero : (z : Bool) → is_zero (r.row k) ≡ z → AllByRecursion P (if z then [] else (reason_in s.asserted (holding_side r.side (r.row k)) k, size_of (r.row k)) ∷ [])
      by_zero true e = tt
      by_zero false e = (by_sign e (is_below_zero (r.row k)) refl, tt)

  pub why_each : length (position_over ns s).forms ≡ length s.forms → AllByRecursion P s.why
  why_each same =
      subst (AllByRecursion P) (sym r.why) (
        held r.side r.broken (whole (pos 1)) r.bound r.refutes.bounded (inl (=ℚ_refl (whole (pos 1)))),
        each_flat P (multiplier s.asserted r.side r.row) (numbers (length s.forms) (nonbasic_in s))
            (numbers_below (λ (k : ℕ). AllByRecursion P (multiplier s.asserted r.side r.row k)) (length s.forms) (nonbasic_in s) (λ k less. one_held k (omega (arith, less, same)))),
      )
