-- Gaps between integers: which of them a range has, how many lie in ranges, and how many marks there are where each gap is one mark at most.
use Rattle.std.proofs.Common.{◌≡◌, ◌⊎◌, ℕ, zero, suc, ◌<◌, ◌≤◌, ◌+◌, ◌*◌, List, [], ◌∷◌, length, slice_get, Option, Some, None, ℤ, pos, negsuc, ◌+ℤ◌, neg_ℤ, ◌≤ℤ◌, ◌<ℤ◌, inl, inr, refl, sym, ap, subst, arith, length-append}
use Rattle.std.specs.Prelude.{Contains}
use Rattle.std.proofs.lemmas.Int.{ints}
use Rattle.nz_lists.proofs.Members.{has_cases, has_first, has_more, has_none}
use Rattle.nz_lists.proofs.Numbers.{same_or_below}
use Rattle.nz_spec.specs.terms.Term.{Term}
use Rattle.nz_spec.specs.search.Branches.{Gap, Range, natural_part, width, total_width, gaps_from, gaps_of, AreApart, BranchesAreFew}
use Rattle.nz_spec.proofs.FlatLists.{flat_has}

-- ---- Gaps of ranges

-- the gap of a unit so far above an integer
abbrev gap_at : Term → ℤ → ℕ → Gap
gap_at u k i = record { unit = u; above = k +ℤ pos i }

gaps-length : (u : Term) (k : ℤ) (n : ℕ) → length (gaps_from u k n) ≡ n
gaps-length u k zero = refl
gaps-length u k (suc n) = ap suc (gaps-length u k n)

gaps-within : (u : Term) (k : ℤ) (n i : ℕ) → i < n → Contains (gaps_from u k n) (gap_at u k i)
gaps-within u k zero i h = absurd (omega (arith, h))
gaps-within u k (suc n) i h =
    elim (same_or_below i n h) [
      | inl last ↦ subst (λ (j : ℕ). Contains (gaps_from u k (suc n)) (gap_at u k j)) (sym last) (has_first (gap_at u k n) (gaps_from u k n))
      | inr before ↦ has_more (gap_at u k n) (gap_at u k i) (gaps_from u k n) (gaps-within u k n i before)
    ]

natural_is : (z : ℤ) → pos 0 ≤ℤ z → pos (natural_part z) ≡ z
natural_is (pos n) h = refl
natural_is (negsuc n) h = absurd (omega (arith, ints, h))

-- a gap from the low end on, and below the high one
pub gap_in_range : (rs : List Range) (r : Range) (k : ℤ) → Contains rs r → r.low ≤ℤ k → k <ℤ r.high → Contains (gaps_of rs) (record { unit = r.unit; above = k })
gap_in_range rs r k has low high =
    let i = natural_part (k +ℤ neg_ℤ r.low) in
    let i_is : pos i ≡ k +ℤ neg_ℤ r.low = natural_is (k +ℤ neg_ℤ r.low) (omega (arith, ints, low)) in
    let width_is : pos (width r) ≡ r.high +ℤ neg_ℤ r.low = natural_is (r.high +ℤ neg_ℤ r.low) (omega (arith, ints, low, high)) in
    let there = gaps-within r.unit r.low (width r) i (omega (arith, ints, i_is, width_is, high)) in
    let above_is : r.low +ℤ pos i ≡ k = omega (arith, ints, i_is) in
    flat_has (λ (s : Range). gaps_from s.unit s.low (width s)) rs r (record { unit = r.unit; above = k }) has
    (subst (λ (z : ℤ). Contains (gaps_from r.unit r.low (width r)) (record { unit = r.unit; above = z })) above_is there)

ranges-wide : (rs : List Range) → length (gaps_of rs) ≡ total_width rs
ranges-wide [] = refl
ranges-wide (r ∷ rs) =
    let own = gaps_from r.unit r.low (width r) in
    omega (arith, length-append own (gaps_of rs), gaps-length r.unit r.low (width r), ranges-wide rs)

-- ---- Marks

-- the gaps without one at which this one stands
record Without (gaps : List Gap) (g : Gap) : Type 0 where
  rest : List Gap
  fewer : length gaps ≡ suc (length rest)
  others : (h : Gap) → Contains gaps h → (g ≡ h) ⊎ Contains rest h

without : (gaps : List Gap) (g : Gap) → Contains gaps g → Without gaps g
without [] g has = absurd (has_none g has)
without (k ∷ gaps) g has =
    elim (has_cases k g gaps has) [
      | inl same ↦ record { rest = gaps; fewer = refl; others = λ h there. subst (λ (x : Gap). (x ≡ h) ⊎ Contains gaps h) same (has_cases k h gaps there) }
      | inr later ↦
          let behind = without gaps g later in
          record {
            rest = k ∷ behind.rest;
            fewer = ap suc behind.fewer;
            others = λ h there. elim (has_cases k h gaps there) [
              | inl same ↦ inr (subst (Contains (k ∷ behind.rest)) same (has_first k behind.rest))
              | inr more ↦ elim (behind.others h more) [ inl is ↦ inl is | inr still ↦ inr (has_more k h behind.rest still) ]
            ];
          }
    ]

apart_behind : (gaps rest : List Gap) (m : Option Gap) (ms : List (Option Gap)) → ((i : ℕ) (g : Gap) → slice_get ms i ≡ Some (Some g) → Contains rest g)
    → AreApart gaps (m ∷ ms) → AreApart rest ms
apart_behind gaps rest m ms within h = record {
  within = within;
  once = λ i j g at_i at_j. let same = h.once (suc i) (suc j) g at_i at_j in omega (arith, same);
  alternate = λ i at_i at_next. h.alternate (suc i) at_i at_next;
}

-- a gap that is marked first is marked no more
apart_without : (gaps : List Gap) (g : Gap) (ms : List (Option Gap)) (w : Without gaps g) → AreApart gaps (Some g ∷ ms) → AreApart w.rest ms
apart_without gaps g ms w h =
    apart_behind gaps w.rest (Some g) ms
    (λ i k at. elim (w.others k (h.within (suc i) k at)) [
      | inl same ↦ let twice = h.once 0 (suc i) k (ap (λ (x : Gap). Some (Some x)) same) at in absurd (omega (arith, twice))
      | inr still ↦ still
    ])
    h

marks_few : (marks : List (Option Gap)) (gaps : List Gap) → AreApart gaps marks → length marks ≤ 2 * length gaps + 1
marks_few [] gaps h = omega arith
marks_few (Some g ∷ ms) gaps h =
    let w = without gaps g (h.within 0 g refl) in
    omega (arith, w.fewer, marks_few ms w.rest (apart_without gaps g ms w h))
marks_few (None ∷ []) gaps h = omega arith
marks_few (None ∷ None ∷ ms) gaps h = absurd (h.alternate 0 refl refl)
marks_few (None ∷ Some g ∷ ms) gaps h =
    let behind = apart_behind gaps gaps None (Some g ∷ ms) (λ i k at. h.within (suc i) k at) h in
    let w = without gaps g (behind.within 0 g refl) in
    omega (arith, w.fewer, marks_few ms w.rest (apart_without gaps g ms w behind))

pub branches_are_few : BranchesAreFew
branches_are_few = record { few = λ gaps marks apart. marks_few marks gaps apart; wide = ranges-wide }
