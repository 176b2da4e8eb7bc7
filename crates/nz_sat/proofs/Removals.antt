-- A watch that is taken out of its list, where the last one takes its place, and the lists of which one is set.
use Rattle.std.proofs.Common.{◌≡◌, ◌≢◌, ℕ, ◌-◌, ◌<◌, ◌≤◌, ◌⊎◌, inl, inr, List, [], length, get_or, Option, Some, None, refl, sym, ap, ◌∙◌, arith}
use Rattle.std.specs.Prelude.{slice_get, slice_index_or, slice_set}
use Rattle.std.specs.declared.alloc.Global.{Global}
use Rattle.std.specs.declared.vec.Vec.{Vec}
use Rattle.std.specs.List.{swap_remove}
use Rattle.std.proofs.lemmas.Bool.{cases_eq, cases_lt}
use Rattle.std.proofs.lemmas.List.{length-set, length-take-le}
use Rattle.std.proofs.lemmas.Option.{slice_get-get_or, slice_get_within}
use Rattle.nz_sat.specs.declared.watches.Watch.{Watch}
use Rattle.nz_sat.specs.Lists.{AreOnce, IsAfter, TakesOut, list_at}
use Rattle.nz_sat.proofs.SetPlaces.{read_take, set_beside, set_there, take_read}

lower : (i e : ℕ) → i ≤ e → (i ≡ e → ⊥) → i < e
lower i e le other =
    elim (cases_lt i e) [
      | inl less ↦ less
      | inr most ↦ absurd (other (omega (arith, le, most)))
    ]

module _ (old : List Watch) (i : ℕ) (d : Watch) (inside : i < length old) where
  abbrev final : ℕ
  final = length old - 1

  abbrev last : Watch
  last = get_or old final d

  abbrev moved : List Watch
  moved = slice_set old i last

  at_final : slice_get old final ≡ Some last
  at_final = slice_get-get_or old final d (omega (arith, inside))

  -- where a watch stood before
  stood : (j : ℕ) (w : Watch) → slice_get (swap_remove old i d) j ≡ Some w
      → (j < final) × (((j ≡ i) × (slice_get old final ≡ Some w)) ⊎ ((j ≡ i → ⊥) × (slice_get old j ≡ Some w)))
  stood j w at =
      let read = take_read final moved j w at in (
        read.0,
        elim (cases_eq j i) [
          | inl same ↦ inl (same, at_final ∙ sym (set_there old i last inside) ∙ ap (slice_get moved) (sym same) ∙ read.1)
          | inr other ↦ inr (other, sym (set_beside old i j last (λ e. other (sym e))) ∙ read.1)
        ],
      )

  from : (j : ℕ) (w : Watch) → slice_get (swap_remove old i d) j ≡ Some w → (k : ℕ) × (k ≢ i) × (slice_get old k ≡ Some w)
  from j w at =
      let was = stood j w at in
      elim was.1 [
        | inl here ↦ (final, (λ e. let below : j < final = was.0 in let is : j ≡ i = here.0 in omega (arith, below, is, e)), here.1)
        | inr there ↦ (j, there.0, there.1)
      ]

  stays : (j : ℕ) (w : Watch) → j ≢ i → slice_get old j ≡ Some w → (k : ℕ) × (slice_get (swap_remove old i d) k ≡ Some w) × IsAfter i j k
  stays j w other at =
      let within : j < length old = slice_get_within old j w at in
      elim (cases_eq j final) [
        | inl is ↦
            let before : i < final = lower i final (omega (arith, inside)) (λ e. other (is ∙ sym e)) in
            let own : slice_get moved i ≡ Some w = set_there old i last inside ∙ sym at_final ∙ ap (slice_get old) (sym is) ∙ at in
            (i, read_take final moved i w before own, ((λ less. absurd (omega (arith, less, is, before))), (λ le. omega arith)))
        | inr apart ↦
            let before : j < final = lower j final (omega (arith, within)) apart in
            (j, read_take final moved j w before (set_beside old i j last (λ e. other (sym e)) ∙ at), ((λ less. refl), (λ le. le)))
      ]

  once : AreOnce old → AreOnce (swap_remove old i d)
  once h j k v w at beside same =
      let one = stood j v at in
      let two = stood k w beside in
      let low : j < final = one.0 in
      let high : k < final = two.0 in
      elim one.1 [
        | inl here ↦
            elim two.1 [
              | inl there ↦ here.0 ∙ sym there.0
              | inr there ↦ let e : final ≡ k = h final k v w here.1 there.1 same in absurd (omega (arith, e, high))
            ]
        | inr here ↦
            elim two.1 [
              | inl there ↦ let e : j ≡ final = h j final v w here.1 there.1 same in absurd (omega (arith, e, low))
              | inr there ↦ h j k v w here.1 there.1 same
            ]
      ]

  pub taken_out : TakesOut i old (swap_remove old i d)
  taken_out =
      record {
        shorter = let long = length-set old i last in let short = length-take-le final moved (omega (arith, long)) in omega (arith, inside, long, short);
        from = from;
        stays = stays;
        once = once;
      }

-- ---- The lists

abbrev items_of : Option (Vec Watch Global) → List Watch
items_of o = elim o [ None ↦ [] | Some list ↦ list.items ]

module _ (lists : List (Vec Watch Global)) (t : ℕ) where
  pub list_there : (v : Vec Watch Global) → t < length lists → list_at (slice_set lists t v) t ≡ v.items
  list_there v within = ap items_of (set_there lists t v within)

  pub list_beside : (v : Vec Watch Global) (u : ℕ) → t ≢ u → list_at (slice_set lists t v) u ≡ list_at lists u
  list_beside v u other = ap items_of (set_beside lists t u v other)

  pub list_read : (v : Vec Watch Global) → t < length lists → v ≡ slice_index_or lists t v → list_at lists t ≡ v.items
  list_read v within is = ap items_of (slice_get-get_or lists t v within) ∙ ap (λ (x : Vec Watch Global). x.items) (sym is)
