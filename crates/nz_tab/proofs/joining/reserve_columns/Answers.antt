-- One row more.
use Rattle.std.proofs.Common.{Vec, Global, ◌≡◌, ℕ, ◌+◌, ◌<◌, ◌≤◌, ◌⊎◌, inl, inr, length, sym, ap, ◌∙◌, subst, arith}
use Rattle.std.specs.Prelude.{set, slice_index_or, vec_capacity, vec_len}
use Rattle.std.proofs.lemmas.List.{get_or-set_other, get_or-set_same}
use Rattle.nz_lists.proofs.Numbers.{same_or_below}
use Rattle.nz_fractions.specs.Fraction.{Fraction}
use Rattle.nz_tab.proofs.RowLengths.{rows_kept}
use Rattle.nz_tab.proofs.joining.reserve_columns.Goals as goal

pub returns-in_err-reserve-clause-rows : goal.returns-in_err-reserve-clause-rows
returns-in_err-reserve-clause-rows c =
    rows_kept c.loop-place.rows.items c.loop-place.place c.index_mut.result.now c.reserve.new.self (omega (arith, c.loop-place-test.true, c.loop-place.invariant.len, c.loop-place.rows.ok.0)) c.index_mut.ensures.value c.reserve.ensures.items
    ∙ c.loop-place.invariant.rows

pub loop-place-preserved : goal.loop-place-preserved
loop-place-preserved c =
    let rows = c.loop-place.rows.items in
    let i = c.loop-place.place in
    let x = c.reserve.new.self in
    let inside : i < length rows = omega (arith, c.loop-place-test.true, c.loop-place.invariant.len, c.loop-place.rows.ok.0) in
    let has : Vec Fraction Global → Type 0 = λ y. vec_len y + c.args.units ≤ vec_capacity y in
    let by_place : (s : ℕ) (d : Vec Fraction Global) → (s ≡ i) ⊎ (s < i) → has (slice_index_or (set rows i x) s d) =
    λ s d p.
    elim p [
      | inl e ↦ subst has (sym (ap (λ (m : ℕ). slice_index_or (set rows i x) m d) e ∙ get_or-set_same rows i x d inside)) c.in_ok-reserve.ensures.ok
      | inr e ↦ subst has (sym (get_or-set_other rows i s x d (λ q. omega (arith, q, e)))) (c.loop-place.invariant.room s d e)
    ] in
    record {
      rows = rows_kept rows i c.index_mut.result.now x inside c.index_mut.ensures.value c.reserve.ensures.items ∙ c.loop-place.invariant.rows;
      room = λ s d e. by_place s d (same_or_below s i (omega (arith, e)));
      len = c.loop-place.invariant.len;
    }
