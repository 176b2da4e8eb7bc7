-- The steps of a check as units of a work list.
use Rattle.std.specs.Prelude.{◌≡◌, ℕ, ◌+◌, ◌-◌, ◌<◌, if◌then◌else◌}
use Rattle.std.proofs.Common.{arith}
use Rattle.std.proofs.lemmas.List.Sums.{sum_by_push}
use Rattle.nz_spec.specs.search.Work.{PivotEntry, UnitLine, WorkLine, WorkList, is_unit, unit_count, with_line}

abbrev pub pivot_line : {T : Type 0} → ℕ → ℕ → WorkLine T
pivot_line i j = UnitLine (PivotEntry i j)

-- a step takes one unit of those that are left
pub takes_one : {T : Type 0} → (w : WorkList T) (i j : ℕ) → 0 < w.limit - unit_count w.lines
    → (w.limit - unit_count (with_line w (pivot_line i j)).lines) + 1 ≡ w.limit - unit_count w.lines
takes_one {T} w i j free =
    let one : unit_count (with_line w (pivot_line i j)).lines ≡ unit_count w.lines + 1 =
    sum_by_push (λ (x : WorkLine T). if is_unit x then 1 else 0) w.lines (pivot_line i j) in
    omega (arith, one, free)
