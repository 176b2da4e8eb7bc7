-- As many basic forms as there are, and one more, over the nonbasic ones with the units.
use Rattle.std.proofs.Common.{◌≡◌, ◌+◌, ◌-◌, ◌*◌, length, refl, rules, ap, ◌∙◌, arith}
use Rattle.nz_spec.specs.simplex.BasisMoves.{numbers}
use Rattle.nz_tab.specs.Rows.{basic, is_nonbasic}
use Rattle.nz_tab.proofs.Blocks.{columns_within}
use Rattle.nz_tab.proofs.Numbers.{count_both}
use Rattle.nz_tab.proofs.rows.Room.reserve.Goals as goal

pub overflow_sub-count : goal.overflow_sub-count
overflow_sub-count c =
    let g = c.args.rows.now in
    let n = length g.marks in
    let w = length (numbers n (is_nonbasic g)) in
    let more : c.in_ok-more.more ≡ c.args.units + 1 = search rules in
    let count : c.in_ok-count.count ≡ n + c.in_ok-more.more = search rules in
    let width : c.in_ok-width.width ≡ w + c.args.units = search rules in
    omega (arith, more, count, width, columns_within (is_nonbasic g) n w refl)

pub returns-clause-room : goal.returns-clause-room
returns-clause-room c =
    let g = c.args.rows.now in
    let n = length g.marks in
    let w = length (numbers n (is_nonbasic g)) in
    let b = length (numbers n (basic (is_nonbasic g))) in
    let more : c.in_ok-more.more ≡ c.args.units + 1 = search rules in
    let count : c.in_ok-count.count ≡ n + c.in_ok-more.more = search rules in
    let width : c.in_ok-width.width ≡ w + c.args.units = search rules in
    let size : c.in_ok-size.size ≡ (c.in_ok-count.count - c.in_ok-width.width) * c.in_ok-width.width = search rules in
    let rows : c.in_ok-count.count - c.in_ok-width.width ≡ b + 1 = omega (arith, more, count, width, count_both (is_nonbasic g) n) in
    let wanted : c.in_ok-size.size ≡ (b + 1) * (w + c.args.units) = size ∙ ap (λ m. m * c.in_ok-width.width) rows ∙ ap (λ m. (b + 1) * m) width in
    record {
      for_columns = omega (arith, more, count, c.in_ok-reserve.ensures.ok);
      for_written = omega (arith, more, count, c.in_ok-reserve-2.ensures.ok);
      for_solved = omega (arith, more, count, c.in_ok-reserve-3.ensures.ok);
      for_block = omega (arith, wanted, c.in_ok-reserve-4.ensures.ok);
    }
