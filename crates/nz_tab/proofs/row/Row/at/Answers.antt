-- The column of a nonbasic form, and its coefficient there.
use Rattle.std.proofs.Common.{◌≡◌, Bool, true, slice_index_or, sym, ap, ◌∙◌, arith, pos}
use Rattle.std.specs.Prelude.{if◌then◌else◌}
use Rattle.nz_fractions.specs.Fraction.{whole}
use Rattle.nz_tab.specs.Rows.{DenseRow, coefficient, is_marked, place_in}
use Rattle.nz_tab.proofs.Blocks.{marked_within}
use Rattle.nz_tab.proofs.row.Row.at.Goals as goal

pub bounds-self-inside-j : goal.bounds-self-inside-j
bounds-self-inside-j c =
    let row = c.self.inside in
    let marked : is_marked row.nonbasic.now c.args.j ≡ true = sym c.is_marked.ensures.marked ∙ c.if-not-is_marked.false in
    omega (arith, c.self.invariant, marked_within row.nonbasic.now c.args.j marked)

pub offset_bounds-self-inside-j : goal.offset_bounds-self-inside-j
offset_bounds-self-inside-j c =
    let row = c.self.inside in
    let marked : is_marked row.nonbasic.now c.args.j ≡ true = sym c.is_marked.ensures.marked ∙ c.if-not-is_marked.false in
    omega (arith, c.self.told, c.self.invariant, marked_within row.nonbasic.now c.args.j marked)

pub returns : goal.returns
returns c =
    let row = c.self.inside in
    let marked : is_marked row.nonbasic.now c.args.j ≡ true = sym c.is_marked.ensures.marked ∙ c.if-not-is_marked.false in
    record {
      coefficient =
          c.coefficient_at.ensures.coefficient
          ∙ ap (λ (b : Bool). if b then slice_index_or row.coefficients.now (place_in row.places.now c.args.j) (whole (pos 0)) else whole (pos 0)) (sym marked)
          ∙ ap (λ (r : DenseRow). coefficient r c.args.j) c.self.view_is;
    }
