-- The columns, zeros, and then the forms one by one.
use Rattle.std.proofs.Common.{◌≡◌, ℕ, Bool, List, length, map, pos, refl, ap, subst, ◌∙◌, arith}
use Rattle.nz_spec.specs.simplex.BasisMoves.{numbers}
use Rattle.nz_fractions.specs.Fraction.{whole}
use Rattle.nz_spec.specs.simplex.Basis.{Coefficients}
use Rattle.nz_spec.specs.numbers.Computation.{turned_into}
use Rattle.nz_tab.specs.Comes.{Comes}
use Rattle.nz_tab.specs.Rows.{Grid, coefficients_at, is_marked, is_nonbasic, rows_of, columns_of}
use Rattle.nz_tab.specs.Sums.{all_added}
use Rattle.nz_tab.proofs.RowSums.{zeros_read}
use Rattle.nz_tab.proofs.Blocks.{columns_within}
use Rattle.nz_tab.proofs.rows.Rows.sum.Goals as goal
use Rattle.nz_tab.proofs.rows.Rows.sum.Goals.{After-as_slice-columns}

-- the columns of the rows
listed : (c : After-as_slice-columns) → c.as_slice-columns.result.now ≡ columns_of c.args.self.now
listed c =
    c.as_slice-columns.ensures.value
    ∙ c.list_marked.ensures.listed
    ∙ ap (λ (m : List Bool). numbers (length m) (is_marked m)) (c.as_slice.ensures.value ∙ ap (λ (x : Grid). x.marks) c.self.view_is)

pub put_zeros-requires : goal.put_zeros-requires
put_zeros-requires c =
    let g = c.args.self.now in
    let long = ap length (listed (goal.at.put_zeros-requires c).After-as_slice-columns) in
    record { room = omega (arith, long, columns_within (is_nonbasic g) (length g.marks) (length (columns_of g)) refl, c.requires.solved) }

pub returns-clause-sum : goal.returns-clause-sum
returns-clause-sum c =
    let g = c.args.self.now in
    let ks = c.as_slice-columns.result.now in
    subst (λ (ks : List ℕ). Comes (turned_into (λ (x : Coefficients). map x ks) (all_added ks (is_nonbasic g) (rows_of g) (λ k. whole (pos 0)) c.args.addends.now)) (coefficients_at g.places ks c.add_all.new.row.items) c.add_all.result)
    (listed (goal.at.returns-clause-sum c).After-as_slice-columns)
    (c.add_all.ensures.added (λ k. whole (pos 0)) (ap (coefficients_at g.places ks) c.put_zeros.ensures.zeros ∙ zeros_read g.places ks (length ks)))

pub returns-clause-width : goal.returns-clause-width
returns-clause-width c = omega (arith, c.add_all.new.row.ok.0, c.add_all.ensures.width, c.put_zeros.ensures.width, ap length (listed (goal.at.returns-clause-width c).After-as_slice-columns))
