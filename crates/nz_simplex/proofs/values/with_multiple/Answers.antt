-- The product stops first, and then the sum.
use Rattle.std.proofs.Common.{rules, ◌≡◌, None, Some, Result, Err, sym, ap, ◌∙◌}
use Rattle.nz_fractions.proofs.FirstOperations.{first_wide-none, first_wide-some}
use Rattle.nz_fractions.specs.Fraction.{first_wide}
use Rattle.nz_spec.specs.numbers.Infinitesimal.{Infinitesimal}
use Rattle.nz_spec.specs.simplex.Bland.{times, plus}
use Rattle.nz_frac.specs.Operations.{operation_of}
use Rattle.nz_frac.specs.declared.frac.Wide.{Wide}
use Rattle.nz_delta.specs.Refused.{refused}
use Rattle.nz_simplex.proofs.values.with_multiple.Goals as goal

pub returns-in_err-product-clause-stops : goal.returns-in_err-product-clause-stops
returns-in_err-product-clause-stops g c =
    let faithful = g.met.S.Coordinate.faithful in
    let x = g.S.Coordinate.stands_for c.args.value in
    let t = g.S.Coordinate.stands_for c.args.sum in
    let q = c.args.coefficient in
    let w = c.in_err-product.field-0.0 in
    let error : c.from_residual.result ≡ Err w = search rules in
    let stop : first_wide (times x q).operations ≡ Some (operation_of w) = sym (faithful.product_stops c.args.value q) ∙ sym c.in_err-product.ensures.wide in
    ap (λ (r : Result g.row.S.Denot Wide). refused r) error
    ∙ sym (first_wide-some (times x q).operations (plus t (times x q).result).operations (operation_of w) stop)

pub returns-clause-stops : goal.returns-clause-stops
returns-clause-stops g c =
    let faithful = g.met.S.Coordinate.faithful in
    let stands = g.S.Coordinate.stands_for in
    let x = stands c.args.value in
    let t = stands c.args.sum in
    let q = c.args.coefficient in
    let fits : first_wide (times x q).operations ≡ None = sym (faithful.product_stops c.args.value q) ∙ sym c.in_ok-product.ensures.wide in
    let product : stands c.in_ok-product.product ≡ (times x q).result = ap stands c.in_ok-product.ensures.product ∙ faithful.product c.args.value q in
    c.add.ensures.wide
    ∙ faithful.sum_stops c.args.sum c.in_ok-product.product
    ∙ ap (λ (y : Infinitesimal). first_wide (plus t y).operations) product
    ∙ sym (first_wide-none (times x q).operations (plus t (times x q).result).operations fits)
