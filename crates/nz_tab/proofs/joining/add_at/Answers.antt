-- The sum at the place.
use Rattle.std.proofs.Common.{◌≡◌, get_or, Some, Err, pos, rules, sym, ap, subst, ◌∙◌, arith}
use Rattle.std.specs.Prelude.{set}
use Rattle.std.proofs.lemmas.List.{get_or_read}
use Rattle.nz_fractions.specs.Fraction.{Fraction, Sum, first_wide, outcome, whole}
use Rattle.nz_spec.specs.numbers.Computation.{operated, turned_into}
use Rattle.nz_frac.specs.Operations.{operation_of}
use Rattle.nz_frac.specs.declared.frac.Wide.{Wide}
use Rattle.nz_tab.specs.Comes.{Comes}
use Rattle.nz_tab.proofs.joining.add_at.Goals as goal

pub returns-in_err-row-clause-added : goal.returns-in_err-row-clause-added
returns-in_err-row-clause-added c =
    let row = c.args.row.now.items in
    let w : Wide = c.in_err-row.field-0.0 in
    let error : c.from_residual.result ≡ Err w = search rules in
    let read : c.index.result.now ≡ get_or row c.args.place (whole (pos 0)) = get_or_read row c.args.place c.index.result.now (omega (arith, c.args.row.now.ok.0)) c.index.ensures (whole (pos 0)) in
    subst (λ r. Comes (turned_into (λ (x : Fraction). set row c.args.place x) (operated Sum (get_or row c.args.place (whole (pos 0))) c.args.coefficient)) row r) (sym error)
    (subst (λ (x : Fraction). first_wide (operated Sum x c.args.coefficient).operations ≡ Some (operation_of w)) read c.in_err-row.ensures.sum)

pub returns-clause-added : goal.returns-clause-added
returns-clause-added c =
    let row = c.args.row.now.items in
    let read : c.index.result.now ≡ get_or row c.args.place (whole (pos 0)) = get_or_read row c.args.place c.index.result.now (omega (arith, c.args.row.now.ok.0)) c.index.ensures (whole (pos 0)) in
    record {
      result = ap (λ (x : Fraction). set row c.args.place x) (c.in_ok-row.ensures.sum.result ∙ ap (λ (x : Fraction). outcome Sum x c.args.coefficient) read);
      fits = ap (λ (x : Fraction). first_wide (operated Sum x c.args.coefficient).operations) (sym read) ∙ c.in_ok-row.ensures.sum.fits;
    }
