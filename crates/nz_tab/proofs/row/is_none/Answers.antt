-- A number in lowest terms that is 0 is the whole number 0.
use Rattle.std.proofs.Common.{◌≡◌, true, pos, sym, subst, ◌∙◌}
use Rattle.nz_fractions.specs.Fraction.{Fraction, IsNumber, whole}
use Rattle.nz_fractions.proofs.Laws.{lowest-same}
use Rattle.nz_fractions.proofs.Order.{same-fraction_eq}
use Rattle.nz_spec.specs.terms.Term.{is_zero}
use Rattle.nz_tab.proofs.row.is_none.Goals as goal

none_zero : (q : Fraction) → IsNumber q → IsNumber (whole (pos 0)) → is_zero q ≡ true → q ≡ whole (pos 0)
none_zero q h z e = lowest-same (same-fraction_eq q (whole (pos 0)) e) (record { lowest = h.lowest }) (record { lowest = z.lowest })

pub returns-clause-none : goal.returns-clause-none
returns-clause-none c = λ e. none_zero c.args.number c.num.ensures.number (subst IsNumber c.whole-none.ensures c.num-2.ensures.number) (sym c.is_zero.ensures.zero ∙ e)
