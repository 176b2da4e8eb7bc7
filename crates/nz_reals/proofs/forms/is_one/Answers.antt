use Rattle.std.proofs.Common.{◌∙◌, ap, subst}
use Rattle.nz_fractions.specs.Fraction.{IsNumber, fraction_eq}
use Rattle.nz_reals.proofs.JoinedForms.{one_test}
use Rattle.nz_reals.proofs.forms.is_one.Goals as goal

pub returns : goal.returns
returns c = record {
  one =
      c.eq.ensures
      ∙ ap (fraction_eq c.args.number) c.whole-one.ensures
      ∙ one_test c.args.number c.num.ensures.number (subst IsNumber c.whole-one.ensures c.num-2.ensures.number);
}
