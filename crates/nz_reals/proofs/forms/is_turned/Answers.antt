use Rattle.std.proofs.Common.{ap, sym, ◌∙◌}
use Rattle.nz_fractions.specs.Fraction.{fraction_lt}
use Rattle.nz_fractions.proofs.Order.{lt-cmp}
use Rattle.nz_reals.proofs.Sums.{turned_first}
use Rattle.nz_reals.proofs.forms.is_turned.Goals as goal

pub returns-in-len1-up : goal.returns-in-len1-up
returns-in-len1-up c = record {
  turned =
      let p = c.first-item.result in
      c.lt.ensures ∙ sym (lt-cmp p.coefficient c.whole.result) ∙ ap (fraction_lt p.coefficient) c.whole.ensures
      ∙ sym (turned_first c.args.parts.now p c.in-len1-up.len_at_least c.first-item.is);
}
