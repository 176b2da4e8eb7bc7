-- No operation more.
use Rattle.std.proofs.Common.{subst}
use Rattle.nz_lin.specs.Comes.{IsFormed}
use Rattle.nz_rows.proofs.Formed.{negated_formed}
use Rattle.nz_rows.proofs.bounds.opposite.Goals as goal

pub returns : goal.returns
returns c = record {
  formed = λ ns d formed.
      negated_formed ns d c.in_ok-form.field-0 c.in_ok-negated.field-0 (c.in_ok-negated.ensures.negated ns) (c.in_ok-negated.ensures.units ns) (subst (IsFormed ns d) c.in_ok-form.was formed);
}
