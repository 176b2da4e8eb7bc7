-- No operation more.
use Rattle.std.proofs.Common.{subst}
use Rattle.nz_lin.specs.Comes.{IsFormed}
use Rattle.nz_rows.proofs.Formed.{units_limited}
use Rattle.nz_rows.proofs.bounds.units_at_most.Goals as goal

pub returns : goal.returns
returns c = record {
  literal = λ ns d formed.
      units_limited ns c.args.number d c.in_ok-form.field-0 c.at_most_zero.result c.with_limit.result c.at_most_zero.ensures.units (c.with_limit.ensures.literal ns) (c.with_limit.ensures.units ns)
      (subst (IsFormed ns d) c.in_ok-form.was formed);
}
