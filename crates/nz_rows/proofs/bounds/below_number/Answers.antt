-- The form comes first, and then the difference.
use Rattle.std.proofs.Common.{subst}
use Rattle.nz_lin.specs.Comes.{IsFormed}
use Rattle.nz_rows.proofs.Formed.{below_made}
use Rattle.nz_rows.proofs.bounds.below_number.Goals as goal

pub returns : goal.returns
returns c = record {
  literal = λ ns d formed.
      let own = subst (IsFormed ns d) c.in_ok-form.was formed in
      below_made ns c.args.number d c.in_ok-form.field-0 c.below.result own (c.below.ensures.literal ns own.1);
}
