-- The form comes first, and then the difference.
use Rattle.std.proofs.Common.{subst}
use Rattle.nz_lin.specs.Comes.{IsFormed}
use Rattle.nz_rows.proofs.Formed.{at_most_made}
use Rattle.nz_rows.proofs.bounds.at_most_number.Goals as goal

pub returns : goal.returns
returns c = record {
  literal = λ ns d formed.
      let own = subst (IsFormed ns d) c.in_ok-form.was formed in
      at_most_made ns c.args.number d c.in_ok-form.field-0 c.at_most.result own (c.at_most.ensures.literal ns own.1);
}
