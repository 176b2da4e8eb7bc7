-- No part is there, and the limit is below 0.
use Rattle.std.proofs.Common.{◌≡◌, true, List, length, eqb, sym, ap, ◌∙◌, rules}
use Rattle.nz_lin.specs.declared.form.Part.{Part}
use Rattle.nz_log_tests.proofs.Multiples.{no_parts, on_true, told_less}
use Rattle.nz_log_tests.proofs.rules.excludes_zero.Goals as goal

pub returns : goal.returns
returns c =
    let empty : c.is_empty.result ≡ true = search rules in
    record {
      excludes = on_true c.lt.result (λ t. record {
        none =
            no_parts c.args.bound.now.sides.parts
            (sym (ap (λ (ps : List Part). eqb (length ps) 0) c.parts.ensures.parts) ∙ sym c.is_empty.ensures ∙ empty);
        below = told_less c.lt.ensures c.limit.ensures.limit c.whole.ensures t;
      });
    }
