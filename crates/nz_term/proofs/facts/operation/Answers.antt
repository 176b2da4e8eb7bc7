-- What is carried out has its value.
use Rattle.std.proofs.Common.{sym, ◌∙◌}
use Rattle.nz_frac.specs.Operations.{operator_of}
use Rattle.nz_term.proofs.Numbers.{folded_by}
use Rattle.nz_term.proofs.facts.operation.Goals as goal

pub returns : goal.returns
returns c =
    record {
      operation = c.ok.ensures.value
          ∙ folded_by (operator_of c.args.op) c.args.left c.args.right c.carry_out.result (sym c.is_undefined.ensures.undefined ∙ c.if-is_undefined.false)
          c.carry_out.ensures.carried c.carry_out.ensures.stopped;
    }
