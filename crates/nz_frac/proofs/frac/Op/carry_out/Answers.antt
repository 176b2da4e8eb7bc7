-- Each operation by its own clauses.
use Rattle.std.proofs.Common.{refl, sym, ◌∙◌}
use Rattle.nz_frac.specs.declared.frac.Op.TheVariants as op
use Rattle.nz_frac.proofs.OperationOutcomes.{by_zero, carried, stopped}
use Rattle.nz_frac.proofs.frac.Op.carry_out.Goals as goal

pub returns-then-is_zero-clause-carried : goal.returns-then-is_zero-clause-carried
returns-then-is_zero-clause-carried c = by_zero c.args.self c.args.left c.args.right c.whole.result c.in-Div.is (sym c.is_zero.ensures.zero ∙ c.if-is_zero.true) c.whole.ensures

pub returns-in-Add-clause-carried : goal.returns-in-Add-clause-carried
returns-in-Add-clause-carried c = carried c.args.self op.Add c.args.left c.args.right c.add.result c.in-Add.is refl c.add.ensures.wide c.add.ensures.sum

pub returns-in-Add-clause-stopped : goal.returns-in-Add-clause-stopped
returns-in-Add-clause-stopped c = stopped c.args.self op.Add c.args.left c.args.right c.add.result c.in-Add.is refl c.add.ensures.wide c.add.ensures.named

pub returns-in-Sub-clause-carried : goal.returns-in-Sub-clause-carried
returns-in-Sub-clause-carried c = carried c.args.self op.Sub c.args.left c.args.right c.sub.result c.in-Sub.is refl c.sub.ensures.wide c.sub.ensures.difference

pub returns-in-Sub-clause-stopped : goal.returns-in-Sub-clause-stopped
returns-in-Sub-clause-stopped c = stopped c.args.self op.Sub c.args.left c.args.right c.sub.result c.in-Sub.is refl c.sub.ensures.wide c.sub.ensures.named

pub returns-in-Mul-clause-carried : goal.returns-in-Mul-clause-carried
returns-in-Mul-clause-carried c = carried c.args.self op.Mul c.args.left c.args.right c.mul.result c.in-Mul.is refl c.mul.ensures.wide c.mul.ensures.product

pub returns-in-Mul-clause-stopped : goal.returns-in-Mul-clause-stopped
returns-in-Mul-clause-stopped c = stopped c.args.self op.Mul c.args.left c.args.right c.mul.result c.in-Mul.is refl c.mul.ensures.wide c.mul.ensures.named

pub returns-else-is_zero-clause-carried : goal.returns-else-is_zero-clause-carried
returns-else-is_zero-clause-carried c =
    carried c.args.self op.Div c.args.left c.args.right c.div.result c.in-Div.is (sym c.is_zero.ensures.zero ∙ c.if-is_zero.false) c.div.ensures.wide c.div.ensures.quotient

pub returns-else-is_zero-clause-stopped : goal.returns-else-is_zero-clause-stopped
returns-else-is_zero-clause-stopped c =
    stopped c.args.self op.Div c.args.left c.args.right c.div.result c.in-Div.is (sym c.is_zero.ensures.zero ∙ c.if-is_zero.false) c.div.ensures.wide c.div.ensures.named
