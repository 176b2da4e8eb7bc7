use Rattle.nz_search.proofs.WithoutForms.{no_steps}
use Rattle.nz_search.proofs.theory.NoNumbersTheory.check.Goals as goal

pub returns-clause-leads : goal.returns-clause-leads
returns-clause-leads c = λ ns fs ls x at. no_steps c.args.self.now.told ns fs ls x c.args._work.now at
