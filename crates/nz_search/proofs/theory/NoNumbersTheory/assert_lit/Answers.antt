use Rattle.std.proofs.Common.{rules}
use Rattle.nz_log.specs.Atoms.{literal_in}
use Rattle.nz_search.proofs.WithoutForms.{told_more}
use Rattle.nz_search.proofs.theory.NoNumbersTheory.assert_lit.Goals as goal

pub returns-in-Some-clause-at : goal.returns-in-Some-clause-at
returns-in-Some-clause-at c =
    λ ns fs ls x at.
    told_more c.args.self.now.told c.in-Some.told fs ls (literal_in ns c.args._log.now.atoms c.args._literal) x (search rules) at
