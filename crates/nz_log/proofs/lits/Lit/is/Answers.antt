-- Two literals are the same where their numbers are.
use Rattle.std.proofs.Common.{rules}
use Rattle.nz_log.proofs.LiteralCodes.{same_code}
use Rattle.nz_log.proofs.lits.Lit.is.Goals as goal

pub returns : goal.returns
returns c = record { same = search (rules, same_code c.args.self c.args.other) }
