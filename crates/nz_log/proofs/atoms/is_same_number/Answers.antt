-- Numerators, and then denominators.
use Rattle.std.proofs.Common.{rules}
use Rattle.nz_log.proofs.AtomKeys.{same_number_is}
use Rattle.nz_log.proofs.atoms.is_same_number.Goals as goal

pub returns-then-num : goal.returns-then-num
returns-then-num c = search (rules, same_number_is c.args.number c.args.other)
