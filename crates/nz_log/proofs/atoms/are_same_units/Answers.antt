-- Lists of other lengths aren't the same.
use Rattle.std.proofs.Common.{rules}
use Rattle.nz_log.proofs.AtomKeys.{other_lengths}
use Rattle.nz_log.proofs.atoms.are_same_units.Goals as goal

pub returns-then-parts-others : goal.returns-then-parts-others
returns-then-parts-others c = search (rules, other_lengths c.args.parts.now c.args.others.now)
