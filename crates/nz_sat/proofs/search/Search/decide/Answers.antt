-- The term is an atom.
use Rattle.std.proofs.Common.{sym, ◌∙◌}
use Rattle.nz_sat.proofs.AtomNumbers.{unnamed}
use Rattle.nz_sat.proofs.search.Search.decide.Goals as goal

pub unreachable-requires : goal.unreachable-requires
unreachable-requires g c = unnamed c.args.self.now.atoms c.args.atom c.requires.named (sym c.number.ensures.number ∙ c.in_default.is)
