-- The atom has a number.
use Rattle.std.proofs.Common.{sym, ap, ◌∙◌}
use Rattle.nz_sat.specs.Numbers.{number_of}
use Rattle.nz_sat.proofs.AtomNumbers.{unnamed}
use Rattle.nz_sat.proofs.consult.note_told.Goals as goal

pub unreachable-requires : goal.unreachable-requires
unreachable-requires c = unnamed c.args.atoms.now c.args.literal.atom c.requires.named (ap (number_of c.args.atoms.now) (sym c.atom.ensures.atom) ∙ sym c.number.ensures.number ∙ c.in-None.is)
