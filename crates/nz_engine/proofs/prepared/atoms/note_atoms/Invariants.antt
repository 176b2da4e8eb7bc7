-- The atoms so far are noted, and nothing else.
use Rattle.std.proofs.Common.{◌≡◌, ◌++◌, take}
use Rattle.nz_engine.specs.Checking.{atom_lines}
use Rattle.nz_engine.proofs.prepared.atoms.note_atoms.Given as goal

abbrev pub invariant-loop-id : goal.invariant-loop-id
invariant-loop-id l = l.work ≡ record l.fn.work { lines = l.fn.work.lines ++ atom_lines l.log.atoms (take l.id-index l.atoms) }
