-- The atoms so far are noted, and nothing else.
use Rattle.std.proofs.Common.{take}
use Rattle.nz_sat.specs.Numbers.{AreNotedIn}
use Rattle.nz_sat_tests.specs.Problems.{NamesAlone}
use Rattle.nz_sat_tests.proofs.problem.note_atoms.Given as goal

abbrev pub invariant-loop-atom : goal.invariant-loop-atom
invariant-loop-atom l = AreNotedIn l.log.atoms l.work.lines (take l.atom-index l.atoms) × NamesAlone l.work
