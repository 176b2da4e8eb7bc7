use Rattle.std.proofs.Common.{◌≡◌, drop}
use Rattle.nz_log.specs.Atoms.{unit_numbers}
use Rattle.nz_log.specs.Logs.{level_of_terms}
use Rattle.nz_log.proofs.log.Log.level_of_units.Given as goal

-- the greatest so far, with those that are left, is the greatest of all
abbrev pub invariant-loop-part : goal.invariant-loop-part
invariant-loop-part l =
    level_of_terms l.self l.greatest (unit_numbers (drop l.part-index l.parts)) ≡ level_of_terms l.self l.level (unit_numbers l.parts)
