use Rattle.std.proofs.Common.{◌≡◌, drop}
use Rattle.nz_log.specs.Logs.{level_with}
use Rattle.nz_log.proofs.log.Log.level_with.Given as goal

-- the greatest so far, with those that are left, is the greatest of all
abbrev pub invariant-loop-literal : goal.invariant-loop-literal
invariant-loop-literal l = level_with l.self l.greatest (drop l.literal-index l.literals) ≡ level_with l.self l.level l.literals
