use Rattle.std.proofs.Common.{◌≡◌, drop}
use Rattle.nz_log.specs.Logs.{level_of_links}
use Rattle.nz_log.proofs.log.Log.level_of_links.Given as goal

-- the greatest so far, with those that are left, is the greatest of all
abbrev pub invariant-loop-link : goal.invariant-loop-link
invariant-loop-link l = level_of_links l.self l.greatest (drop l.link-index l.links) ≡ level_of_links l.self l.level l.links
