use Rattle.std.proofs.Common.{◌≡◌, drop}
use Rattle.nz_spec.specs.clauses.Literal.{once}
use Rattle.nz_log.specs.Lits.{are_same_lit}
use Rattle.nz_log.specs.Logs.{chained, literals_at}
use Rattle.nz_log.proofs.log.Log.chained.Given as goal

-- the resolvent so far, with the links that are left, comes to the last one; it has each literal once
abbrev pub invariant-loop-link : goal.invariant-loop-link
invariant-loop-link l =
    record {
      left : chained l.self l.resolvent (drop l.link-index l.links) ≡ chained l.self (literals_at l.self l.first) l.links;
      set : once are_same_lit l.resolvent ≡ l.resolvent;
    }
