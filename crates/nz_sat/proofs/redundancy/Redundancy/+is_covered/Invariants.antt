use Rattle.nz_sat.proofs.redundancy.Redundancy.+is_covered.Given as goal

-- reasons of reasons are followed so far
abbrev pub decreases-is_covered : goal.decreases-is_covered
decreases-is_covered l = l.depth
