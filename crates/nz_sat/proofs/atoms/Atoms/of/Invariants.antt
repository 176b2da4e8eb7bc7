use Rattle.std.proofs.Common.{◌≡◌, take}
use Rattle.nz_sat.proofs.atoms.Atoms.of.Given as goal

-- the atoms so far
abbrev pub invariant-loop-id : goal.invariant-loop-id
invariant-loop-id l = l.atoms ≡ take l.id-index l.ids
