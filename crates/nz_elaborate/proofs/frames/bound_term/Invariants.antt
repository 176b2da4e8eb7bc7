use Rattle.std.proofs.Common.{◌≡◌, drop, length, reverse}
use Rattle.nz_elaborate.specs.Names.{bound_by}
use Rattle.nz_elaborate.proofs.NameLookup.{innermost}
use Rattle.nz_elaborate.proofs.frames.bound_term.Given as goal

abbrev pub invariant-loop-frame : goal.invariant-loop-frame
invariant-loop-frame l = bound_by l.frames.items l.name ≡ innermost l.name (drop (length l.yielded) (reverse l.frames.items))
