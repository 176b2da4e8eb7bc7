use Rattle.std.proofs.Common.{take}
use Rattle.nz_script.specs.text.Text.{HasNone}
use Rattle.nz_sexpr.specs.Part.{ends}
use Rattle.nz_sexpr.proofs.part.Part.run.Given as goal

-- no run ends at the bytes passed
abbrev pub invariant-loop-run : goal.invariant-loop-run
invariant-loop-run l = HasNone (ends l.self) (take l.run l.bytes)
