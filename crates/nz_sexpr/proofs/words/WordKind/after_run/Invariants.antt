use Rattle.std.proofs.Common.{◌≡◌, drop}
use Rattle.nz_sexpr.specs.Words.{kinds_after}
use Rattle.nz_sexpr.proofs.words.WordKind.after_run.Given as goal

-- the bytes left bring it to the kind of all
abbrev pub invariant-loop-byte : goal.invariant-loop-byte
invariant-loop-byte l = kinds_after l.kind (drop l.byte-index l.run) ≡ kinds_after l.fn.self l.run
