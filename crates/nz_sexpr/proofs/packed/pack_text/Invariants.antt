-- The bytes so far, and those of what is left of the text, are those of all.
use Rattle.std.proofs.Common.{◌≡◌, ◌++◌, drop}
use Rattle.nz_sexpr.specs.Packed.{escaped}
use Rattle.nz_sexpr.proofs.packed.pack_text.Given as goal

abbrev pub invariant-loop-byte : goal.invariant-loop-byte
invariant-loop-byte l = l.bytes.items ++ escaped (drop l.byte-index l.text) ≡ l.fn.bytes.items ++ escaped l.text
