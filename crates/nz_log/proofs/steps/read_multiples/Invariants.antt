use Rattle.std.proofs.Common.{◌≡◌, ◌++◌, List, drop}
use Rattle.nz_spec.specs.terms.Table.{Node}
use Rattle.nz_log.specs.Axioms.{multiples_in}
use Rattle.nz_log.specs.Spelling.{multiples_read}
use Rattle.nz_log.proofs.steps.read_multiples.Given as goal

-- those that are read so far, with those that are left, are all
abbrev pub invariant-loop-multiple : goal.invariant-loop-multiple
invariant-loop-multiple l =
    (ns : List Node) → multiples_read ns l.read.items ++ multiples_in ns l.log.atoms (drop l.multiple-index l.multiples)
    ≡ multiples_read ns l.fn.read.items ++ multiples_in ns l.log.atoms l.multiples
