use Rattle.std.proofs.Common.{List, drop}
use Rattle.nz_spec.specs.terms.Form.{parts_joined}
use Rattle.nz_spec.specs.terms.FormOf.{number_in}
use Rattle.nz_spec.specs.terms.Table.{IsTable, Node}
use Rattle.nz_lin.specs.Comes.{arithmetic_of}
use Rattle.nz_lin.specs.Forms.{AreUnits, parts_over}
use Rattle.nz_spec.specs.numbers.Computation.{IsSame}
use Rattle.nz_lin.proofs.form.join_parts.Given as goal

-- to join the rest to what is joined so far is to join the whole
abbrev pub invariant-loop-other : goal.invariant-loop-other
invariant-loop-other l = record {
  joined : (ns : List Node) → IsTable ns → AreUnits ns l.fn.parts.items → AreUnits ns l.others
      → IsSame (parts_joined (number_in ns) (arithmetic_of l.sign) (parts_over ns l.parts.items) (parts_over ns (drop l.other-index l.others)))
      (parts_joined (number_in ns) (arithmetic_of l.sign) (parts_over ns l.fn.parts.items) (parts_over ns l.others));
  units : (ns : List Node) → AreUnits ns l.fn.parts.items → AreUnits ns l.others → AreUnits ns l.parts.items;
}
