use Rattle.std.proofs.Common.{List, drop}
use Rattle.std.specs.Prelude.{nat_eq}
use Rattle.std.specs.HashMap.{get}
use Rattle.nz_spec.specs.terms.Form as spec
use Rattle.nz_spec.specs.terms.FormOf.{number_in}
use Rattle.nz_spec.specs.terms.Table.{IsTable, Node}
use Rattle.nz_lin.specs.Comes.{arithmetic_of}
use Rattle.nz_lin.specs.Forms.{AreUnits, form_over}
use Rattle.nz_lin.specs.Making.{HaveUnits, made_forms}
use Rattle.nz_spec.specs.numbers.Computation.{IsSame}
use Rattle.nz_lin.proofs.linear.all_joined.Given as goal

-- to join the forms that are left to what is joined so far is to join the whole
abbrev pub invariant-loop-kid : goal.invariant-loop-kid
invariant-loop-kid l = record {
  joined : (ns : List Node) → IsTable ns → AreUnits ns l.fn.sum.parts → HaveUnits ns (get nat_eq l.forms) l.kids
      → IsSame (spec.all_joined (number_in ns) (arithmetic_of l.sign) (form_over ns l.sum) (made_forms ns (get nat_eq l.forms) (drop l.kid-index l.kids)))
      (spec.all_joined (number_in ns) (arithmetic_of l.sign) (form_over ns l.fn.sum) (made_forms ns (get nat_eq l.forms) l.kids));
  units : (ns : List Node) → AreUnits ns l.fn.sum.parts → HaveUnits ns (get nat_eq l.forms) l.kids → AreUnits ns l.sum.parts;
}
