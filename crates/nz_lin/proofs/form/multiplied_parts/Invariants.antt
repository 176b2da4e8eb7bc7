use Rattle.std.proofs.Common.{List, ◌++◌, drop}
use Rattle.nz_spec.specs.terms.Form.{parts_scaled}
use Rattle.nz_spec.specs.terms.Table.{Node}
use Rattle.nz_lin.specs.Comes.{times}
use Rattle.nz_lin.specs.Forms.{AreUnits, parts_over}
use Rattle.nz_spec.specs.numbers.Computation.{IsSame}
use Rattle.nz_lin.proofs.ScaledForms.{onto}
use Rattle.nz_lin.proofs.form.multiplied_parts.Given as goal

-- the parts so far, and then those that are made of the rest, are the whole
abbrev pub invariant-loop-part : goal.invariant-loop-part
invariant-loop-part l = record {
  scaled : (ns : List Node) → IsSame (onto ns (times l.side l.factor) l.new.items (drop l.part-index l.parts)) (parts_scaled (times l.side l.factor) (parts_over ns l.parts));
  units : (ns : List Node) → AreUnits ns l.parts → AreUnits ns (l.new.items ++ drop l.part-index l.parts);
}
