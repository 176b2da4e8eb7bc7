use Rattle.std.proofs.Common.{◌≡◌, ◌++◌, List, drop}
use Rattle.std.specs.HashMap.{get}
use Rattle.std.specs.Prelude.{nat_eq}
use Rattle.nz_lin.specs.declared.form.Part.{Part}
use Rattle.nz_tab.specs.Units.{AreNumbers, addends}
use Rattle.nz_tab.proofs.tab.addends.Given as goal

-- the addends so far, and those still to come
abbrev pub invariant-loop-part : goal.invariant-loop-part
invariant-loop-part l = (fs : List (List Part)) → AreNumbers (get nat_eq l.numbers) fs → l.addends.items ++ addends fs l.next (drop l.part-index l.parts) ≡ addends fs l.count l.parts
