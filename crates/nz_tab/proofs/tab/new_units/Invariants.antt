use Rattle.std.proofs.Common.{Vec, Global, ◌≡◌, ◌++◌, List, map, drop}
use Rattle.std.specs.HashMap.{get}
use Rattle.std.specs.Prelude.{nat_eq}
use Rattle.nz_lin.specs.declared.form.Part.{Part}
use Rattle.nz_tab.specs.Units.{AreNumbers, new_units}
use Rattle.nz_tab.proofs.tab.new_units.Given as goal

-- what was put so far, and what is still to come
abbrev pub invariant-loop-part : goal.invariant-loop-part
invariant-loop-part l = (fs : List (List Part)) → AreNumbers (get nat_eq l.numbers) fs → map (λ (x : Vec Part Global). x.items) l.units.items ++ new_units fs (drop l.part-index l.parts) ≡ new_units fs l.parts
