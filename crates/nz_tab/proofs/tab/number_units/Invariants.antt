use Rattle.std.proofs.Common.{Vec, Global, ◌≡◌, ◌≤◌, ◌+◌, ◌++◌, List, length, map, take}
use Rattle.std.specs.HashMap.{get, spare}
use Rattle.std.specs.Prelude.{nat_eq}
use Rattle.nz_lin.specs.declared.form.Part.{Part}
use Rattle.nz_tab.specs.Units.{AreNumbers}
use Rattle.nz_tab.proofs.tab.number_units.Given as goal

-- the units so far
abbrev pub invariant-loop-unit : goal.invariant-loop-unit
invariant-loop-unit l = record {
  numbers : (fs : List (List Part)) → length fs ≡ l.first → AreNumbers (get nat_eq l.fn.numbers) fs → AreNumbers (get nat_eq l.numbers) (fs ++ map (λ (x : Vec Part Global). x.items) (take l.unit-index l.units));
  var : l.var ≡ l.first + l.unit-index;
  spare : length l.units ≤ spare l.numbers + l.unit-index;
}
