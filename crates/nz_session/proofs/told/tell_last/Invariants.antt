-- So many assertions of the last level were told, and all else stays.
use Rattle.std.proofs.Common.{◌≡◌, ◌≤◌, ◌-◌, ℕ, List, [], ◌∷◌, ◌++◌, length, map, take}
use Rattle.nz_spec.specs.terms.Term.{Term}
use Rattle.nz_sort.specs.Items.{table_numbers}
use Rattle.nz_session.specs.Told.{only_asserted}
use Rattle.nz_session.proofs.told.tell_last.Given as goal

abbrev pub invariant-loop-told : goal.invariant-loop-told
invariant-loop-told g l =
    record {
      has : (before : List (List ℕ)) → g.E.Decide.levels l.fn.engine ≡ map only_asserted (before ++ take l.fn.told.last (table_numbers l.assertions) ∷ [])
          → g.E.Decide.levels l.engine ≡ map only_asserted (before ++ take l.told.last (table_numbers l.assertions) ∷ []);
      within : l.told.last ≤ length l.assertions;
      count : l.told.levels ≡ l.fn.told.levels;
      table : g.E.Decide.table l.engine ≡ g.E.Decide.table l.fn.engine;
      begins : (ts : List Term) → g.E.Decide.begins l.fn.engine ts → g.E.Decide.begins l.engine ts;
    }

abbrev pub decreases-loop-told : goal.decreases-loop-told
decreases-loop-told g l = length l.assertions - l.told.last
