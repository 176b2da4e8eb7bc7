-- What is bound so far, and then what the constants of the levels that are left are bound to, is all of it below the newest level.
use Rattle.std.proofs.Common.{◌≡◌, ◌++◌, drop}
use Rattle.std.specs.Prelude.{flat_map}
use Rattle.nz_sort.specs.Layers.{Layer}
use Rattle.nz_sort.specs.Items.{table_numbers}
use Rattle.nz_session.specs.Completed.{completed, completed_values}
use Rattle.nz_session.proofs.models.bindings_of.Given as goal

abbrev pub invariant-loop-level : goal.invariant-loop-level
invariant-loop-level l =
    let rest = flat_map (λ (k : Layer). table_numbers k.constants) (drop l.level-index l.live.below) in
    let all = flat_map (λ (k : Layer). table_numbers k.constants) l.live.below in
    record {
      bindings : l.bindings ++ completed l.terms l.assign rest ≡ completed l.terms l.assign all;
      values : l.values ++ completed_values l.terms l.assign rest ≡ completed_values l.terms l.assign all;
    }
