-- What is bound so far, and then what the constants that are left are bound to, is all of it.
use Rattle.std.proofs.Common.{◌≡◌, ◌++◌, drop}
use Rattle.nz_sort.specs.Items.{table_numbers}
use Rattle.nz_session.specs.Completed.{completed, completed_values}
use Rattle.nz_session.proofs.models.bind_all.Given as goal

abbrev pub invariant-loop-accepted : goal.invariant-loop-accepted
invariant-loop-accepted l =
    record {
      bindings : l.bindings ++ completed l.terms l.assign (table_numbers (drop l.accepted-index l.constants)) ≡ l.fn.bindings ++ completed l.terms l.assign (table_numbers l.constants);
      values : l.values ++ completed_values l.terms l.assign (table_numbers (drop l.accepted-index l.constants)) ≡ l.fn.values ++ completed_values l.terms l.assign (table_numbers l.constants);
    }
