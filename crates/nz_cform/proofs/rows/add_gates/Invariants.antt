use Rattle.std.proofs.Common.{◌≡◌, ◌+◌, ◌++◌, length}
use Rattle.nz_rows.specs.GateRows.{gates_at, lists_of}
use Rattle.nz_cform.specs.Covering.{HasRowsBelow}
use Rattle.nz_cform.specs.Forms.{FormState}
use Rattle.nz_cform.proofs.TableClauses.{IsAdding}
use Rattle.nz_cform.proofs.rows.add_gates.Given as goal

-- the clauses so far are put
abbrev pub invariant-loop-row : goal.invariant-loop-row
invariant-loop-row l =
    record {
      next : (goal.iterator-loop-row).can_next l.row-iterator;
      finite : (goal.iterator-loop-row).is_finite l.row-iterator;
      left : lists_of (l.yielded ++ l.row-iterator.rest.items) ≡ gates_at l.terms l.term;
      long : l.row-iterator.rest.len ≡ length l.row-iterator.rest.items;
      told : length l.clauses.items ≡ l.from + length l.yielded;
      adding : IsAdding l.terms l.term l.fn.log l.fn.clauses.items l.log l.clauses.items;
      rows : (s : FormState) → HasRowsBelow l.terms l.fn.log s l.term 0 0 0 → HasRowsBelow l.terms l.log s l.term (length l.yielded) 0 0;
    }
