use Rattle.std.proofs.Common.{◌≡◌, ◌+◌, ◌++◌, ℕ, length}
use Rattle.nz_spec.specs.terms.Table.{term_in}
use Rattle.nz_rows.specs.Rows.{AreRowsOf}
use Rattle.nz_cform.specs.Covering.{HasRowsOf, table_rows}
use Rattle.nz_cform.specs.Forms.{FormState}
use Rattle.nz_cform.proofs.TableClauses.{IsAdding}
use Rattle.nz_cform.proofs.rows.add_rows.Given as goal

-- the clauses so far are put
abbrev pub invariant-loop-row : goal.invariant-loop-row
invariant-loop-row l =
    record {
      next : (goal.iterator-loop-row).can_next l.row-iterator;
      finite : (goal.iterator-loop-row).is_finite l.row-iterator;
      left : AreRowsOf l.terms (table_rows l.table l.terms (term_in l.terms l.term)) (l.yielded ++ l.row-iterator.rest.items);
      long : l.row-iterator.rest.len ≡ length l.row-iterator.rest.items;
      told : length l.clauses.items ≡ l.from + length l.yielded;
      adding : IsAdding l.terms l.term l.fn.log l.fn.clauses.items l.log l.clauses.items;
      rows : (s : FormState) (gates links : ℕ) → HasRowsOf l.table l.terms l.fn.log s l.term gates links 0 → HasRowsOf l.table l.terms l.log s l.term gates links (length l.yielded);
    }
