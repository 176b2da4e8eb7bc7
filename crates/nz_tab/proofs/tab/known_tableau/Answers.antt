-- The invariant tells it.
use Rattle.std.proofs.Common.{◌≡◌, length, subst}
use Rattle.nz_tab.specs.Tables.{IsTableau, Table}
use Rattle.nz_tab.proofs.tab.known_tableau.Goals as goal

pub returns : goal.returns
returns c = record {
  tableau = subst IsTableau c.tab.view_is c.tab.invariant.tableau;
  marked = subst (λ (t : Table). length t.grid.marks ≡ length t.forms) c.tab.view_is c.tab.invariant.count;
}
