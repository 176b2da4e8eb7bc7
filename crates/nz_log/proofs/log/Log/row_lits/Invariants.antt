use Rattle.std.proofs.Common.{◌≡◌, ◌++◌, List, length}
use Rattle.nz_spec.specs.terms.Table.{Node}
use Rattle.nz_log.specs.Atoms.{AreAtoms, IsAtomOf, JoinOnly}
use Rattle.nz_log.specs.Logs.{AreLitsOf, JoinsAtoms}
use Rattle.nz_rows.specs.Rows.{AreRowLiteralsIn}
use Rattle.nz_log.proofs.log.Log.row_lits.Given as goal

-- the literals so far
abbrev pub invariant-loop-said : goal.invariant-loop-said
invariant-loop-said l =
    record {
      next : (goal.iterator-loop-said).can_next l.said-iterator;
      finite : (goal.iterator-loop-said).is_finite l.said-iterator;
      left : l.yielded ++ l.said-iterator.rest.items ≡ l.fn.row.items;
      long : l.said-iterator.rest.len ≡ length l.said-iterator.rest.items;
      made : (ns : List Node) → AreRowLiteralsIn ns l.yielded → AreLitsOf ns l.self.atoms l.yielded l.literals.items;
      joins : JoinsAtoms l.fn.self l.self;
      atoms : AreAtoms l.self.atoms;
      only : JoinOnly l.fn.self.atoms l.self.atoms (IsAtomOf l.literals.items);
    }
