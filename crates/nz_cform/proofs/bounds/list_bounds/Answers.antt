-- One clause after another.
use Rattle.std.proofs.Common.{ℕ, List, get_or, refl, subst, take_all}
use Rattle.std.proofs.lemmas.List.Elements.{All-get_or}
use Rattle.nz_cform.specs.Covering.{AreBoundsListed, IsOnAtoms}
use Rattle.nz_cform.proofs.ListedBounds.{one_of_all}
use Rattle.nz_cform.proofs.bounds.list_bounds.Goals as goal

pub list_clause-requires-clause-on_atoms : goal.list_clause-requires-clause-on_atoms
list_clause-requires-clause-on_atoms c =
    All-get_or (IsOnAtoms c.args.log.now) c.args.clauses.now c.loop-clause.clause-index 0 c.loop-clause-test.true c.requires.on_atoms

pub loop-clause-preserved : goal.loop-clause-preserved
loop-clause-preserved c =
    let did = c.in_ok-list_clause.ensures in
    one_of_all c.args.log.now c.args.clauses.now c.args.level c.loop-clause.clause-index (get_or c.args.clauses.now c.loop-clause.clause-index 0)
    c.args.bounds.now c.loop-clause.bounds c.list_clause.new.bounds c.loop-clause-test.true refl c.loop-clause.invariant did.grown did.only did.listed

pub returns-clause-listed : goal.returns-clause-listed
returns-clause-listed c =
    subst (λ (ids : List ℕ). AreBoundsListed c.args.log.now ids c.loop-clause.bounds)
    (take_all c.loop-clause.clause-index c.args.clauses.now c.loop-clause-test.false) c.loop-clause.invariant.listed
