-- The clauses by their places, and what rests on those that stay.
use Rattle.std.proofs.Common.{ap, subst, ◌∙◌}
use Rattle.std.specs.Prelude.{option_map}
use Rattle.nz_log.specs.Logs.{LogState, Drops}
use Rattle.nz_log.specs.Stored.{entry_of, log_of}
use Rattle.nz_log.proofs.DroppedLevels.{drops_in_order}
use Rattle.nz_log.proofs.Entries.{drops_from}
use Rattle.nz_log.proofs.PremiseOrder.{drops_ordered}
use Rattle.nz_log.proofs.log.Log.drop_above.Goals as goal

-- what the calls did to the fields
inside_dropped : (c : goal.After-trim)
    → Drops (log_of c.self.inside.clauses.items c.self.inside.told.items c.self.inside.atoms) c.args.level (log_of c.trim.new.clauses.items c.drop_told.new.told.items c.self.inside.atoms)
inside_dropped c =
    drops_from c.self.inside.clauses.items c.trim.new.clauses.items c.self.inside.told.items c.drop_told.new.told.items c.self.inside.atoms c.args.level
    (λ i. ap (option_map entry_of) (c.trim.ensures.kept i) ∙ c.drop_clauses.ensures.kept i)
    c.drop_told.ensures.kept

dropped : (c : goal.After-trim) → Drops c.args.self.now c.args.level (log_of c.trim.new.clauses.items c.drop_told.new.told.items c.self.inside.atoms)
dropped c =
    let P : LogState → Type 0 = λ s. Drops s c.args.level (log_of c.trim.new.clauses.items c.drop_told.new.told.items c.self.inside.atoms) in
    subst P c.self.view_is (inside_dropped c)

pub invariant_of-self : goal.invariant_of-self
invariant_of-self c = (drops_ordered _ _ c.args.level (inside_dropped c) c.self.invariant.0, c.self.invariant.1)

pub returns-clause-drops : goal.returns-clause-drops
returns-clause-drops c = dropped c

pub returns-clause-sound : goal.returns-clause-sound
returns-clause-sound c ns levels order = drops_in_order c.args.self.now _ c.args.level (dropped c) ns levels order
