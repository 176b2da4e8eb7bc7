use Rattle.std.proofs.Common.{rules, sym, subst}
use Rattle.std.specs.HashMap.{get}
use Rattle.nz_log.specs.Keys.{are_same_atom}
use Rattle.nz_simplex.specs.State.{IsSound}
use Rattle.nz_reals.specs.State.{Theory}
use Rattle.nz_reals.specs.Stored.{IsStored}
use Rattle.nz_reals.specs.Tells.{IsMoved}
use Rattle.nz_reals.proofs.Tolds.{stored_moved}
use Rattle.nz_reals.proofs.WidePlaces.{place_in, stepped_moved, still_moved, stop_answer}
use Rattle.nz_reals.proofs.reals.Reals.seek.Goals as goal
use Rattle.nz_reals.proofs.reals.Reals.seek.Goals.{After-check}

abbrev before : After-check → Theory
before c = record { simplex = c.self.inside.simplex; known = c.self.inside.bounded; told = c.self.inside.told.items }

abbrev after : After-check → Theory
after c = record (before c) { simplex = c.check.new.self }

stored : (c : After-check) → IsStored (get are_same_atom c.self.inside.forms) (after c)
stored c = stored_moved (get are_same_atom c.self.inside.forms) (before c) c.check.new.self c.check.ensures.steps.forms c.check.ensures.steps.asserted c.self.invariant.0

moved : (c : After-check) → IsMoved c.args.self.now (after c) c.args.work.now c.check.new.work
moved c =
    let sound = subst (λ (t : Theory). IsSound t.simplex) (sym c.self.view_is) c.stored.ensures.sound in
    subst (λ (t : Theory). IsMoved t (after c) c.args.work.now c.check.new.work) c.self.view_is
    (stepped_moved (before c) c.check.new.self c.args.work.now c.check.new.work sound c.check.ensures.steps)

-- ---- Where it is known to be feasible

pub returns-then-self-clause-moved : goal.returns-then-self-clause-moved
returns-then-self-clause-moved c = still_moved c.args.self.now c.args.work.now c.stored.ensures.sound

-- ---- Where it is looked for

pub invariant_of-self : goal.invariant_of-self
invariant_of-self c = (
  stored (goal.at.invariant_of-self c).After-check,
  λ known ns over. search (rules, c.in-Ok-Feasible.ensures.answer ns over),
)

pub invariant_of-self-in-Ok-Clash : goal.invariant_of-self-in-Ok-Clash
invariant_of-self-in-Ok-Clash c = (stored (goal.at.invariant_of-self-in-Ok-Clash c).After-check, λ known. let unknown = c.if-self.false in absurd cc)

pub invariant_of-self-in-Err-Spent : goal.invariant_of-self-in-Err-Spent
invariant_of-self-in-Err-Spent c = (stored (goal.at.invariant_of-self-in-Err-Spent c).After-check, λ known. let unknown = c.if-self.false in absurd cc)

pub invariant_of-self-in-Err-Wide : goal.invariant_of-self-in-Err-Wide
invariant_of-self-in-Err-Wide c = (stored (goal.at.invariant_of-self-in-Err-Wide c).After-check, λ known. let unknown = c.if-self.false in absurd cc)

pub returns-in-Ok-Feasible-clause-moved : goal.returns-in-Ok-Feasible-clause-moved
returns-in-Ok-Feasible-clause-moved c = moved (goal.at.returns-in-Ok-Feasible-clause-moved c).After-check

pub returns-in-Ok-Clash-clause-moved : goal.returns-in-Ok-Clash-clause-moved
returns-in-Ok-Clash-clause-moved c = moved (goal.at.returns-in-Ok-Clash-clause-moved c).After-check

pub returns-in-Err-Spent-clause-moved : goal.returns-in-Err-Spent-clause-moved
returns-in-Err-Spent-clause-moved c = moved (goal.at.returns-in-Err-Spent-clause-moved c).After-check

pub returns-in-Err-Wide-clause-moved : goal.returns-in-Err-Wide-clause-moved
returns-in-Err-Wide-clause-moved c = moved (goal.at.returns-in-Err-Wide-clause-moved c).After-check

pub returns-in-Err-Wide-clause-place : goal.returns-in-Err-Wide-clause-place
returns-in-Err-Wide-clause-place c = λ ns over.
    let place = c.in-Err-Wide.place in
    let is = stop_answer ns c.check.new.self _ c.in-Err-Wide.field-0 place (c.in-Err-Wide.ensures.answer ns over) c.in-Err-Wide.field-0-is in
    place_in ns c.check.new.self c.known_state.ensures.sound over place is
