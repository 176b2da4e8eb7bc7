-- One conflict more is learned from.
use Rattle.std.proofs.Common.{◌≡◌, ℕ, ◌<◌, Err, None, List, Ok, Option, Some, ap, sym, subst, ◌∙◌, arith, rules}
use Rattle.nz_search.specs.declared.stop.Stop.TheVariants as stop
use Rattle.nz_sat.specs.declared.search.Search.{Search}
use Rattle.nz_sat.specs.Searching.{Advances, MayFollow}
use Rattle.nz_sat.specs.Theories.{TheoryState, state_of, told_lits}
use Rattle.nz_sat.specs.declared.trail.Assigned.{Assigned}
use Rattle.nz_sat.specs.Trails.{IsFrontOf}
use Rattle.nz_sat.proofs.SearchSteps.{advances_same, reaches_cut, steps_same}
use Rattle.nz_sat.proofs.TheoryAnswers.{back_falsified, back_refuted, ends_without, goes_back, settles_first, settles_on, settles_open, settling_reaches, steps_on}
use Rattle.nz_sat.proofs.Levels.{below_front}
use Rattle.nz_sat.proofs.SearchLines.{adds_limit}
use Rattle.nz_sat.proofs.KeptClauses.{left_held}
use Rattle.nz_sat.proofs.search.Search.settle.Goals as goal

pub returns-in_err-conflict-clause-steps : goal.returns-in_err-conflict-clause-steps
returns-in_err-conflict-clause-steps g c =
    let may : MayFollow c.args.log.now c.args.held.now.items c.args.self.now = record { search = c.requires.search; first = c.requires.first } in
    let same : Err c.in_err-conflict.field-0.0 ≡ c.from_residual.result = search rules in
    record { advances = advances_same same (c.in_err-conflict.ensures.advances c.args.held.now.items may); met = search rules; spent = search rules }

pub loop-conflict-init : goal.loop-conflict-init
loop-conflict-init g c =
    let held = c.args.held.now.items in
    let may : MayFollow c.args.log.now held c.args.self.now = record { search = c.requires.search; first = c.requires.first } in
    settles_first c.requires.search c.requires.noted (c.in_ok-conflict.ensures.advances held may) c.conflict.ensures.adds (ap (λ (r : Search). r.atoms) c.conflict.ensures.rest)
    c.in_ok-conflict.ensures.noted (c.in_ok-conflict.ensures.comes held may) c.in_ok-conflict.ensures.told c.in_ok-conflict.ensures.met

pub refute-requires-clause-implied : goal.refute-requires-clause-implied
refute-requires-clause-implied g c = (goes_back c.loop-conflict.invariant c.in-Some.is c.back_to.ensures.rest c.back_to.ensures.size c.back_to.ensures.back c.back_to.ensures.looked c.back_to.ensures.bounds).search.on.implied

pub refute-requires-clause-undecided : goal.refute-requires-clause-undecided
refute-requires-clause-undecided g c = (goes_back c.loop-conflict.invariant c.in-Some.is c.back_to.ensures.rest c.back_to.ensures.size c.back_to.ensures.back c.back_to.ensures.looked c.back_to.ensures.bounds).depth_is ∙ c.if-back_to-eq0.true

pub returns-in_err-refute-clause-steps : goal.returns-in_err-refute-clause-steps
returns-in_err-refute-clause-steps g c =
    let none = c.if-back_to-eq0.true in
    let t = c.loop-conflict.invariant in
    let b = goes_back c.loop-conflict.invariant c.in-Some.is c.back_to.ensures.rest c.back_to.ensures.size c.back_to.ensures.back c.back_to.ensures.looked c.back_to.ensures.bounds in
    let start = c.args.self.now in
    let theory : g.row.T.Denot → TheoryState = state_of g.T.Theory.is_over g.T.Theory.has_told g.T.Theory.is_feasible g.T.Theory.is_of g.T.Theory.is_at in
    let same : Err stop.Memory ≡ c.from_residual-in_err-refute.result = search rules in
    record {
      advances = subst
          (λ (x : g.row.T.Denot). Advances (theory c.args.theory.now) (theory x) start start.trail.entries c.args.log.now c.refute.new.log c.args.held.now.items c.loop-conflict.held.items
          c.args.work.now c.loop-conflict.work c.from_residual-in_err-refute.result)
          (sym (c.back_to.ensures.left none))
          (advances_same same
          (back_refuted t b c.refute.ensures.grows c.refute.ensures.sound (Err stop.Memory)
          (ends_without (Option ℕ) (Option ℕ) c.loop-conflict.conflict (theory c.args.theory.now) (theory c.loop-conflict.theory) c.args.log.now c.args.held.now.items start.atoms
          (told_lits start.bounds start.trail.entries) start.trail.entries c.args.work.now c.loop-conflict.work)));
      met = search rules;
      spent = search rules;
    }

pub returns-then-back_to-eq0-clause-steps : goal.returns-then-back_to-eq0-clause-steps
returns-then-back_to-eq0-clause-steps g c =
    let none = c.if-back_to-eq0.true in
    let t = c.loop-conflict.invariant in
    let b = goes_back c.loop-conflict.invariant c.in-Some.is c.back_to.ensures.rest c.back_to.ensures.size c.back_to.ensures.back c.back_to.ensures.looked c.back_to.ensures.bounds in
    let start = c.args.self.now in
    let theory : g.row.T.Denot → TheoryState = state_of g.T.Theory.is_over g.T.Theory.has_told g.T.Theory.is_feasible g.T.Theory.is_of g.T.Theory.is_at in
    record {
      advances = subst
          (λ (x : g.row.T.Denot). Advances (theory c.args.theory.now) (theory x) start start.trail.entries c.args.log.now c.refute.new.log c.args.held.now.items c.loop-conflict.held.items
          c.args.work.now c.loop-conflict.work (Ok (Some c.in_ok-refute.field-0)))
          (sym (c.back_to.ensures.left none)) (back_refuted t b c.refute.ensures.grows c.refute.ensures.sound (Ok (Some c.in_ok-refute.field-0)) (λ ends. ends));
      met = search rules;
      spent = search rules;
    }

pub returns-then-back_to-eq0-clause-refuted : goal.returns-then-back_to-eq0-clause-refuted
returns-then-back_to-eq0-clause-refuted g c =
    let b = goes_back c.loop-conflict.invariant c.in-Some.is c.back_to.ensures.rest c.back_to.ensures.size c.back_to.ensures.back c.back_to.ensures.looked c.back_to.ensures.bounds in (
      c.in_ok-refute.ensures.live,
      λ assumed only. c.in_ok-refute.ensures.refutes assumed (b.carries.assumed_only assumed only) (back_falsified b assumed),
    )

pub learn_on-requires-clause-search : goal.learn_on-requires-clause-search
learn_on-requires-clause-search g c = (goes_back c.loop-conflict.invariant c.in-Some.is c.back_to.ensures.rest c.back_to.ensures.size c.back_to.ensures.back c.back_to.ensures.looked c.back_to.ensures.bounds).search

pub learn_on-requires-clause-first : goal.learn_on-requires-clause-first
learn_on-requires-clause-first g c = (goes_back c.loop-conflict.invariant c.in-Some.is c.back_to.ensures.rest c.back_to.ensures.size c.back_to.ensures.back c.back_to.ensures.looked c.back_to.ensures.bounds).first

pub learn_on-requires-clause-conflict : goal.learn_on-requires-clause-conflict
learn_on-requires-clause-conflict g c = (goes_back c.loop-conflict.invariant c.in-Some.is c.back_to.ensures.rest c.back_to.ensures.size c.back_to.ensures.back c.back_to.ensures.looked c.back_to.ensures.bounds).conflict

pub learn_on-requires-clause-noted : goal.learn_on-requires-clause-noted
learn_on-requires-clause-noted g c = (goes_back c.loop-conflict.invariant c.in-Some.is c.back_to.ensures.rest c.back_to.ensures.size c.back_to.ensures.back c.back_to.ensures.looked c.back_to.ensures.bounds).noted

pub learn_on-requires-clause-last : goal.learn_on-requires-clause-last
learn_on-requires-clause-last g c =
    let b = goes_back c.loop-conflict.invariant c.in-Some.is c.back_to.ensures.rest c.back_to.ensures.size c.back_to.ensures.back c.back_to.ensures.looked c.back_to.ensures.bounds in
    let some = c.if-back_to-eq0.false in
    let high : 0 < c.back_to.result = omega (arith, some) in
    let deep = b.depth_is in
    b.last (omega (arith, high, deep))

pub learn_on-requires-clause-decided : goal.learn_on-requires-clause-decided
learn_on-requires-clause-decided g c =
    let b = goes_back c.loop-conflict.invariant c.in-Some.is c.back_to.ensures.rest c.back_to.ensures.size c.back_to.ensures.back c.back_to.ensures.looked c.back_to.ensures.bounds in
    let some = c.if-back_to-eq0.false in
    let high : 0 < c.back_to.result = omega (arith, some) in
    let deep = b.depth_is in
    omega (arith, high, deep)

pub returns-in_err-conflict-2-clause-steps : goal.returns-in_err-conflict-2-clause-steps
returns-in_err-conflict-2-clause-steps g c =
    let t = c.loop-conflict.invariant in
    let b = goes_back c.loop-conflict.invariant c.in-Some.is c.back_to.ensures.rest c.back_to.ensures.size c.back_to.ensures.back c.back_to.ensures.looked c.back_to.ensures.bounds in
    let some = c.if-back_to-eq0.false in
    let high : 0 < c.back_to.result = omega (arith, some) in
    let old = c.loop-conflict.self in
    let front = subst (λ (xs : List Assigned). IsFrontOf xs old.trail.entries) (sym c.back_to.ensures.back.cut) (below_front old.trail.size old.trail.entries t.turns.may.search.on.order c.back_to.result) in
    let reaches = reaches_cut (settling_reaches t) c.back_to.ensures.keeps front c.back_to.ensures.bounds (c.back_to.ensures.at high) in
    let same : Err c.in_err-conflict-2.field-0.0 ≡ c.from_residual-in_err-conflict-2.result = search rules in
    steps_same same (steps_on b reaches c.in_err-conflict-2.ensures.steps)

pub loop-conflict-preserved : goal.loop-conflict-preserved
loop-conflict-preserved g c =
    let t = c.loop-conflict.invariant in
    let b = goes_back c.loop-conflict.invariant c.in-Some.is c.back_to.ensures.rest c.back_to.ensures.size c.back_to.ensures.back c.back_to.ensures.looked c.back_to.ensures.bounds in
    let some = c.if-back_to-eq0.false in
    let high : 0 < c.back_to.result = omega (arith, some) in
    let old = c.loop-conflict.self in
    let front = subst (λ (xs : List Assigned). IsFrontOf xs old.trail.entries) (sym c.back_to.ensures.back.cut) (below_front old.trail.size old.trail.entries t.turns.may.search.on.order c.back_to.result) in
    let reaches = reaches_cut (settling_reaches t) c.back_to.ensures.keeps front c.back_to.ensures.bounds (c.back_to.ensures.at high) in
    settles_on b reaches c.in_ok-conflict-2.ensures.steps c.in_ok-conflict-2.ensures.told c.in_ok-conflict-2.ensures.turns

pub loop-conflict-smaller : goal.loop-conflict-smaller
loop-conflict-smaller g c =
    let more = c.in_ok-conflict-2.ensures.turns.more in
    let free = c.in_ok-conflict-2.ensures.turns.free in
    let limit = adds_limit c.loop-conflict.work c.learn_on.new.work c.learn_on.ensures.steps.advances.adds in
    omega arith

pub returns-clause-steps : goal.returns-clause-steps
returns-clause-steps g c =
    let t = c.loop-conflict.invariant in
    let open_all : c.loop-conflict.conflict ≡ None = search rules in
    record { advances = advances_same (ap Ok open_all) t.advances; met = λ none. t.met open_all; spent = search rules }

pub returns-clause-settled : goal.returns-clause-settled
returns-clause-settled g c none =
    let open_all : c.loop-conflict.conflict ≡ None = search rules in
    settles_open c.loop-conflict.invariant open_all

pub returns-then-back_to-eq0-clause-left : goal.returns-then-back_to-eq0-clause-left
returns-then-back_to-eq0-clause-left g c =
    let b = goes_back c.loop-conflict.invariant c.in-Some.is c.back_to.ensures.rest c.back_to.ensures.size c.back_to.ensures.back c.back_to.ensures.looked c.back_to.ensures.bounds in
    left_held c.loop-conflict.log c.refute.new.log c.loop-conflict.held.items c.back_to.new.self c.refute.new.self b.search c.refute.ensures.grows c.refute.ensures.rest
