-- One clause more was looked at.
use Rattle.std.proofs.Common.{◌+◌, ◌<◌, ◌≤◌, ℕ, length, inl, inr, refl, sym, subst, ◌∙◌, arith}
use Rattle.std.proofs.lemmas.Option.{slice_get_within}
use Rattle.nz_sat.specs.Lists.{list_of}
use Rattle.nz_sat.specs.Watched.{ComesOf, GoesAhead, watch_state}
use Rattle.nz_sat.proofs.Visiting.{IsOnWay, falls_on, way_more, way_none}
use Rattle.nz_sat.proofs.propagation.Propagation.visit_all.Goals as goal
use Rattle.nz_sat.proofs.propagation.Propagation.visit_all.Goals.{After-visit}

pub loop-i-init : goal.loop-i-init
loop-i-init c =
    record {
      way = way_none c.args.log.now c.args.self.now c.args.trail.now c.requires.watched;
      head = refl;
      order = c.requires.order;
      falls = c.requires.falls;
      within = c.requires.within;
      ahead = λ key h there watched. inr (c.requires.watched.listed.covered key h there c.args.literal watched);
    }

way : (c : After-visit) → IsOnWay c.args.log.now c.args.self.now c.visit.new.self c.args.trail.now c.visit.new.trail
way c =
    way_more c.args.log.now c.args.self.now c.loop-i.self c.visit.new.self c.args.trail.now c.loop-i.trail c.visit.new.trail c.loop-i.invariant.way
    c.visit.ensures.watched c.visit.ensures.visits c.visit.ensures.keeps

within : (c : After-visit) → c.args.literal.atom < c.visit.new.trail.size
within c = subst (λ (n : ℕ). c.args.literal.atom < n) (sym c.visit.ensures.visits.size) c.loop-i.invariant.within

pub returns-in_err-visit-clause-visits : goal.returns-in_err-visit-clause-visits
returns-in_err-visit-clause-visits c = (way (goal.at.returns-in_err-visit-clause-visits c).After-visit).visits

pub returns-in-Falsified-clause-visits : goal.returns-in-Falsified-clause-visits
returns-in-Falsified-clause-visits c = (way (goal.at.returns-in-Falsified-clause-visits c).After-visit).visits

pub loop-i-preserved-in-Stays : goal.loop-i-preserved-in-Stays
loop-i-preserved-in-Stays c =
    let s = c.args.log.now in
    let l = c.args.literal in
    let before = c.loop-i.invariant in
    let d = (goal.at.loop-i-preserved-in-Stays c).After-visit in
    let visits = c.visit.ensures.visits in
    let comes : GoesAhead s (watch_state c.loop-i.self c.loop-i.trail) (watch_state c.visit.new.self c.visit.new.trail) l c.loop-i.i (c.loop-i.i + 1) =
    subst (ComesOf s (watch_state c.loop-i.self c.loop-i.trail) (watch_state c.visit.new.self c.visit.new.trail) l c.loop-i.i) c.in-Stays.is c.in_ok-visit.ensures.comes in
    record {
      way = way d;
      head = c.visit.ensures.head ∙ before.head;
      order = visits.order before.order;
      falls = falls_on c.loop-i.trail.entries c.visit.new.trail.entries l visits.goes_on before.falls;
      within = within d;
      ahead = comes.ahead before.ahead;
    }

pub loop-i-preserved : goal.loop-i-preserved
loop-i-preserved c =
    let s = c.args.log.now in
    let l = c.args.literal in
    let before = c.loop-i.invariant in
    let d = (goal.at.loop-i-preserved c).After-visit in
    let visits = c.visit.ensures.visits in
    let comes : GoesAhead s (watch_state c.loop-i.self c.loop-i.trail) (watch_state c.visit.new.self c.visit.new.trail) l c.loop-i.i c.loop-i.i =
    subst (ComesOf s (watch_state c.loop-i.self c.loop-i.trail) (watch_state c.visit.new.self c.visit.new.trail) l c.loop-i.i) c.in-Moved.is c.in_ok-visit.ensures.comes in
    record {
      way = way d;
      head = c.visit.ensures.head ∙ before.head;
      order = visits.order before.order;
      falls = falls_on c.loop-i.trail.entries c.visit.new.trail.entries l visits.goes_on before.falls;
      within = within d;
      ahead = comes.ahead before.ahead;
    }

pub returns-clause-visited : goal.returns-clause-visited
returns-clause-visited c key h there watched =
    let list = list_of c.loop-i.self.watches c.args.literal in
    elim (c.loop-i.invariant.ahead key h there watched) [
      | inl yet ↦ yet
      | inr behind ↦
          let inside : behind.place < length list = slice_get_within list behind.place behind.watch behind.at in
          let from = behind.behind in
          let all : length list ≤ c.loop-i.i = omega (arith, c.count.ensures.count) in
          absurd (omega (arith, inside, from, all))
    ]
