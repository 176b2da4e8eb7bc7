-- The clause of the place, by its literals.
use Rattle.std.proofs.Common.{◌≡◌, Bool, true, false, Option, Some, List, length, refl, sym, ap, subst, ◌∙◌, rules, Contains}
use Rattle.std.specs.Prelude.{IsSome}
use Rattle.std.proofs.lemmas.Option.{same_Some}
use Rattle.nz_log.specs.declared.lits.Lit.{Lit}
use Rattle.nz_log.specs.Logs.{IsLive, literals_at}
use Rattle.nz_sat.specs.declared.clauses.WatchedClause.{WatchedClause}
use Rattle.nz_sat.specs.Clauses.{AreFalseBut, other_in}
use Rattle.nz_log.specs.Codes.{code_of}
use Rattle.nz_sat.specs.Lists.{list_of}
use Rattle.nz_sat.specs.Trails.{HasValue, IsTrueOn}
use Rattle.nz_sat.specs.Watched.{IsWatch, State, watch_state}
use Rattle.nz_sat.proofs.LiteralNumbers.{other_code}
use Rattle.nz_sat.proofs.Visiting.{all_blocked, blocked_comes, by_literal, clause_held, may_rewatch, moved_comes, other_last, settled_comes, short_last, stands, next_ahead}
use Rattle.nz_sat.proofs.propagation.Propagation.visit.Goals as goal
use Rattle.nz_sat.proofs.propagation.Propagation.visit.Goals.{After-at-watch, After-index, After-other-other}

abbrev state : After-at-watch → State
state c = watch_state c.args.self.now c.args.trail.now

abbrev own : (c : After-at-watch) → IsWatch c.args.log.now (state c).held c.args.literal c.at-watch.result
own c = stands c.args.log.now (state c) c.requires.watched c.args.literal c.args.i c.at-watch.result c.at-watch.ensures.watch

pub returns-then-eq-clause-comes : goal.returns-then-eq-clause-comes
returns-then-eq-clause-comes c =
    let es = c.args.trail.now.entries in
    let s = c.args.log.now in
    let old = watch_state c.args.self.now c.args.trail.now in
    let watch = c.at-watch.result in
    let is : c.value.result ≡ Some true = search rules in
    let holds : IsTrueOn es watch.blocker = let V : Option Bool → Type 0 = λ o. HasValue es watch.blocker o in subst V is c.value.ensures.value in
    next_ahead s old old c.args.literal c.args.i watch c.at-watch.ensures.watch (λ c h. h) (λ key. refl) refl (λ key from. from)
    (by_literal s old c.requires.watched c.args.literal c.args.i watch c.at-watch.ensures.watch watch.blocker (own (goal.at.returns-then-eq-clause-comes c).After-at-watch).has es holds)

pub settle-requires-clause-last : goal.settle-requires-clause-last
settle-requires-clause-last c =
    short_last c.args.log.now (watch_state c.args.self.now c.args.trail.now) c.requires.watched c.args.literal c.args.i c.at-watch.result c.at-watch.ensures.watch c.if-watch.true c.requires.falls

pub returns-then-watch-clause-comes : goal.returns-then-watch-clause-comes
returns-then-watch-clause-comes c =
    settled_comes c.args.log.now c.args.self.now c.args.trail.now c.settle.new.trail c.args.literal c.args.i c.at-watch.result c.at-watch.ensures.watch
    c.settle.ensures.visits.goes_on c.settle.result c.settle.ensures.settled

pub index-requires : goal.index-requires
index-requires c =
    let d = (goal.at.index-requires c).After-at-watch in
    subst IsSome (sym (own d).at) refl

-- the clause that is read is the one that is held
clause_is : (c : After-index) → (w : IsWatch c.args.log.now (watch_state c.args.self.now c.args.trail.now).held c.args.literal c.at-watch.result) → c.index.result.now ≡ w.clause
clause_is c w = same_Some c.index.result.now w.clause (sym c.index.ensures ∙ w.at)

other_is : (c : After-other-other) → (w : IsWatch c.args.log.now (watch_state c.args.self.now c.args.trail.now).held c.args.literal c.at-watch.result) → c.index.result.now ≡ w.clause
    → c.other-other.result ≡ other_in w.clause c.args.literal
other_is c w is = c.other-other.ensures.other ∙ ap (λ (h : WatchedClause). other_in h c.args.literal) is

pub returns-then-eq-2-clause-watched : goal.returns-then-eq-2-clause-watched
returns-then-eq-2-clause-watched c =
    let at = goal.at.returns-then-eq-2-clause-watched c in
    let w = own at.After-at-watch in
    let l = c.args.literal in
    let watch = c.at-watch.result in
    let long : watch.is_short ≡ false = search rules in
    all_blocked c.args.log.now (watch_state c.args.self.now c.args.trail.now) c.requires.watched l c.args.i watch c.at-watch.ensures.watch c.other-other.result
    (other_is at.After-other-other w (clause_is at.After-index w)) long (list_of c.block.new.self) (length c.block.new.self.lists.items)
    (c.block.ensures.blocked watch c.at-watch.ensures.watch) (λ m away. c.block.ensures.others (code_of m) (other_code m l away)) c.block.ensures.size

pub returns-then-eq-2-clause-comes : goal.returns-then-eq-2-clause-comes
returns-then-eq-2-clause-comes c =
    let at = goal.at.returns-then-eq-2-clause-comes c in
    let w = own at.After-at-watch in
    let es = c.args.trail.now.entries in
    let l = c.args.literal in
    let watch = c.at-watch.result in
    let other = c.other-other.result in
    let long : watch.is_short ≡ false = search rules in
    let is : c.value-2.result ≡ Some true = search rules in
    let holds : IsTrueOn es other = let V : Option Bool → Type 0 = λ o. HasValue es other o in subst V is c.value-2.ensures.value in
    blocked_comes c.args.log.now (watch_state c.args.self.now c.args.trail.now) c.requires.watched l c.args.i watch c.at-watch.ensures.watch other
    (other_is at.After-other-other w (clause_is at.After-index w)) long (list_of c.block.new.self) (length c.block.new.self.lists.items)
    (c.block.ensures.blocked watch c.at-watch.ensures.watch) (λ m away. c.block.ensures.others (code_of m) (other_code m l away)) holds

pub clause-requires : goal.clause-requires
clause-requires c =
    let at = goal.at.clause-requires c in
    let w = own at.After-at-watch in
    let held = clause_held c.args.log.now (watch_state c.args.self.now c.args.trail.now) c.requires.watched c.args.literal c.args.i c.at-watch.result c.at-watch.ensures.watch in
    record { live = subst (λ (h : WatchedClause). IsLive c.args.log.now h.id) (sym (clause_is at.After-index w)) held.usable.live }

pub rewatch-requires-clause-moves : goal.rewatch-requires-clause-moves
rewatch-requires-clause-moves c =
    let at = goal.at.rewatch-requires-clause-moves c in
    let w = own at.After-at-watch in
    let is = clause_is at.After-index w in
    let next = c.in-Some.next in
    let long : c.at-watch.result.is_short ≡ false = search rules in
    let lits : c.clause.result.now ≡ literals_at c.args.log.now w.clause.id = c.clause.ensures.literals ∙ ap (λ (h : WatchedClause). literals_at c.args.log.now h.id) is in
    may_rewatch c.args.log.now (watch_state c.args.self.now c.args.trail.now) c.requires.watched c.args.literal c.args.i c.at-watch.result c.at-watch.ensures.watch c.other-other.result
    (other_is at.After-other-other w is) long next (subst (λ (xs : List Lit). Contains xs next) lits c.in-Some.ensures.found) c.in-Some.ensures.stands c.in-Some.ensures.other

pub settle-requires-in-None-clause-last : goal.settle-requires-in-None-clause-last
settle-requires-in-None-clause-last c =
    let at = goal.at.settle-requires-in-None-clause-last c in
    let w = own at.After-at-watch in
    let is = clause_is at.After-index w in
    let es = c.args.trail.now.entries in
    let other = c.other-other.result in
    let lits : c.clause.result.now ≡ literals_at c.args.log.now w.clause.id = c.clause.ensures.literals ∙ ap (λ (h : WatchedClause). literals_at c.args.log.now h.id) is in
    other_last c.args.log.now (watch_state c.args.self.now c.args.trail.now) c.requires.watched c.args.literal c.args.i c.at-watch.result c.at-watch.ensures.watch other
    (other_is at.After-other-other w is) (subst (λ (xs : List Lit). AreFalseBut es other xs) lits c.in-None.ensures.none)

pub returns-in-Some-clause-comes : goal.returns-in-Some-clause-comes
returns-in-Some-clause-comes c =
    moved_comes c.args.log.now (watch_state c.args.self.now c.args.trail.now) (watch_state c.rewatch.new.self c.args.trail.now) c.args.literal c.args.i c.at-watch.result
    c.rewatch.result c.at-watch.ensures.watch c.requires.watched c.rewatch.ensures.watched refl c.rewatch.ensures.keeps.watched c.rewatch.ensures.moved c.rewatch.ensures.list

pub returns-in-None-clause-comes : goal.returns-in-None-clause-comes
returns-in-None-clause-comes c =
    settled_comes c.args.log.now c.args.self.now c.args.trail.now c.settle-in-None.new.trail c.args.literal c.args.i c.at-watch.result c.at-watch.ensures.watch
    c.settle-in-None.ensures.visits.goes_on c.settle-in-None.result c.settle-in-None.ensures.settled
