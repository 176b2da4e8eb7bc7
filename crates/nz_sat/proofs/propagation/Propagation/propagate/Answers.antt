-- The list of one literal more was looked at.
use Rattle.std.proofs.Common.{◌≡◌, ◌<◌, ℕ, Option, Some, None, sym, ap, subst, ◌∙◌, rules}
use Rattle.std.specs.Prelude.{IfNone, slice_get}
use Rattle.nz_lists.proofs.Places.{slice_get_kept}
use Rattle.nz_log.specs.declared.lits.Lit.{Lit}
use Rattle.nz_log.specs.Logs.{literals_at}
use Rattle.nz_sat.specs.declared.clauses.WatchedClause.{WatchedClause}
use Rattle.nz_sat.specs.Clauses.{HasTrue, IsWatchedIn}
use Rattle.nz_sat.specs.Trails.{IsFalseOn}
use Rattle.nz_sat.specs.Watched.{held_at}
use Rattle.nz_sat.proofs.Visiting.{IsOnWay, entry_falls, head_more, way_more}
use Rattle.nz_sat.proofs.propagation.Propagation.propagate.Goals as goal
use Rattle.nz_sat.proofs.propagation.Propagation.propagate.Goals.{After-visit_all}

pub visit_all-requires-clause-falls : goal.visit_all-requires-clause-falls
visit_all-requires-clause-falls c =
    let es = c.loop-self.trail.entries in
    subst (IsFalseOn es) (sym c.not.ensures.negation) (entry_falls c.loop-self.trail.size es c.len.ensures.trail c.loop-self.self.head c.entry-literal.result c.entry-literal.ensures.entry)

pub visit_all-requires-clause-within : goal.visit_all-requires-clause-within
visit_all-requires-clause-within c =
    subst (λ (l : Lit). l.atom < c.loop-self.trail.size) (sym c.not.ensures.negation) (c.len.ensures.trail c.loop-self.self.head c.entry-literal.result c.entry-literal.ensures.entry).within

way : (c : After-visit_all) → IsOnWay c.args.log.now c.args.self.now c.visit_all.new.self c.args.trail.now c.visit_all.new.trail
way c =
    way_more c.args.log.now c.args.self.now c.loop-self.self c.visit_all.new.self c.args.trail.now c.loop-self.trail c.visit_all.new.trail c.loop-self.invariant
    c.visit_all.ensures.watched c.visit_all.ensures.visits c.visit_all.ensures.keeps

pub returns-in_err-falsified-clause-visits : goal.returns-in_err-falsified-clause-visits
returns-in_err-falsified-clause-visits c = (way (goal.at.returns-in_err-falsified-clause-visits c).After-visit_all).visits

pub returns-then-is_some-clause-visits : goal.returns-then-is_some-clause-visits
returns-then-is_some-clause-visits c = (way (goal.at.returns-then-is_some-clause-visits c).After-visit_all).visits

pub loop-self-preserved : goal.loop-self-preserved
loop-self-preserved c =
    let s = c.args.log.now in
    let p = c.visit_all.new.self in
    let t = c.visit_all.new.trail in
    let e = c.entry-literal.result in
    let goes = c.visit_all.ensures.visits.goes_on in
    let at : slice_get t.entries p.head ≡ Some e =
    ap (slice_get t.entries) c.visit_all.ensures.head
    ∙ subst (λ xs. slice_get xs c.loop-self.self.head ≡ Some e) (sym goes.joined) (slice_get_kept c.loop-self.trail.entries goes.more c.loop-self.self.head e c.entry-literal.ensures.entry) in
    let none : c.in_ok-falsified.falsified ≡ None = search rules in
    let Looked : Lit → Type 0 = λ l. (key : ℕ) (h : WatchedClause) → held_at p key ≡ Some h → IsWatchedIn h l → HasTrue t.entries (literals_at s h.id) in
    let V : Option ℕ → Type 0 = λ o. IfNone o (Looked c.not.result) in
    let looked : Looked c.not.result = subst V none c.in_ok-falsified.ensures.visited in
    let so_far = way (goal.at.loop-self-preserved c).After-visit_all in
    record {
      watched = head_more s p t e c.visit_all.ensures.watched at (subst Looked c.not.ensures.negation looked);
      visits = so_far.visits;
      keeps = record { watched = so_far.keeps.watched; lone = so_far.keeps.lone; room = so_far.keeps.room };
    }
