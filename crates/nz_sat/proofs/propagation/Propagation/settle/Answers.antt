-- The last literal by its value.
use Rattle.std.proofs.Common.{◌≡◌, ℕ, Bool, List, Some, inl, sym, ap, subst, ◌∙◌, Contains}
use Rattle.std.proofs.lemmas.Option.{same_Some}
use Rattle.nz_sat.specs.declared.clauses.WatchedClause.{WatchedClause}
use Rattle.nz_sat.specs.Clauses.{IsReason, Visits}
use Rattle.nz_sat.specs.Trails.{HasValue, IsFalseOn, IsTrueOn, TrailState}
use Rattle.nz_sat.specs.Watched.{HasClause, IsConflictIn, watch_state}
use Rattle.nz_sat.proofs.Clausal.{free_missing}
use Rattle.nz_sat.proofs.VisitedClauses.{implied_true, visits_one}
use Rattle.nz_sat.proofs.Visiting.{conflict, satisfied}
use Rattle.nz_sat.proofs.WatchedTrails.{goes_watched}
use Rattle.nz_sat.proofs.propagation.Propagation.settle.Goals as goal
use Rattle.nz_sat.proofs.propagation.Propagation.settle.Goals.{After-imply, After-index}

clause_is : (c : After-index) → c.index.result.now ≡ c.requires.last.clause
clause_is c = same_Some c.index.result.now c.requires.last.clause (sym c.index.ensures ∙ c.requires.last.at)

pub imply-requires-clause-within : goal.imply-requires-clause-within
imply-requires-clause-within c =
    let last = c.requires.last in
    (c.requires.watched.listed.clauses c.args.key last.clause last.at).usable.within c.args.last last.has

pub returns-in-Some-false-clause-settled : goal.returns-in-Some-false-clause-settled
returns-in-Some-false-clause-settled c =
    let s = c.args.log.now in
    let es = c.args.trail.now.entries in
    let state = watch_state c.args.self.now c.args.trail.now in
    let falls : IsFalseOn es c.args.last = let V : Bool → Type 0 = λ b. HasValue es c.args.last (Some b) in subst V c.in-Some-false.field-0-test c.in-Some-false.ensures.value in
    subst (λ (h : WatchedClause). IsConflictIn s state h.id) (sym (clause_is (goal.at.returns-in-Some-false-clause-settled c).After-index))
    (conflict s state c.args.key c.args.last c.requires.last falls)

visits : (c : After-imply) → c.index.result.now ≡ c.requires.last.clause
    → Visits c.args.log.now (λ (us : List ℕ). (i : ℕ) → HasClause c.args.self.now i → Contains us i) c.args.trail.now c.imply.new.self
visits c is =
    let s = c.args.log.now in
    let es = c.args.trail.now.entries in
    let last = c.requires.last in
    let usable = (c.requires.watched.listed.clauses c.args.key last.clause last.at).usable in
    let reason : IsReason s es c.args.last c.index.result.now.id =
    subst (λ (h : WatchedClause). IsReason s es c.args.last h.id) (sym is) (record { live = usable.live; has = last.has; others = last.others }) in
    visits_one s (λ (us : List ℕ). (i : ℕ) → HasClause c.args.self.now i → Contains us i) c.args.trail.now c.imply.new.self c.args.last c.index.result.now.id
    c.imply.ensures.put c.imply.ensures.order reason
    (λ us all. all c.index.result.now.id (inl (record { key = c.args.key; clause = last.clause; at = last.at; is = ap (λ (h : WatchedClause). h.id) (sym is) })))

pub returns-in-None-clause-visits : goal.returns-in-None-clause-visits
returns-in-None-clause-visits c =
    visits (goal.at.returns-in-None-clause-visits c).After-imply (clause_is (goal.at.returns-in-None-clause-visits c).After-index)

pub returns-in-None-clause-watched : goal.returns-in-None-clause-watched
returns-in-None-clause-watched c =
    let v = visits (goal.at.returns-in-None-clause-watched c).After-imply (clause_is (goal.at.returns-in-None-clause-watched c).After-index) in
    goes_watched c.args.log.now c.args.self.now c.args.trail.now c.imply.new.self v.goes_on v.size c.requires.watched

pub returns-in-None-clause-settled : goal.returns-in-None-clause-settled
returns-in-None-clause-settled c =
    let es = c.args.trail.now.entries in
    let l = c.args.last in
    let holds : IsTrueOn c.imply.new.self.entries l =
    subst (λ (t : TrailState). IsTrueOn t.entries l) (sym c.imply.ensures.put) (implied_true es l c.index.result.now.id (free_missing es l.atom c.in-None.ensures.value)) in
    satisfied c.args.log.now (watch_state c.args.self.now c.args.trail.now) c.args.key l c.requires.last c.imply.new.self.entries holds
