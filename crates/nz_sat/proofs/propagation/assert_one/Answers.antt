-- The literal of a clause that has but one.
use Rattle.std.proofs.Common.{◌≡◌, ℕ, List, Some, sym, ap, subst, ◌∙◌, Contains}
use Rattle.std.specs.Prelude.{slice_get}
use Rattle.nz_lists.proofs.Members.{has_found}
use Rattle.nz_log.specs.declared.lits.Lit.{Lit}
use Rattle.nz_log.specs.Logs.{LogState, literals_at}
use Rattle.nz_sat.specs.Trails.{HasValue, IsFalseOn, IsTrueOn, TrailState}
use Rattle.nz_sat.proofs.Clausal.{free_missing}
use Rattle.nz_sat.proofs.VisitedClauses.{implied_true, visits_one}
use Rattle.nz_sat.proofs.propagation.assert_one.Goals as goal

first_has : (log : LogState) (id : ℕ) (c : List Lit) (l : Lit) → c ≡ literals_at log id → Some l ≡ slice_get c 0 → Contains (literals_at log id) l
first_has log id c l is first = has_found (literals_at log id) 0 l (sym (first ∙ ap (λ (d : List Lit). slice_get d 0) is))

pub imply-requires-clause-within : goal.imply-requires-clause-within
imply-requires-clause-within c =
    let l = c.in-Some.literal.now in
    c.requires.lone.usable.within l (first_has c.args.log.now c.args.id c.clause.result.now l c.clause.ensures.literals c.in-Some.ensures.value)

pub returns-in-Some-value-clause-falsified : goal.returns-in-Some-value-clause-falsified
returns-in-Some-value-clause-falsified c fails m has =
    let es = c.args.trail.now.entries in
    let l = c.in-Some.literal.now in
    let there = first_has c.args.log.now c.args.id c.clause.result.now l c.clause.ensures.literals c.in-Some.ensures.value in
    subst (IsFalseOn es) (c.requires.lone.lone l m there has) (subst (λ b. HasValue es l (Some b)) fails c.in-Some-value.ensures.value)

pub returns-in-None-clause-visits : goal.returns-in-None-clause-visits
returns-in-None-clause-visits c =
    let log = c.args.log.now in
    let id = c.args.id in
    let l = c.in-Some.literal.now in
    let there = first_has log id c.clause.result.now l c.clause.ensures.literals c.in-Some.ensures.value in
    visits_one log (λ us. Contains us id) c.args.trail.now c.imply.new.self l id c.imply.ensures.put c.imply.ensures.order
    (record { live = c.requires.lone.usable.live; has = there; others = λ m has other. absurd (other (c.requires.lone.lone m l has there)) })
    (λ us h. h)

pub returns-in-None-clause-holds : goal.returns-in-None-clause-holds
returns-in-None-clause-holds c is =
    let es = c.args.trail.now.entries in
    let l = c.in-Some.literal.now in
    record {
      literal = l;
      has = first_has c.args.log.now c.args.id c.clause.result.now l c.clause.ensures.literals c.in-Some.ensures.value;
      holds = subst (λ (t : TrailState). IsTrueOn t.entries l) (sym c.imply.ensures.put) (implied_true es l c.args.id (free_missing es l.atom c.in-None.ensures.value));
    }
