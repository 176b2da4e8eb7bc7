-- Below the next term all that was added has its clauses.
use Rattle.std.proofs.Common.{subst, arith}
use Rattle.std.specs.Prelude.{IfSome}
use Rattle.nz_search.specs.Levels.{asserted_by_level, numbers_by_level}
use Rattle.nz_engine.specs.declared.levels.Placed.{Placed}
use Rattle.nz_engine.specs.declared.levels.Kind.TheVariants as kind
use Rattle.nz_engine.specs.Levels.{IsPlaced}
use Rattle.nz_engine.specs.Preparing.{PreparedState, IsNext}
use Rattle.nz_engine.proofs.AssertionPlaces.{behind_lower, behind_none}
use Rattle.nz_engine.proofs.prepared.Prepared.next_added.Goals as goal

pub returns-then-number-assertion-clause-next : goal.returns-then-number-assertion-clause-next
returns-then-number-assertion-clause-next c =
    let levels = c.args.levels.now in
    let a = c.in-Some-Some.assertion in
    let n = c.in-Some-Some.number in
    let first : IsPlaced (asserted_by_level levels) c.self.inside.given a.term a.level =
    subst (λ o. IfSome o (λ (x : Placed). IsPlaced (asserted_by_level levels) c.self.inside.given x.term x.level)) c.in-Some-Some.is-0 c.at-assertion.ensures.placed in
    let second : IsPlaced (numbers_by_level levels) c.self.inside.numbered n.term n.level =
    subst (λ o. IfSome o (λ (x : Placed). IsPlaced (numbers_by_level levels) c.self.inside.numbered x.term x.level)) c.in-Some-Some.is-1 c.at-number.ensures.placed in
    let low = c.if-number-assertion.true in
    subst (λ (s : PreparedState). IsNext levels s kind.Number n.term n.level) c.self.view_is
    (record { placed = second; given = behind_lower (asserted_by_level levels) c.self.inside.given a.term a.level n.level first (omega (arith, low)); numbered = second.behind })

pub returns-else-number-assertion-clause-next : goal.returns-else-number-assertion-clause-next
returns-else-number-assertion-clause-next c =
    let levels = c.args.levels.now in
    let a = c.in-Some-Some.assertion in
    let n = c.in-Some-Some.number in
    let first : IsPlaced (asserted_by_level levels) c.self.inside.given a.term a.level =
    subst (λ o. IfSome o (λ (x : Placed). IsPlaced (asserted_by_level levels) c.self.inside.given x.term x.level)) c.in-Some-Some.is-0 c.at-assertion.ensures.placed in
    let second : IsPlaced (numbers_by_level levels) c.self.inside.numbered n.term n.level =
    subst (λ o. IfSome o (λ (x : Placed). IsPlaced (numbers_by_level levels) c.self.inside.numbered x.term x.level)) c.in-Some-Some.is-1 c.at-number.ensures.placed in
    let low = c.if-number-assertion.false in
    subst (λ (s : PreparedState). IsNext levels s kind.Asserted a.term a.level) c.self.view_is
    (record { placed = first; given = first.behind; numbered = behind_lower (numbers_by_level levels) c.self.inside.numbered n.term n.level a.level second (omega (arith, low)) })

pub returns-in-Some-None-clause-next : goal.returns-in-Some-None-clause-next
returns-in-Some-None-clause-next c =
    let levels = c.args.levels.now in
    let a = c.in-Some-None.assertion in
    let first : IsPlaced (asserted_by_level levels) c.self.inside.given a.term a.level =
    subst (λ o. IfSome o (λ (x : Placed). IsPlaced (asserted_by_level levels) c.self.inside.given x.term x.level)) c.in-Some-None.is-0 c.at-assertion.ensures.placed in
    subst (λ (s : PreparedState). IsNext levels s kind.Asserted a.term a.level) c.self.view_is
    (record { placed = first; given = first.behind; numbered = behind_none (numbers_by_level levels) c.self.inside.numbered a.level (c.at-number.ensures.none c.in-Some-None.is-1) })

pub returns-in-None-Some-clause-next : goal.returns-in-None-Some-clause-next
returns-in-None-Some-clause-next c =
    let levels = c.args.levels.now in
    let n = c.in-None-Some.number in
    let second : IsPlaced (numbers_by_level levels) c.self.inside.numbered n.term n.level =
    subst (λ o. IfSome o (λ (x : Placed). IsPlaced (numbers_by_level levels) c.self.inside.numbered x.term x.level)) c.in-None-Some.is-1 c.at-number.ensures.placed in
    subst (λ (s : PreparedState). IsNext levels s kind.Number n.term n.level) c.self.view_is
    (record { placed = second; given = behind_none (asserted_by_level levels) c.self.inside.given n.level (c.at-assertion.ensures.none c.in-None-Some.is-0); numbered = second.behind })
