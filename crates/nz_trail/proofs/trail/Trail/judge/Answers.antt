-- What comes of a bound, by what stands on its side and on the other.
use Rattle.std.proofs.Common.{◌∙◌, ap, subst}
use Rattle.nz_trail.specs.Bounds.{TrailState, IsConsistent, asserted, other_side}
use Rattle.nz_trail.specs.Pairs.{limit_on}
use Rattle.nz_trail.proofs.Outcomes.{kept_told, clash_told, tighter_told}
use Rattle.nz_trail.proofs.AssertedBounds.{implied_by, not_implied, not_excluded, clash_by}
use Rattle.nz_trail.proofs.Tables.{read_stands}
use Rattle.nz_trail.proofs.trail.Trail.judge.Goals as goal

pub returns-then-is_implied : goal.returns-then-is_implied
returns-then-is_implied g c =
    let a = c.args in
    let total = g.met.S.Scalar.laws.ordered in
    let list = a.self.now.asserted in
    let own = read_stands g.S.Scalar.order c.self.inside.limits.items c.self.inside.entries.items a.self.now c.self.view_is c.self.invariant
    a.var c.index-limits.result.now c.requires.known c.index-limits.ensures a.side c.on.result c.on.ensures.limit in
    let agree = subst (λ (s : TrailState g.row.S.Denot). IsConsistent g.S.Scalar.order s.asserted) c.self.view_is c.self.invariant.consistent in
    let told = kept_told total list (asserted a.var a.side a.value a.reason) agree
    (implied_by total list a.var a.side a.value a.reason c.on.result own (c.is_implied.ensures.implied c.if-is_implied.true)) in
    record { kept = told.kept; clash = told.clash; tighter = told.tighter }

pub returns-in-Some : goal.returns-in-Some
returns-in-Some g c =
    let a = c.args in
    let total = g.met.S.Scalar.laws.ordered in
    let list = a.self.now.asserted in
    let stands = read_stands g.S.Scalar.order c.self.inside.limits.items c.self.inside.entries.items a.self.now c.self.view_is c.self.invariant
    a.var c.index-limits.result.now c.requires.known c.index-limits.ensures in
    let own = stands a.side c.on.result c.on.ensures.limit in
    let off = stands (other_side a.side) c.on-2.result (c.on-2.ensures.limit ∙ ap (λ s. limit_on s c.index-limits.result.now) c.other.ensures.other) in
    let told = clash_told total list (asserted a.var a.side a.value a.reason)
    (not_implied total list a.var a.side a.value a.reason c.on.result own (c.is_implied.ensures.tighter c.if-is_implied.false))
    c.in-Some.other.reason
    (clash_by total list a.var a.side a.value a.reason c.on-2.result c.in-Some.other off c.in-Some.ensures.apart.0 c.in-Some.ensures.apart.1) in
    record { kept = told.kept; clash = told.clash; tighter = told.tighter }

pub returns-in-None : goal.returns-in-None
returns-in-None g c =
    let a = c.args in
    let total = g.met.S.Scalar.laws.ordered in
    let list = a.self.now.asserted in
    let stands = read_stands g.S.Scalar.order c.self.inside.limits.items c.self.inside.entries.items a.self.now c.self.view_is c.self.invariant
    a.var c.index-limits.result.now c.requires.known c.index-limits.ensures in
    let own = stands a.side c.on.result c.on.ensures.limit in
    let off = stands (other_side a.side) c.on-2.result (c.on-2.ensures.limit ∙ ap (λ s. limit_on s c.index-limits.result.now) c.other.ensures.other) in
    let told = tighter_told total list (asserted a.var a.side a.value a.reason)
    (not_implied total list a.var a.side a.value a.reason c.on.result own (c.is_implied.ensures.tighter c.if-is_implied.false))
    (not_excluded total list a.var a.side a.value a.reason c.on-2.result off c.in-None.ensures.none) in
    record { kept = told.kept; clash = told.clash; tighter = told.tighter }
