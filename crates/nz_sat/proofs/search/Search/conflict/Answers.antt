-- What propagation and the theory tell of the clauses that are held.
use Rattle.std.proofs.Common.{◌≡◌, None, rules, sym, subst}
use Rattle.nz_sat.specs.declared.search.Search.{Search}
use Rattle.nz_sat.specs.Searching.{Follows}
use Rattle.nz_sat.specs.Theories.{state_of}
use Rattle.nz_sat.proofs.TheoryAnswers.{comes_falsified, comes_told, consult_advances, falsified_advances, follow_tells, follow_told, without_advances}
use Rattle.nz_sat.proofs.search.Search.conflict.Goals as goal

pub follow-requires : goal.follow-requires
follow-requires g c = record { watched = c.requires.follow.1.search.watched }

pub returns-in_err-falsified-clause-advances : goal.returns-in_err-falsified-clause-advances
returns-in_err-falsified-clause-advances g c held may =
    let m = state_of g.T.Theory.is_over g.T.Theory.has_told g.T.Theory.is_feasible g.T.Theory.is_of g.T.Theory.is_at c.args.theory.now in
    without_advances m c.args.log.now held c.args.self.now c.args.self.now.trail.entries c.args.work.now may.search c.from_residual.result (search rules)

pub returns-then-is_some-clause-advances : goal.returns-then-is_some-clause-advances
returns-then-is_some-clause-advances g c held may =
    let m = state_of g.T.Theory.is_over g.T.Theory.has_told g.T.Theory.is_feasible g.T.Theory.is_of g.T.Theory.is_at c.args.theory.now in
    falsified_advances m c.args.log.now held c.args.self.now c.args.work.now may.search c.requires.noted c.in_ok-falsified.falsified

pub returns-then-is_some-clause-comes : goal.returns-then-is_some-clause-comes
returns-then-is_some-clause-comes g c held may =
    comes_falsified c.args.log.now held c.args.self.now c.follow.new.self c.in_ok-falsified.falsified (c.in_ok-falsified.ensures.comes held may)

pub returns-then-is_some-clause-told : goal.returns-then-is_some-clause-told
returns-then-is_some-clause-told g c =
    subst (g.T.Theory.has_told c.args.theory.now)
    (sym
    (follow_told c.args.log.now c.args.self.now c.follow.new.self c.follow.ensures.rest c.follow.ensures.goes_on
    c.requires.follow.1.search.on.inside)) c.requires.told

pub returns-then-is_some-clause-noted : goal.returns-then-is_some-clause-noted
returns-then-is_some-clause-noted g c =
    follow_tells c.args.log.now c.args.self.now c.follow.new.self c.follow.ensures.rest c.follow.ensures.goes_on
    c.requires.follow.1.search.on.inside c.args.work.now c.requires.noted

pub consult-requires-clause-trail : goal.consult-requires-clause-trail
consult-requires-clause-trail g c = (c.in_ok-falsified.ensures.comes c.requires.follow.0 c.requires.follow.1).may.search.on

pub consult-requires-clause-of : goal.consult-requires-clause-of
consult-requires-clause-of g c =
    subst (λ (r : Search). g.T.Theory.is_of c.args.theory.now c.args.log.now.atoms r.atoms) (sym c.follow.ensures.rest) c.requires.of

pub consult-requires-clause-told : goal.consult-requires-clause-told
consult-requires-clause-told g c =
    subst (g.T.Theory.has_told c.args.theory.now)
    (sym
    (follow_told c.args.log.now c.args.self.now c.follow.new.self c.follow.ensures.rest c.follow.ensures.goes_on
    c.requires.follow.1.search.on.inside)) c.requires.told

pub consult-requires-clause-noted : goal.consult-requires-clause-noted
consult-requires-clause-noted g c =
    follow_tells c.args.log.now c.args.self.now c.follow.new.self c.follow.ensures.rest c.follow.ensures.goes_on
    c.requires.follow.1.search.on.inside c.args.work.now c.requires.noted

pub returns-clause-advances : goal.returns-clause-advances
returns-clause-advances g c held may =
    let m = state_of g.T.Theory.is_over g.T.Theory.has_told g.T.Theory.is_feasible g.T.Theory.is_of g.T.Theory.is_at c.args.theory.now in
    let m' = state_of g.T.Theory.is_over g.T.Theory.has_told g.T.Theory.is_feasible g.T.Theory.is_of g.T.Theory.is_at c.consult.new.theory in
    consult_advances m m' c.args.log.now c.consult.new.log held c.args.self.now c.follow.new.self c.consult.new.bounds c.args.work.now c.consult.new.work c.consult.result
    may.search (c.in_ok-falsified.ensures.comes held may).may.search c.follow.ensures.rest c.follow.ensures.goes_on c.consult.ensures.comes

pub returns-clause-comes : goal.returns-clause-comes
returns-clause-comes g c held may =
    let none : c.in_ok-falsified.falsified ≡ None = search rules in
    let s = c.args.self.now in
    let new = c.follow.new.self in
    let follows = subst (Follows c.args.log.now held s new) none (c.in_ok-falsified.ensures.comes held may) in
    comes_told c.args.log.now c.consult.new.log held s new follows c.consult.ensures.comes.grows c.consult.new.bounds c.consult.ensures.comes.trail c.consult.result c.consult.ensures.comes.clash

pub returns-clause-adds : goal.returns-clause-adds
returns-clause-adds g c = c.consult.ensures.comes.adds

pub returns-clause-told : goal.returns-clause-told
returns-clause-told g c = c.consult.ensures.comes.told

pub returns-clause-noted : goal.returns-clause-noted
returns-clause-noted g c = c.consult.ensures.comes.noted
