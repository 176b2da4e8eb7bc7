use Rattle.std.proofs.Common.{◌≡◌, ◌∙◌, true, Err, ap, sym, rules}
use Rattle.nz_command.specs.View.{view as written}
use Rattle.nz_spec.specs.terms.Term.{are_same_sort, bool_sort}
use Rattle.nz_script.specs.commands.Elaboration.{term_of}
use Rattle.nz_script.specs.commands.Scoping.{has_clash}
use Rattle.nz_script.specs.commands.Script.{assertion_of, scope_of}
use Rattle.nz_term.specs.Constants.{sort_of}
use Rattle.nz_elaborate.specs.Elaborate.{is_unknown_in}
use Rattle.nz_sort.specs.Live.{Standing}
use Rattle.nz_sort.proofs.AssertionRules.{term_outcome, linear_assertion}
use Rattle.nz_sort.proofs.LiveStates.{companions_made, live_scope, stands_kept}
use Rattle.nz_sort.proofs.CommandRules.{broken_by, refused_by}
use Rattle.nz_sort.proofs.live.Live.assertion.Goals as goal

pub is_linear-requires : goal.is_linear-requires
is_linear-requires c =
    let names = ap (λ (st : Standing). st.names) c.self.view_is in
    record { within = (c.in_ok-made.ensures.found (scope_of c.requires.live.0) (live_scope _ c.args.self.now _ _ names c.requires.live.1)).holds.typed.within }

pub returns-in_err-made-clause-refused : goal.returns-in_err-made-clause-refused
returns-in_err-made-clause-refused c =
    let names = ap (λ (st : Standing). st.names) c.self.view_is in
    let e = written c.args.term.now in
    broken_by _ c.args.self.now (λ s. assertion_of s e) c.in_err-made.field-0.0 c.from_residual.result c.from_residual.ensures.1
    (λ s live.
    let scope = live_scope _ c.args.self.now s _ names live in
    refused_by c.in_err-made.field-0.0 (is_unknown_in (scope_of s) e) (has_clash e) (term_outcome (term_of (scope_of s) e))
    (λ is. c.in_err-made.ensures.unknown (ap Err is) (scope_of s) scope)
    (λ is. c.in_err-made.ensures.clash (ap Err is) (scope_of s) scope)
    (λ is. let h = c.in_err-made.ensures.refused (ap Err is) (scope_of s) scope in record { known = h.known; distinct = h.distinct; holds = ap term_outcome h.holds }))

pub returns-clause-grows : goal.returns-clause-grows
returns-clause-grows c = c.grows_twice.ensures.twice _ _ _ c.in_ok-made.ensures.grows c.in_ok-add_companions.ensures.grows

pub returns-clause-companions : goal.returns-clause-companions
returns-clause-companions c =
    companions_made c.args.terms.now c.elaborate.new.terms c.add_companions.new.terms c.mark-mark.result c.mark-mark.ensures.mark c.in_ok-made.ensures.grows c.requires.live.1.companions
    c.in_ok-add_companions.ensures.companions

pub returns-clause-within : goal.returns-clause-within
returns-clause-within c =
    let names = ap (λ (st : Standing). st.names) c.self.view_is in
    let found = c.in_ok-made.ensures.found (scope_of c.requires.live.0) (live_scope _ c.args.self.now _ _ names c.requires.live.1) in
    (stands_kept c.elaborate.new.terms c.add_companions.new.terms c.in_ok-add_companions.ensures.grows c.in_ok-made.made.id found.holds.typed.within).within

pub returns-clause-accepted : goal.returns-clause-accepted
returns-clause-accepted c = λ s live.
    let names = ap (λ (st : Standing). st.names) c.self.view_is in
    let found = c.in_ok-made.ensures.found (scope_of s) (live_scope _ c.args.self.now s _ names live) in
    let bool : are_same_sort bool_sort (sort_of c.in_ok-made.made.sort) ≡ true = search rules in
    linear_assertion s (written c.args.term.now) c.elaborate.new.terms c.add_companions.new.terms c.in_ok-made.made found bool (sym c.is_linear.ensures.linear ∙ c.if-not-is_linear.false)
    (stands_kept c.elaborate.new.terms c.add_companions.new.terms c.in_ok-add_companions.ensures.grows c.in_ok-made.made.id found.holds.typed.within)
