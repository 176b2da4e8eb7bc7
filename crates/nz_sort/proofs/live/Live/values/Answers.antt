use Rattle.std.proofs.Common.{◌∙◌, ◌<◌, length, map, All, Err, ap, sym, subst}
use Rattle.nz_command.specs.Requests.{question_view}
use Rattle.nz_script.specs.commands.Elaboration.{terms_of}
use Rattle.nz_script.specs.commands.Scoping.{have_clash}
use Rattle.nz_script.specs.commands.Script.{scope_of, asked_expressions, values_asked}
use Rattle.nz_elaborate.specs.declared.typed.Typed.{Typed}
use Rattle.nz_elaborate.specs.Elaborate.{are_unknown_in}
use Rattle.nz_elaborate.specs.Typed.{AreTyped}
use Rattle.nz_sort.specs.Live.{Standing}
use Rattle.nz_sort.proofs.AskedValues.{terms_outcome, linear_values}
use Rattle.nz_sort.proofs.LiveStates.{all_typed_kept, all_within, companions_made, live_scope}
use Rattle.nz_sort.proofs.CommandRules.{broken_by, refused_by}
use Rattle.nz_sort.proofs.live.Live.values.Goals as goal

pub are_linear-requires : goal.are_linear-requires
are_linear-requires c =
    let names = ap (λ (st : Standing). st.names) c.self.view_is in
    let found = c.in_ok-values.ensures.found (scope_of c.requires.live.0) (live_scope _ c.args.self.now _ _ names c.requires.live.1) in
    record {
      within = subst (All (λ (x : Typed). x.id < length c.elaborate_all.new.terms)) (sym c.as_slice.ensures.value) (all_within c.elaborate_all.new.terms c.in_ok-values.values.items found.holds.terms found.holds.typed);
    }

pub returns-in_err-values-clause-refused : goal.returns-in_err-values-clause-refused
returns-in_err-values-clause-refused c =
    let names = ap (λ (st : Standing). st.names) c.self.view_is in
    let qs = map question_view c.args.questions.now in
    let es = asked_expressions qs in
    broken_by _ c.args.self.now (λ s. values_asked s qs) c.in_err-values.field-0.0 c.from_residual.result c.from_residual.ensures.1
    (λ s live.
    let scope = live_scope _ c.args.self.now s _ names live in
    refused_by c.in_err-values.field-0.0 (are_unknown_in (scope_of s) es) (have_clash es) (terms_outcome qs (terms_of (scope_of s) es))
    (λ is. c.in_err-values.ensures.unknown (ap Err is) (scope_of s) scope)
    (λ is. c.in_err-values.ensures.clash (ap Err is) (scope_of s) scope)
    (λ is. let h = c.in_err-values.ensures.refused (ap Err is) (scope_of s) scope in record { known = h.known; distinct = h.distinct; holds = ap (terms_outcome qs) h.holds }))

pub returns-clause-grows : goal.returns-clause-grows
returns-clause-grows c = c.grows_twice.ensures.twice _ _ _ c.in_ok-values.ensures.grows c.in_ok-add_companions.ensures.grows

pub returns-clause-companions : goal.returns-clause-companions
returns-clause-companions c =
    companions_made c.args.terms.now c.elaborate_all.new.terms c.add_companions.new.terms c.mark-mark.result c.mark-mark.ensures.mark c.in_ok-values.ensures.grows c.requires.live.1.companions
    c.in_ok-add_companions.ensures.companions

pub returns-clause-accepted : goal.returns-clause-accepted
returns-clause-accepted c = λ s live.
    let names = ap (λ (st : Standing). st.names) c.self.view_is in
    let mid = c.elaborate_all.new.terms in
    linear_values s (map question_view c.args.questions.now) mid c.add_companions.new.terms c.in_ok-values.values.items (c.in_ok-values.ensures.found (scope_of s) (live_scope _ c.args.self.now s _ names live))
    (λ us typed. sym c.if-not-are_linear.false ∙ c.are_linear.ensures.linear us (subst (λ l. AreTyped mid l us) (sym c.as_slice.ensures.value) typed))
    (λ us typed. all_typed_kept mid c.add_companions.new.terms c.in_ok-add_companions.ensures.grows c.in_ok-values.values.items us typed)
