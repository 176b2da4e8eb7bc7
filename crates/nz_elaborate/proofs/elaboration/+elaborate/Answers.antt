use Rattle.std.proofs.Common.{◌≡◌, ℕ, ◌<◌, ◌+◌, ◌||◌, List, [], ◌∷◌, ◌++◌, None, is_some, drop, refl, ap, sym, ◌∙◌, subst, arith, rules}
use Rattle.std.proofs.lemmas.List.{drop_all}
use Rattle.nz_command.specs.declared.expression.Expression.TheViews.{the_lemmas}
use Rattle.nz_command.specs.declared.expression.Expression.TheFolds.{fold-roll-Expression, fold_out-Expression, fold-roll-Local, fold_out-Local}
use Rattle.nz_command.specs.View.{view, seen, local_view, seen_locals}
use Rattle.nz_script.specs.commands.Expression.{written_use, written_let, expressions, locals, local_names}
use Rattle.nz_script.specs.commands.Scoping.{have_unknown, have_clash, has_unknown, has_clash, locals_have_unknown, locals_have_clash, clash, is_unknown}
use Rattle.nz_script.specs.commands.Elaboration.{term_of, terms_of, bindings_of}
use Rattle.nz_elaborate.specs.Names.{named_by, bound_in, first_of, is_operator_entry}
use Rattle.nz_elaborate.specs.Elaborate.{application_of, StandAs}
use Rattle.nz_elaborate.specs.Faults.{joined, clash_fault, fault_in, term_in_found, TellsNames, Settles}
use Rattle.nz_elaborate.proofs.TableGrowth.{grows_none}
use Rattle.nz_elaborate.proofs.Sizes.{expression_size, expressions_size, locals_size, item_smaller, local_smaller}
use Rattle.nz_elaborate.proofs.FaultOrder.{Leads, leads_next, leads_none, settles_none, tells_both, tells_use}
use Rattle.nz_elaborate.proofs.ScopeNames.{BindLeads, within_here, within_kept, within_push, names_push, pushed, has_none, has_next, leads_start, bind_next, frame_within, empty_within, found_bound_within}
use Rattle.nz_elaborate.proofs.ElaboratedTerms.{all_within, none_within, names_here, seen_turn, terms_start, terms_next, terms_end, scope_here, locals_turn, bindings_start, bindings_next, bindings_end, fault_after, use_found, let_found, found_is}
use Rattle.nz_elaborate.proofs.elaboration.+elaborate.Goals as goal

pub expression_terms-loop-expression-preserved : goal.expression_terms-loop-expression-preserved
expression_terms-loop-expression-preserved t c =
    let before = c.loop-expression.invariant in
    let here = c.in_ok-found.ensures in
    let i = c.loop-expression.expression-index in
    let es = c.args.expressions.now in
    let found = c.in_ok-found.found in
    let turn : seen (drop i es) ≡ expressions (view c.expression-item.result) (seen (drop (i + 1) es)) = seen_turn view es i c.expression-item.result c.loop-expression-test.true c.expression-item.is in
    record {
      grown = c.grows_twice.ensures.twice _ _ _ before.grown here.grows;
      frames = here.frames ∙ before.frames;
      within = all_within c.loop-expression.terms c.expression_term.new.terms c.loop-expression.all.terms.items c.add.new.self.terms.items found here.grows before.within here.within
          c.in_ok-add.ensures.terms;
      names = λ is_live bound k.
          leads_next c.loop-expression.all.fault (fault_in found) c.add.new.self.fault (has_unknown is_live bound (view c.expression-item.result)) (has_clash (view c.expression-item.result))
          (have_unknown is_live bound (seen (drop (i + 1) es))) (have_clash (seen (drop (i + 1) es))) (have_unknown is_live bound (seen es)) (have_clash (seen es))
          (here.names is_live bound (names_here c.args.names.now c.args.frames.now.items c.loop-expression.frames.items is_live bound before.frames k)) c.in_ok-add.ensures.fault
          (subst (λ r. Leads c.loop-expression.all.fault (have_unknown is_live bound r) (have_clash r) (have_unknown is_live bound (seen es)) (have_clash (seen es))) turn (before.names is_live bound k));
      found = λ sc s.
          terms_next c.loop-expression.terms c.expression_term.new.terms c.loop-expression.all.fault found c.add.new.self.fault c.loop-expression.all.terms.items c.add.new.self.terms.items
          (terms_of sc (seen es)) (terms_of sc (seen (drop i es))) (terms_of sc (seen (drop (i + 1) es))) (term_of sc (view c.expression-item.result)) here.grows c.in_ok-add.ensures.fault
          c.in_ok-add.ensures.terms (ap (terms_of sc) turn)
          (here.found sc (scope_here c.args.terms.now c.loop-expression.terms c.args.names.now c.args.frames.now.items c.loop-expression.frames.items sc before.grown before.frames s)) (before.found sc s);
    }

pub expression_terms-loop-expression-init : goal.expression_terms-loop-expression-init
expression_terms-loop-expression-init t c =
    let empty = c.in_ok-all.ensures.empty in
    let fault = c.in_ok-all.ensures.fault in
    record {
      grown = grows_none _;
      frames = refl;
      within = none_within c.args.terms.now c.in_ok-all.all.terms.items empty;
      names = λ is_live bound k. leads_none c.in_ok-all.all.fault (have_unknown is_live bound (seen c.args.expressions.now)) (have_clash (seen c.args.expressions.now)) fault;
      found = λ sc s. settles_none c.in_ok-all.all.fault _ _ fault (terms_start (terms_of sc (seen c.args.expressions.now)) c.args.terms.now c.in_ok-all.all.terms.items empty);
    }

pub expression_terms-returns-clause-found : goal.expression_terms-returns-clause-found
expression_terms-returns-clause-found t c = λ sc s.
    (let rest = ap (λ l. terms_of sc (seen l)) (drop_all c.loop-expression.expression-index c.args.expressions.now c.loop-expression-test.false) in
    terms_end c.loop-expression.terms c.loop-expression.all.fault c.loop-expression.all.terms.items (terms_of sc (seen c.args.expressions.now)) _ rest (c.loop-expression.invariant.found sc s))

pub use_term-returns-clause-names : goal.use_term-returns-clause-names
use_term-returns-clause-names t c = λ is_live bound k.
    (let all = c.in_ok-all.ensures in
    let name = c.in_ok-found.ensures.names is_live bound (names_here c.args.names.now c.args.frames.now.items c.expression_terms.new.frames.items is_live bound all.frames k) in
    let told = tells_use c.in_ok-all.all.fault (fault_in c.in_ok-found.found) (have_unknown is_live bound (seen c.args.arguments.now)) (have_clash (seen c.args.arguments.now))
    (is_unknown is_live bound c.args.name.now) (all.names is_live bound k) name in
    subst (λ f. TellsNames f (is_unknown is_live bound c.args.name.now || have_unknown is_live bound (seen c.args.arguments.now)) (have_clash (seen c.args.arguments.now)))
    (sym (ap fault_in c.after.ensures.after ∙ fault_after c.in_ok-all.all.fault c.in_ok-found.found)) told)

pub use_term-returns-clause-found : goal.use_term-returns-clause-found
use_term-returns-clause-found t c = λ sc s.
    (let all = c.in_ok-all.ensures in
    let here = scope_here c.args.terms.now c.expression_terms.new.terms c.args.names.now c.args.frames.now.items c.expression_terms.new.frames.items sc all.grows all.frames s in
    let given = subst (λ l. Settles c.in_ok-all.all.fault (StandAs (terms_of sc (seen c.args.arguments.now)) c.expression_terms.new.terms l) (terms_of sc (seen c.args.arguments.now) ≡ None))
    (sym c.as_slice.ensures.value) (all.found sc s) in
    found_is c.apply_name.new.terms _ _ (application_of sc c.args.name.now (seen c.args.arguments.now)) c.after.ensures.after
    (use_found c.expression_terms.new.terms c.apply_name.new.terms c.in_ok-all.all.fault c.in_ok-found.found sc c.args.name.now (seen c.args.arguments.now) c.as_slice.result.now given
    (c.in_ok-found.ensures.found sc here)))

pub expression_term-returns-in-Use-clause-found : goal.expression_term-returns-in-Use-clause-found
expression_term-returns-in-Use-clause-found t c =
    let shape : view c.args.expression.now ≡ written_use c.in-Use.name.now (seen c.as_slice.result.now) = search (rules, the_lemmas, fold-roll-Expression, fold_out-Expression, fold-roll-Local, fold_out-Local) in
    rw shape c.use_term.ensures.found

pub let_term-expression_term-requires : goal.let_term-expression_term-requires
let_term-expression_term-requires t c =
    let bound = c.in_ok-frame.ensures in (
      omega arith,
      within_push c.bind_all.new.terms c.args.names.now c.args.frames.now.items c.push.new.self.items c.in_ok-frame.field-0.frame (pushed c.bind_all.new.frames.items c.args.frames.now.items c.push.new.self.items c.in_ok-frame.field-0.frame bound.frames c.in_ok-push.ensures.items)
          (within_kept c.args.terms.now c.bind_all.new.terms bound.grows c.args.names.now c.args.frames.now.items c.requires.within) bound.within,
    )

pub let_term-returns-clause-names : goal.let_term-returns-clause-names
let_term-returns-clause-names t c = λ is_live bound k.
    (let outside = c.in_ok-frame.ensures in
    let ls = seen_locals c.args.locals.now in
    let body = view c.args.body.now in
    let inner = names_push c.args.names.now c.args.frames.now.items c.push.new.self.items c.in_ok-frame.field-0.frame is_live bound (local_names ls)
    (pushed c.bind_all.new.frames.items c.args.frames.now.items c.push.new.self.items c.in_ok-frame.field-0.frame outside.frames c.in_ok-push.ensures.items) k outside.binds in
    let told = tells_both c.in_ok-frame.field-0.fault (fault_in c.in_ok-found.found) (locals_have_unknown is_live bound ls) (clash (local_names ls) || locals_have_clash ls)
    (has_unknown is_live (local_names ls ++ bound) body) (has_clash body) (outside.names is_live bound k) (c.in_ok-found.ensures.names is_live (local_names ls ++ bound) inner) in
    subst (λ f. TellsNames f (has_unknown is_live bound (written_let ls body)) (has_clash (written_let ls body)))
    (sym (ap fault_in c.after.ensures.after ∙ fault_after c.in_ok-frame.field-0.fault c.in_ok-found.found)) told)

pub let_term-returns-clause-found : goal.let_term-returns-clause-found
let_term-returns-clause-found t c = λ sc s.
    (let outside = c.in_ok-frame.ensures in
    let ls = seen_locals c.args.locals.now in
    let body = view c.args.body.now in
    found_is c.expression_term.new.terms _ _ (term_of sc (written_let ls body)) c.after.ensures.after
    (let_found c.args.terms.now c.bind_all.new.terms c.expression_term.new.terms c.args.names.now c.args.frames.now.items c.push.new.self.items c.in_ok-frame.field-0.frame c.in_ok-frame.field-0.fault
    c.in_ok-found.found ls body sc outside.grows
    (pushed c.bind_all.new.frames.items c.args.frames.now.items c.push.new.self.items c.in_ok-frame.field-0.frame outside.frames c.in_ok-push.ensures.items) s (outside.found sc s)
    c.in_ok-found.ensures.found))

pub let_term-bind_all-requires : goal.let_term-bind_all-requires
let_term-bind_all-requires t c = (omega arith, c.requires.within)

pub use_term-expression_terms-requires : goal.use_term-expression_terms-requires
use_term-expression_terms-requires t c = (omega arith, c.requires.within)

pub expression_term-use_term-requires : goal.expression_term-use_term-requires
expression_term-use_term-requires t c =
    let shape : view c.args.expression.now ≡ written_use c.in-Use.name.now (seen c.as_slice.result.now) = search (rules, the_lemmas, fold-roll-Expression, fold_out-Expression) in
    (omega (arith, ap expression_size shape), c.requires.within)

pub expression_term-let_term-requires : goal.expression_term-let_term-requires
expression_term-let_term-requires t c =
    let shape : view c.args.expression.now ≡ written_let (seen_locals c.as_slice-in-Let.result.now) (view c.deref.result.now) =
    search (rules, the_lemmas, fold-roll-Expression, fold_out-Expression, fold-roll-Local, fold_out-Local) in
    (omega (arith, ap expression_size shape), c.requires.within)

pub expression_terms-expression_term-requires : goal.expression_terms-expression_term-requires
expression_terms-expression_term-requires t c =
    let smaller : expression_size (view c.expression-item.result) < expressions_size (seen c.args.expressions.now) =
    item_smaller view c.args.expressions.now c.loop-expression.expression-index c.expression-item.result c.loop-expression-test.true c.expression-item.is in (
      omega arith,
      within_here c.args.terms.now c.loop-expression.terms c.args.names.now c.args.frames.now.items c.loop-expression.frames.items c.loop-expression.invariant.grown c.loop-expression.invariant.frames
          c.requires.within,
    )

pub bind_all-loop-local-init : goal.bind_all-loop-local-init
bind_all-loop-local-init t c =
    let empty = c.new-bound.ensures.empty in
    let fault = c.new-bound.ensures.fault in
    let ls = seen_locals c.args.locals.now in
    record {
      grown = grows_none _;
      frames = refl;
      within = empty_within c.args.terms.now c.new-bound.result.frame empty;
      binds = has_none (local_names ls) c.new-bound.result.frame empty;
      names = λ is_live bound k. leads_start c.new-bound.result.fault c.new-bound.result.frame (local_names ls) (locals_have_unknown is_live bound ls) (locals_have_clash ls) fault empty;
      found = λ sc s. settles_none c.new-bound.result.fault _ _ fault (bindings_start (bindings_of sc ls) c.args.terms.now c.new-bound.result.frame empty);
    }

pub bind_all-expression_term-requires : goal.bind_all-expression_term-requires
bind_all-expression_term-requires t c =
    let local = c.local-item.result in
    let shape : local_view local ≡ (local.name.now, view local.term) = search (rules, the_lemmas, fold-roll-Expression, fold_out-Expression, fold-roll-Local, fold_out-Local) in
    let smaller : expression_size (view local.term) < locals_size (seen_locals c.args.locals.now) =
    local_smaller local_view c.args.locals.now c.loop-local.local-index local local.name.now (view local.term) c.loop-local-test.true c.local-item.is shape in (
      omega arith,
      within_here c.args.terms.now c.loop-local.terms c.args.names.now c.args.frames.now.items c.loop-local.frames.items c.loop-local.invariant.grown c.loop-local.invariant.frames c.requires.within,
    )

pub bind_all-returns-in_err-found-clause-grows : goal.bind_all-returns-in_err-found-clause-grows
bind_all-returns-in_err-found-clause-grows t c = c.grows_twice.ensures.twice _ _ _ c.loop-local.invariant.grown c.in_err-found.ensures.grows

pub bind_all-loop-local-preserved : goal.bind_all-loop-local-preserved
bind_all-loop-local-preserved t c =
    let before = c.loop-local.invariant in
    let here = c.in_ok-found.ensures in
    let i = c.loop-local.local-index in
    let ls = c.args.locals.now in
    let local = c.local-item.result in
    let found = c.in_ok-found.found in
    let frame = c.loop-local.bound.frame in
    let later = c.bind.new.self.frame in
    -- the name is bound to what is found of its term, which is read in the scope outside
    let told : c.bind.new.self.fault ≡ joined (joined c.loop-local.bound.fault (clash_fault (is_operator_entry (named_by c.args.names.now local.name.now) || is_some (bound_in frame local.name.now)))) (fault_in found) =
    search (c.in_ok-bind.ensures.fault) in
    let bound_more : (other : List ℕ) → bound_in later other ≡ first_of (bound_in frame other) (bound_in ((local.name.now, term_in_found found) ∷ []) other) = λ other. search (c.in_ok-bind.ensures.bound) in
    let rest = seen_locals (drop (i + 1) ls) in
    let shape : local_view local ≡ (local.name.now, view local.term) = search (rules, the_lemmas, fold-roll-Expression, fold_out-Expression, fold-roll-Local, fold_out-Local) in
    let turn : seen_locals (drop i ls) ≡ locals local.name.now (view local.term) rest = locals_turn ls i local local.name.now (view local.term) c.loop-local-test.true c.local-item.is shape in
    record {
      grown = c.grows_twice.ensures.twice _ _ _ before.grown here.grows;
      frames = here.frames ∙ before.frames;
      within = frame_within c.loop-local.terms c.expression_term.new.terms frame later local.name.now (term_in_found found) here.grows before.within
          (found_bound_within c.expression_term.new.terms found here.within) bound_more;
      binds = has_next (local_names (seen_locals ls)) (local_names (seen_locals (drop i ls))) (local_names rest) frame later local.name.now (term_in_found found) (ap local_names turn) bound_more before.binds;
      names = λ is_live bound k.
          bind_next c.loop-local.bound.fault (fault_in found) c.bind.new.self.fault frame later local.name.now (term_in_found found) (local_names rest)
          (is_operator_entry (named_by c.args.names.now local.name.now)) (has_unknown is_live bound (view local.term)) (has_clash (view local.term)) (locals_have_unknown is_live bound rest)
          (locals_have_clash rest) (locals_have_unknown is_live bound (seen_locals ls)) (clash (local_names (seen_locals ls)) || locals_have_clash (seen_locals ls)) (k.operators local.name.now)
          (here.names is_live bound (names_here c.args.names.now c.args.frames.now.items c.loop-local.frames.items is_live bound before.frames k)) told bound_more
          (subst (λ r. BindLeads c.loop-local.bound.fault frame (local_names r) (locals_have_unknown is_live bound r) (locals_have_clash r) (locals_have_unknown is_live bound (seen_locals ls))
          (clash (local_names (seen_locals ls)) || locals_have_clash (seen_locals ls))) turn (before.names is_live bound k));
      found = λ sc s.
          bindings_next c.loop-local.terms c.expression_term.new.terms c.loop-local.bound.fault _ found c.bind.new.self.fault frame later local.name.now (bindings_of sc (seen_locals ls))
          (bindings_of sc (seen_locals (drop i ls))) (bindings_of sc rest) (term_of sc (view local.term)) here.grows told bound_more (ap (bindings_of sc) turn)
          (here.found sc (scope_here c.args.terms.now c.loop-local.terms c.args.names.now c.args.frames.now.items c.loop-local.frames.items sc before.grown before.frames s)) (before.found sc s);
    }

pub bind_all-returns-clause-found : goal.bind_all-returns-clause-found
bind_all-returns-clause-found t c = λ sc s.
    (let rest = ap seen_locals (drop_all c.loop-local.local-index c.args.locals.now c.loop-local-test.false) in
    bindings_end c.loop-local.terms c.loop-local.bound.fault sc (seen_locals c.args.locals.now) _ c.loop-local.bound.frame rest (c.loop-local.invariant.found sc s))

pub expression_term-returns-in-Let-clause-names : goal.expression_term-returns-in-Let-clause-names
expression_term-returns-in-Let-clause-names t c =
    let shape : view c.args.expression.now ≡ written_let (seen_locals c.as_slice-in-Let.result.now) (view c.deref.result.now) =
    search (rules, the_lemmas, fold-roll-Expression, fold_out-Expression, fold-roll-Local, fold_out-Local) in
    rw shape c.let_term.ensures.names

pub expression_term-returns-in-Let-clause-found : goal.expression_term-returns-in-Let-clause-found
expression_term-returns-in-Let-clause-found t c =
    let shape : view c.args.expression.now ≡ written_let (seen_locals c.as_slice-in-Let.result.now) (view c.deref.result.now) =
    search (rules, the_lemmas, fold-roll-Expression, fold_out-Expression, fold-roll-Local, fold_out-Local) in
    rw shape c.let_term.ensures.found

pub let_term-returns-in_err-found-clause-grows : goal.let_term-returns-in_err-found-clause-grows
let_term-returns-in_err-found-clause-grows t c = c.grows_twice.ensures.twice _ _ _ c.in_ok-frame.ensures.grows c.in_err-found.ensures.grows

pub let_term-returns-clause-grows : goal.let_term-returns-clause-grows
let_term-returns-clause-grows t c = c.grows_twice.ensures.twice _ _ _ c.in_ok-frame.ensures.grows c.in_ok-found.ensures.grows
