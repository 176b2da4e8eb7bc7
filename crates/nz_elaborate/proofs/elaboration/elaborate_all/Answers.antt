use Rattle.std.proofs.Common.{[], ◌≡◌, Vec, Global, None, map, drop, ◌+◌, ap, sym, ◌∙◌, subst}
use Rattle.std.proofs.lemmas.Result.{IfOk-weaker}
use Rattle.nz_command.specs.View.{expressions_from}
use Rattle.nz_command.specs.Requests.{question_view}
use Rattle.nz_script.specs.commands.Expression.{Expressions, expressions}
use Rattle.nz_script.specs.commands.Scoping.{has_unknown, has_clash, have_unknown, have_clash}
use Rattle.nz_script.specs.commands.Script.{asked_expressions}
use Rattle.nz_script.specs.commands.Elaboration.{term_of, terms_of}
use Rattle.nz_elaborate.specs.declared.typed.Typed.{Typed}
use Rattle.nz_elaborate.specs.Names.{IsScope}
use Rattle.nz_elaborate.specs.Elaborate.{StandAs, IsWellNamed, are_unknown_in}
use Rattle.nz_elaborate.specs.Faults.{fault_in}
use Rattle.nz_elaborate.proofs.TableGrowth.{grows_none}
use Rattle.nz_elaborate.proofs.FaultOrder.{Leads, leads_none, leads_next, settles_none, told_unknown, told_clash, told_sort, told_fine, ok_each}
use Rattle.nz_elaborate.proofs.ScopeNames.{within_of_scope, within_here}
use Rattle.nz_elaborate.proofs.ElaboratedTerms.{question_term, names_here, seen_turn, terms_start, terms_next, scope_here}
use Rattle.nz_elaborate.proofs.TermAnswers.{asked_told, asked_settled}
use Rattle.nz_elaborate.proofs.elaboration.elaborate_all.Goals as goal

pub loop-question-init : goal.loop-question-init
loop-question-init c =
    let es : Expressions = expressions_from (map question_term c.args.questions.now) in
    let fault = c.in_ok-all.ensures.fault in
    record {
      grown = grows_none _;
      frames = c.new-frames.ensures.items;
      names = λ is_live bound k. leads_none c.in_ok-all.all.fault (have_unknown is_live bound es) (have_clash es) fault;
      found = λ sc s. settles_none c.in_ok-all.all.fault _ _ fault (terms_start (terms_of sc es) c.args.terms.now c.in_ok-all.all.terms.items c.in_ok-all.ensures.empty);
    }

pub expression_term-requires : goal.expression_term-requires
expression_term-requires c =
    record {
      within = within_here c.args.terms.now c.loop-question.terms c.args.names.now [] c.loop-question.frames.items c.loop-question.invariant.grown c.loop-question.invariant.frames
          (within_of_scope c.args.terms.now c.args.names.now c.requires.scope.0 c.requires.scope.1);
    }

pub loop-question-preserved : goal.loop-question-preserved
loop-question-preserved c =
    let before = c.loop-question.invariant in
    let here = c.in_ok-found.ensures in
    let i = c.loop-question.question-index in
    let qs = c.args.questions.now in
    let found = c.in_ok-found.found in
    let e = question_term c.question-item.result in
    let es : Expressions = expressions_from (map question_term qs) in
    let rest : Expressions = expressions_from (map question_term (drop i qs)) in
    let more : Expressions = expressions_from (map question_term (drop (i + 1) qs)) in
    let turn : rest ≡ expressions e more = seen_turn question_term qs i c.question-item.result c.loop-question-test.true c.question-item.is in
    record {
      grown = c.grows_twice.ensures.twice _ _ _ before.grown here.grows;
      frames = here.frames ∙ before.frames;
      names = λ is_live bound k.
          leads_next c.loop-question.all.fault (fault_in found) c.add.new.self.fault (has_unknown is_live bound e) (has_clash e) (have_unknown is_live bound more) (have_clash more)
          (have_unknown is_live bound es) (have_clash es) (here.names is_live bound (names_here c.args.names.now [] c.loop-question.frames.items is_live bound before.frames k)) c.in_ok-add.ensures.fault
          (subst (λ r. Leads c.loop-question.all.fault (have_unknown is_live bound r) (have_clash r) (have_unknown is_live bound es) (have_clash es)) turn (before.names is_live bound k));
      found = λ sc s.
          terms_next c.loop-question.terms c.expression_term.new.terms c.loop-question.all.fault found c.add.new.self.fault c.loop-question.all.terms.items c.add.new.self.terms.items (terms_of sc es)
          (terms_of sc rest) (terms_of sc more) (term_of sc e) here.grows c.in_ok-add.ensures.fault c.in_ok-add.ensures.terms (ap (terms_of sc) turn)
          (here.found sc (scope_here c.args.terms.now c.loop-question.terms c.args.names.now [] c.loop-question.frames.items sc before.grown before.frames s)) (before.found sc s);
    }

pub returns-clause-unknown : goal.returns-clause-unknown
returns-clause-unknown c = λ err sc s.
    told_unknown c.loop-question.all.fault c.settled.result _ _ c.settled.ensures.answer
    (asked_told c.args.terms.now c.args.names.now c.loop-question.all.fault c.args.questions.now c.loop-question.question-index sc c.loop-question-test.false s c.loop-question.invariant.names) err

pub returns-clause-clash : goal.returns-clause-clash
returns-clause-clash c = λ err sc s.
    told_clash c.loop-question.all.fault c.settled.result _ _ c.settled.ensures.answer
    (asked_told c.args.terms.now c.args.names.now c.loop-question.all.fault c.args.questions.now c.loop-question.question-index sc c.loop-question-test.false s c.loop-question.invariant.names) err

pub returns-clause-found : goal.returns-clause-found
returns-clause-found c =
    let es : Expressions = asked_expressions (map question_view c.args.questions.now) in
    ok_each c.settled.result (IsScope c.args.terms.now c.args.names.now [])
    (λ sc (xs : Vec Typed Global). IsWellNamed (are_unknown_in sc es) (have_clash es) (StandAs (terms_of sc es) c.loop-question.terms xs.items))
    (λ sc s.
    told_fine c.loop-question.all.fault c.settled.result (are_unknown_in sc es) (have_clash es) (StandAs (terms_of sc es) c.loop-question.terms c.loop-question.all.terms.items) (terms_of sc es ≡ None)
    (λ (xs : Vec Typed Global). StandAs (terms_of sc es) c.loop-question.terms xs.items) c.settled.ensures.answer
    (asked_told c.args.terms.now c.args.names.now c.loop-question.all.fault c.args.questions.now c.loop-question.question-index sc c.loop-question-test.false s c.loop-question.invariant.names)
    (asked_settled c.loop-question.terms c.loop-question.all.fault c.args.questions.now c.loop-question.question-index c.loop-question.all.terms.items sc c.loop-question-test.false
    (c.loop-question.invariant.found sc s))
    (IfOk-weaker c.settled.result (λ (xs : Vec Typed Global). xs.items ≡ c.loop-question.all.terms.items)
    (λ (xs : Vec Typed Global). StandAs (terms_of sc es) c.loop-question.terms c.loop-question.all.terms.items → StandAs (terms_of sc es) c.loop-question.terms xs.items)
    (λ xs e p. subst (StandAs (terms_of sc es) c.loop-question.terms) (sym e) p) c.settled.ensures.terms))

pub returns-clause-refused : goal.returns-clause-refused
returns-clause-refused c = λ err sc s.
    told_sort c.loop-question.all.fault c.settled.result _ _ _ _ c.settled.ensures.answer
    (asked_told c.args.terms.now c.args.names.now c.loop-question.all.fault c.args.questions.now c.loop-question.question-index sc c.loop-question-test.false s c.loop-question.invariant.names)
    (asked_settled c.loop-question.terms c.loop-question.all.fault c.args.questions.now c.loop-question.question-index c.loop-question.all.terms.items sc c.loop-question-test.false
    (c.loop-question.invariant.found sc s)) err
