use Rattle.std.proofs.Common.{[], sym, subst}
use Rattle.nz_command.specs.View.{view}
use Rattle.nz_script.specs.commands.Scoping.{has_clash}
use Rattle.nz_script.specs.commands.Elaboration.{is_declared, term_of}
use Rattle.nz_elaborate.specs.Names.{AreWithin, IsScope}
use Rattle.nz_elaborate.specs.Elaborate.{StandsAs, IsWellNamed, is_unknown_in}
use Rattle.nz_elaborate.proofs.FaultOrder.{told_unknown, told_clash, ok_each}
use Rattle.nz_elaborate.proofs.ScopeNames.{within_of_scope, names_of_scope}
use Rattle.nz_elaborate.proofs.ElaboratedTerms.{names_here, scope_here}
use Rattle.nz_elaborate.proofs.TableGrowth.{grows_none}
use Rattle.nz_elaborate.proofs.TermAnswers.{term_answered, no_term_answered}
use Rattle.nz_elaborate.proofs.elaboration.elaborate.Goals as goal

pub expression_term-requires : goal.expression_term-requires
expression_term-requires c =
    record {
      within = subst (AreWithin c.args.terms.now c.args.names.now) (sym c.new-frames.ensures.items) (within_of_scope c.args.terms.now c.args.names.now c.requires.scope.0 c.requires.scope.1);
    }

pub returns-clause-unknown : goal.returns-clause-unknown
returns-clause-unknown c = λ err sc s.
    told_unknown _ c.settled.result _ _ c.settled.ensures.answer
    (c.in_ok-found.ensures.names (is_declared sc.constants sc.definitions) []
    (names_here c.args.names.now [] c.new-frames.result.items (is_declared sc.constants sc.definitions) [] c.new-frames.ensures.items (names_of_scope c.args.terms.now c.args.names.now sc s))) err

pub returns-clause-clash : goal.returns-clause-clash
returns-clause-clash c = λ err sc s.
    told_clash _ c.settled.result _ _ c.settled.ensures.answer
    (c.in_ok-found.ensures.names (is_declared sc.constants sc.definitions) []
    (names_here c.args.names.now [] c.new-frames.result.items (is_declared sc.constants sc.definitions) [] c.new-frames.ensures.items (names_of_scope c.args.terms.now c.args.names.now sc s))) err

pub returns-clause-found : goal.returns-clause-found
returns-clause-found c =
    let e = view c.args.expression.now in
    let new = c.expression_term.new.terms in
    ok_each c.settled.result (IsScope c.args.terms.now c.args.names.now []) (λ sc x. IsWellNamed (is_unknown_in sc e) (has_clash e) (StandsAs (term_of sc e) new x))
    (λ sc s.
    term_answered new c.in_ok-found.found (term_of sc e) c.settled.result (is_unknown_in sc e) (has_clash e) c.settled.ensures.answer
    (c.in_ok-found.ensures.names (is_declared sc.constants sc.definitions) []
    (names_here c.args.names.now [] c.new-frames.result.items (is_declared sc.constants sc.definitions) [] c.new-frames.ensures.items (names_of_scope c.args.terms.now c.args.names.now sc s)))
    (c.in_ok-found.ensures.found sc (scope_here c.args.terms.now c.args.terms.now c.args.names.now [] c.new-frames.result.items sc (grows_none _) c.new-frames.ensures.items s))
    c.settled.ensures.term)

pub returns-clause-refused : goal.returns-clause-refused
returns-clause-refused c = λ err sc s.
    no_term_answered c.expression_term.new.terms c.in_ok-found.found (term_of sc (view c.args.expression.now)) c.settled.result _ _ c.settled.ensures.answer
    (c.in_ok-found.ensures.names (is_declared sc.constants sc.definitions) []
    (names_here c.args.names.now [] c.new-frames.result.items (is_declared sc.constants sc.definitions) [] c.new-frames.ensures.items (names_of_scope c.args.terms.now c.args.names.now sc s)))
    (c.in_ok-found.ensures.found sc (scope_here c.args.terms.now c.args.terms.now c.args.names.now [] c.new-frames.result.items sc (grows_none _) c.new-frames.ensures.items s)) err
