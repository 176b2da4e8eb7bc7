use Rattle.std.proofs.Common.{◌≡◌, ℕ, suc, ◌+◌, ◌<◌, Bool, List, length, drop, All}
use Rattle.nz_command.specs.View.{view, seen, seen_locals}
use Rattle.nz_script.specs.commands.Expression.{local_names}
use Rattle.nz_script.specs.commands.Scoping.{have_unknown, have_clash, locals_have_unknown, locals_have_clash, clash}
use Rattle.std.specs.Prelude.{◌||◌, IfSome}
use Rattle.nz_script.specs.commands.Elaboration.{Scope, terms_of, bindings_of}
use Rattle.nz_elaborate.specs.declared.typed.Typed.{Typed}
use Rattle.nz_elaborate.specs.Names.{IsScope, AreNames, IsBoundWithin, bound_in}
use Rattle.nz_elaborate.specs.Typed.{Grows}
use Rattle.nz_elaborate.specs.Faults.{Settles}
use Rattle.std.specs.Prelude.{None}
use Rattle.nz_elaborate.proofs.Sizes.{expression_size, expressions_size, locals_size}
use Rattle.nz_elaborate.proofs.FaultOrder.{Leads}
use Rattle.nz_elaborate.proofs.ScopeNames.{BindLeads, HasNames}
use Rattle.nz_elaborate.proofs.ElaboratedTerms.{HasTerms, HasBindings}
use Rattle.nz_elaborate.proofs.elaboration.+elaborate.Given as goal

abbrev pub decreases-expression_term : goal.decreases-expression_term
decreases-expression_term l = expression_size (view l.expression.now)

abbrev pub decreases-expression_terms : goal.decreases-expression_terms
decreases-expression_terms l = expressions_size (seen l.expressions.now)

abbrev pub decreases-use_term : goal.decreases-use_term
decreases-use_term l = suc (expressions_size (seen l.arguments.now))

abbrev pub decreases-let_term : goal.decreases-let_term
decreases-let_term l = suc (locals_size (seen_locals l.locals.now) + expression_size (view l.body.now))

abbrev pub decreases-bind_all : goal.decreases-bind_all
decreases-bind_all l = locals_size (seen_locals l.locals.now)

abbrev pub invariant-expression_terms-loop-expression : goal.invariant-expression_terms-loop-expression
invariant-expression_terms-loop-expression l = record {
  grown : Grows l.fn.terms l.terms;
  frames : l.frames.items ≡ l.fn.frames.items;
  within : All (λ (x : Typed). x.id < length l.terms) l.all.terms.items;
  names : (is_live : List ℕ → Bool) (bound : List (List ℕ)) → AreNames l.names l.fn.frames.items is_live bound
      → Leads l.all.fault (have_unknown is_live bound (seen (drop l.expression-index l.expressions))) (have_clash (seen (drop l.expression-index l.expressions)))
      (have_unknown is_live bound (seen l.expressions)) (have_clash (seen l.expressions));
  found : (sc : Scope) → IsScope l.fn.terms l.names l.fn.frames.items sc
      → Settles l.all.fault (HasTerms (terms_of sc (seen l.expressions)) (terms_of sc (seen (drop l.expression-index l.expressions))) l.terms l.all.terms.items) (terms_of sc (seen l.expressions) ≡ None);
}

abbrev pub invariant-bind_all-loop-local : goal.invariant-bind_all-loop-local
invariant-bind_all-loop-local l = record {
  grown : Grows l.fn.terms l.terms;
  frames : l.frames.items ≡ l.fn.frames.items;
  within : (name : List ℕ) → IfSome (bound_in l.bound.frame name) (IsBoundWithin l.terms);
  binds : HasNames (local_names (seen_locals l.locals)) l.bound.frame (local_names (seen_locals (drop l.local-index l.locals)));
  names : (is_live : List ℕ → Bool) (bound : List (List ℕ)) → AreNames l.names l.fn.frames.items is_live bound
      → BindLeads l.bound.fault l.bound.frame (local_names (seen_locals (drop l.local-index l.locals))) (locals_have_unknown is_live bound (seen_locals (drop l.local-index l.locals)))
      (locals_have_clash (seen_locals (drop l.local-index l.locals)))
      (locals_have_unknown is_live bound (seen_locals l.locals)) (clash (local_names (seen_locals l.locals)) || locals_have_clash (seen_locals l.locals));
  found : (sc : Scope) → IsScope l.fn.terms l.names l.fn.frames.items sc
      → Settles l.bound.fault (HasBindings (bindings_of sc (seen_locals l.locals)) (bindings_of sc (seen_locals (drop l.local-index l.locals))) l.terms l.bound.frame) (bindings_of sc (seen_locals l.locals) ≡ None);
}
