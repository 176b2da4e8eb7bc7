use Rattle.std.proofs.Common.{[], ◌≡◌, ℕ, Bool, List, None, map, drop}
use Rattle.nz_command.specs.View.{expressions_from}
use Rattle.nz_script.specs.commands.Scoping.{have_unknown, have_clash}
use Rattle.nz_script.specs.commands.Elaboration.{Scope, terms_of}
use Rattle.nz_elaborate.specs.Names.{IsScope, AreNames}
use Rattle.nz_elaborate.specs.Typed.{Grows}
use Rattle.nz_elaborate.specs.Faults.{Settles}
use Rattle.nz_elaborate.proofs.FaultOrder.{Leads}
use Rattle.nz_elaborate.proofs.ElaboratedTerms.{HasTerms, question_term}
use Rattle.nz_elaborate.proofs.elaboration.elaborate_all.Given as goal

abbrev pub invariant-loop-question : goal.invariant-loop-question
invariant-loop-question l =
    let es = expressions_from (map question_term l.questions) in
    let rest = expressions_from (map question_term (drop l.question-index l.questions)) in
    record {
      grown : Grows l.fn.terms l.terms;
      frames : l.frames.items ≡ [];
      names : (is_live : List ℕ → Bool) (bound : List (List ℕ)) → AreNames l.names [] is_live bound
          → Leads l.all.fault (have_unknown is_live bound rest) (have_clash rest) (have_unknown is_live bound es) (have_clash es);
      found : (sc : Scope) → IsScope l.fn.terms l.names [] sc → Settles l.all.fault (HasTerms (terms_of sc es) (terms_of sc rest) l.terms l.all.terms.items) (terms_of sc es ≡ None);
    }
