-- Lemmas of what is answered for terms that are asked for, by each scope that the names are.
use Rattle.std.proofs.Common.{[], ◌≡◌, ℕ, ◌≤◌, Bool, List, length, map, drop, Option, Some, None, Result, Ok, Err, IfOk, subst, sym, ap}
use Rattle.std.specs.Prelude.{IsErrOf}
use Rattle.std.proofs.lemmas.List.{drop_all}
use Rattle.nz_command.specs.declared.command.Question as question
use Rattle.nz_command.specs.View.{expressions_from}
use Rattle.nz_command.specs.Requests.{question_view}
use Rattle.nz_script.specs.commands.Expression.{Expressions}
use Rattle.nz_spec.specs.terms.Term.{Term}
use Rattle.nz_spec.specs.terms.Table.{Node}
use Rattle.nz_script.specs.commands.Scoping.{have_unknown, have_clash}
use Rattle.nz_script.specs.commands.Script.{asked_expressions}
use Rattle.nz_script.specs.commands.Elaboration.{Scope, is_declared, terms_of}
use Rattle.nz_elaborate.specs.declared.typed.Typed.{Typed}
use Rattle.nz_elaborate.specs.declared.names.Named as named
use Rattle.nz_elaborate.specs.declared.faults.Fault.{Fault}
use Rattle.nz_elaborate.specs.declared.faults.Fault.TheVariants as faults
use Rattle.nz_elaborate.specs.declared.faults.Found.{Found}
use Rattle.nz_elaborate.specs.declared.faults.Found.TheVariants as found
use Rattle.nz_elaborate.specs.declared.faults.ElaborateError.{ElaborateError}
use Rattle.nz_elaborate.specs.declared.faults.ElaborateError.TheVariants as told
use Rattle.nz_elaborate.specs.Names.{IsScope, AreNames}
use Rattle.nz_elaborate.specs.Elaborate.{StandsAs, StandAs, IsWellNamed, are_unknown_in}
use Rattle.nz_elaborate.specs.Faults.{TellsNames, Settles, Answers, fault_in, term_in_found, IsFound}
use Rattle.nz_elaborate.proofs.FaultOrder.{Leads, leads_end, told_sort, told_fine}
use Rattle.nz_elaborate.proofs.ScopeNames.{names_of_scope}
use Rattle.nz_elaborate.proofs.ElaboratedTerms.{HasTerms, terms_end, question_term, asked_are}

-- ---- One term

settled_found : (ns : List Node) (f : Found) (o : Option Term) → IsFound f o ns → Settles (fault_in f) (IsFound f o ns) (o ≡ None)
settled_found ns (found.Term x) o h = h
settled_found ns (found.Fault faults.Unknown) o h = tt
settled_found ns (found.Fault faults.Clash) o h = tt
settled_found ns (found.Fault faults.Sort) o h = h

stands_found : (ns : List Node) (f : Found) (o : Option Term) (r : Result Typed ElaborateError) → IfOk r (λ x. term_in_found f ≡ Some x) → IfOk r (λ x. IsFound f o ns → StandsAs o ns x)
stands_found ns f o (Err e) h = tt
stands_found ns (found.Term y) o (Ok x) h = λ s. (let same : y ≡ x = cc in subst (StandsAs o ns) same s)
stands_found ns (found.Fault g) o (Ok x) h = cc

pub no_term_answered : {T : Type 0} (ns : List Node) (f : Found) (o : Option Term) (r : Result T ElaborateError) (u c : Bool) → Answers (fault_in f) r → TellsNames (fault_in f) u c → IsFound f o ns
    → IsErrOf r told.Sort → IsWellNamed u c (o ≡ None)
no_term_answered ns f o r u c answer names here e = told_sort (fault_in f) r u c (IsFound f o ns) (o ≡ None) answer names (settled_found ns f o here) e

pub term_answered : (ns : List Node) (f : Found) (o : Option Term) (r : Result Typed ElaborateError) (u c : Bool) → Answers (fault_in f) r → TellsNames (fault_in f) u c → IsFound f o ns
    → IfOk r (λ x. term_in_found f ≡ Some x) → IfOk r (λ x. IsWellNamed u c (StandsAs o ns x))
term_answered ns f o r u c answer names here h =
    told_fine (fault_in f) r u c (IsFound f o ns) (o ≡ None) (StandsAs o ns) answer names (settled_found ns f o here) (stands_found ns f o r h)

-- ---- Terms that are asked for

pub asked_told : (start : List Node) (entries : List (List ℕ × named.Named)) (f : Option Fault) (qs : List question.Question) (i : ℕ) (sc : Scope) → length qs ≤ i → IsScope start entries [] sc
    → ((is_live : List ℕ → Bool) (bound : List (List ℕ)) → AreNames entries [] is_live bound
    → Leads f (have_unknown is_live bound (expressions_from (map question_term (drop i qs)))) (have_clash (expressions_from (map question_term (drop i qs))))
    (have_unknown is_live bound (expressions_from (map question_term qs))) (have_clash (expressions_from (map question_term qs))))
    → TellsNames f (are_unknown_in sc (asked_expressions (map question_view qs))) (have_clash (asked_expressions (map question_view qs)))
asked_told start entries f qs i sc past s leads =
    let is_live : List ℕ → Bool = is_declared sc.constants sc.definitions in
    let all : Expressions = expressions_from (map question_term qs) in
    subst (λ es. TellsNames f (are_unknown_in sc es) (have_clash es)) (sym (asked_are qs))
    (leads_end f (have_unknown is_live [] all) (have_clash all)
    (subst (λ l. Leads f (have_unknown is_live [] (expressions_from (map question_term l))) (have_clash (expressions_from (map question_term l))) (have_unknown is_live [] all) (have_clash all))
    (drop_all i qs past) (leads is_live [] (names_of_scope start entries sc s))))

pub asked_settled : (ns : List Node) (f : Option Fault) (qs : List question.Question) (i : ℕ) (xs : List Typed) (sc : Scope) → length qs ≤ i
    → Settles f (HasTerms (terms_of sc (expressions_from (map question_term qs))) (terms_of sc (expressions_from (map question_term (drop i qs)))) ns xs) (terms_of sc (expressions_from (map question_term qs)) ≡ None)
    → Settles f (StandAs (terms_of sc (asked_expressions (map question_view qs))) ns xs) (terms_of sc (asked_expressions (map question_view qs)) ≡ None)
asked_settled ns f qs i xs sc past so =
    subst (λ es. Settles f (StandAs (terms_of sc es) ns xs) (terms_of sc es ≡ None)) (sym (asked_are qs))
    (terms_end ns f xs (terms_of sc (expressions_from (map question_term qs))) _ (ap (λ l. terms_of sc (expressions_from (map question_term l))) (drop_all i qs past)) so)
