use Rattle.std.proofs.Common.{◌≡◌, ◌∙◌, ℕ, List, Bor, true, false, Option, None, Err, ap, sym, subst, refl, rules}
use Rattle.nz_script.specs.commands.Expression.{Expression, written_name}
use Rattle.nz_spec.specs.terms.Term.{bool_sort, are_same_sort, holds_integer}
use Rattle.nz_script.specs.commands.Elaboration.{term_of}
use Rattle.nz_script.specs.commands.Scoping.{has_clash}
use Rattle.nz_script.specs.commands.Script.{scope_of}
use Rattle.nz_term.specs.Constants.{sort_of}
use Rattle.nz_command.specs.declared.expression.Expression.TheVariants.{Name}
use Rattle.nz_command.specs.declared.expression.Expression.TheViews.{the_lemmas}
use Rattle.nz_command.specs.declared.expression.Expression.TheFolds.{fold_out-Expression}
use Rattle.nz_command.specs.View.{view}
use Rattle.nz_command.specs.Requests.{assumption_view}
use Rattle.nz_elaborate.specs.declared.faults.ElaborateError.TheVariants.{Unknown, Clash, Sort}
use Rattle.nz_elaborate.specs.Elaborate.{StandsAs, is_unknown_in, IsWellNamed}
use Rattle.nz_term.specs.declared.term_lits.TermLit.{TermLit}
use Rattle.nz_sort.specs.declared.assuming.FoundAssumption.{FoundAssumption}
use Rattle.nz_sort.specs.Found.{IsFoundAs}
use Rattle.nz_sort.proofs.FoundLiterals.{found_none, found_term, unknown_none}
use Rattle.nz_sort.proofs.assuming.assumed_term.Goals as goal

name_view : (name : Bor (List ℕ)) → view (Name name) ≡ written_name name.now
name_view name = search (rules, the_lemmas, fold_out-Expression)

pub elaborate-requires : goal.elaborate-requires
elaborate-requires c = record { scope = (scope_of c.requires.scope.0, c.requires.scope.1) }

pub returns-in-Err-Unknown-clause-found : goal.returns-in-Err-Unknown-clause-found
returns-in-Err-Unknown-clause-found c = λ s scope.
    let stop : c.elaborate.result ≡ Err Unknown = search rules in
    let x = assumption_view c.args.assumption.now in
    let unknown = sym (ap (is_unknown_in (scope_of s)) (name_view c.args.assumption.now.name)) ∙ c.elaborate.ensures.unknown stop (scope_of s) scope in
    subst (λ (f : FoundAssumption). IsFoundAs s x c.elaborate.new.terms f) (sym c.without_term.ensures.found) (found_none s x c.elaborate.new.terms true unknown (unknown_none s x unknown))

pub returns-in-Err-Clash-clause-found : goal.returns-in-Err-Clash-clause-found
returns-in-Err-Clash-clause-found c = λ s scope.
    let stop : c.elaborate.result ≡ Err Clash = search rules in
    let no : false ≡ true = sym (ap has_clash (name_view c.args.assumption.now.name)) ∙ (c.elaborate.ensures.clash stop (scope_of s) scope).clashes in
    cc

pub returns-in-Err-Sort-clause-found : goal.returns-in-Err-Sort-clause-found
returns-in-Err-Sort-clause-found c = λ s scope.
    let stop : c.elaborate.result ≡ Err Sort = search rules in
    let x = assumption_view c.args.assumption.now in
    let none = subst (λ (e : Expression). IsWellNamed (is_unknown_in (scope_of s) e) (has_clash e) (term_of (scope_of s) e ≡ None)) (name_view c.args.assumption.now.name)
    (c.elaborate.ensures.refused stop (scope_of s) scope) in
    subst (λ (f : FoundAssumption). IsFoundAs s x c.elaborate.new.terms f) (sym c.without_term-in-Err-Sort.ensures.found) (found_none s x c.elaborate.new.terms false none.known none.holds)

pub holds_integer-requires : goal.holds_integer-requires
holds_integer-requires c = record { within = (c.in-Ok.ensures.found (scope_of c.requires.scope.0) c.requires.scope.1).holds.typed.within }

pub returns-clause-found : goal.returns-clause-found
returns-clause-found c = λ s scope.
    let x = assumption_view c.args.assumption.now in
    let ns = c.elaborate.new.terms in
    let made = c.in-Ok.made in
    let named = subst (λ (e : Expression). IsWellNamed (is_unknown_in (scope_of s) e) (has_clash e) (StandsAs (term_of (scope_of s) e) ns made)) (name_view c.args.assumption.now.name)
    (c.in-Ok.ensures.found (scope_of s) scope) in
    subst (λ (o : Option TermLit). IsFoundAs s x ns (record { literal = o; is_unknown = false; holds_integer = c.holds_integer.result })) (sym c.literal_of.ensures.literal)
    (found_term s x ns made (are_same_sort bool_sort (sort_of made.sort)) c.holds_integer.result named.known named.holds refl (c.holds_integer.ensures.holds ∙ ap holds_integer named.holds.typed.normal))
