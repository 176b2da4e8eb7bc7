-- All is done that comes before a search, and then it runs.
use Rattle.std.proofs.Common.{rules, ◌≡◌, List, map, Err, IfErr, sym, ap, subst, ◌∙◌}
use Rattle.nz_lists.proofs.Results.{on_ok}
use Rattle.nz_spec.specs.search.Search.{Task}
use Rattle.nz_search.specs.declared.stop.Stop.{Stop}
use Rattle.nz_search.specs.Standing.{search_after}
use Rattle.nz_search.specs.Verdicts.{OnSpent}
use Rattle.nz_term.specs.TermLits.{literal_of}
use Rattle.nz_search.specs.Levels.{Level}
use Rattle.nz_engine.specs.Checking.{EndsWith, MaySearch}
use Rattle.nz_engine.specs.Keeping.{KeepsClauses}
use Rattle.nz_engine.specs.Preparing.{PreparedState}
use Rattle.nz_engine.proofs.CheckEnds.{none_spent, works_solved}
use Rattle.nz_engine.proofs.KeptClauses.{keeps_both, keeps_joined}
use Rattle.nz_engine.proofs.SearchRuns.{begun_as, search_begun, search_consistent, search_excluded, search_found, search_named, search_parts, search_plain, search_posed, search_refuted, search_since, search_stopped, search_told, search_told_terms, search_under, search_under_way}
use Rattle.nz_engine.proofs.prepared.Prepared.solve.Goals as goal

pub returns-in_err-literals-clause-stopped : goal.returns-in_err-literals-clause-stopped
returns-in_err-literals-clause-stopped c =
    let same : Err c.in_err-literals.field-0.0 ≡ c.from_residual.result = search rules in
    let ns = c.args.terms.now in
    let assumed = c.args.assumed.now in
    subst (λ r. IfErr r (λ (e : Stop). (levels : List Level) (q : Task) → MaySearch ns levels assumed q c.args.work.now c.args.self.now → EndsWith ns q c.begin.new.work e)) same
    c.in_err-literals.ensures.stopped

pub returns-in_err-literals-clause-under : goal.returns-in_err-literals-clause-under
returns-in_err-literals-clause-under c =
    let e = c.in_err-literals.field-0.0 in
    let same : Err e ≡ c.from_residual.result = search rules in
    let ns = c.args.terms.now in
    let Is : Type 0 = (search_after ns c.begin.new.work).under ≡ map (literal_of ns) c.args.assumed.now in
    subst (λ r. IfErr r (λ (s : Stop). OnSpent s Is)) same (none_spent e Is c.in_err-literals.ensures.unspent)

pub solve-requires-clause-since : goal.solve-requires-clause-since
solve-requires-clause-since c = search_since (begun_as c.self.view_is (c.deref.ensures.value ∙ ap (λ (s : PreparedState). s.noted) c.self.view_is) c.deref-2.ensures.value c.in_ok-literals.ensures.begun.1)

pub solve-requires-clause-named : goal.solve-requires-clause-named
solve-requires-clause-named c = search_named (begun_as c.self.view_is (c.deref.ensures.value ∙ ap (λ (s : PreparedState). s.noted) c.self.view_is) c.deref-2.ensures.value c.in_ok-literals.ensures.begun.1)

pub solve-requires-clause-told_terms : goal.solve-requires-clause-told_terms
solve-requires-clause-told_terms c = search_told_terms (begun_as c.self.view_is (c.deref.ensures.value ∙ ap (λ (s : PreparedState). s.noted) c.self.view_is) c.deref-2.ensures.value c.in_ok-literals.ensures.begun.1)

pub solve-requires-clause-consistent : goal.solve-requires-clause-consistent
solve-requires-clause-consistent c = search_consistent (begun_as c.self.view_is (c.deref.ensures.value ∙ ap (λ (s : PreparedState). s.noted) c.self.view_is) c.deref-2.ensures.value c.in_ok-literals.ensures.begun.1) c.requires.consistent

pub solve-requires-clause-begun : goal.solve-requires-clause-begun
solve-requires-clause-begun c = search_begun (begun_as c.self.view_is (c.deref.ensures.value ∙ ap (λ (s : PreparedState). s.noted) c.self.view_is) c.deref-2.ensures.value c.in_ok-literals.ensures.begun.1)

pub returns-clause-posed : goal.returns-clause-posed
returns-clause-posed c =
    let b = begun_as c.self.view_is (c.deref.ensures.value ∙ ap (λ (s : PreparedState). s.noted) c.self.view_is) c.deref-2.ensures.value c.in_ok-literals.ensures.begun.1 in
    let did = c.solve.ensures in
    search_posed b c.solve.new.log c.solve.new.self c.solve.new.work c.solve.result did.grows did.held did.seen did.named did.sound did.over

pub returns-clause-found : goal.returns-clause-found
returns-clause-found c =
    let b = begun_as c.self.view_is (c.deref.ensures.value ∙ ap (λ (s : PreparedState). s.noted) c.self.view_is) c.deref-2.ensures.value c.in_ok-literals.ensures.begun.1 in
    let did = c.solve.ensures in
    let ns = c.args.terms.now in
    search_found b c.solve.new.log c.solve.new.self c.solve.new.work c.solve.result did.grows (λ levels q. did.ends ns levels q) c.requires.may.0 c.requires.may.1 c.requires.may.2
    (did.of c.self.inside.log.atoms c.deref.result.now b.of) did.satisfied did.feasible

pub returns-clause-refuted : goal.returns-clause-refuted
returns-clause-refuted c =
    let b = begun_as c.self.view_is (c.deref.ensures.value ∙ ap (λ (s : PreparedState). s.noted) c.self.view_is) c.deref-2.ensures.value c.in_ok-literals.ensures.begun.1 in
    search_refuted b c.solve.new.log c.solve.new.self c.solve.new.work c.solve.result c.solve.ensures.grows c.solve.ensures.refuted

pub returns-clause-under_way : goal.returns-clause-under_way
returns-clause-under_way c =
    let b = begun_as c.self.view_is (c.deref.ensures.value ∙ ap (λ (s : PreparedState). s.noted) c.self.view_is) c.deref-2.ensures.value c.in_ok-literals.ensures.begun.1 in
    let did = c.solve.ensures in
    let ns = c.args.terms.now in
    search_under_way b c.solve.new.log c.solve.new.self c.solve.new.work c.solve.result did.grows (λ levels q. did.ends ns levels q) did.held did.named did.learned did.of did.notes did.stays
    (works_solved ns c.args.work.now c.begin.new.work c.solve.new.work c.begin.ensures.works (did.table ns) did.limit did.within)

pub returns-clause-stopped : goal.returns-clause-stopped
returns-clause-stopped c =
    let b = begun_as c.self.view_is (c.deref.ensures.value ∙ ap (λ (s : PreparedState). s.noted) c.self.view_is) c.deref-2.ensures.value c.in_ok-literals.ensures.begun.1 in
    let ns = c.args.terms.now in
    search_stopped b c.solve.new.log c.solve.new.self c.solve.new.work c.solve.result c.solve.ensures.grows (λ levels q. c.solve.ensures.ends ns levels q)

pub returns-clause-plain : goal.returns-clause-plain
returns-clause-plain c =
    let b = begun_as c.self.view_is (c.deref.ensures.value ∙ ap (λ (s : PreparedState). s.noted) c.self.view_is) c.deref-2.ensures.value c.in_ok-literals.ensures.begun.1 in
    search_plain b c.solve.new.log c.solve.new.self c.solve.new.work c.solve.result c.solve.ensures.grows c.solve.ensures.stays

pub returns-clause-under : goal.returns-clause-under
returns-clause-under c =
    let b = begun_as c.self.view_is (c.deref.ensures.value ∙ ap (λ (s : PreparedState). s.noted) c.self.view_is) c.deref-2.ensures.value c.in_ok-literals.ensures.begun.1 in
    search_under b c.solve.new.log c.solve.new.self c.solve.new.work c.solve.result c.solve.ensures.grows c.solve.ensures.stays

pub returns-clause-parts : goal.returns-clause-parts
returns-clause-parts c =
    let b = begun_as c.self.view_is (c.deref.ensures.value ∙ ap (λ (s : PreparedState). s.noted) c.self.view_is) c.deref-2.ensures.value c.in_ok-literals.ensures.begun.1 in
    search_parts b c.solve.new.log c.solve.new.self c.solve.new.work c.solve.result c.solve.ensures.grows c.solve.ensures.stays

pub returns-clause-told : goal.returns-clause-told
returns-clause-told c =
    let b = begun_as c.self.view_is (c.deref.ensures.value ∙ ap (λ (s : PreparedState). s.noted) c.self.view_is) c.deref-2.ensures.value c.in_ok-literals.ensures.begun.1 in
    search_told b c.solve.new.log c.solve.new.self c.solve.new.work c.solve.result c.solve.ensures.grows c.solve.ensures.stays c.solve.ensures.told

pub returns-clause-works : goal.returns-clause-works
returns-clause-works c =
    works_solved c.args.terms.now c.args.work.now c.begin.new.work c.solve.new.work c.begin.ensures.works (c.solve.ensures.table c.args.terms.now) c.solve.ensures.limit c.solve.ensures.within

pub returns-clause-excluded : goal.returns-clause-excluded
returns-clause-excluded c =
    let b = begun_as c.self.view_is (c.deref.ensures.value ∙ ap (λ (s : PreparedState). s.noted) c.self.view_is) c.deref-2.ensures.value c.in_ok-literals.ensures.begun.1 in
    search_excluded b c.solve.new.log c.solve.new.self c.solve.new.work c.solve.result c.solve.ensures.grows c.solve.ensures.held

pub returns-clause-keeps : goal.returns-clause-keeps
returns-clause-keeps c =
    let begun = subst (KeepsClauses c.args.self.now) (sym c.self.view_is) c.in_ok-literals.ensures.keeps in
    let did = c.solve.ensures in
    on_ok c.solve.result (keeps_both begun (keeps_joined (record { clauses = did.grows.kept; atoms = did.grows.atoms }) did.held.learned did.held.joined))
