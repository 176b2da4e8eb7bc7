use Rattle.std.proofs.Common.{◌≡◌, List, Some, IfOk, rules, sym, ap, ◌∙◌, subst}
use Rattle.nz_spec.specs.search.Decide.{asserted_terms}
use Rattle.nz_spec.specs.terms.FormOf.{number_in}
use Rattle.nz_spec.specs.clauses.Steps.{Derives, asserting}
use Rattle.nz_term.specs.declared.term_lits.TermLit.{TermLit}
use Rattle.nz_log.specs.Spelling.{steps_of}
use Rattle.nz_term.specs.TermLits.{clause_of_terms}
use Rattle.nz_search.specs.Levels.{asserted_by_level}
use Rattle.nz_engine.specs.declared.check.Retained.TheVariants as kept
use Rattle.nz_engine.specs.Engines.{EngineState, IsKept, IsReadied, clause_at, prepared_of, table_of}
use Rattle.nz_engine.proofs.RefutedAssumptions.{derived}
use Rattle.nz_engine.proofs.engine.EngineDecide.steps.Goals as goal

pub returns : goal.returns
returns c =
    let levels = c.self.inside.levels in
    let table = table_of c.self.inside.seen in
    let prepared = c.in-Prepared.prepared in
    let is : c.self.inside.kept ≡ kept.Prepared prepared = search rules in
    let ready : IsReadied table levels prepared = subst (IsKept table levels) is c.self.invariant in
    let all = derived c.derivations_grow.ensures.grow table (asserted_by_level levels) prepared.log c.args.id c.steps.result ready.table ready.standing.raised.order c.steps.ensures.derives in
    let own : EngineState = record { levels = levels; table = table; prepared = prepared } in
    let same : own ≡ c.args.self.now = ap (λ k. let e : EngineState = record { levels = levels; table = table; prepared = prepared_of k } in e) (sym is) ∙ c.self.view_is in
    record {
      derives = subst (λ (e : EngineState). IfOk c.steps.result (λ steps. (d : List TermLit) → clause_at e c.args.id ≡ Some d → Derives (number_in e.table) (asserting (asserted_terms e.table (asserted_by_level e.levels))) (steps_of e.table steps.items) (clause_of_terms e.table d))) same all;
    }
