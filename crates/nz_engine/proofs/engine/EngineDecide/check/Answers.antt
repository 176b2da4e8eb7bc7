use Rattle.std.proofs.Common.{rules, ◌≡◌, ◌⊎◌, List, [], map, Err, IfErr, sym, subst}
use Rattle.nz_spec.specs.search.Decide.{AreInTable, AreModelValues, IsFrontOfTable, asserted_numbers, asserted_terms}
use Rattle.nz_spec.specs.search.Search.{Task, terms_known}
use Rattle.nz_spec.specs.search.Legal.{IsSpentLegally}
use Rattle.nz_spec.specs.terms.Model.{IsUnsatisfiable}
use Rattle.nz_spec.specs.search.Places.{IsStoppedLegally}
use Rattle.nz_spec.specs.terms.Table.{Node, term_in}
use Rattle.nz_spec.specs.terms.Taken.{IsTaken, IsTakenBoolean}
use Rattle.std.specs.Prelude.{All}
use Rattle.nz_search.specs.declared.stop.Stop.{Stop}
use Rattle.nz_search.specs.Notes.{noted_list}
use Rattle.nz_place.specs.Places.{place_of}
use Rattle.nz_search.specs.Places.{OnWide}
use Rattle.nz_term.specs.TermLits.{literal_of}
use Rattle.nz_search.specs.Levels.{added_by_level, asserted_by_level, numbers_by_level}
use Rattle.nz_search.specs.Standing.{search_after}
use Rattle.nz_search.specs.Verdicts.{IfSat, OnSpent, OnUnsat}
use Rattle.nz_search.specs.Asked.{MayCheck, NamesParts}
use Rattle.nz_reals.specs.Starts.{MayRestart}
use Rattle.nz_reals.specs.State.{empty_theory}
use Rattle.nz_engine.specs.Engines.{EngineState, IsAtRest, IsKept, table_of}
use Rattle.nz_engine.proofs.KeptState.{empty_rest}
use Rattle.nz_engine.specs.Lists.{MayGoOnFrom, StandsAt, on_way}
use Rattle.nz_engine.proofs.RefutedAssumptions.{assumed_of, negations_told, sat_of, unsat_of}
use Rattle.nz_engine.proofs.KeptTheory.{begins_after, on_spent_fewer, spent_each, stop_each, stop_legal_all}
use Rattle.nz_engine.proofs.GoneFrom.{goes_from, stands_from}
use Rattle.nz_engine.proofs.engine.EngineDecide.check.Goals as goal

pub returns-clause-unsat : goal.returns-clause-unsat
returns-clause-unsat c =
    let ns = c.args.terms.now in
    let found = c.in_ok-verdict.field-0 in
    subst (λ (e : EngineState). OnUnsat found.verdict (IsUnsatisfiable (asserted_terms ns (asserted_by_level e.levels)) (map (literal_of ns) c.args.assumed.now))) c.self.view_is
    (unsat_of ns c.self.inside.levels c.args.assumed.now found.prepared.log found.verdict c.in_ok-verdict.ensures.answer)

pub returns-clause-sat : goal.returns-clause-sat
returns-clause-sat c =
    let ns = c.args.terms.now in
    let found = c.in_ok-verdict.field-0 in
    subst (λ (e : EngineState). IfSat found.verdict (AreModelValues ns (asserted_terms ns (asserted_by_level e.levels)) [])) c.self.view_is
    (sat_of ns c.self.inside.levels c.args.assumed.now found.prepared.log found.verdict c.in_ok-verdict.ensures.answer)

pub returns-clause-sat_assumed : goal.returns-clause-sat_assumed
returns-clause-sat_assumed c =
    let found = c.in_ok-verdict.field-0 in
    assumed_of c.args.terms.now c.self.inside.levels c.args.assumed.now found.prepared.log found.verdict c.in_ok-verdict.ensures.answer

pub returns-clause-derived : goal.returns-clause-derived
returns-clause-derived c =
    let found = c.in_ok-verdict.field-0 in
    negations_told c.args.terms.now c.self.inside.levels c.args.assumed.now found.prepared.log found.verdict c.in_ok-verdict.ensures.answer

pub returns-clause-parts : goal.returns-clause-parts
returns-clause-parts c =
    let ns = c.args.terms.now in
    subst (λ (e : EngineState). NamesParts ns e.levels (search_after ns c.decide.new.work)) c.self.view_is c.in_ok-verdict.ensures.parts

pub decide-requires-clause-known : goal.decide-requires-clause-known
decide-requires-clause-known c = subst (λ (e : EngineState). AreInTable c.args.terms.now (added_by_level e.levels)) (sym c.self.view_is) c.requires.known

pub decide-requires-clause-taken : goal.decide-requires-clause-taken
decide-requires-clause-taken c = subst (λ (e : EngineState). All (λ i. IsTakenBoolean (term_in c.args.terms.now i)) (asserted_numbers (asserted_by_level e.levels))) (sym c.self.view_is) c.requires.taken

pub decide-requires-clause-numbers_taken : goal.decide-requires-clause-numbers_taken
decide-requires-clause-numbers_taken c =
    subst (λ (e : EngineState). All (λ i. IsTaken (term_in c.args.terms.now i)) (asserted_numbers (numbers_by_level e.levels))) (sym c.self.view_is) c.requires.numbers_taken

-- From where the list leads the check may be made, with what was taken out.
pub decide-requires-clause-from : goal.decide-requires-clause-from
decide-requires-clause-from c =
    let ns = c.args.terms.now in
    let from = subst (λ (x : EngineState). (c.args.work.now.lines ≡ []) ⊎ ((q : Task) × MayCheck ns x.levels c.args.assumed.now q c.args.work.now × StandsAt x ns q c.args.work.now)) (sym c.self.view_is) c.requires.from in
    goes_from c.theories_restart.ensures.restart (table_of c.self.inside.seen) ns c.self.inside.levels c.args.assumed.now c.self.inside.kept c.take_kept-kept.result c.checks_may_start.ensures.start c.args.work.now
    (subst (λ (x : EngineState). IsFrontOfTable x.table ns) (sym c.self.view_is) c.requires.grown) c.self.invariant c.take_kept-kept.ensures.taken from

pub returns-in_err-verdict-clause-legal : goal.returns-in_err-verdict-clause-legal
returns-in_err-verdict-clause-legal c = λ q asked stands.
    let ns = c.args.terms.now in
    let assumed = c.args.assumed.now in
    let before = c.args.work.now in
    let May : Task → Type 0 = λ q. MayCheck ns c.args.self.now.levels assumed q before × StandsAt c.args.self.now ns q before in
    let at : (q : Task) → May q → MayGoOnFrom ns c.self.inside.levels assumed q before c.take_kept-kept.result = λ q may.
    let here = subst (λ (x : EngineState). MayCheck ns x.levels assumed q before × StandsAt x ns q before) (sym c.self.view_is) may in
    stands_from c.theories_restart.ensures.restart (table_of c.self.inside.seen) ns c.self.inside.levels assumed c.self.inside.kept c.take_kept-kept.result q before
    (subst (λ (x : EngineState). IsFrontOfTable x.table ns) (sym c.self.view_is) c.requires.grown) c.self.invariant c.take_kept-kept.ensures.taken here.0 here.1 in
    c.decide.ensures.legal q (at q (asked, stands))

pub returns-clause-legal : goal.returns-clause-legal
returns-clause-legal c = λ q asked stands.
    let ns = c.args.terms.now in
    let assumed = c.args.assumed.now in
    let before = c.args.work.now in
    let May : Task → Type 0 = λ q. MayCheck ns c.args.self.now.levels assumed q before × StandsAt c.args.self.now ns q before in
    let at : (q : Task) → May q → MayGoOnFrom ns c.self.inside.levels assumed q before c.take_kept-kept.result = λ q may.
    let here = subst (λ (x : EngineState). MayCheck ns x.levels assumed q before × StandsAt x ns q before) (sym c.self.view_is) may in
    stands_from c.theories_restart.ensures.restart (table_of c.self.inside.seen) ns c.self.inside.levels assumed c.self.inside.kept c.take_kept-kept.result q before
    (subst (λ (x : EngineState). IsFrontOfTable x.table ns) (sym c.self.view_is) c.requires.grown) c.self.invariant c.take_kept-kept.ensures.taken here.0 here.1 in
    c.decide.ensures.legal q (at q (asked, stands))

pub returns-in_err-verdict-clause-stopped : goal.returns-in_err-verdict-clause-stopped
returns-in_err-verdict-clause-stopped c =
    let e = c.in_err-verdict.field-0.0 in
    let same : Err e ≡ c.from_residual.result = search rules in
    let ns = c.args.terms.now in
    let assumed = c.args.assumed.now in
    let before = c.args.work.now in
    let May : Task → Type 0 = λ q. MayCheck ns c.args.self.now.levels assumed q before × StandsAt c.args.self.now ns q before in
    let at : (q : Task) → May q → MayGoOnFrom ns c.self.inside.levels assumed q before c.take_kept-kept.result = λ q may.
    let here = subst (λ (x : EngineState). MayCheck ns x.levels assumed q before × StandsAt x ns q before) (sym c.self.view_is) may in
    stands_from c.theories_restart.ensures.restart (table_of c.self.inside.seen) ns c.self.inside.levels assumed c.self.inside.kept c.take_kept-kept.result q before
    (subst (λ (x : EngineState). IsFrontOfTable x.table ns) (sym c.self.view_is) c.requires.grown) c.self.invariant c.take_kept-kept.ensures.taken here.0 here.1 in
    let work = c.decide.new.work in
    subst (λ r. IfErr r (λ (s : Stop). OnWide s (λ p. (q : Task) → MayCheck ns c.args.self.now.levels assumed q before → StandsAt c.args.self.now ns q before → IsStoppedLegally q (noted_list ns work) (place_of ns p)))) same
    (stop_each ns work (λ q. MayCheck ns c.args.self.now.levels assumed q before) (λ q. StandsAt c.args.self.now ns q before) e
    (stop_legal_all ns work (λ q. MayGoOnFrom ns c.self.inside.levels assumed q before c.take_kept-kept.result) May at e c.in_err-verdict.ensures.stopped))

pub returns-in_err-verdict-clause-spent : goal.returns-in_err-verdict-clause-spent
returns-in_err-verdict-clause-spent c =
    let e = c.in_err-verdict.field-0.0 in
    let same : Err e ≡ c.from_residual.result = search rules in
    let ns = c.args.terms.now in
    let assumed = c.args.assumed.now in
    let before = c.args.work.now in
    let May : Task → Type 0 = λ q. MayCheck ns c.args.self.now.levels assumed q before × StandsAt c.args.self.now ns q before in
    let at : (q : Task) → May q → MayGoOnFrom ns c.self.inside.levels assumed q before c.take_kept-kept.result = λ q may.
    let here = subst (λ (x : EngineState). MayCheck ns x.levels assumed q before × StandsAt x ns q before) (sym c.self.view_is) may in
    stands_from c.theories_restart.ensures.restart (table_of c.self.inside.seen) ns c.self.inside.levels assumed c.self.inside.kept c.take_kept-kept.result q before
    (subst (λ (x : EngineState). IsFrontOfTable x.table ns) (sym c.self.view_is) c.requires.grown) c.self.invariant c.take_kept-kept.ensures.taken here.0 here.1 in
    let work = c.decide.new.work in
    subst (λ r. IfErr r (λ (s : Stop). OnSpent s ((q : Task) → MayCheck ns c.args.self.now.levels assumed q before → StandsAt c.args.self.now ns q before → IsSpentLegally q (noted_list ns work)))) same
    (spent_each (λ q. MayCheck ns c.args.self.now.levels assumed q before) (λ q. StandsAt c.args.self.now ns q before) (λ q. IsSpentLegally q (noted_list ns work)) e
    (on_spent_fewer (λ q. MayGoOnFrom ns c.self.inside.levels assumed q before c.take_kept-kept.result) May (λ q. IsSpentLegally q (noted_list ns work)) at e c.in_err-verdict.ensures.spent))

pub returns-clause-stands : goal.returns-clause-stands
returns-clause-stands c = λ q asked stands.
    let ns = c.args.terms.now in
    let assumed = c.args.assumed.now in
    let before = c.args.work.now in
    let May : Task → Type 0 = λ q. MayCheck ns c.args.self.now.levels assumed q before × StandsAt c.args.self.now ns q before in
    let at : (q : Task) → May q → MayGoOnFrom ns c.self.inside.levels assumed q before c.take_kept-kept.result = λ q may.
    let here = subst (λ (x : EngineState). MayCheck ns x.levels assumed q before × StandsAt x ns q before) (sym c.self.view_is) may in
    stands_from c.theories_restart.ensures.restart (table_of c.self.inside.seen) ns c.self.inside.levels assumed c.self.inside.kept c.take_kept-kept.result q before
    (subst (λ (x : EngineState). IsFrontOfTable x.table ns) (sym c.self.view_is) c.requires.grown) c.self.invariant c.take_kept-kept.ensures.taken here.0 here.1 in
    let found = c.in_ok-verdict.field-0 in
    let u = c.in_ok-verdict.ensures.under_way q (at q (asked, stands)) in
    on_way c.of.ensures u.0 u.1

pub returns-clause-begins : goal.returns-clause-begins
returns-clause-begins c = λ q us asked stands without into.
    let ns = c.args.terms.now in
    let assumed = c.args.assumed.now in
    let before = c.args.work.now in
    let May : Task → Type 0 = λ q. MayCheck ns c.args.self.now.levels assumed q before × StandsAt c.args.self.now ns q before in
    let at : (q : Task) → May q → MayGoOnFrom ns c.self.inside.levels assumed q before c.take_kept-kept.result = λ q may.
    let here = subst (λ (x : EngineState). MayCheck ns x.levels assumed q before × StandsAt x ns q before) (sym c.self.view_is) may in
    stands_from c.theories_restart.ensures.restart (table_of c.self.inside.seen) ns c.self.inside.levels assumed c.self.inside.kept c.take_kept-kept.result q before
    (subst (λ (x : EngineState). IsFrontOfTable x.table ns) (sym c.self.view_is) c.requires.grown) c.self.invariant c.take_kept-kept.ensures.taken here.0 here.1 in
    let theory = c.in_ok-verdict.field-0.prepared.sat.theory in
    let u = c.in_ok-verdict.ensures.under_way q (at q (asked, stands)) in
    subst (λ (xs : List Node). MayRestart theory xs us) (sym c.of.ensures)
    (c.theories_restart.ensures.restart.more theory ns (terms_known q) us into (begins_after c.theories_restart.ensures.restart ns c.self.inside.levels q c.decide.new.work c.in_ok-verdict.field-0.prepared u.1))

-- An engine without an answer keeps nothing.
pub invariant_of-self : goal.invariant_of-self
invariant_of-self c =
    let ns = c.args.terms.now in
    subst (IsKept c.of.result.value c.self.inside.levels) (sym c.take_kept-kept.ensures.left)
    (subst (λ (xs : List Node). IsAtRest xs empty_theory) (sym c.of.ensures) (empty_rest c.theories_restart.ensures.restart ns c.known_table.ensures.table))
