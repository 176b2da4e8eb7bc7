-- The next term is one that was added, and of its kind.
use Rattle.std.proofs.Common.{rules, ◌≡◌, ◌<◌, None, Err, IfErr, length, subst}
use Rattle.std.specs.Prelude.{Contains}
use Rattle.std.proofs.lemmas.List.Elements.{All-contains}
use Rattle.nz_spec.specs.search.Decide.{asserted_numbers}
use Rattle.nz_spec.specs.terms.Taken.{IsTaken, IsTakenBoolean}
use Rattle.nz_spec.specs.terms.Table.{term_in}
use Rattle.nz_search.specs.Levels.{added_by_level, asserted_by_level, numbers_by_level}
use Rattle.nz_engine.specs.declared.levels.Kind.{Kind}
use Rattle.nz_engine.specs.declared.levels.Kind.TheVariants.{Asserted, Number}
use Rattle.nz_engine.specs.Checking.{IsRootStop}
use Rattle.nz_engine.specs.Preparing.{IsNext}
use Rattle.nz_engine.proofs.AssumptionLevels.{next_of, told_before}
use Rattle.nz_engine.proofs.CheckEnds.{root_of}
use Rattle.nz_engine.proofs.AssertionPlaces.{kind_added}
use Rattle.nz_engine.proofs.prepared.Prepared.add_terms.Goals as goal

pub add_assertion-requires-clause-within : goal.add_assertion-requires-clause-within
add_assertion-requires-clause-within c =
    let levels = c.args.levels.now in
    let t = c.in-Some.next.term in
    let kind = c.in-Some.kind in
    All-contains (λ i. i < length c.args.terms.now) (asserted_numbers (added_by_level levels)) t c.requires.within
    (kind_added kind levels t (next_of levels c.loop-kind.self kind t c.in-Some.next.level c.in-Some.ensures.next))

pub add_assertion-requires-clause-taken : goal.add_assertion-requires-clause-taken
add_assertion-requires-clause-taken c =
    let levels = c.args.levels.now in
    let t = c.in-Some.next.term in
    let n = c.in-Some.next.level in
    let next : IsNext levels c.loop-kind.self Asserted t n = subst (λ (kind : Kind). IsNext levels c.loop-kind.self kind t n) c.in-Asserted.is c.in-Some.ensures.next in
    All-contains (λ i. IsTakenBoolean (term_in c.args.terms.now i)) (asserted_numbers (asserted_by_level levels)) t c.requires.taken (next_of levels c.loop-kind.self Asserted t n next)

pub add_assertion-requires-clause-told : goal.add_assertion-requires-clause-told
add_assertion-requires-clause-told c =
    let levels = c.args.levels.now in
    told_before c.args.terms.now levels (added_by_level levels) c.loop-kind.self c.in-Some.kind c.in-Some.next.term c.in-Some.next.level c.loop-kind.invariant.prepared c.in-Some.ensures.next

pub returns-in_err-add_assertion-in-Asserted-clause-stop : goal.returns-in_err-add_assertion-in-Asserted-clause-stop
returns-in_err-add_assertion-in-Asserted-clause-stop c =
    let e = c.in_err-add_assertion-in-Asserted.field-0.0 in
    let same : Err e ≡ c.from_residual.result = search rules in
    let ns = c.args.terms.now in
    let levels = c.args.levels.now in
    let t = c.in-Some.next.term in
    let kind = c.in-Some.kind in
    let all = asserted_numbers (added_by_level levels) in
    let has : Contains all t = kind_added kind levels t (next_of levels c.loop-kind.self kind t c.in-Some.next.level c.in-Some.ensures.next) in
    subst (λ r. IfErr r (IsRootStop ns all)) same (root_of ns all t e has c.in_err-add_assertion-in-Asserted.ensures.stop)

pub add_number-requires-clause-within : goal.add_number-requires-clause-within
add_number-requires-clause-within c =
    let levels = c.args.levels.now in
    let t = c.in-Some.next.term in
    let kind = c.in-Some.kind in
    All-contains (λ i. i < length c.args.terms.now) (asserted_numbers (added_by_level levels)) t c.requires.within
    (kind_added kind levels t (next_of levels c.loop-kind.self kind t c.in-Some.next.level c.in-Some.ensures.next))

pub add_number-requires-clause-taken : goal.add_number-requires-clause-taken
add_number-requires-clause-taken c =
    let levels = c.args.levels.now in
    let t = c.in-Some.next.term in
    let n = c.in-Some.next.level in
    let next : IsNext levels c.loop-kind.self Number t n = subst (λ (kind : Kind). IsNext levels c.loop-kind.self kind t n) c.in-Number.is c.in-Some.ensures.next in
    All-contains (λ i. IsTaken (term_in c.args.terms.now i)) (asserted_numbers (numbers_by_level levels)) t c.requires.numbers_taken (next_of levels c.loop-kind.self Number t n next)

pub add_number-requires-clause-told : goal.add_number-requires-clause-told
add_number-requires-clause-told c =
    let levels = c.args.levels.now in
    told_before c.args.terms.now levels (added_by_level levels) c.loop-kind.self c.in-Some.kind c.in-Some.next.term c.in-Some.next.level c.loop-kind.invariant.prepared c.in-Some.ensures.next

pub returns-in_err-add_number-in-Number-clause-stop : goal.returns-in_err-add_number-in-Number-clause-stop
returns-in_err-add_number-in-Number-clause-stop c =
    let e = c.in_err-add_number-in-Number.field-0.0 in
    let same : Err e ≡ c.from_residual-in_err-add_number-in-Number.result = search rules in
    let ns = c.args.terms.now in
    let levels = c.args.levels.now in
    let t = c.in-Some.next.term in
    let kind = c.in-Some.kind in
    let all = asserted_numbers (added_by_level levels) in
    let has : Contains all t = kind_added kind levels t (next_of levels c.loop-kind.self kind t c.in-Some.next.level c.in-Some.ensures.next) in
    subst (λ r. IfErr r (IsRootStop ns all)) same (root_of ns all t e has c.in_err-add_number-in-Number.ensures.stop)

pub returns-clause-all : goal.returns-clause-all
returns-clause-all c =
    let levels = c.args.levels.now in
    let none : c.next_added.result ≡ None = search rules in
    c.next_added.ensures.none c.args.terms.now (added_by_level levels) c.loop-kind.invariant.prepared none
