-- What is asked is posed for the first check of a list, or a later one.
use Rattle.std.proofs.Common.{rules, ◌≡◌, List, []}
use Rattle.std.proofs.lemmas.Result.{IfOk-weaker}
use Rattle.nz_spec.specs.terms.Term.{Term}
use Rattle.nz_search.specs.Asked.{AreListedIn}
use Rattle.nz_engine.specs.Checking.{AreCoveredAmong, IsPosed}
use Rattle.nz_engine.specs.Engines.{prepared_of, theory_of}
use Rattle.nz_engine.specs.Keeping.{KeepsClauses, KeepsLowered, Retains}
use Rattle.nz_engine.specs.Preparing.{Extends}
use Rattle.nz_engine.proofs.KeptTheory.{may_anew, may_on, ok_three}
use Rattle.nz_engine.proofs.check.posed.Goals as goal

pub returns-then-is_empty-clause-may : goal.returns-then-is_empty-clause-may
returns-then-is_empty-clause-may c =
    let ns = c.args.terms.now in
    let levels = c.args.levels.now in
    let assumed = c.args.assumed.now in
    let none : c.args.work.now.lines ≡ [] = search rules in
    let did = c.posed_anew.ensures in
    ok_three c.posed_anew.result (IsPosed ns levels assumed) (λ p. (ts : List Term) → AreListedIn ns levels assumed ts → AreCoveredAmong ns p ts) (λ p. p.sat.theory ≡ theory_of c.args.kept) _
    (λ p posed among theory q may. may_anew none posed among theory may) did.posed did.among did.theory

pub returns-else-is_empty-clause-may : goal.returns-else-is_empty-clause-may
returns-else-is_empty-clause-may c =
    let ns = c.args.terms.now in
    let levels = c.args.levels.now in
    let assumed = c.args.assumed.now in
    let some : c.args.work.now.lines ≡ [] → ⊥ = λ none. search (rules, none) in
    let did = c.posed_on.ensures in
    ok_three c.posed_on.result (IsPosed ns levels assumed) (λ p. (ts : List Term) → AreListedIn ns levels assumed ts → AreCoveredAmong ns (prepared_of c.args.kept) ts → AreCoveredAmong ns p ts)
    (Extends (prepared_of c.args.kept)) _ (λ p posed among x q may. may_on some posed among x may) did.posed did.among did.extends

pub returns-then-is_empty-clause-keeps : goal.returns-then-is_empty-clause-keeps
returns-then-is_empty-clause-keeps c =
    let levels = c.args.levels.now in
    let none : c.args.work.now.lines ≡ [] = search rules in
    IfOk-weaker c.posed_anew.result (KeepsLowered levels c.args.kept) (Retains levels c.args.work.now c.args.kept) (λ p keeps. record { anew = λ is. keeps; on = λ some. absurd (some none) }) c.posed_anew.ensures.keeps

pub returns-else-is_empty-clause-keeps : goal.returns-else-is_empty-clause-keeps
returns-else-is_empty-clause-keeps c =
    let levels = c.args.levels.now in
    let some : c.args.work.now.lines ≡ [] → ⊥ = λ none. search (rules, none) in
    IfOk-weaker c.posed_on.result (KeepsClauses (prepared_of c.args.kept)) (Retains levels c.args.work.now c.args.kept) (λ p keeps. record { anew = λ none. absurd (some none); on = λ is. keeps }) c.posed_on.ensures.keeps
