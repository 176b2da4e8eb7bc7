use Rattle.std.proofs.Common.{◌≡◌, inl, ℕ, ◌<◌, List, [], length, map, ap, ◌∙◌, sym, subst, All, IfOk}
use Rattle.std.specs.Prelude.{Contains}
use Rattle.std.proofs.lemmas.List.Elements.{All-nil, All-weaker, recursion_from_All}
use Rattle.nz_spec.specs.search.Decide.{AreInTable, AreModelValues, asserted_numbers, asserted_terms}
use Rattle.nz_spec.specs.search.Search.{Task, terms_known}
use Rattle.nz_spec.specs.terms.Model.{IsUnsatisfiable}
use Rattle.nz_spec.specs.terms.Table.{term_in}
use Rattle.nz_spec.specs.terms.Term.{Term}
use Rattle.nz_spec.specs.terms.Taken.{IsTaken, IsTakenBoolean}
use Rattle.nz_spec.specs.search.Work.{WorkList}
use Rattle.nz_search.specs.declared.note.Note.{Note}
use Rattle.nz_term.specs.declared.term_lits.TermLit.{TermLit}
use Rattle.nz_term.specs.TermLits.{literal_of}
use Rattle.nz_spec.specs.search.Legal.{IsSpentLegally}
use Rattle.nz_spec.specs.search.Places.{IsStoppedLegally}
use Rattle.nz_place.specs.Places.{place_of}
use Rattle.nz_search.specs.Asked.{MayCheck}
use Rattle.nz_search.specs.Levels.{Level, added_by_level, asserted_by_level, numbers_by_level}
use Rattle.nz_search.specs.Notes.{noted_list}
use Rattle.nz_search.specs.Verdicts.{IfSat, OnUnsat, task_in}
use Rattle.nz_sort.specs.Live.{Standing, asserted_by}
use Rattle.nz_session.specs.Assumed.{IsTakenAt}
use Rattle.nz_session.specs.Told.{IsTold, only_asserted}
use Rattle.nz_session.proofs.RightAnswers.{begins_more, begins_searched}
use Rattle.nz_session.proofs.LegalWork.{may_start, no_goals, started_spent, started_stopped, undecided_in_levels}
use Rattle.nz_session.proofs.ToldLevels.{added_only, asserted_only, no_numbers}
use Rattle.nz_session.proofs.desk.checks.decide.Goals as goal

-- what is asserted of what the engine was told
told_asserted : (l : Standing) {levels : List Level} → levels ≡ map only_asserted (asserted_by l) → asserted_by_level levels ≡ asserted_by l
told_asserted l e = ap asserted_by_level e ∙ asserted_only (asserted_by l)

pub check-requires-clause-known : goal.check-requires-clause-known
check-requires-clause-known g c =
    let ns = c.args.terms.now in
    subst (AreInTable ns) (sym (ap added_by_level c.in_ok-tell.ensures.all ∙ added_only (asserted_by c.args.live.now))) (All-weaker (IsTakenAt ns) (λ i. i < length ns) (λ i h. h.0) (asserted_numbers (asserted_by c.args.live.now)) c.requires.taken)

pub check-requires-clause-within : goal.check-requires-clause-within
check-requires-clause-within g c =
    let ns = c.args.terms.now in
    let within : TermLit → Type 0 = λ l. l.term < length ns in
    recursion_from_All within c.args.assumed.now (All-weaker (λ (l : TermLit). IsTakenAt ns l.term) within (λ l h. h.0) c.args.assumed.now c.requires.assumed_taken)

pub check-requires-clause-taken : goal.check-requires-clause-taken
check-requires-clause-taken g c =
    let ns = c.args.terms.now in
    let taken : ℕ → Type 0 = λ i. IsTakenBoolean (term_in ns i) in
    subst (λ (ls : List (List ℕ)). All taken (asserted_numbers ls)) (sym (told_asserted c.args.live.now c.in_ok-tell.ensures.all))
    (All-weaker (IsTakenAt ns) taken (λ i h. h.1) (asserted_numbers (asserted_by c.args.live.now)) c.requires.taken)

pub check-requires-clause-numbers_taken : goal.check-requires-clause-numbers_taken
check-requires-clause-numbers_taken g c =
    let taken : ℕ → Type 0 = λ i. IsTaken (term_in c.args.terms.now i) in
    subst (All taken) (sym (ap (λ ls. asserted_numbers (numbers_by_level ls)) c.in_ok-tell.ensures.all ∙ no_numbers (asserted_by c.args.live.now))) (All-nil taken)

pub check-requires-clause-assumed_taken : goal.check-requires-clause-assumed_taken
check-requires-clause-assumed_taken g c =
    let ns = c.args.terms.now in
    All-weaker (λ (l : TermLit). IsTakenAt ns l.term) (λ (l : TermLit). IsTakenBoolean (term_in ns l.term)) (λ l h. h.1) c.args.assumed.now c.requires.assumed_taken

pub returns-clause-told : goal.returns-clause-told
returns-clause-told g c = subst (λ (ls : List Level). IsTold ls c.tell.new.told (asserted_by c.args.live.now)) (sym c.check.ensures.levels) c.tell.ensures.told

pub returns-clause-sat : goal.returns-clause-sat
returns-clause-sat g c =
    let ns = c.args.terms.now in
    subst (λ (ls : List (List ℕ)). IfOk c.check.result (λ v. IfSat v (AreModelValues ns (asserted_terms ns ls) []))) (told_asserted c.args.live.now c.in_ok-tell.ensures.all) c.check.ensures.sat

pub returns-clause-unsat : goal.returns-clause-unsat
returns-clause-unsat g c =
    let ns = c.args.terms.now in
    subst (λ (ls : List (List ℕ)). IfOk c.check.result (λ v. OnUnsat v (IsUnsatisfiable (asserted_terms ns ls) (map (literal_of ns) c.args.assumed.now)))) (told_asserted c.args.live.now c.in_ok-tell.ensures.all) c.check.ensures.unsat

-- The list has no lines.
pub check-requires-clause-from : goal.check-requires-clause-from
check-requires-clause-from g c = inl (ap (λ (w : WorkList Note). w.lines) c.in_ok-reserve.ensures.ok)

pub returns-clause-undecided : goal.returns-clause-undecided
returns-clause-undecided g c ts begun =
    let ns = c.args.terms.now in
    let e = c.tell.new.engine in
    let levels = g.E.Decide.levels e in
    let before = c.reserve.new.self in
    let none = ap (λ (w : WorkList Note). w.lines) c.in_ok-reserve.ensures.ok in
    let May : Task → Type 0 = λ q. MayCheck ns levels c.args.assumed.now q before in
    let Stands : Task → Type 0 = λ q. g.E.Decide.stands e ns q before in
    let at : (us : List Term) → g.E.Decide.begins e us → May (task_in ns levels c.args.assumed.now us) × Stands (task_in ns levels c.args.assumed.now us) = λ us may.
    may_start c.checks_may_start.ensures.start ns levels c.args.assumed.now us before none (g.E.Decide.begins e) Stands (λ q. g.E.Decide.starts e ns q before) may in
    undecided_in_levels ns levels (asserted_by c.args.live.now) c.args.assumed.now ts (g.E.Decide.begins e) c.args.limit c.check.new.work
    c.check.result c.in_ok-tell.ensures.all (c.tell.ensures.begins ts begun) (c.check.ensures.limit ∙ ap (λ (w : WorkList Note). w.limit) c.in_ok-reserve.ensures.ok)
    c.check.ensures.named (started_spent c.check.result May Stands (task_in ns levels c.args.assumed.now) (g.E.Decide.begins e) (λ q. IsSpentLegally q (noted_list ns c.check.new.work)) at c.check.ensures.spent)
    (started_stopped c.check.result May Stands (task_in ns levels c.args.assumed.now) (g.E.Decide.begins e) (λ q p. IsStoppedLegally q (noted_list ns c.check.new.work) (place_of ns p)) at c.check.ensures.stopped)
    c.check.ensures.place_within

pub returns-in_err-tell-clause-begins : goal.returns-in_err-tell-clause-begins
returns-in_err-tell-clause-begins g c ts h = begins_more g.E.Decide.begins c.args.engine.now c.tell.new.engine ts _ c.tell.ensures.begins h

pub returns-in_err-reserve-clause-begins : goal.returns-in_err-reserve-clause-begins
returns-in_err-reserve-clause-begins g c ts h = begins_more g.E.Decide.begins c.args.engine.now c.tell.new.engine ts _ c.tell.ensures.begins h

pub returns-clause-begins : goal.returns-clause-begins
returns-clause-begins g c ts h =
    let ns = c.args.terms.now in
    let assumed = c.args.assumed.now in
    let e = c.tell.new.engine in
    let levels = g.E.Decide.levels e in
    let before = c.reserve.new.self in
    let none = ap (λ (w : WorkList Note). w.lines) c.in_ok-reserve.ensures.ok in
    let task : List Level → List Term → Task = λ ls. task_in ns ls assumed in
    let after : (ts us : List Term) → g.E.Decide.begins e ts → ((t : Term) → Contains (terms_known (task levels ts)) t → Contains us t) → g.E.Decide.begins c.check.new.self us = λ ts us begun into.
    let at = may_start c.checks_may_start.ensures.start ns levels assumed ts before none (g.E.Decide.begins e) (λ q. g.E.Decide.stands e ns q before) (λ q. g.E.Decide.starts e ns q before) begun in
    c.check.ensures.begins (task levels ts) us at.0 at.1 (no_goals ns levels assumed ts) into in
    let searched = subst (λ (ls : List Level). (ts us : List Term) → g.E.Decide.begins e ts → ((t : Term) → Contains (terms_known (task ls ts)) t → Contains us t)
    → g.E.Decide.begins c.check.new.self us) c.in_ok-tell.ensures.all after in
    begins_searched g.E.Decide.begins e c.check.new.self ts (task (map only_asserted (asserted_by c.args.live.now)) ts).listed searched (λ us has. c.tell.ensures.begins us (h us has))
