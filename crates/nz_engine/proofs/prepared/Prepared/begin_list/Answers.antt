-- The atoms are named and noted, the theory begins anew and learns of them, and neighbouring bounds get their clauses.
use Rattle.std.proofs.Common.{rules, ◌≡◌, ℕ, List, Ok, Err, IfErr, refl, sym, ap, subst, ◌∙◌}
use Rattle.nz_spec.specs.search.Search.{Search, Task, no_point}
use Rattle.nz_spec.specs.search.Work.{WorkList}
use Rattle.nz_search.specs.declared.stop.Stop.{Stop}
use Rattle.nz_search.specs.declared.stop.Stop.TheVariants.{Memory}
use Rattle.nz_search.specs.Standing.{search_after}
use Rattle.nz_search.specs.declared.note.Note.{Note}
use Rattle.nz_search.specs.Levels.{Level}
use Rattle.nz_engine.specs.Checking.{AreLearnable, BeginsAnew, EndsWith, MaySearch, IsPlain, Works}
use Rattle.nz_engine.specs.Keeping.{KeepsClauses}
use Rattle.nz_engine.specs.Preparing.{Excludes, PreparedState}
use Rattle.nz_engine.proofs.CheckEnds.{first_none, lead_none, plain_none}
use Rattle.nz_engine.proofs.SearchEntry.{begun_search, lead_anew, learnable, plain_anew, plain_gone, stops_anew, works_anew, works_gone}
use Rattle.nz_engine.proofs.ExclusionClauses.{prepared_in}
use Rattle.nz_engine.proofs.KeptClauses.{keeps_both, keeps_excluded}
use Rattle.nz_engine.proofs.SearchAtoms.{ready_as}
use Rattle.nz_engine.proofs.SeenClauses.{since_same}
use Rattle.nz_engine.proofs.prepared.Prepared.begin_list.Goals as goal

pub returns-in_err-literals-clause-stopped : goal.returns-in_err-literals-clause-stopped
returns-in_err-literals-clause-stopped c =
    let same : Err Memory ≡ c.from_residual.result = search rules in
    let ns = c.args.terms.now in
    let assumed = c.args.assumed.now in
    let work = c.args.work.now in
    subst (λ r. IfErr r (λ (e : Stop). (levels : List Level) (q : Task) → MaySearch ns levels assumed q c.args.work.now c.args.self.now → EndsWith ns q work e)) same
    (λ levels q may. (no_point, lead_none q ns work c.requires.no_steps))

pub returns-in_err-literals-clause-plain : goal.returns-in_err-literals-clause-plain
returns-in_err-literals-clause-plain c = λ levels q may.
    let ns = c.args.terms.now in
    let work = c.args.work.now in
    subst (λ (s : Search). IsPlain q s (search_after ns work)) (sym (first_none ns work c.requires.no_steps)) (plain_none q ns work c.requires.no_steps)

pub begin_anew-requires-clause-learnable : goal.begin_anew-requires-clause-learnable
begin_anew-requires-clause-learnable c =
    let p = prepared_in c.self.inside in
    let r = ready_as c.self.view_is (ap (λ (s : PreparedState). s.noted) c.self.view_is) refl c.in_ok-literals.ensures.ready in
    subst (λ (is : List ℕ). AreLearnable p.sat.theory p.log.atoms is) (sym c.deref.ensures.value) (learnable c.search_laws.ensures.laws p r)

pub returns-in_err-begin_anew-clause-stopped : goal.returns-in_err-begin_anew-clause-stopped
returns-in_err-begin_anew-clause-stopped c =
    let e = c.in_err-begin_anew.field-0.0 in
    let same : Err e ≡ c.from_residual-in_err-begin_anew.result = search rules in
    let ns = c.args.terms.now in
    let assumed = c.args.assumed.now in
    let p = prepared_in c.self.inside in
    let r = ready_as c.self.view_is (ap (λ (s : PreparedState). s.noted) c.self.view_is) refl c.in_ok-literals.ensures.ready in
    let theory = ap (λ (s : PreparedState). s.sat.theory) c.self.view_is ∙ c.ready.ensures.theory in
    let sat = c.begin_anew.new.sat in
    let after = c.begin_anew.new.work in
    let begins = subst (λ (is : List ℕ). BeginsAnew p.log.atoms is p.sat.theory sat.theory c.args.work.now after (Err e)) c.deref.ensures.value c.in_err-begin_anew.ensures.begins in
    subst (λ r. IfErr r (λ (x : Stop). (levels : List Level) (q : Task) → MaySearch ns levels assumed q c.args.work.now c.args.self.now → EndsWith ns q after x)) same
    (stops_anew c.search_laws.ensures.laws p r theory sat c.args.work.now after c.requires.no_steps e begins)

pub returns-in_err-begin_anew-clause-works : goal.returns-in_err-begin_anew-clause-works
returns-in_err-begin_anew-clause-works c =
    let p = prepared_in c.self.inside in
    let r = ready_as c.self.view_is (ap (λ (s : PreparedState). s.noted) c.self.view_is) refl c.in_ok-literals.ensures.ready in
    let theory = ap (λ (s : PreparedState). s.sat.theory) c.self.view_is ∙ c.ready.ensures.theory in
    let sat = c.begin_anew.new.sat in
    let after = c.begin_anew.new.work in
    let begins = subst (λ (is : List ℕ). BeginsAnew p.log.atoms is p.sat.theory sat.theory c.args.work.now after c.begin_anew.result) c.deref.ensures.value c.begin_anew.ensures.begins in
    works_anew c.search_laws.ensures.laws p r theory sat c.args.work.now after c.requires.no_steps c.begin_anew.result begins

pub returns-in_err-begin_anew-clause-plain : goal.returns-in_err-begin_anew-clause-plain
returns-in_err-begin_anew-clause-plain c =
    let p = prepared_in c.self.inside in
    let r = ready_as c.self.view_is (ap (λ (s : PreparedState). s.noted) c.self.view_is) refl c.in_ok-literals.ensures.ready in
    let theory = ap (λ (s : PreparedState). s.sat.theory) c.self.view_is ∙ c.ready.ensures.theory in
    let sat = c.begin_anew.new.sat in
    let after = c.begin_anew.new.work in
    let begins = subst (λ (is : List ℕ). BeginsAnew p.log.atoms is p.sat.theory sat.theory c.args.work.now after c.begin_anew.result) c.deref.ensures.value c.begin_anew.ensures.begins in
    plain_anew c.search_laws.ensures.laws p r theory sat c.args.work.now after c.requires.no_steps c.begin_anew.result begins

pub exclude-requires-clause-since : goal.exclude-requires-clause-since
exclude-requires-clause-since c =
    let p = prepared_in c.self.inside in
    let r = ready_as c.self.view_is (ap (λ (s : PreparedState). s.noted) c.self.view_is) refl c.in_ok-literals.ensures.ready in
    since_same p.log p.sat c.begin_anew.new.sat c.begin_anew.ensures.clauses c.begin_anew.ensures.seen r.some.1.standing.raised.seen

pub returns-in_err-exclude-clause-plain : goal.returns-in_err-exclude-clause-plain
returns-in_err-exclude-clause-plain c =
    let p = prepared_in c.self.inside in
    let r = ready_as c.self.view_is (ap (λ (s : PreparedState). s.noted) c.self.view_is) refl c.in_ok-literals.ensures.ready in
    let theory = ap (λ (s : PreparedState). s.sat.theory) c.self.view_is ∙ c.ready.ensures.theory in
    let sat = c.begin_anew.new.sat in
    let after = c.begin_anew.new.work in
    let begins = subst (λ (is : List ℕ). BeginsAnew p.log.atoms is p.sat.theory sat.theory c.args.work.now after c.begin_anew.result) c.deref.ensures.value c.begin_anew.ensures.begins in
    plain_anew c.search_laws.ensures.laws p r theory sat c.args.work.now after c.requires.no_steps c.begin_anew.result begins

pub returns-in_err-exclude-clause-stopped : goal.returns-in_err-exclude-clause-stopped
returns-in_err-exclude-clause-stopped c =
    let same : Err Memory ≡ c.from_residual-in_err-exclude.result = search (rules, c.from_residual-in_err-exclude.ensures, c.in_err-exclude.is, c.in_err-exclude.was) in
    let ns = c.args.terms.now in
    let assumed = c.args.assumed.now in
    let p = prepared_in c.self.inside in
    let r = ready_as c.self.view_is (ap (λ (s : PreparedState). s.noted) c.self.view_is) refl c.in_ok-literals.ensures.ready in
    let theory = ap (λ (s : PreparedState). s.sat.theory) c.self.view_is ∙ c.ready.ensures.theory in
    let sat = c.begin_anew.new.sat in
    let after = c.begin_anew.new.work in
    let begins = subst (λ (is : List ℕ). BeginsAnew p.log.atoms is p.sat.theory sat.theory c.args.work.now after (Ok tt)) c.deref.ensures.value c.in_ok-begin_anew.ensures.begins in
    subst (λ r. IfErr r (λ (x : Stop). (levels : List Level) (q : Task) → MaySearch ns levels assumed q c.args.work.now c.args.self.now → EndsWith ns q after x)) same
    (lead_anew c.search_laws.ensures.laws p r theory sat c.args.work.now after c.requires.no_steps begins)

pub returns-in_err-exclude-clause-works : goal.returns-in_err-exclude-clause-works
returns-in_err-exclude-clause-works c =
    let p = prepared_in c.self.inside in
    let r = ready_as c.self.view_is (ap (λ (s : PreparedState). s.noted) c.self.view_is) refl c.in_ok-literals.ensures.ready in
    let theory = ap (λ (s : PreparedState). s.sat.theory) c.self.view_is ∙ c.ready.ensures.theory in
    let sat = c.begin_anew.new.sat in
    let after = c.begin_anew.new.work in
    let begins = subst (λ (is : List ℕ). BeginsAnew p.log.atoms is p.sat.theory sat.theory c.args.work.now after c.begin_anew.result) c.deref.ensures.value c.begin_anew.ensures.begins in
    works_anew c.search_laws.ensures.laws p r theory sat c.args.work.now after c.requires.no_steps c.begin_anew.result begins

pub returns-in_err-go_under-clause-stopped : goal.returns-in_err-go_under-clause-stopped
returns-in_err-go_under-clause-stopped c =
    let same : Err Memory ≡ c.from_residual-in_err-go_under.result = search (rules, c.from_residual-in_err-go_under.ensures, c.in_err-go_under.is, c.in_err-go_under.was) in
    let ns = c.args.terms.now in
    let assumed = c.args.assumed.now in
    let p = prepared_in c.self.inside in
    let r = ready_as c.self.view_is (ap (λ (s : PreparedState). s.noted) c.self.view_is) refl c.in_ok-literals.ensures.ready in
    let theory = ap (λ (s : PreparedState). s.sat.theory) c.self.view_is ∙ c.ready.ensures.theory in
    let sat = c.begin_anew.new.sat in
    let after = c.begin_anew.new.work in
    let begins = subst (λ (is : List ℕ). BeginsAnew p.log.atoms is p.sat.theory sat.theory c.args.work.now after (Ok tt)) c.deref.ensures.value c.in_ok-begin_anew.ensures.begins in
    let kept : c.go_under.new.work ≡ after = c.in_err-go_under.ensures.unchanged in
    subst (λ r. IfErr r (λ (x : Stop). (levels : List Level) (q : Task) → MaySearch ns levels assumed q c.args.work.now c.args.self.now → EndsWith ns q c.go_under.new.work x)) same
    (subst (λ (w : WorkList Note). (levels : List Level) (q : Task) → MaySearch ns levels assumed q c.args.work.now c.args.self.now → EndsWith ns q w Memory) (sym kept)
    (lead_anew c.search_laws.ensures.laws p r theory sat c.args.work.now after c.requires.no_steps begins))

pub returns-in_err-go_under-clause-plain : goal.returns-in_err-go_under-clause-plain
returns-in_err-go_under-clause-plain c =
    let ns = c.args.terms.now in
    let assumed = c.args.assumed.now in
    let p = prepared_in c.self.inside in
    let r = ready_as c.self.view_is (ap (λ (s : PreparedState). s.noted) c.self.view_is) refl c.in_ok-literals.ensures.ready in
    let theory = ap (λ (s : PreparedState). s.sat.theory) c.self.view_is ∙ c.ready.ensures.theory in
    let sat = c.begin_anew.new.sat in
    let after = c.begin_anew.new.work in
    let begins = subst (λ (is : List ℕ). BeginsAnew p.log.atoms is p.sat.theory sat.theory c.args.work.now after (Ok tt)) c.deref.ensures.value c.in_ok-begin_anew.ensures.begins in
    subst (λ (w : WorkList Note). (levels : List Level) (q : Task) → MaySearch ns levels assumed q c.args.work.now c.args.self.now → IsPlain q (search_after ns c.args.work.now) (search_after ns w))
    (sym c.in_err-go_under.ensures.unchanged) (plain_anew c.search_laws.ensures.laws p r theory sat c.args.work.now after c.requires.no_steps (Ok tt) begins)

pub returns-in_err-go_under-clause-works : goal.returns-in_err-go_under-clause-works
returns-in_err-go_under-clause-works c =
    let p = prepared_in c.self.inside in
    let r = ready_as c.self.view_is (ap (λ (s : PreparedState). s.noted) c.self.view_is) refl c.in_ok-literals.ensures.ready in
    let theory = ap (λ (s : PreparedState). s.sat.theory) c.self.view_is ∙ c.ready.ensures.theory in
    let sat = c.begin_anew.new.sat in
    let after = c.begin_anew.new.work in
    let begins = subst (λ (is : List ℕ). BeginsAnew p.log.atoms is p.sat.theory sat.theory c.args.work.now after (Ok tt)) c.deref.ensures.value c.in_ok-begin_anew.ensures.begins in
    subst (λ (w : WorkList Note). Works c.args.terms.now c.args.work.now w) (sym c.in_err-go_under.ensures.unchanged)
    (works_anew c.search_laws.ensures.laws p r theory sat c.args.work.now after c.requires.no_steps (Ok tt) begins)

pub returns-clause-begun : goal.returns-clause-begun
returns-clause-begun c =
    let p = prepared_in c.self.inside in
    let r = ready_as c.self.view_is (ap (λ (s : PreparedState). s.noted) c.self.view_is) refl c.in_ok-literals.ensures.ready in
    let theory = ap (λ (s : PreparedState). s.sat.theory) c.self.view_is ∙ c.ready.ensures.theory in
    let sat = c.begin_anew.new.sat in
    let after = c.begin_anew.new.work in
    let begins = subst (λ (is : List ℕ). BeginsAnew p.log.atoms is p.sat.theory sat.theory c.args.work.now after (Ok tt)) c.deref.ensures.value c.in_ok-begin_anew.ensures.begins in
    let excludes = subst (λ (is : List ℕ). Excludes p.log sat is c.exclude.new.log c.exclude.new.sat) c.deref-2.ensures.value c.in_ok-exclude.ensures.excludes in
    begun_search c.search_laws.ensures.laws p r theory sat c.args.work.now after c.requires.no_steps begins c.begin_anew.ensures.clauses c.begin_anew.ensures.seen c.exclude.new.log c.exclude.new.sat excludes c.go_under.new.work
    c.in_ok-go_under.ensures.under

pub returns-clause-plain : goal.returns-clause-plain
returns-clause-plain c =
    let p = prepared_in c.self.inside in
    let r = ready_as c.self.view_is (ap (λ (s : PreparedState). s.noted) c.self.view_is) refl c.in_ok-literals.ensures.ready in
    let theory = ap (λ (s : PreparedState). s.sat.theory) c.self.view_is ∙ c.ready.ensures.theory in
    let sat = c.begin_anew.new.sat in
    let after = c.begin_anew.new.work in
    let begins = subst (λ (is : List ℕ). BeginsAnew p.log.atoms is p.sat.theory sat.theory c.args.work.now after (Ok tt)) c.deref.ensures.value c.in_ok-begin_anew.ensures.begins in
    plain_gone c.search_laws.ensures.laws p r theory sat c.args.work.now after c.requires.no_steps begins c.go_under.new.work c.in_ok-go_under.ensures.under

pub returns-clause-works : goal.returns-clause-works
returns-clause-works c =
    let p = prepared_in c.self.inside in
    let r = ready_as c.self.view_is (ap (λ (s : PreparedState). s.noted) c.self.view_is) refl c.in_ok-literals.ensures.ready in
    let theory = ap (λ (s : PreparedState). s.sat.theory) c.self.view_is ∙ c.ready.ensures.theory in
    let sat = c.begin_anew.new.sat in
    let after = c.begin_anew.new.work in
    let begins = subst (λ (is : List ℕ). BeginsAnew p.log.atoms is p.sat.theory sat.theory c.args.work.now after (Ok tt)) c.deref.ensures.value c.in_ok-begin_anew.ensures.begins in
    works_gone c.search_laws.ensures.laws p r theory sat c.args.work.now c.go_under.new.work c.requires.no_steps after (Ok tt) begins c.in_ok-go_under.ensures.under

pub returns-clause-keeps : goal.returns-clause-keeps
returns-clause-keeps c =
    let ready = subst (KeepsClauses c.args.self.now) (sym c.self.view_is) c.ready.ensures.keeps in
    keeps_both ready (keeps_excluded c.begin_anew.new.sat c.deref-2.result.now c.begin_anew.ensures.clauses c.in_ok-exclude.ensures.excludes)
