-- What the theory was told is taken back, what the search goes under is noted, and then the other atoms are named.
use Rattle.std.proofs.Common.{rules, ◌≡◌, ℕ, List, length, take, Ok, Err, IfErr, refl, sym, ap, subst, ◌∙◌}
use Rattle.nz_spec.specs.search.Search.{Task}
use Rattle.nz_spec.specs.search.Work.{WorkList}
use Rattle.nz_search.specs.declared.note.Note.{Note}
use Rattle.nz_search.specs.declared.stop.Stop.{Stop}
use Rattle.nz_search.specs.declared.stop.Stop.TheVariants.{Memory}
use Rattle.nz_search.specs.Standing.{search_after}
use Rattle.nz_reals.specs.Stands.{IsOf}
use Rattle.nz_search.specs.Levels.{Level}
use Rattle.nz_engine.specs.Checking.{AreLearnable, EndsWith, IsPlain, LearnsMore, MayBeNamed, MaySearch, Works}
use Rattle.nz_engine.specs.Keeping.{KeepsClauses}
use Rattle.nz_engine.specs.Preparing.{Excludes, PreparedState}
use Rattle.nz_engine.proofs.ExclusionClauses.{prepared_in}
use Rattle.nz_engine.proofs.KeptClauses.{keeps_both, keeps_excluded}
use Rattle.nz_engine.proofs.LaterSearches.{begun_later, front_known, lead_more, plain_more, ready_first, stops_more, way_lead, way_named, way_of, way_plain, way_works, works_more}
use Rattle.nz_engine.proofs.SearchAtoms.{ready_as}
use Rattle.nz_engine.proofs.SearchEntry.{learnable}
use Rattle.nz_engine.proofs.SeenClauses.{since_same}
use Rattle.nz_engine.proofs.prepared.Prepared.go_on.Goals as goal

pub ready-requires-clause-named : goal.ready-requires-clause-named
ready-requires-clause-named c =
    let old = c.args.self.now in
    let counted : c.len-named.result ≡ length c.self.inside.noted.items = search rules in
    let first : c.len-named.result ≡ length old.noted = counted ∙ ap (λ (s : PreparedState). length s.noted) c.self.view_is in
    subst (λ (n : ℕ). MayBeNamed c.args.terms.now old (take n old.noted)) (sym first) (way_named old (way_of c.requires.some c.requires.may.2.from))

pub returns-in_err-literals-clause-stopped : goal.returns-in_err-literals-clause-stopped
returns-in_err-literals-clause-stopped c =
    let same : Err Memory ≡ c.from_residual.result = search rules in
    let ns = c.args.terms.now in
    let assumed = c.args.assumed.now in
    let old = c.args.self.now in
    let before = c.args.work.now in
    subst (λ r. IfErr r (λ (e : Stop). (levels : List Level) (q : Task) → MaySearch ns levels assumed q before old → EndsWith ns q before e)) same
    (λ levels q may. way_lead (way_of c.requires.some may.from))

pub returns-in_err-literals-clause-plain : goal.returns-in_err-literals-clause-plain
returns-in_err-literals-clause-plain c = λ levels q may. way_plain (way_of c.requires.some may.from)

pub returns-in_err-literals-clause-works : goal.returns-in_err-literals-clause-works
returns-in_err-literals-clause-works c = way_works (way_of c.requires.some c.requires.may.2.from)

pub returns-in_err-go_under-clause-stopped : goal.returns-in_err-go_under-clause-stopped
returns-in_err-go_under-clause-stopped c =
    let same : Err Memory ≡ c.from_residual-in_err-go_under.result = search (rules, c.from_residual-in_err-go_under.ensures, c.in_err-go_under.is, c.in_err-go_under.was) in
    let ns = c.args.terms.now in
    let assumed = c.args.assumed.now in
    let old = c.args.self.now in
    let before = c.args.work.now in
    subst (λ r. IfErr r (λ (e : Stop). (levels : List Level) (q : Task) → MaySearch ns levels assumed q before old → EndsWith ns q c.go_under.new.work e)) same
    (subst (λ (w : WorkList Note). (levels : List Level) (q : Task) → MaySearch ns levels assumed q before old → EndsWith ns q w Memory) (sym c.in_err-go_under.ensures.unchanged) (λ levels q may. way_lead (way_of c.requires.some may.from)))

pub returns-in_err-go_under-clause-plain : goal.returns-in_err-go_under-clause-plain
returns-in_err-go_under-clause-plain c =
    let ns = c.args.terms.now in
    let assumed = c.args.assumed.now in
    let old = c.args.self.now in
    let before = c.args.work.now in
    subst (λ (w : WorkList Note). (levels : List Level) (q : Task) → MaySearch ns levels assumed q before old → IsPlain q (search_after ns before) (search_after ns w)) (sym c.in_err-go_under.ensures.unchanged)
    (λ levels q may. way_plain (way_of c.requires.some may.from))

pub returns-in_err-go_under-clause-works : goal.returns-in_err-go_under-clause-works
returns-in_err-go_under-clause-works c =
    subst (λ (w : WorkList Note). Works c.args.terms.now c.args.work.now w) (sym c.in_err-go_under.ensures.unchanged) (way_works (way_of c.requires.some c.requires.may.2.from))

pub learn_on-requires-clause-learnable : goal.learn_on-requires-clause-learnable
learn_on-requires-clause-learnable c =
    let ns = c.args.terms.now in
    let assumed = c.args.assumed.now in
    let old = c.args.self.now in
    let before = c.args.work.now in
    let p = prepared_in c.self-2.inside in
    let counted : c.len-named.result ≡ length c.self.inside.noted.items = search rules in
    let first : c.len-named.result ≡ length old.noted = counted ∙ ap (λ (s : PreparedState). length s.noted) c.self.view_is in
    let r = ready_first first (ready_as c.self-2.view_is (ap (λ (s : PreparedState). s.noted) c.self-2.view_is) refl c.in_ok-literals.ensures.ready) in
    let theory = ap (λ (s : PreparedState). s.sat.theory) c.self-2.view_is ∙ c.ready.ensures.theory in
    let t = c.untell.new.sat.theory in
    let known = learnable c.search_laws.ensures.laws p r in
    subst (λ (is : List ℕ). AreLearnable t p.log.atoms is) (sym c.deref.ensures.value) (record { table = known.table; over = c.untell.ensures.over known.table known.over; each = known.each })

pub learn_on-requires-clause-of : goal.learn_on-requires-clause-of
learn_on-requires-clause-of c =
    let ns = c.args.terms.now in
    let assumed = c.args.assumed.now in
    let old = c.args.self.now in
    let before = c.args.work.now in
    let p = prepared_in c.self-2.inside in
    let counted : c.len-named.result ≡ length c.self.inside.noted.items = search rules in
    let first : c.len-named.result ≡ length old.noted = counted ∙ ap (λ (s : PreparedState). length s.noted) c.self.view_is in
    let r = ready_first first (ready_as c.self-2.view_is (ap (λ (s : PreparedState). s.noted) c.self-2.view_is) refl c.in_ok-literals.ensures.ready) in
    let theory = ap (λ (s : PreparedState). s.sat.theory) c.self-2.view_is ∙ c.ready.ensures.theory in
    let t = c.untell.new.sat.theory in
    let known = front_known c.search_laws.ensures.laws p r theory before c.requires.some (way_of c.requires.some c.requires.may.2.from) t c.untell.ensures.of in
    subst (λ (is : List ℕ). IsOf t p.log.atoms (take c.len-named.result is)) (sym c.deref.ensures.value) (subst (λ (n : ℕ). IsOf t p.log.atoms (take n p.noted)) (sym first) known)

pub returns-in_err-learn_on-clause-plain : goal.returns-in_err-learn_on-clause-plain
returns-in_err-learn_on-clause-plain c =
    let ns = c.args.terms.now in
    let assumed = c.args.assumed.now in
    let old = c.args.self.now in
    let before = c.args.work.now in
    let p = prepared_in c.self-2.inside in
    let counted : c.len-named.result ≡ length c.self.inside.noted.items = search rules in
    let first : c.len-named.result ≡ length old.noted = counted ∙ ap (λ (s : PreparedState). length s.noted) c.self.view_is in
    let r = ready_first first (ready_as c.self-2.view_is (ap (λ (s : PreparedState). s.noted) c.self-2.view_is) refl c.in_ok-literals.ensures.ready) in
    let theory = ap (λ (s : PreparedState). s.sat.theory) c.self-2.view_is ∙ c.ready.ensures.theory in
    let t = c.untell.new.sat.theory in
    let told = subst (λ (is : List ℕ). LearnsMore p.log.atoms is c.len-named.result t c.learn_on.new.sat.theory c.go_under.new.work c.learn_on.new.work (c.learn_on.result)) c.deref.ensures.value c.learn_on.ensures.learns in
    let learns = subst (λ (n : ℕ). LearnsMore p.log.atoms p.noted n t c.learn_on.new.sat.theory c.go_under.new.work c.learn_on.new.work (c.learn_on.result)) first told in
    plain_more c.search_laws.ensures.laws p r theory before c.requires.some t c.untell.ensures.untold c.untell.ensures.over c.untell.ensures.of c.untell.ensures.at c.go_under.new.work c.in_ok-go_under.ensures.under c.learn_on.new.sat.theory c.learn_on.new.work (c.learn_on.result) learns

pub returns-in_err-learn_on-clause-works : goal.returns-in_err-learn_on-clause-works
returns-in_err-learn_on-clause-works c =
    let ns = c.args.terms.now in
    let assumed = c.args.assumed.now in
    let old = c.args.self.now in
    let before = c.args.work.now in
    let p = prepared_in c.self-2.inside in
    let counted : c.len-named.result ≡ length c.self.inside.noted.items = search rules in
    let first : c.len-named.result ≡ length old.noted = counted ∙ ap (λ (s : PreparedState). length s.noted) c.self.view_is in
    let r = ready_first first (ready_as c.self-2.view_is (ap (λ (s : PreparedState). s.noted) c.self-2.view_is) refl c.in_ok-literals.ensures.ready) in
    let theory = ap (λ (s : PreparedState). s.sat.theory) c.self-2.view_is ∙ c.ready.ensures.theory in
    let t = c.untell.new.sat.theory in
    let told = subst (λ (is : List ℕ). LearnsMore p.log.atoms is c.len-named.result t c.learn_on.new.sat.theory c.go_under.new.work c.learn_on.new.work (c.learn_on.result)) c.deref.ensures.value c.learn_on.ensures.learns in
    let learns = subst (λ (n : ℕ). LearnsMore p.log.atoms p.noted n t c.learn_on.new.sat.theory c.go_under.new.work c.learn_on.new.work (c.learn_on.result)) first told in
    works_more c.search_laws.ensures.laws p r theory before c.requires.some t c.untell.ensures.untold c.untell.ensures.over c.untell.ensures.of c.untell.ensures.at c.go_under.new.work c.in_ok-go_under.ensures.under c.learn_on.new.sat.theory c.learn_on.new.work (c.learn_on.result) learns c.requires.may.0 c.requires.may.1 c.requires.may.2

pub exclude-requires-clause-since : goal.exclude-requires-clause-since
exclude-requires-clause-since c =
    let p = prepared_in c.self-2.inside in
    let r = ready_as c.self-2.view_is (ap (λ (s : PreparedState). s.noted) c.self-2.view_is) refl c.in_ok-literals.ensures.ready in
    since_same p.log p.sat c.learn_on.new.sat (c.learn_on.ensures.clauses ∙ c.untell.ensures.clauses) (c.learn_on.ensures.seen ∙ c.untell.ensures.seen) r.some.1.standing.raised.seen

pub returns-in_err-exclude-clause-plain : goal.returns-in_err-exclude-clause-plain
returns-in_err-exclude-clause-plain c =
    let ns = c.args.terms.now in
    let assumed = c.args.assumed.now in
    let old = c.args.self.now in
    let before = c.args.work.now in
    let p = prepared_in c.self-2.inside in
    let counted : c.len-named.result ≡ length c.self.inside.noted.items = search rules in
    let first : c.len-named.result ≡ length old.noted = counted ∙ ap (λ (s : PreparedState). length s.noted) c.self.view_is in
    let r = ready_first first (ready_as c.self-2.view_is (ap (λ (s : PreparedState). s.noted) c.self-2.view_is) refl c.in_ok-literals.ensures.ready) in
    let theory = ap (λ (s : PreparedState). s.sat.theory) c.self-2.view_is ∙ c.ready.ensures.theory in
    let t = c.untell.new.sat.theory in
    let told = subst (λ (is : List ℕ). LearnsMore p.log.atoms is c.len-named.result t c.learn_on.new.sat.theory c.go_under.new.work c.learn_on.new.work (Ok tt)) c.deref.ensures.value c.in_ok-learn_on.ensures.learns in
    let learns = subst (λ (n : ℕ). LearnsMore p.log.atoms p.noted n t c.learn_on.new.sat.theory c.go_under.new.work c.learn_on.new.work (Ok tt)) first told in
    plain_more c.search_laws.ensures.laws p r theory before c.requires.some t c.untell.ensures.untold c.untell.ensures.over c.untell.ensures.of c.untell.ensures.at c.go_under.new.work c.in_ok-go_under.ensures.under c.learn_on.new.sat.theory c.learn_on.new.work (Ok tt) learns

pub returns-in_err-exclude-clause-works : goal.returns-in_err-exclude-clause-works
returns-in_err-exclude-clause-works c =
    let ns = c.args.terms.now in
    let assumed = c.args.assumed.now in
    let old = c.args.self.now in
    let before = c.args.work.now in
    let p = prepared_in c.self-2.inside in
    let counted : c.len-named.result ≡ length c.self.inside.noted.items = search rules in
    let first : c.len-named.result ≡ length old.noted = counted ∙ ap (λ (s : PreparedState). length s.noted) c.self.view_is in
    let r = ready_first first (ready_as c.self-2.view_is (ap (λ (s : PreparedState). s.noted) c.self-2.view_is) refl c.in_ok-literals.ensures.ready) in
    let theory = ap (λ (s : PreparedState). s.sat.theory) c.self-2.view_is ∙ c.ready.ensures.theory in
    let t = c.untell.new.sat.theory in
    let told = subst (λ (is : List ℕ). LearnsMore p.log.atoms is c.len-named.result t c.learn_on.new.sat.theory c.go_under.new.work c.learn_on.new.work (Ok tt)) c.deref.ensures.value c.in_ok-learn_on.ensures.learns in
    let learns = subst (λ (n : ℕ). LearnsMore p.log.atoms p.noted n t c.learn_on.new.sat.theory c.go_under.new.work c.learn_on.new.work (Ok tt)) first told in
    works_more c.search_laws.ensures.laws p r theory before c.requires.some t c.untell.ensures.untold c.untell.ensures.over c.untell.ensures.of c.untell.ensures.at c.go_under.new.work c.in_ok-go_under.ensures.under c.learn_on.new.sat.theory c.learn_on.new.work (Ok tt) learns c.requires.may.0 c.requires.may.1 c.requires.may.2

pub returns-clause-plain : goal.returns-clause-plain
returns-clause-plain c =
    let ns = c.args.terms.now in
    let assumed = c.args.assumed.now in
    let old = c.args.self.now in
    let before = c.args.work.now in
    let p = prepared_in c.self-2.inside in
    let counted : c.len-named.result ≡ length c.self.inside.noted.items = search rules in
    let first : c.len-named.result ≡ length old.noted = counted ∙ ap (λ (s : PreparedState). length s.noted) c.self.view_is in
    let r = ready_first first (ready_as c.self-2.view_is (ap (λ (s : PreparedState). s.noted) c.self-2.view_is) refl c.in_ok-literals.ensures.ready) in
    let theory = ap (λ (s : PreparedState). s.sat.theory) c.self-2.view_is ∙ c.ready.ensures.theory in
    let t = c.untell.new.sat.theory in
    let told = subst (λ (is : List ℕ). LearnsMore p.log.atoms is c.len-named.result t c.learn_on.new.sat.theory c.go_under.new.work c.learn_on.new.work (Ok tt)) c.deref.ensures.value c.in_ok-learn_on.ensures.learns in
    let learns = subst (λ (n : ℕ). LearnsMore p.log.atoms p.noted n t c.learn_on.new.sat.theory c.go_under.new.work c.learn_on.new.work (Ok tt)) first told in
    plain_more c.search_laws.ensures.laws p r theory before c.requires.some t c.untell.ensures.untold c.untell.ensures.over c.untell.ensures.of c.untell.ensures.at c.go_under.new.work c.in_ok-go_under.ensures.under c.learn_on.new.sat.theory c.learn_on.new.work (Ok tt) learns

pub returns-clause-works : goal.returns-clause-works
returns-clause-works c =
    let ns = c.args.terms.now in
    let assumed = c.args.assumed.now in
    let old = c.args.self.now in
    let before = c.args.work.now in
    let p = prepared_in c.self-2.inside in
    let counted : c.len-named.result ≡ length c.self.inside.noted.items = search rules in
    let first : c.len-named.result ≡ length old.noted = counted ∙ ap (λ (s : PreparedState). length s.noted) c.self.view_is in
    let r = ready_first first (ready_as c.self-2.view_is (ap (λ (s : PreparedState). s.noted) c.self-2.view_is) refl c.in_ok-literals.ensures.ready) in
    let theory = ap (λ (s : PreparedState). s.sat.theory) c.self-2.view_is ∙ c.ready.ensures.theory in
    let t = c.untell.new.sat.theory in
    let told = subst (λ (is : List ℕ). LearnsMore p.log.atoms is c.len-named.result t c.learn_on.new.sat.theory c.go_under.new.work c.learn_on.new.work (Ok tt)) c.deref.ensures.value c.in_ok-learn_on.ensures.learns in
    let learns = subst (λ (n : ℕ). LearnsMore p.log.atoms p.noted n t c.learn_on.new.sat.theory c.go_under.new.work c.learn_on.new.work (Ok tt)) first told in
    works_more c.search_laws.ensures.laws p r theory before c.requires.some t c.untell.ensures.untold c.untell.ensures.over c.untell.ensures.of c.untell.ensures.at c.go_under.new.work c.in_ok-go_under.ensures.under c.learn_on.new.sat.theory c.learn_on.new.work (Ok tt) learns c.requires.may.0 c.requires.may.1 c.requires.may.2

pub returns-in_err-learn_on-clause-stopped : goal.returns-in_err-learn_on-clause-stopped
returns-in_err-learn_on-clause-stopped c =
    let e = c.in_err-learn_on.field-0.0 in
    let same : Err e ≡ c.from_residual-in_err-learn_on.result = search rules in
    let ns = c.args.terms.now in
    let assumed = c.args.assumed.now in
    let old = c.args.self.now in
    let before = c.args.work.now in
    let p = prepared_in c.self-2.inside in
    let counted : c.len-named.result ≡ length c.self.inside.noted.items = search rules in
    let first : c.len-named.result ≡ length old.noted = counted ∙ ap (λ (s : PreparedState). length s.noted) c.self.view_is in
    let r = ready_first first (ready_as c.self-2.view_is (ap (λ (s : PreparedState). s.noted) c.self-2.view_is) refl c.in_ok-literals.ensures.ready) in
    let theory = ap (λ (s : PreparedState). s.sat.theory) c.self-2.view_is ∙ c.ready.ensures.theory in
    let t = c.untell.new.sat.theory in
    let told = subst (λ (is : List ℕ). LearnsMore p.log.atoms is c.len-named.result t c.learn_on.new.sat.theory c.go_under.new.work c.learn_on.new.work (Err e)) c.deref.ensures.value c.in_err-learn_on.ensures.learns in
    let learns = subst (λ (n : ℕ). LearnsMore p.log.atoms p.noted n t c.learn_on.new.sat.theory c.go_under.new.work c.learn_on.new.work (Err e)) first told in
    subst (λ y. IfErr y (λ (x : Stop). (levels : List Level) (q : Task) → MaySearch ns levels assumed q before old → EndsWith ns q c.learn_on.new.work x)) same
    (stops_more c.search_laws.ensures.laws p r theory before c.requires.some t c.untell.ensures.untold c.untell.ensures.over c.untell.ensures.of c.untell.ensures.at c.go_under.new.work c.in_ok-go_under.ensures.under c.learn_on.new.sat.theory c.learn_on.new.work (Err e) learns e refl)

pub returns-in_err-exclude-clause-stopped : goal.returns-in_err-exclude-clause-stopped
returns-in_err-exclude-clause-stopped c =
    let same : Err Memory ≡ c.from_residual-in_err-exclude.result = search (rules, c.from_residual-in_err-exclude.ensures, c.in_err-exclude.is, c.in_err-exclude.was) in
    let ns = c.args.terms.now in
    let assumed = c.args.assumed.now in
    let old = c.args.self.now in
    let before = c.args.work.now in
    let p = prepared_in c.self-2.inside in
    let counted : c.len-named.result ≡ length c.self.inside.noted.items = search rules in
    let first : c.len-named.result ≡ length old.noted = counted ∙ ap (λ (s : PreparedState). length s.noted) c.self.view_is in
    let r = ready_first first (ready_as c.self-2.view_is (ap (λ (s : PreparedState). s.noted) c.self-2.view_is) refl c.in_ok-literals.ensures.ready) in
    let theory = ap (λ (s : PreparedState). s.sat.theory) c.self-2.view_is ∙ c.ready.ensures.theory in
    let t = c.untell.new.sat.theory in
    let told = subst (λ (is : List ℕ). LearnsMore p.log.atoms is c.len-named.result t c.learn_on.new.sat.theory c.go_under.new.work c.learn_on.new.work (Ok tt)) c.deref.ensures.value c.in_ok-learn_on.ensures.learns in
    let learns = subst (λ (n : ℕ). LearnsMore p.log.atoms p.noted n t c.learn_on.new.sat.theory c.go_under.new.work c.learn_on.new.work (Ok tt)) first told in
    subst (λ y. IfErr y (λ (x : Stop). (levels : List Level) (q : Task) → MaySearch ns levels assumed q before old → EndsWith ns q c.learn_on.new.work x)) same
    (lead_more c.search_laws.ensures.laws p r theory before c.requires.some t c.untell.ensures.untold c.untell.ensures.over c.untell.ensures.of c.untell.ensures.at c.go_under.new.work c.in_ok-go_under.ensures.under c.learn_on.new.sat.theory c.learn_on.new.work learns)

pub returns-clause-begun : goal.returns-clause-begun
returns-clause-begun c =
    let ns = c.args.terms.now in
    let assumed = c.args.assumed.now in
    let old = c.args.self.now in
    let before = c.args.work.now in
    let p = prepared_in c.self-2.inside in
    let counted : c.len-named.result ≡ length c.self.inside.noted.items = search rules in
    let first : c.len-named.result ≡ length old.noted = counted ∙ ap (λ (s : PreparedState). length s.noted) c.self.view_is in
    let r = ready_first first (ready_as c.self-2.view_is (ap (λ (s : PreparedState). s.noted) c.self-2.view_is) refl c.in_ok-literals.ensures.ready) in
    let theory = ap (λ (s : PreparedState). s.sat.theory) c.self-2.view_is ∙ c.ready.ensures.theory in
    let t = c.untell.new.sat.theory in
    let told = subst (λ (is : List ℕ). LearnsMore p.log.atoms is c.len-named.result t c.learn_on.new.sat.theory c.go_under.new.work c.learn_on.new.work (Ok tt)) c.deref.ensures.value c.in_ok-learn_on.ensures.learns in
    let learns = subst (λ (n : ℕ). LearnsMore p.log.atoms p.noted n t c.learn_on.new.sat.theory c.go_under.new.work c.learn_on.new.work (Ok tt)) first told in
    let excludes = subst (λ (is : List ℕ). Excludes p.log c.learn_on.new.sat is c.exclude.new.log c.exclude.new.sat) c.deref-2.ensures.value c.in_ok-exclude.ensures.excludes in
    begun_later c.search_laws.ensures.laws p r theory before c.requires.some t c.untell.ensures.untold c.untell.ensures.over c.untell.ensures.of c.untell.ensures.at c.go_under.new.work c.in_ok-go_under.ensures.under c.learn_on.new.sat c.learn_on.new.work learns (c.learn_on.ensures.clauses ∙ c.untell.ensures.clauses) (c.learn_on.ensures.seen ∙ c.untell.ensures.seen) c.exclude.new.log c.exclude.new.sat excludes c.requires.may

pub returns-clause-keeps : goal.returns-clause-keeps
returns-clause-keeps c =
    let ready = subst (KeepsClauses c.args.self.now) (sym c.self-2.view_is) c.ready.ensures.keeps in
    keeps_both ready (keeps_excluded c.learn_on.new.sat c.deref-2.result.now (c.learn_on.ensures.clauses ∙ c.untell.ensures.clauses) c.in_ok-exclude.ensures.excludes)
