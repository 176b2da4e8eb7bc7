-- What each way out of a check says.
use Rattle.std.proofs.Common.{rules, ◌≡◌, ◌++◌, Err, IfErr, subst}
use Rattle.nz_spec.specs.search.Decide.{asserted_numbers}
use Rattle.nz_spec.specs.search.Legal.{IsSpentLegally}
use Rattle.nz_spec.specs.search.Search.{Task}
use Rattle.nz_search.specs.declared.stop.Stop.{Stop}
use Rattle.nz_place.specs.Places.{IsSiteWithin}
use Rattle.nz_search.specs.Notes.{noted_list}
use Rattle.nz_search.specs.Places.{OnWide}
use Rattle.nz_search.specs.Standing.{search_after}
use Rattle.nz_term.specs.TermLits.{AreNegations}
use Rattle.nz_search.specs.Verdicts.{OnSpent}
use Rattle.nz_search.specs.Levels.{added_by_level, asserted_by_level}
use Rattle.nz_engine.specs.Checking.{IsPosed, IsStop, terms_named, without_goals}
use Rattle.nz_engine.specs.Engines.{literals_in}
use Rattle.nz_engine.specs.Lists.{MayGoOnFrom}
use Rattle.nz_engine.proofs.AtomNotes.{stopped_lead}
use Rattle.nz_engine.proofs.CheckEnds.{ends_stop, legal_at, model_stop, none_spent, root_stop, root_unspent, same_error, spent_of, stop_within}
use Rattle.nz_engine.proofs.RefutedAssumptions.{dead_end}
use Rattle.nz_engine.proofs.KeptClauses.{retains_then}
use Rattle.nz_engine.proofs.KeptTheory.{lead_from, none_more, on_spent_all, on_wide_all, one_more, readied_after, works_from}
use Rattle.nz_engine.proofs.ToldEnough.{told_enough}
use Rattle.nz_engine.proofs.check.decide.Goals as goal

-- ---- What is asked isn't posed

pub returns-in_err-prepared-clause-legal : goal.returns-in_err-prepared-clause-legal
returns-in_err-prepared-clause-legal c = λ q may. let lead = lead_from may.from in record { point = lead.0; lead = lead.1; few = may.asked.goes_on.few }

pub returns-in_err-prepared-clause-works : goal.returns-in_err-prepared-clause-works
returns-in_err-prepared-clause-works c = works_from c.requires.from.1.from

pub returns-in_err-prepared-clause-more : goal.returns-in_err-prepared-clause-more
returns-in_err-prepared-clause-more c = none_more (search_after c.args.terms.now c.args.work.now)

pub returns-in_err-prepared-clause-spent : goal.returns-in_err-prepared-clause-spent
returns-in_err-prepared-clause-spent c =
    let same : Err c.in_err-prepared.field-0.0 ≡ c.from_residual.result = search rules in
    let ns = c.args.terms.now in
    let levels = c.args.levels.now in
    let assumed = c.args.assumed.now in
    let roots = asserted_numbers (added_by_level levels) ++ terms_named assumed in
    let Is : Type 0 = (q : Task) → MayGoOnFrom ns levels assumed q c.args.work.now c.args.kept → IsSpentLegally q (noted_list ns c.args.work.now) in
    subst (λ r. IfErr r (λ (s : Stop). OnSpent s Is)) same (root_unspent ns roots c.in_err-prepared.field-0.0 Is c.in_err-prepared.ensures.stop)

pub returns-in_err-prepared-clause-stopped : goal.returns-in_err-prepared-clause-stopped
returns-in_err-prepared-clause-stopped c =
    let e = c.in_err-prepared.field-0.0 in
    let same : Err e ≡ c.from_residual.result = search rules in
    let ns = c.args.terms.now in
    let levels = c.args.levels.now in
    let assumed = c.args.assumed.now in
    let work = c.args.work.now in
    let May : Task → Type 0 = λ q. MayGoOnFrom ns levels assumed q work c.args.kept in
    subst (λ r. IfErr r (λ (s : Stop). OnWide s (λ p. (q : Task) → May q → IsStop ns q work p))) same
    (on_wide_all May (λ q. IsStop ns q work) e
    (λ q may. let lead = lead_from may.from in root_stop ns levels assumed q work may.asked (works_from may.from).within lead.0 lead.1 e c.in_err-prepared.ensures.stop))

pub returns-in_err-prepared-clause-place_within : goal.returns-in_err-prepared-clause-place_within
returns-in_err-prepared-clause-place_within c =
    let e = c.in_err-prepared.field-0.0 in
    let same : Err e ≡ c.from_residual.result = search rules in
    let ns = c.args.terms.now in
    let levels = c.args.levels.now in
    let assumed = c.args.assumed.now in
    let work = c.args.work.now in
    let q = c.requires.from.0 in
    let may = c.requires.from.1 in
    let lead = lead_from may.from in
    subst (λ r. IfErr r (λ (s : Stop). OnWide s (λ p. IsSiteWithin ns p.site))) same
    (stop_within ns q work e (root_stop ns levels assumed q work may.asked (works_from may.from).within lead.0 lead.1 e c.in_err-prepared.ensures.stop))

-- ---- The search stops

pub solve-requires-clause-may : goal.solve-requires-clause-may
solve-requires-clause-may c = (c.args.levels.now, c.requires.from.0, (c.in_ok-prepared.ensures.may c.requires.from.0 c.requires.from.1).0)

pub returns-in_err-refuted-clause-legal : goal.returns-in_err-refuted-clause-legal
returns-in_err-refuted-clause-legal c = λ q may.
    let ns = c.args.terms.now in
    let levels = c.args.levels.now in
    let assumed = c.args.assumed.now in
    let work = c.solve.new.work in
    let at = (c.in_ok-prepared.ensures.may q may).0 in
    let lead = stopped_lead ns q work c.in_err-refuted.field-0.0 (c.in_err-refuted.ensures.stopped levels q at) in
    legal_at ns levels assumed q c.args.work.now work may.asked (c.solve.ensures.plain levels q at) lead.0 lead.1

pub returns-in_err-refuted-clause-stopped : goal.returns-in_err-refuted-clause-stopped
returns-in_err-refuted-clause-stopped c =
    let e = c.in_err-refuted.field-0.0 in
    let same = same_error c.from_residual-in_err-refuted.result e c.from_residual-in_err-refuted.ensures.1 in
    let ns = c.args.terms.now in
    let levels = c.args.levels.now in
    let assumed = c.args.assumed.now in
    let work = c.solve.new.work in
    let May : Task → Type 0 = λ q. MayGoOnFrom ns levels assumed q c.args.work.now c.args.kept in
    subst (λ r. IfErr r (λ (s : Stop). OnWide s (λ p. (q : Task) → May q → IsStop ns q work p))) same
    (on_wide_all May (λ q. IsStop ns q work) e
    (λ q may.
    let at = (c.in_ok-prepared.ensures.may q may).0 in
    ends_stop ns levels assumed q c.args.work.now work may.asked (c.solve.ensures.plain levels q at) c.solve.ensures.works.within c.pivots_are_legal.ensures.legal e (c.in_err-refuted.ensures.stopped levels q at)))

pub returns-in_err-refuted-clause-place_within : goal.returns-in_err-refuted-clause-place_within
returns-in_err-refuted-clause-place_within c =
    let e = c.in_err-refuted.field-0.0 in
    let same = same_error c.from_residual-in_err-refuted.result e c.from_residual-in_err-refuted.ensures.1 in
    let ns = c.args.terms.now in
    let levels = c.args.levels.now in
    let assumed = c.args.assumed.now in
    let work = c.solve.new.work in
    let q = c.requires.from.0 in
    let may = c.requires.from.1 in
    let at = (c.in_ok-prepared.ensures.may q may).0 in
    subst (λ r. IfErr r (λ (s : Stop). OnWide s (λ p. IsSiteWithin ns p.site))) same
    (stop_within ns q work e
    (ends_stop ns levels assumed q c.args.work.now work may.asked (c.solve.ensures.plain levels q at) c.solve.ensures.works.within c.pivots_are_legal.ensures.legal e (c.in_err-refuted.ensures.stopped levels q at)))

pub returns-in_err-refuted-clause-spent : goal.returns-in_err-refuted-clause-spent
returns-in_err-refuted-clause-spent c =
    let e = c.in_err-refuted.field-0.0 in
    let same = same_error c.from_residual-in_err-refuted.result e c.from_residual-in_err-refuted.ensures.1 in
    let ns = c.args.terms.now in
    let levels = c.args.levels.now in
    let assumed = c.args.assumed.now in
    let work = c.solve.new.work in
    let May : Task → Type 0 = λ q. MayGoOnFrom ns levels assumed q c.args.work.now c.args.kept in
    subst (λ r. IfErr r (λ (s : Stop). OnSpent s ((q : Task) → May q → IsSpentLegally q (noted_list ns work)))) same
    (on_spent_all May (λ q. IsSpentLegally q (noted_list ns work)) e
    (λ q may.
    let at = (c.in_ok-prepared.ensures.may q may).0 in
    spent_of ns levels assumed q c.args.work.now work e may.asked (c.solve.ensures.plain levels q at) (c.in_err-refuted.ensures.stopped levels q at) c.in_err-refuted.ensures.spent
    c.in_err-refuted.ensures.under))

pub returns-in_err-refuted-clause-more : goal.returns-in_err-refuted-clause-more
returns-in_err-refuted-clause-more c = one_more (c.solve.ensures.plain c.args.levels.now c.requires.from.0 (c.in_ok-prepared.ensures.may c.requires.from.0 c.requires.from.1).0)

-- ---- A clause refutes

pub returns-in-Some-clause-answer : goal.returns-in-Some-clause-answer
returns-in-Some-clause-answer c =
    let ns = c.args.terms.now in
    let levels = c.args.levels.now in
    let assumed = c.args.assumed.now in
    let log = c.solve.new.self.log in
    let posed : IsPosed ns levels assumed c.solve.new.self = c.in_ok-refuted.ensures.posed levels (c.in_ok-prepared.ensures.may c.requires.from.0 c.requires.from.1).0.posed in
    let negations : AreNegations assumed (literals_in log c.in-Some.clause) = rw c.in-Some.is at c.in_ok-refuted.ensures.refuted in
    (dead_end c.clauses_are_true.ensures.clauses ns posed.table (asserted_by_level levels) log posed.standing.raised.order assumed c.in-Some.clause negations, negations)

pub returns-in-Some-clause-parts : goal.returns-in-Some-clause-parts
returns-in-Some-clause-parts c = c.in_ok-refuted.ensures.parts c.args.levels.now (c.in_ok-prepared.ensures.may c.requires.from.0 c.requires.from.1).0.posed

pub returns-in-Some-clause-keeps : goal.returns-in-Some-clause-keeps
returns-in-Some-clause-keeps c = retains_then c.in_ok-prepared.ensures.keeps c.in_ok-refuted.ensures.keeps

pub returns-in-Some-clause-readied : goal.returns-in-Some-clause-readied
returns-in-Some-clause-readied c =
    let levels = c.args.levels.now in
    let q = c.requires.from.0 in
    let at = c.in_ok-prepared.ensures.may q c.requires.from.1 in
    readied_after c.theories_restart.ensures.restart c.args.terms.now levels c.args.assumed.now q c.solve.new.work c.solve.new.self (c.in_ok-refuted.ensures.posed levels at.0.posed)
    (c.in_ok-refuted.ensures.under_way levels (without_goals q) at.1)

pub returns-in-Some-clause-under_way : goal.returns-in-Some-clause-under_way
returns-in-Some-clause-under_way c = λ q may.
    let levels = c.args.levels.now in
    let at = c.in_ok-prepared.ensures.may q may in
    (c.in_ok-refuted.ensures.under_way levels q at.0, c.in_ok-refuted.ensures.under_way levels (without_goals q) at.1)

pub returns-in-Some-clause-legal : goal.returns-in-Some-clause-legal
returns-in-Some-clause-legal c = λ q may.
    let ns = c.args.terms.now in
    let levels = c.args.levels.now in
    let assumed = c.args.assumed.now in
    let work = c.solve.new.work in
    let at = (c.in_ok-prepared.ensures.may q may).0 in
    let leads = (c.in_ok-refuted.ensures.under_way levels q at).leads in
    legal_at ns levels assumed q c.args.work.now work may.asked (c.solve.ensures.plain levels q at) leads.point leads.legal

pub returns-in-Some-clause-more : goal.returns-in-Some-clause-more
returns-in-Some-clause-more c = one_more (c.solve.ensures.plain c.args.levels.now c.requires.from.0 (c.in_ok-prepared.ensures.may c.requires.from.0 c.requires.from.1).0)

-- ---- Values are found

pub model-requires-clause-covers : goal.model-requires-clause-covers
model-requires-clause-covers c = (c.in_ok-refuted.ensures.posed c.args.levels.now (c.in_ok-prepared.ensures.may c.requires.from.0 c.requires.from.1).0.posed).standing.raised.covers

pub model-requires-clause-found : goal.model-requires-clause-found
model-requires-clause-found c = (c.args.assumed.now, c.in_ok-refuted.ensures.found c.in-None.is)

pub returns-in-Ok-clause-answer : goal.returns-in-Ok-clause-answer
returns-in-Ok-clause-answer c =
    c.in-Ok.ensures.model c.args.levels.now c.args.assumed.now (c.in_ok-refuted.ensures.posed c.args.levels.now (c.in_ok-prepared.ensures.may c.requires.from.0 c.requires.from.1).0.posed) (c.in_ok-refuted.ensures.found c.in-None.is)

pub returns-in-Ok-clause-parts : goal.returns-in-Ok-clause-parts
returns-in-Ok-clause-parts c = c.in_ok-refuted.ensures.parts c.args.levels.now (c.in_ok-prepared.ensures.may c.requires.from.0 c.requires.from.1).0.posed

pub returns-in-Ok-clause-keeps : goal.returns-in-Ok-clause-keeps
returns-in-Ok-clause-keeps c = retains_then c.in_ok-prepared.ensures.keeps c.in_ok-refuted.ensures.keeps

pub returns-in-Ok-clause-readied : goal.returns-in-Ok-clause-readied
returns-in-Ok-clause-readied c =
    let levels = c.args.levels.now in
    let q = c.requires.from.0 in
    let at = c.in_ok-prepared.ensures.may q c.requires.from.1 in
    readied_after c.theories_restart.ensures.restart c.args.terms.now levels c.args.assumed.now q c.solve.new.work c.solve.new.self (c.in_ok-refuted.ensures.posed levels at.0.posed)
    (c.in_ok-refuted.ensures.under_way levels (without_goals q) at.1)

pub returns-in-Ok-clause-under_way : goal.returns-in-Ok-clause-under_way
returns-in-Ok-clause-under_way c = λ q may.
    let levels = c.args.levels.now in
    let at = c.in_ok-prepared.ensures.may q may in
    (c.in_ok-refuted.ensures.under_way levels q at.0, c.in_ok-refuted.ensures.under_way levels (without_goals q) at.1)

pub returns-in-Ok-clause-legal : goal.returns-in-Ok-clause-legal
returns-in-Ok-clause-legal c = λ q may.
    let ns = c.args.terms.now in
    let levels = c.args.levels.now in
    let assumed = c.args.assumed.now in
    let work = c.solve.new.work in
    let at = (c.in_ok-prepared.ensures.may q may).0 in
    let leads = (c.in_ok-refuted.ensures.under_way levels q at).leads in
    legal_at ns levels assumed q c.args.work.now work may.asked (c.solve.ensures.plain levels q at) leads.point leads.legal

pub returns-in-Ok-clause-more : goal.returns-in-Ok-clause-more
returns-in-Ok-clause-more c = one_more (c.solve.ensures.plain c.args.levels.now c.requires.from.0 (c.in_ok-prepared.ensures.may c.requires.from.0 c.requires.from.1).0)

pub returns-in-Err-clause-legal : goal.returns-in-Err-clause-legal
returns-in-Err-clause-legal c = λ q may.
    let ns = c.args.terms.now in
    let levels = c.args.levels.now in
    let assumed = c.args.assumed.now in
    let work = c.solve.new.work in
    let at = (c.in_ok-prepared.ensures.may q may).0 in
    let leads = (c.in_ok-refuted.ensures.under_way levels q at).leads in
    legal_at ns levels assumed q c.args.work.now work may.asked (c.solve.ensures.plain levels q at) leads.point leads.legal

pub returns-in-Err-clause-more : goal.returns-in-Err-clause-more
returns-in-Err-clause-more c = one_more (c.solve.ensures.plain c.args.levels.now c.requires.from.0 (c.in_ok-prepared.ensures.may c.requires.from.0 c.requires.from.1).0)

pub returns-in-Err-clause-spent : goal.returns-in-Err-clause-spent
returns-in-Err-clause-spent c = none_spent c.in-Err.stop _ c.in-Err.ensures.unspent

pub returns-in-Err-clause-stopped : goal.returns-in-Err-clause-stopped
returns-in-Err-clause-stopped c =
    let ns = c.args.terms.now in
    let levels = c.args.levels.now in
    let assumed = c.args.assumed.now in
    let work = c.solve.new.work in
    let May : Task → Type 0 = λ q. MayGoOnFrom ns levels assumed q c.args.work.now c.args.kept in
    on_wide_all May (λ q. IsStop ns q work) c.in-Err.stop
    (λ q may.
    let at = (c.in_ok-prepared.ensures.may q may).0 in
    let u = c.in_ok-refuted.ensures.under_way levels q at in
    model_stop ns levels assumed q c.args.work.now work may.asked (c.solve.ensures.plain levels q at) c.solve.ensures.works.within c.solve.new.self.sat.theory c.in-Err.stop
    (c.in-Err.ensures.place q.listed u.covered) u.leads
    (told_enough c.rows_meet_tables.ensures.met c.term_has_its_number.ensures.number c.atoms_of_terms.ensures.atoms ns levels assumed c.solve.new.self
    (c.in_ok-refuted.ensures.posed levels at.posed) (c.in_ok-refuted.ensures.found c.in-None.is) q at.asserted at.numbering u.named (search_after ns work) (c.in_ok-refuted.ensures.told c.in-None.is)))

pub returns-in-Err-clause-place_within : goal.returns-in-Err-clause-place_within
returns-in-Err-clause-place_within c =
    let ns = c.args.terms.now in
    let levels = c.args.levels.now in
    let assumed = c.args.assumed.now in
    let work = c.solve.new.work in
    let q = c.requires.from.0 in
    let may = c.requires.from.1 in
    let at = (c.in_ok-prepared.ensures.may q may).0 in
    let u = c.in_ok-refuted.ensures.under_way levels q at in
    stop_within ns q work c.in-Err.stop
    (model_stop ns levels assumed q c.args.work.now work may.asked (c.solve.ensures.plain levels q at) c.solve.ensures.works.within c.solve.new.self.sat.theory c.in-Err.stop
    (c.in-Err.ensures.place q.listed u.covered) u.leads
    (told_enough c.rows_meet_tables.ensures.met c.term_has_its_number.ensures.number c.atoms_of_terms.ensures.atoms ns levels assumed c.solve.new.self
    (c.in_ok-refuted.ensures.posed levels at.posed) (c.in_ok-refuted.ensures.found c.in-None.is) q at.asserted at.numbering u.named (search_after ns work) (c.in_ok-refuted.ensures.told c.in-None.is)))
