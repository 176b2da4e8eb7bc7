-- The stack leads from one term to what it is made of.
use Rattle.std.proofs.Common.{◌≡◌, ◌<◌, [], ◌∷◌, ◌++◌, length, Err, ap, sym, subst, ◌∙◌, rules, IfErr}
use Rattle.nz_spec.specs.terms.Table.{term_in}
use Rattle.nz_cform.specs.declared.stop.FormStop.{FormStop}
use Rattle.nz_cform.specs.Forms.{Grows, covered_at}
use Rattle.nz_cform.specs.Covering.{kids_at}
use Rattle.nz_cform.specs.Stops.{IsStopIn, OnWide}
use Rattle.nz_cform.proofs.Listed.{has_some}
use Rattle.nz_cform.proofs.Sizes.{less_gone, less_opened, total}
use Rattle.nz_cform.proofs.Underway.{IsUnderway, cover_on, grows_more, is_taken, is_within, no_parts, none_waits, parts_on, skip, start_underway, stops_too}
use Rattle.nz_cform.proofs.form.ClauseForm.add_term.Goals as goal
use Rattle.nz_cform.proofs.form.ClauseForm.add_term.Goals.{After-cover, In-Some}

-- how far it has come, by what waits last
underway : (c : In-Some)
    → IsUnderway c.args.terms.now c.args.id c.args.level c.args.log.now c.args.self.now c.loop-term.log c.loop-term.self c.loop-term.clauses.items (c.pop.new.self.items ++ c.in-Some.term ∷ [])
underway c =
    subst (IsUnderway c.args.terms.now c.args.id c.args.level c.args.log.now c.args.self.now c.loop-term.log c.loop-term.self c.loop-term.clauses.items)
    c.in-Some.ensures.items c.loop-term.invariant

-- what a term that is covered adds
grown_here : (c : After-cover) → Grows c.args.self.now c.args.level c.cover.new.self
grown_here c = grows_more c.args.self.now c.loop-term.self c.cover.new.self c.args.level c.loop-term.invariant.grown c.cover.ensures.grown

pub loop-term-init : goal.loop-term-init
loop-term-init c =
    subst (λ l. IsUnderway c.args.terms.now c.args.id c.args.level c.args.log.now c.args.self.now c.args.log.now c.args.self.now l c.push.new.self.items)
    (sym c.new-clauses.ensures.items)
    (start_underway c.args.terms.now c.args.id c.args.level c.args.log.now c.args.self.now c.requires.within c.requires.covers c.requires.told c.push.new.self.items
    (c.in_ok-push.ensures.items ∙ ap (λ l. l ++ c.args.id ∷ []) c.new-waiting.ensures.items))

-- ---- A term that isn't covered

pub cover-requires-clause-taken : goal.cover-requires-clause-taken
cover-requires-clause-taken c =
    is_taken c.args.terms.now c.args.id c.args.level c.args.log.now c.args.self.now c.loop-term.log c.loop-term.self c.loop-term.clauses.items
    c.pop.new.self.items c.in-Some.term (underway (goal.at.cover-requires-clause-taken c).In-Some) c.taken_terms_are_in_order.ensures.order c.requires.taken

pub put_parts-requires-clause-within : goal.put_parts-requires-clause-within
put_parts-requires-clause-within c =
    is_within c.args.terms.now c.args.id c.args.level c.args.log.now c.args.self.now c.loop-term.log c.loop-term.self c.loop-term.clauses.items
    c.pop.new.self.items c.in-Some.term (underway (goal.at.put_parts-requires-clause-within c).In-Some)

pub returns-in_err-cover-clause-grown : goal.returns-in_err-cover-clause-grown
returns-in_err-cover-clause-grown c = grown_here (goal.at.returns-in_err-cover-clause-grown c).After-cover

pub returns-in_err-cover-clause-sound : goal.returns-in_err-cover-clause-sound
returns-in_err-cover-clause-sound c levels order = c.cover.ensures.sound levels (c.loop-term.invariant.sound levels order)

pub returns-in_err-cover-clause-made_of : goal.returns-in_err-cover-clause-made_of
returns-in_err-cover-clause-made_of c =
    parts_on c.args.terms.now c.args.id c.args.level c.args.log.now c.args.self.now c.loop-term.log c.loop-term.self c.loop-term.clauses.items
    c.pop.new.self.items c.in-Some.term (underway (goal.at.returns-in_err-cover-clause-made_of c).In-Some) c.cover.new.self c.cover.ensures.only

pub returns-in_err-cover-clause-stop : goal.returns-in_err-cover-clause-stop
returns-in_err-cover-clause-stop c =
    let same : c.from_residual-in_err-cover.result ≡ Err c.in_err-cover.field-0.0 = search rules in
    let stop : FormStop = c.in_err-cover.field-0.0 in
    subst (λ r. IfErr r (λ (e : FormStop). OnWide e (IsStopIn c.args.terms.now (term_in c.args.terms.now c.args.id)))) (sym same)
    (stops_too c.args.terms.now c.args.id c.args.level c.args.log.now c.args.self.now c.loop-term.log c.loop-term.self c.loop-term.clauses.items
    c.pop.new.self.items c.in-Some.term (underway (goal.at.returns-in_err-cover-clause-stop c).In-Some) stop c.in_err-cover.ensures.stop)

pub loop-term-smaller-in-Continue-branch-3 : goal.loop-term-smaller-in-Continue-branch-3
loop-term-smaller-in-Continue-branch-3 c =
    let term = term_in c.args.terms.now in
    let puts = c.in_ok-put_parts.ensures.puts in
    subst (λ l. total term c.put_parts.new.waiting.items < total term l) (sym c.in-Some.ensures.items)
    (subst (λ l. total term l < total term (c.pop.new.self.items ++ c.in-Some.term ∷ [])) (sym puts.joined)
    (less_opened term c.pop.new.self.items (kids_at c.args.terms.now c.in-Some.term) puts.companions c.in-Some.term puts.head puts.is puts.beside))

pub loop-term-preserved-in-Continue-branch-3 : goal.loop-term-preserved-in-Continue-branch-3
loop-term-preserved-in-Continue-branch-3 c =
    let ns = c.args.terms.now in
    let did = c.in_ok-cover.ensures in
    cover_on ns c.args.id c.args.level c.args.log.now c.args.self.now c.loop-term.log c.loop-term.self c.loop-term.clauses.items
    c.pop.new.self.items c.in-Some.term (underway (goal.at.loop-term-preserved-in-Continue-branch-3 c).In-Some) c.cover.new.log
    c.cover.new.self c.cover.new.clauses.items did.taken did.rows did.bounds did.adds did.grown did.kept did.told did.only did.sound
    c.put_parts.new.waiting.items c.in_ok-put_parts.ensures.puts

pub returns-in_err-put_parts-clause-grown : goal.returns-in_err-put_parts-clause-grown
returns-in_err-put_parts-clause-grown c = grown_here (goal.at.returns-in_err-put_parts-clause-grown c).After-cover

pub returns-in_err-put_parts-clause-sound : goal.returns-in_err-put_parts-clause-sound
returns-in_err-put_parts-clause-sound c levels order = c.cover.ensures.sound levels (c.loop-term.invariant.sound levels order)

pub returns-in_err-put_parts-clause-made_of : goal.returns-in_err-put_parts-clause-made_of
returns-in_err-put_parts-clause-made_of c =
    parts_on c.args.terms.now c.args.id c.args.level c.args.log.now c.args.self.now c.loop-term.log c.loop-term.self c.loop-term.clauses.items
    c.pop.new.self.items c.in-Some.term (underway (goal.at.returns-in_err-put_parts-clause-made_of c).In-Some) c.cover.new.self c.cover.ensures.only

pub returns-in_err-push-clause-made_of : goal.returns-in_err-push-clause-made_of
returns-in_err-push-clause-made_of c = no_parts c.args.terms.now c.args.id c.args.self.now

-- ---- A term that is covered

pub loop-term-smaller : goal.loop-term-smaller
loop-term-smaller c =
    let term = term_in c.args.terms.now in
    subst (λ l. total term c.pop.new.self.items < total term l) (sym c.in-Some.ensures.items) (less_gone term c.pop.new.self.items c.in-Some.term)

pub loop-term-preserved : goal.loop-term-preserved
loop-term-preserved c =
    let level = has_some (covered_at c.loop-term.self c.in-Some.term) (sym c.is_covered.ensures.covered ∙ c.if-not-is_covered.false) in
    skip c.args.terms.now c.args.id c.args.level c.args.log.now c.args.self.now c.loop-term.log c.loop-term.self c.loop-term.clauses.items
    c.pop.new.self.items c.in-Some.term (underway (goal.at.loop-term-preserved c).In-Some) level.0 level.1

-- ---- None waits

pub returns-clause-covers : goal.returns-clause-covers
returns-clause-covers c =
    let none : length c.loop-term.waiting.items ≡ 0 = search rules in
    none_waits c.args.terms.now c.args.id c.args.level c.args.log.now c.args.self.now c.loop-term.log c.loop-term.self c.loop-term.clauses.items
    c.loop-term.waiting.items none c.loop-term.invariant
