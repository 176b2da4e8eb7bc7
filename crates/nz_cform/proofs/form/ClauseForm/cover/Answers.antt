-- The level is told, the term is listed, its clauses are put, and then their bounds are listed.
use Rattle.std.proofs.Common.{◌≡◌, ℕ, List, length, take, drop, ◌-◌, Err, IfErr, sym, subst, rules, All}
use Rattle.std.proofs.lemmas.List.Elements.{All-weaker}
use Rattle.nz_spec.specs.terms.Table.{term_in}
use Rattle.nz_log.specs.Sound.{IsLog}
use Rattle.nz_cform.specs.declared.stop.FormStop.{FormStop}
use Rattle.nz_cform.specs.Listings as listings
use Rattle.nz_cform.specs.Listings.{Takes}
use Rattle.nz_cform.specs.Forms.{FormState, Grows}
use Rattle.nz_cform.specs.Covering.{AddsRows, AreBoundsListed, AreBoundsOf, GoesOn, HasRows, IsOnAtoms, IsRowAt}
use Rattle.nz_cform.specs.Stops.{IsStopIn, OnWide}
use Rattle.nz_cform.proofs.Added.{adds_from_same, adds_twice, goes_twice, rest_is}
use Rattle.nz_cform.proofs.CoveredTerms.{bounds_listed, rows_covered}
use Rattle.nz_cform.proofs.Listed.{grows_itself, takes_grow}
use Rattle.nz_cform.proofs.TableRows.{links_stop, units_stop}
use Rattle.nz_cform.proofs.form.ClauseForm.cover.Goals as goal
use Rattle.nz_cform.proofs.form.ClauseForm.cover.Goals.{In_ok-put, In_ok-add_rows-2, In_ok-list_bounds, After-deref}

-- ---- What is known on the way

takes_here : (c : In_ok-put) → Takes c.args.self.now.terms c.args.term c.args.level c.put.new.self
takes_here c = subst (λ (q : FormState). Takes q.terms c.args.term c.args.level c.put.new.self) c.self.view_is c.in_ok-put.ensures.taken

-- the term is listed, and no bound
listed_alone : (c : In_ok-put) → Grows c.args.self.now c.args.level (record { terms = c.put.new.self; bounds = c.self.inside.bounds })
listed_alone c =
    record {
      terms = takes_grow c.args.self.now.terms c.put.new.self c.args.term c.args.level (takes_here c) c.requires.uncovered;
      bounds = subst (λ (q : FormState). listings.Grows q.bounds c.args.level c.self.inside.bounds) c.self.view_is (grows_itself c.self.inside.bounds c.args.level);
    }

rows_here : (c : In_ok-add_rows-2) → (r : FormState) → Takes c.args.self.now.terms c.args.term c.args.level r.terms → HasRows c.args.terms.now c.add_rows-2.new.log r
rows_here c r takes =
    let told = c.in_ok-place.ensures in
    rows_covered c.args.terms.now c.args.log.now c.place.new.self c.add_gates.new.log c.add_rows.new.log c.add_rows-2.new.log c.args.self.now r c.args.term c.args.level
    told.clauses told.atoms takes c.requires.uncovered told.told told.others c.requires.told c.requires.rows
    c.in_ok-add_gates.ensures.rows (λ q g. c.in_ok-add_rows.ensures.rows q g 0) c.in_ok-add_rows-2.ensures.rows

adds_here : (c : In_ok-add_rows-2) → AddsRows c.args.term c.place.new.self c.args.clauses.now.items c.add_rows-2.new.log c.add_rows-2.new.clauses.items
adds_here c =
    let t = c.args.term in
    let start = c.place.new.self in
    let links = c.in_ok-add_rows.ensures in
    let units = c.in_ok-add_rows-2.ensures in
    adds_twice start c.add_rows.new.log c.add_rows-2.new.log units.goes.keeps t c.args.clauses.now.items c.add_rows.new.clauses.items c.add_rows-2.new.clauses.items
    (adds_twice start c.add_gates.new.log c.add_rows.new.log links.goes.keeps t c.args.clauses.now.items c.add_gates.new.clauses.items c.add_rows.new.clauses.items
    c.in_ok-add_gates.ensures.adds links.adds)
    units.adds

goes_here : (c : In_ok-add_rows-2) → GoesOn c.args.terms.now c.place.new.self c.add_rows-2.new.log
goes_here c =
    let ns = c.args.terms.now in
    goes_twice ns c.place.new.self c.add_rows.new.log c.add_rows-2.new.log
    (goes_twice ns c.place.new.self c.add_gates.new.log c.add_rows.new.log c.in_ok-add_gates.ensures.goes c.in_ok-add_rows.ensures.goes) c.in_ok-add_rows-2.ensures.goes

sound_here : (c : In_ok-add_rows-2) → (levels : List (List ℕ)) → IsLog c.args.terms.now levels c.args.log.now → IsLog c.args.terms.now levels c.add_rows-2.new.log
sound_here c levels order = (goes_here c).sound levels (c.in_ok-place.ensures.sound c.args.terms.now levels order)

-- the clauses whose bounds are listed are the new ones
these : (c : After-deref) → take (length c.deref.result.now - c.len-from.result) (drop c.len-from.result c.deref.result.now) ≡ (adds_here (goal.at.After-deref c).In_ok-add_rows-2).more
these c =
    let adds = adds_here (goal.at.After-deref c).In_ok-add_rows-2 in
    let from : length c.args.clauses.now.items ≡ c.len-from.result = search rules in
    rest_is c.deref.result.now c.add_rows-2.new.clauses.items c.args.clauses.now.items adds.more c.len-from.result c.deref.ensures.value adds.joined from

-- ---- Ways out before the end

pub returns-in_err-put-clause-sound : goal.returns-in_err-put-clause-sound
returns-in_err-put-clause-sound c levels order = c.in_ok-place.ensures.sound c.args.terms.now levels order

pub returns-in_err-add_gates-clause-sound : goal.returns-in_err-add_gates-clause-sound
returns-in_err-add_gates-clause-sound c levels order = c.add_gates.ensures.goes.sound levels (c.in_ok-place.ensures.sound c.args.terms.now levels order)

pub returns-in_err-add_rows-clause-stop : goal.returns-in_err-add_rows-clause-stop
returns-in_err-add_rows-clause-stop c =
    let same : c.from_residual-in_err-add_rows.result ≡ Err c.in_err-add_rows.field-0.0 = search rules in
    let stop : FormStop = c.in_err-add_rows.field-0.0 in
    subst (λ r. IfErr r (λ (e : FormStop). OnWide e (IsStopIn c.args.terms.now (term_in c.args.terms.now c.args.term)))) (sym same)
    (links_stop c.args.terms.now c.args.term c.requires.within stop c.in_err-add_rows.ensures.stop)

pub returns-in_err-add_rows-2-clause-stop : goal.returns-in_err-add_rows-2-clause-stop
returns-in_err-add_rows-2-clause-stop c =
    let same : c.from_residual-in_err-add_rows-2.result ≡ Err c.in_err-add_rows-2.field-0.0 = search rules in
    let stop : FormStop = c.in_err-add_rows-2.field-0.0 in
    subst (λ r. IfErr r (λ (e : FormStop). OnWide e (IsStopIn c.args.terms.now (term_in c.args.terms.now c.args.term)))) (sym same)
    (units_stop c.args.terms.now c.args.term c.requires.within c.in_ok-add_rows.ensures.fits stop c.in_err-add_rows-2.ensures.stop)

pub returns-in_err-add_rows-clause-grown : goal.returns-in_err-add_rows-clause-grown
returns-in_err-add_rows-clause-grown c = listed_alone (goal.at.returns-in_err-add_rows-clause-grown c).In_ok-put

pub returns-in_err-add_rows-clause-sound : goal.returns-in_err-add_rows-clause-sound
returns-in_err-add_rows-clause-sound c levels order =
    c.add_rows.ensures.goes.sound levels (c.in_ok-add_gates.ensures.goes.sound levels (c.in_ok-place.ensures.sound c.args.terms.now levels order))

pub returns-in_err-add_rows-2-clause-grown : goal.returns-in_err-add_rows-2-clause-grown
returns-in_err-add_rows-2-clause-grown c = listed_alone (goal.at.returns-in_err-add_rows-2-clause-grown c).In_ok-put

pub returns-in_err-add_rows-2-clause-sound : goal.returns-in_err-add_rows-2-clause-sound
returns-in_err-add_rows-2-clause-sound c levels order =
    c.add_rows-2.ensures.goes.sound levels
    (c.in_ok-add_rows.ensures.goes.sound levels (c.in_ok-add_gates.ensures.goes.sound levels (c.in_ok-place.ensures.sound c.args.terms.now levels order)))

pub returns-in_err-list_bounds-clause-sound : goal.returns-in_err-list_bounds-clause-sound
returns-in_err-list_bounds-clause-sound c = sound_here (goal.at.returns-in_err-list_bounds-clause-sound c).In_ok-add_rows-2

-- ---- The bounds of the new clauses

pub list_bounds-requires-clause-rows : goal.list_bounds-requires-clause-rows
list_bounds-requires-clause-rows c =
    let before = (goal.at.list_bounds-requires-clause-rows c).In_ok-add_rows-2 in
    subst (All (λ i. (t : ℕ) × IsRowAt c.add_rows-2.new.log i t)) (sym (these (goal.at.list_bounds-requires-clause-rows c).After-deref)) (adds_here before).added.rows

pub list_bounds-requires-clause-on_atoms : goal.list_bounds-requires-clause-on_atoms
list_bounds-requires-clause-on_atoms c =
    let before = (goal.at.list_bounds-requires-clause-on_atoms c).In_ok-add_rows-2 in
    let adds = adds_here before in
    let rows = rows_here before (record { terms = c.put.new.self; bounds = c.self.inside.bounds }) (takes_here (goal.at.list_bounds-requires-clause-on_atoms c).In_ok-put) in
    subst (All (IsOnAtoms c.add_rows-2.new.log)) (sym (these (goal.at.list_bounds-requires-clause-on_atoms c).After-deref))
    (All-weaker (λ i. (t : ℕ) × IsRowAt c.add_rows-2.new.log i t) (IsOnAtoms c.add_rows-2.new.log) (λ i row. rows.on_atoms i row.0 row.1) adds.more adds.added.rows)

-- ---- At the end

abbrev now_covered : In_ok-list_bounds → FormState
now_covered c = record { terms = c.put.new.self; bounds = c.list_bounds.new.bounds }

pub returns-clause-rows : goal.returns-clause-rows
returns-clause-rows c =
    rows_here (goal.at.returns-clause-rows c).In_ok-add_rows-2 (now_covered (goal.at.returns-clause-rows c).In_ok-list_bounds) (takes_here (goal.at.returns-clause-rows c).In_ok-put)

pub returns-clause-bounds : goal.returns-clause-bounds
returns-clause-bounds c =
    let before = (goal.at.returns-clause-bounds c).In_ok-add_rows-2 in
    let takes = takes_here (goal.at.returns-clause-bounds c).In_ok-put in
    let new = c.add_rows-2.new.log in
    let r = now_covered (goal.at.returns-clause-bounds c).In_ok-list_bounds in
    let adds = adds_here before in
    let same = these (goal.at.returns-clause-bounds c).After-deref in
    let did = c.in_ok-list_bounds.ensures in
    let told = c.in_ok-place.ensures in
    bounds_listed c.args.terms.now c.args.log.now c.place.new.self new c.args.self.now r c.args.term c.args.level told.clauses told.atoms c.requires.rows c.requires.bounds c.requires.told
    (goes_here before).keeps adds.more adds.added adds.of_term (rows_here before r takes) takes.here
    (subst (λ (q : FormState). listings.Grows q.bounds c.args.level r.bounds) c.self.view_is did.grown)
    (subst (λ (ids : List ℕ). AreBoundsListed new ids r.bounds) same did.listed)
    (subst (λ (q : FormState). AreBoundsOf new adds.more q.bounds r.bounds) c.self.view_is
    (subst (λ (ids : List ℕ). AreBoundsOf new ids c.self.inside.bounds r.bounds) same did.only))

pub returns-clause-adds : goal.returns-clause-adds
returns-clause-adds c =
    adds_from_same c.args.term c.args.log.now c.place.new.self c.add_rows-2.new.log c.args.clauses.now.items c.add_rows-2.new.clauses.items c.in_ok-place.ensures.clauses
    (adds_here (goal.at.returns-clause-adds c).In_ok-add_rows-2)

pub returns-clause-sound : goal.returns-clause-sound
returns-clause-sound c = sound_here (goal.at.returns-clause-sound c).In_ok-add_rows-2
