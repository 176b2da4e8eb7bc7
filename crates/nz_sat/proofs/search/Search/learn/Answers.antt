-- The learned clause is noted and held, and its literal is true where it is asserted.
use Rattle.std.proofs.Common.{◌≡◌, ◌*◌, ◌<◌, ◌≤◌, ◌++◌, ◌∷◌, [], Err, List, Ok, Option, length, take, drop, vec_len, sym, ap, subst, ◌∙◌, arith, rules}
use Rattle.std.specs.Prelude.{⊤, IfSome}
use Rattle.std.proofs.lemmas.List.{take_all, take-append-le}
use Rattle.nz_spec.specs.search.Work.{WorkList}
use Rattle.nz_log.specs.declared.lits.Lit.{Lit}
use Rattle.nz_search.specs.declared.note.Note.{Note}
use Rattle.nz_search.specs.declared.stop.Stop.TheVariants as stop
use Rattle.nz_sat.specs.declared.clauses.Held.{Held}
use Rattle.nz_sat.specs.declared.propagation.Propagation.{Propagation}
use Rattle.nz_sat.specs.declared.search.Search.{Search}
use Rattle.nz_sat.specs.Conflicts.{AreUnmarked}
use Rattle.nz_log.specs.Codes.{code_of}
use Rattle.nz_sat.specs.Sats.{AreHeld, AreOn, HoldsMore, learned_of}
use Rattle.nz_sat.specs.Searching.{Advances, Learns}
use Rattle.nz_sat.specs.Theories.{state_of, told_lits}
use Rattle.nz_sat.proofs.SearchSteps.{advances_same, ends_memory, log_reaches, narrow_advances}
use Rattle.nz_sat.proofs.LogGrowth.{order_over}
use Rattle.nz_sat.proofs.Backjumps.{clause_within, learned, learned_ends, literal_missing, literal_within}
use Rattle.nz_sat.proofs.LearnedLines.{conflict_like, kept_learned, line_advances, line_memory, line_wanting, lits_named, taught}
use Rattle.nz_sat.proofs.LearnedWatches.{Holds, watched_pair}
use Rattle.nz_sat.proofs.search.Search.learn.Goals as goal

pub learned_clause-requires-clause-once : goal.learned_clause-requires-clause-once
learned_clause-requires-clause-once g c =
    conflict_like c.args.log.now c.args.held.now.items c.args.self.now c.requires.search c.requires.first c.requires.decided c.args.falsified c.requires.conflict

pub returns-in_err-learned_clause-clause-advances : goal.returns-in_err-learned_clause-clause-advances
returns-in_err-learned_clause-clause-advances g c =
    let s = c.args.self.now in
    let m = state_of g.T.Theory.is_over g.T.Theory.has_told g.T.Theory.is_feasible g.T.Theory.is_of g.T.Theory.is_at c.args.theory.now in
    let same : Err stop.Memory ≡ c.from_residual.result = search rules in
    advances_same same
    (log_reaches m s s.trail.entries c.args.log.now c.learned_clause.new.log c.args.held.now.items c.args.work.now c.requires.search.are_held c.learned_clause.ensures.grows
    (order_over (g.T.Theory.is_over c.args.theory.now) s.atoms s.trail.entries c.requires.search.on.on_trail c.args.log.now c.learned_clause.new.log (λ ns levels known. c.learned_clause.ensures.sound ns levels))
    (Err stop.Memory) (ends_memory ⊤ m m c.args.log.now c.args.held.now.items s.atoms (told_lits s.bounds s.trail.entries) s.trail.entries c.args.work.now))

pub note_learned-requires-clause-named : goal.note_learned-requires-clause-named
note_learned-requires-clause-named g c =
    lits_named c.args.log.now c.learned_clause.new.log c.args.held.now.items c.args.self.now c.args.work.now c.args.falsified c.kept-learned.result
    (taught c.args.falsified c.requires.search c.requires.first c.requires.conflict c.requires.decided c.requires.noted c.learned_clause.ensures.grows
    c.learned_clause.ensures.sound (kept_learned c.kept-learned.ensures.same c.kept-learned.ensures.kept c.in_ok-learned_clause.ensures.learned))

pub returns-in_err-note_learned-clause-advances : goal.returns-in_err-note_learned-clause-advances
returns-in_err-note_learned-clause-advances g c =
    let s = c.args.self.now in
    let held = c.args.held.now.items in
    let m = (state_of g.T.Theory.is_over g.T.Theory.has_told g.T.Theory.is_feasible g.T.Theory.is_of g.T.Theory.is_at c.args.theory.now) in
    let e = c.in_err-note_learned.field-0.0 in
    let same : Err e ≡ c.from_residual-in_err-note_learned.result = search rules in
    subst (λ (hs : List Held). Advances m m s s.trail.entries c.args.log.now c.learned_clause.new.log held hs c.args.work.now c.note_learned.new.work c.from_residual-in_err-note_learned.result)
    (sym c.note_learned.ensures.held)
    (subst (λ (w : WorkList Note). Advances m m s s.trail.entries c.args.log.now c.learned_clause.new.log held held c.args.work.now w c.from_residual-in_err-note_learned.result)
    (sym c.in_err-note_learned.ensures.err)
    (narrow_advances m s s.trail.entries c.args.log.now c.learned_clause.new.log held c.args.work.now c.requires.search.are_held c.learned_clause.ensures.grows
    (order_over (g.T.Theory.is_over c.args.theory.now) s.atoms s.trail.entries c.requires.search.on.on_trail c.args.log.now c.learned_clause.new.log (λ ns levels known. c.learned_clause.ensures.sound ns levels))
    e c.in_err-note_learned.ensures.narrow
    (line_wanting c.args.log.now c.learned_clause.new.log held s c.args.work.now c.args.falsified c.kept-learned.result
    (taught c.args.falsified c.requires.search c.requires.first c.requires.conflict c.requires.decided c.requires.noted c.learned_clause.ensures.grows
    c.learned_clause.ensures.sound (kept_learned c.kept-learned.ensures.same c.kept-learned.ensures.kept c.in_ok-learned_clause.ensures.learned)) ⊤ c.tells_lits.ensures.tells c.clauses_are_true.ensures.clauses c.negation_is_other.ensures.other m m)
    c.from_residual-in_err-note_learned.result same))

pub go_back-requires-clause-free : goal.go_back-requires-clause-free
go_back-requires-clause-free g c =
    literal_missing c.args.log.now c.learned_clause.new.log c.args.held.now.items c.args.self.now c.args.work.now c.args.falsified c.kept-learned.result
    (taught c.args.falsified c.requires.search c.requires.first c.requires.conflict c.requires.decided c.requires.noted c.learned_clause.ensures.grows
    c.learned_clause.ensures.sound (kept_learned c.kept-learned.ensures.same c.kept-learned.ensures.kept c.in_ok-learned_clause.ensures.learned))

pub go_back-requires-clause-within : goal.go_back-requires-clause-within
go_back-requires-clause-within g c =
    literal_within c.args.log.now c.learned_clause.new.log c.args.held.now.items c.args.self.now c.args.work.now c.args.falsified c.kept-learned.result
    (taught c.args.falsified c.requires.search c.requires.first c.requires.conflict c.requires.decided c.requires.noted c.learned_clause.ensures.grows
    c.learned_clause.ensures.sound (kept_learned c.kept-learned.ensures.same c.kept-learned.ensures.kept c.in_ok-learned_clause.ensures.learned))

-- Each literal that is watched has its list.
pub hold-requires-2-clause-within : goal.hold-requires-2-clause-within
hold-requires-2-clause-within g c =
    let n = length c.go_back.new.self.propagation.watches.lists.items in
    let same : n ≡ length c.args.self.now.propagation.watches.lists.items = ap (λ (p : Propagation). length p.watches.lists.items) c.go_back.ensures.looked in
    let room : 2 * c.args.self.now.trail.size ≤ n = omega (arith, c.requires.search.watched.room, same) in
    subst (λ (pair : Option (Lit × Lit)). IfSome pair (λ (p : Lit × Lit). (code_of p.0 < n) × (code_of p.1 < n))) (sym c.watched.ensures.watched)
    (clause_within c.args.log.now c.learned_clause.new.log c.args.held.now.items c.args.self.now c.args.work.now c.args.falsified c.kept-learned.result
    (taught c.args.falsified c.requires.search c.requires.first c.requires.conflict c.requires.decided c.requires.noted c.learned_clause.ensures.grows
    c.learned_clause.ensures.sound (kept_learned c.kept-learned.ensures.same c.kept-learned.ensures.kept c.in_ok-learned_clause.ensures.learned)) n room)

pub returns-in_err-hold-clause-advances : goal.returns-in_err-hold-clause-advances
returns-in_err-hold-clause-advances g c =
    let same : Err stop.Memory ≡ c.from_residual-in_err-hold.result = search rules in
    let m = state_of g.T.Theory.is_over g.T.Theory.has_told g.T.Theory.is_feasible g.T.Theory.is_of g.T.Theory.is_at c.args.theory.now in
    let m' = state_of g.T.Theory.is_over g.T.Theory.has_told g.T.Theory.is_feasible g.T.Theory.is_of g.T.Theory.is_at c.go_back.new.theory in
    let s = c.args.self.now in
    let l = c.kept-learned.result in
    let log = c.learned_clause.new.log in
    let old = c.note_learned.ensures.held in
    let before = taught c.args.falsified c.requires.search c.requires.first c.requires.conflict c.requires.decided c.requires.noted c.learned_clause.ensures.grows c.learned_clause.ensures.sound (kept_learned c.kept-learned.ensures.same c.kept-learned.ensures.kept c.in_ok-learned_clause.ensures.learned) in
    advances_same same
    (line_advances c.args.log.now log c.args.held.now.items s c.args.work.now c.args.falsified l before m m' c.go_back.ensures.keeps
    c.hold.new.held.items (subst (λ (hs : List Held). HoldsMore log hs c.hold.new.held.items) old c.hold.ensures.more)
    (c.hold.ensures.held ∙ ap (λ (hs : List Held). hs ++ learned_of log l.clause l.glue ∷ []) old)
    (subst (λ (hs : List Held). AreOn log s.atoms hs → AreOn log s.atoms c.hold.new.held.items) old
    (c.hold.ensures.named s.atoms (lits_named c.args.log.now log c.args.held.now.items s c.args.work.now c.args.falsified l before)))
    c.note_learned.new.work c.in_ok-note_learned.ensures.noted (Err stop.Memory)
    (line_memory c.args.log.now log c.args.held.now.items s c.args.work.now c.args.falsified l before ⊤ c.tells_lits.ensures.tells c.clauses_are_true.ensures.clauses
    c.negation_is_other.ensures.other c.legal_work_goes_on.ensures.goes_on m m'))

pub returns-clause-advances : goal.returns-clause-advances
returns-clause-advances g c =
    let s = c.args.self.now in
    let l = c.kept-learned.result in
    let log = c.learned_clause.new.log in
    let back = c.go_back.ensures.rest in
    let p = c.go_back.new.self.propagation in
    let q = c.hold-2.new.self in
    let new : Search = record c.go_back.new.self { propagation = q } in
    let marks = c.learned_clause.new.seen in
    let rest = drop (length marks) s.seen.items in
    let long : vec_len s.seen ≡ length marks = search rules in
    let same : take (vec_len s.seen) (marks ++ rest) ≡ marks = take-append-le (vec_len s.seen) marks rest (omega arith) ∙ take_all (vec_len s.seen) marks (omega arith) in
    let lengths : length new.seen.items ≡ length s.seen.items = ap (λ (x : Search). length x.seen.items) back ∙ search rules in
    let unmarked : AreUnmarked new.seen.items = subst (λ (x : Search). AreUnmarked x.seen.items) (sym back) (subst AreUnmarked (sym same) c.in_ok-learned_clause.ensures.unmarked) in
    let old = c.note_learned.ensures.held in
    let all_held = c.hold.ensures.held ∙ ap (λ (hs : List Held). hs ++ learned_of log l.clause l.glue ∷ []) old in
    let told = c.in_ok-hold.ensures in
    let holds : Holds log (learned_of log l.clause l.glue) (watched_pair l) p q =
    subst (λ (one : Held). Holds log one (watched_pair l) p q) c.learned-one.ensures.held
    (subst (λ (pair : Option (Lit × Lit)). Holds log c.learned-one.result pair p q) c.watched.ensures.watched
    (record { watched = told.watched; has = told.has; kept = told.kept; only = told.only; lone = told.lone; no_more_lone = told.no_more_lone })) in
    let before = taught c.args.falsified c.requires.search c.requires.first c.requires.conflict c.requires.decided c.requires.noted c.learned_clause.ensures.grows c.learned_clause.ensures.sound (kept_learned c.kept-learned.ensures.same c.kept-learned.ensures.kept c.in_ok-learned_clause.ensures.learned) in
    let m = state_of g.T.Theory.is_over g.T.Theory.has_told g.T.Theory.is_feasible g.T.Theory.is_of g.T.Theory.is_at c.args.theory.now in
    let m' = state_of g.T.Theory.is_over g.T.Theory.has_told g.T.Theory.is_feasible g.T.Theory.is_of g.T.Theory.is_at c.go_back.new.theory in
    let done : ⊤ = tt in
    let ends = learned_ends c.args.log.now log c.args.held.now.items s c.args.work.now c.args.falsified l before
    new (ap (λ (x : Search). x.atoms) back) c.go_back.ensures.size c.go_back.ensures.entries c.go_back.ensures.bounds p c.go_back.ensures.looked holds lengths unmarked
    (subst (AreHeld log) all_held c.hold.ensures.more.held) c.go_back.ensures.order c.in_ok-note_learned.ensures.free
    m m' c.tells_lits.ensures.tells c.clauses_are_true.ensures.clauses c.negation_is_other.ensures.other c.legal_work_goes_on.ensures.goes_on c.go_back.ensures.at done in
    line_advances c.args.log.now log c.args.held.now.items s c.args.work.now c.args.falsified l before m m' c.go_back.ensures.keeps c.hold.new.held.items
    (subst (λ (hs : List Held). HoldsMore log hs c.hold.new.held.items) old c.hold.ensures.more) all_held
    (subst (λ (hs : List Held). AreOn log s.atoms hs → AreOn log s.atoms c.hold.new.held.items) old
    (c.hold.ensures.named s.atoms (lits_named c.args.log.now log c.args.held.now.items s c.args.work.now c.args.falsified l before)))
    c.note_learned.new.work c.in_ok-note_learned.ensures.noted (Ok done) ends

pub returns-clause-learned : goal.returns-clause-learned
returns-clause-learned g c =
    let s = c.args.self.now in
    let l = c.kept-learned.result in
    let log = c.learned_clause.new.log in
    let back = c.go_back.ensures.rest in
    let p = c.go_back.new.self.propagation in
    let q = c.hold-2.new.self in
    let new : Search = record c.go_back.new.self { propagation = q } in
    let marks = c.learned_clause.new.seen in
    let rest = drop (length marks) s.seen.items in
    let long : vec_len s.seen ≡ length marks = search rules in
    let same : take (vec_len s.seen) (marks ++ rest) ≡ marks = take-append-le (vec_len s.seen) marks rest (omega arith) ∙ take_all (vec_len s.seen) marks (omega arith) in
    let lengths : length new.seen.items ≡ length s.seen.items = ap (λ (x : Search). length x.seen.items) back ∙ search rules in
    let unmarked : AreUnmarked new.seen.items = subst (λ (x : Search). AreUnmarked x.seen.items) (sym back) (subst AreUnmarked (sym same) c.in_ok-learned_clause.ensures.unmarked) in
    let old = c.note_learned.ensures.held in
    let all_held = c.hold.ensures.held ∙ ap (λ (hs : List Held). hs ++ learned_of log l.clause l.glue ∷ []) old in
    let told = c.in_ok-hold.ensures in
    let holds : Holds log (learned_of log l.clause l.glue) (watched_pair l) p q =
    subst (λ (one : Held). Holds log one (watched_pair l) p q) c.learned-one.ensures.held
    (subst (λ (pair : Option (Lit × Lit)). Holds log c.learned-one.result pair p q) c.watched.ensures.watched
    (record { watched = told.watched; has = told.has; kept = told.kept; only = told.only; lone = told.lone; no_more_lone = told.no_more_lone })) in
    let before = taught c.args.falsified c.requires.search c.requires.first c.requires.conflict c.requires.decided c.requires.noted c.learned_clause.ensures.grows c.learned_clause.ensures.sound (kept_learned c.kept-learned.ensures.same c.kept-learned.ensures.kept c.in_ok-learned_clause.ensures.learned) in
    let there = learned c.args.log.now log c.args.held.now.items s c.args.work.now c.args.falsified l before
    new (ap (λ (x : Search). x.atoms) back) c.go_back.ensures.size c.go_back.ensures.entries c.go_back.ensures.bounds p c.go_back.ensures.looked holds lengths unmarked
    (subst (AreHeld log) all_held c.hold.ensures.more.held) c.go_back.ensures.order c.in_ok-note_learned.ensures.free in
    subst (λ (hs : List Held). Learns log hs s new c.args.work.now c.note_learned.new.work) (sym all_held)
    (subst (λ (w : WorkList Note). Learns log (c.args.held.now.items ++ learned_of log l.clause l.glue ∷ []) s new c.args.work.now w) (sym c.in_ok-note_learned.ensures.noted) there)
