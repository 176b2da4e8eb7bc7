-- One decision more, with what is learned from its conflicts.
use Rattle.std.proofs.Common.{◌≡◌, ℕ, Err, List, Ok, Option, None, length, ap, sym, subst, arith, rules, All, IfSome}
use Rattle.nz_log.specs.declared.lits.Lit.{Lit}
use Rattle.nz_log.specs.Logs.{IsLive, literals_at}
use Rattle.nz_sat.specs.declared.clauses.Held.{Held}
use Rattle.nz_sat.specs.declared.search.Search.{Search}
use Rattle.nz_sat.specs.Clauses.{IsAssumed}
use Rattle.nz_sat.specs.Conflicts.{Refutes}
use Rattle.nz_sat.specs.Searching.{HaveTrue, IsSearch}
use Rattle.nz_sat.specs.Theories.{IsMet, state_of, told_lits}
use Rattle.nz_sat.proofs.SearchSteps.{advances_same, steps_same}
use Rattle.nz_sat.proofs.SearchLines.{adds_limit}
use Rattle.nz_sat.proofs.SearchRuns.{run_advances, run_steps, runs_on, runs_ordered}
use Rattle.nz_sat.proofs.search.Search.run.Goals as goal

pub loop-atom-init : goal.loop-atom-init
loop-atom-init g c =
    let none : c.in_ok-refuted.field-0 ≡ None = search rules in
    record {
      advances = advances_same (ap Ok none) c.in_ok-refuted.ensures.steps.advances;
      runs = c.in_ok-refuted.ensures.runs none;
      met = c.in_ok-refuted.ensures.steps.met none;
    }

pub next-requires-clause-search : goal.next-requires-clause-search
next-requires-clause-search g c = subst (λ (hs : List Held). IsSearch c.loop-atom.log hs c.loop-atom.self) (sym c.deref.ensures.value) c.loop-atom.invariant.runs.search

pub turn-requires-clause-search : goal.turn-requires-clause-search
turn-requires-clause-search g c = (runs_ordered c.loop-atom.invariant.runs c.next.ensures.rest).search

pub turn-requires-clause-ready : goal.turn-requires-clause-ready
turn-requires-clause-ready g c = (runs_ordered c.loop-atom.invariant.runs c.next.ensures.rest).ready

pub turn-requires-clause-noted : goal.turn-requires-clause-noted
turn-requires-clause-noted g c = (runs_ordered c.loop-atom.invariant.runs c.next.ensures.rest).noted

pub turn-requires-clause-of : goal.turn-requires-clause-of
turn-requires-clause-of g c =
    let p = c.loop-atom.invariant.advances in
    let atoms = c.args.self.now.atoms in
    subst (g.T.Theory.is_of c.loop-atom.theory c.loop-atom.log.atoms) (sym (runs_ordered c.loop-atom.invariant.runs c.next.ensures.rest).same)
    (g.T.Theory.stays c.loop-atom.theory c.args.log.now.atoms c.loop-atom.log.atoms atoms (p.keeps.of c.args.log.now.atoms atoms c.requires.of) p.grows.atoms)

pub turn-requires-clause-told : goal.turn-requires-clause-told
turn-requires-clause-told g c =
    subst (λ (s : Search). g.T.Theory.has_told c.loop-atom.theory (told_lits s.bounds s.trail.entries)) (sym c.next.ensures.rest) c.loop-atom.invariant.met.told

pub turn-requires-clause-whole : goal.turn-requires-clause-whole
turn-requires-clause-whole g c =
    subst (λ (s : Search). s.bounds.told ≡ length s.trail.entries) (sym c.next.ensures.rest) c.loop-atom.invariant.met.whole

pub returns-in_err-found-clause-steps : goal.returns-in_err-found-clause-steps
returns-in_err-found-clause-steps g c =
    let same : Err c.in_err-found.field-0.0 ≡ c.from_residual-in_err-found.result = search rules in
    steps_same same (run_steps c.loop-atom.invariant.advances (runs_ordered c.loop-atom.invariant.runs c.next.ensures.rest) c.in_err-found.ensures.steps)

pub returns-in-Some-2-clause-steps : goal.returns-in-Some-2-clause-steps
returns-in-Some-2-clause-steps g c =
    steps_same (ap Ok c.in-Some-2.is) (run_steps c.loop-atom.invariant.advances (runs_ordered c.loop-atom.invariant.runs c.next.ensures.rest) c.in_ok-found.ensures.steps)

pub returns-in-Some-2-clause-refuted : goal.returns-in-Some-2-clause-refuted
returns-in-Some-2-clause-refuted g c =
    let P : ℕ → Type 0 =
    λ id. IsLive c.turn.new.log id × ((assumed : List Lit) → All (IsAssumed assumed) c.next.new.self.trail.entries → Refutes assumed (literals_at c.turn.new.log id)) in
    let refuted : P c.in-Some-2.found = subst (λ (told : Option ℕ). IfSome told P) c.in-Some-2.is c.in_ok-found.ensures.refuted in
    (refuted.0, refuted.1 c.args.assumed.now (runs_ordered c.loop-atom.invariant.runs c.next.ensures.rest).assumed_only)

pub loop-atom-smaller : goal.loop-atom-smaller
loop-atom-smaller g c =
    let none : c.in_ok-found.field-0 ≡ None = search rules in
    let settled = c.in_ok-found.ensures.settled none in
    let more = settled.more in
    let free = settled.free in
    let limit = adds_limit c.loop-atom.work c.turn.new.work c.turn.ensures.steps.advances.adds in
    omega arith

pub loop-atom-preserved : goal.loop-atom-preserved
loop-atom-preserved g c =
    let none : c.in_ok-found.field-0 ≡ None = search rules in
    let settled = c.in_ok-found.ensures.settled none in
    record {
      advances = advances_same (ap Ok none) (run_advances c.loop-atom.invariant.advances (runs_ordered c.loop-atom.invariant.runs c.next.ensures.rest) c.in_ok-found.ensures.steps.advances);
      runs = runs_on (runs_ordered c.loop-atom.invariant.runs c.next.ensures.rest) settled.settles;
      met = c.in_ok-found.ensures.steps.met none;
    }

pub returns-clause-steps : goal.returns-clause-steps
returns-clause-steps g c =
    let t = c.loop-atom.invariant in
    let m = (state_of g.T.Theory.is_over g.T.Theory.has_told g.T.Theory.is_feasible g.T.Theory.is_of g.T.Theory.is_at c.loop-atom.theory) in
    let met = subst (λ (s : Search). IsMet m s.bounds s.trail.entries) (sym c.next.ensures.rest) t.met in
    record { advances = t.advances; met = λ none. met; spent = search rules }

pub returns-clause-satisfied : goal.returns-clause-satisfied
returns-clause-satisfied g c =
    let h = runs_ordered c.loop-atom.invariant.runs c.next.ensures.rest in
    let none : c.next.result ≡ None = search rules in
    λ told. record { search = h.search; same = h.same; hold = h.hold; have_true = subst (λ (hs : List Held). HaveTrue c.loop-atom.log hs c.next.new.self.trail.entries) c.deref.ensures.value (c.next.ensures.none none); noted = h.noted }
