-- What comes of the assumed literals.
use Rattle.std.proofs.Common.{◌≡◌, IfSome, ℕ, Err, List, Ok, Option, None, Some, subst, sym, rules}
use Rattle.std.proofs.lemmas.Result.{IfOk-weaker}
use Rattle.nz_log.specs.declared.lits.Lit.{Lit}
use Rattle.nz_log.specs.Logs.{IsLive, LogState, literals_at}
use Rattle.nz_search.specs.declared.stop.Stop.TheVariants as stop
use Rattle.nz_sat.specs.declared.clauses.Held.{Held}
use Rattle.nz_sat.specs.declared.search.Search.{Search}
use Rattle.nz_sat.specs.Conflicts.{IsFalsifiedUnder}
use Rattle.nz_sat.specs.Searching.{AssumesAll, Runs, Settles, assumed_entries}
use Rattle.nz_sat.specs.Theories.{state_of, told_lits}
use Rattle.nz_sat.proofs.SearchSteps.{advances_same, ends_memory, steps_behind}
use Rattle.nz_sat.proofs.SearchRuns.{first_advances, first_lits, first_noted, first_refuted, first_stands, refutes_assumed, runs_first}
use Rattle.nz_sat.proofs.TheoryAnswers.{without_advances}
use Rattle.nz_sat.proofs.KeptClauses.{left_held}
use Rattle.nz_sat.proofs.search.Search.begin.Goals as goal

pub assume_all-requires-clause-search : goal.assume_all-requires-clause-search
assume_all-requires-clause-search g c = (c.args.held.now.items, c.requires.search)

pub returns-in_err-falsified-clause-steps : goal.returns-in_err-falsified-clause-steps
returns-in_err-falsified-clause-steps g c =
    let m = (state_of g.T.Theory.is_over g.T.Theory.has_told g.T.Theory.is_feasible g.T.Theory.is_of g.T.Theory.is_at c.args.theory.now) in
    let same : Err stop.Memory ≡ c.from_residual.result = search rules in
    record {
      advances = without_advances m c.args.log.now c.args.held.now.items c.args.self.now (assumed_entries c.args.assumed.now) c.args.work.now c.requires.search c.from_residual.result same;
      met = search rules;
      spent = search rules;
    }

-- the clause that is told is falsified
told_falsified : {log : LogState} → {held : List Held} → {assumed : List Lit} → {s : Search} → {told : Option ℕ} → {id : ℕ} → told ≡ Some id → AssumesAll log held assumed s told
    → IsLive log id × IsFalsifiedUnder assumed s.trail.entries (literals_at log id)
told_falsified {log} {held} {assumed} {s} is a = subst (λ (o : Option ℕ). IfSome o (λ id. IsLive log id × IsFalsifiedUnder assumed s.trail.entries (literals_at log id))) is a.falsified

pub refute-requires-clause-live : goal.refute-requires-clause-live
refute-requires-clause-live g c = (told_falsified c.in-Some.is (c.in_ok-falsified.ensures.comes c.args.held.now.items c.requires.search)).0

pub refute-requires-clause-size : goal.refute-requires-clause-size
refute-requires-clause-size g c = (c.in_ok-falsified.ensures.comes c.args.held.now.items c.requires.search).search.marks

pub refute-requires-clause-implied : goal.refute-requires-clause-implied
refute-requires-clause-implied g c = (c.in_ok-falsified.ensures.comes c.args.held.now.items c.requires.search).search.on.implied

pub refute-requires-clause-undecided : goal.refute-requires-clause-undecided
refute-requires-clause-undecided g c = (c.in_ok-falsified.ensures.comes c.args.held.now.items c.requires.search).undecided

pub returns-in_err-refute-clause-steps : goal.returns-in_err-refute-clause-steps
returns-in_err-refute-clause-steps g c =
    let a = c.in_ok-falsified.ensures.comes c.args.held.now.items c.requires.search in
    let m = (state_of g.T.Theory.is_over g.T.Theory.has_told g.T.Theory.is_feasible g.T.Theory.is_of g.T.Theory.is_at c.args.theory.now) in
    let s = c.args.self.now in
    let same : Err stop.Memory ≡ c.from_residual-in_err-refute.result = search rules in
    record {
      advances = advances_same same
          (first_refuted c.args.self.now c.requires.none c.args.log.now c.args.held.now.items c.requires.search m c.args.work.now c.assume_all.ensures.rest a c.refute.ensures.grows c.refute.ensures.sound (Err stop.Memory)
          (ends_memory (Option ℕ) m m c.args.log.now c.args.held.now.items s.atoms (told_lits s.bounds s.trail.entries) (assumed_entries c.args.assumed.now) c.args.work.now));
      met = search rules;
      spent = search rules;
    }

pub returns-in-Some-clause-steps : goal.returns-in-Some-clause-steps
returns-in-Some-clause-steps g c =
    let a = c.in_ok-falsified.ensures.comes c.args.held.now.items c.requires.search in
    let m = (state_of g.T.Theory.is_over g.T.Theory.has_told g.T.Theory.is_feasible g.T.Theory.is_of g.T.Theory.is_at c.args.theory.now) in
    let answer : Option ℕ = Some c.in_ok-refute.field-0 in
    record {
      advances = first_refuted c.args.self.now c.requires.none c.args.log.now c.args.held.now.items c.requires.search m c.args.work.now c.assume_all.ensures.rest a c.refute.ensures.grows c.refute.ensures.sound (Ok answer)
          (first_stands c.args.self.now c.requires.none c.args.log.now c.args.held.now.items c.requires.search m c.args.work.now c.requires.noted (assumed_entries c.args.assumed.now) (Option ℕ) answer);
      met = search rules;
      spent = search rules;
    }

pub returns-in-Some-clause-refuted : goal.returns-in-Some-clause-refuted
returns-in-Some-clause-refuted g c =
    let a = c.in_ok-falsified.ensures.comes c.args.held.now.items c.requires.search in
    (c.in_ok-refute.ensures.live, c.in_ok-refute.ensures.refutes c.args.assumed.now a.assumed_only (told_falsified c.in-Some.is a).1)

pub settle-requires-clause-search : goal.settle-requires-clause-search
settle-requires-clause-search g c = (c.in_ok-falsified.ensures.comes c.args.held.now.items c.requires.search).search

pub settle-requires-clause-first : goal.settle-requires-clause-first
settle-requires-clause-first g c =
    let none : c.in_ok-falsified.field-0 ≡ None = search rules in
    ((c.in_ok-falsified.ensures.comes c.args.held.now.items c.requires.search).ready none).first

pub settle-requires-clause-noted : goal.settle-requires-clause-noted
settle-requires-clause-noted g c =
    let none : c.in_ok-falsified.field-0 ≡ None = search rules in
    let a = c.in_ok-falsified.ensures.comes c.args.held.now.items c.requires.search in
    first_noted c.args.self.now c.requires.none c.args.log.now c.args.held.now.items c.requires.search c.assume_all.ensures.rest (subst (AssumesAll c.args.log.now c.args.held.now.items c.args.assumed.now c.assume_all.new.self) none a) c.requires.noted

pub settle-requires-clause-of : goal.settle-requires-clause-of
settle-requires-clause-of g c =
    subst (λ (r : Search). g.T.Theory.is_of c.args.theory.now c.args.log.now.atoms r.atoms) (sym c.assume_all.ensures.rest) c.requires.of

pub settle-requires-clause-told : goal.settle-requires-clause-told
settle-requires-clause-told g c =
    subst (g.T.Theory.has_told c.args.theory.now) (sym (first_lits c.args.self.now c.requires.none c.args.log.now c.args.held.now.items c.requires.search c.assume_all.ensures.rest)) c.requires.told

pub returns-clause-steps : goal.returns-clause-steps
returns-clause-steps g c =
    let none : c.in_ok-falsified.field-0 ≡ None = search rules in
    let a = subst (AssumesAll c.args.log.now c.args.held.now.items c.args.assumed.now c.assume_all.new.self) none (c.in_ok-falsified.ensures.comes c.args.held.now.items c.requires.search) in
    steps_behind (first_advances c.args.self.now c.requires.none c.args.log.now c.args.held.now.items c.requires.search c.assume_all.ensures.rest a c.settle.ensures.steps.advances) c.settle.ensures.steps

pub returns-clause-runs : goal.returns-clause-runs
returns-clause-runs g c =
    let none : c.in_ok-falsified.field-0 ≡ None = search rules in
    let a = c.in_ok-falsified.ensures.comes c.args.held.now.items c.requires.search in
    let begins = subst (AssumesAll c.args.log.now c.args.held.now.items c.args.assumed.now c.assume_all.new.self) none a in
    IfOk-weaker c.settle.result
    (λ (o : Option ℕ). o ≡ None → Settles c.settle.new.log c.settle.new.held.items c.assume_all.new.self c.settle.new.self c.args.work.now c.settle.new.work)
    (λ (o : Option ℕ). o ≡ None → Runs c.settle.new.log c.settle.new.held.items c.args.assumed.now c.args.self.now c.settle.new.self c.settle.new.work)
    (λ o settles open_all. runs_first c.assume_all.ensures.rest begins (settles open_all)) c.settle.ensures.settled

pub returns-clause-refuted : goal.returns-clause-refuted
returns-clause-refuted g c =
    let a = c.in_ok-falsified.ensures.comes c.args.held.now.items c.requires.search in
    refutes_assumed c.assume_all.new.self.trail.entries c.settle.new.log c.args.assumed.now a.assumed_only c.settle.result c.settle.ensures.refuted

pub returns-in-Some-clause-left : goal.returns-in-Some-clause-left
returns-in-Some-clause-left g c =
    let a = c.in_ok-falsified.ensures.comes c.args.held.now.items c.requires.search in
    left_held c.args.log.now c.refute.new.log c.args.held.now.items c.assume_all.new.self c.refute.new.self a.search c.refute.ensures.grows c.refute.ensures.rest
