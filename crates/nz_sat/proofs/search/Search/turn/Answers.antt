-- What comes of a decision.
use Rattle.std.proofs.Common.{◌≡◌, ℕ, ◌<◌, Err, Option, None, sym, subst, rules, true}
use Rattle.std.proofs.lemmas.List.Elements.{All-contains}
use Rattle.std.proofs.lemmas.Result.{IfOk-weaker}
use Rattle.nz_spec.specs.search.Work.{WorkList}
use Rattle.nz_search.specs.declared.note.Note.{Note}
use Rattle.nz_sat.specs.Searching.{Advances, Settles, SettlesOn}
use Rattle.nz_sat.specs.Theories.{state_of}
use Rattle.nz_sat.proofs.AtomTrails.{names_small}
use Rattle.nz_sat.proofs.AssumedLiterals.{assumed_carried}
use Rattle.nz_sat.proofs.SearchSteps.{narrow_advances, reaches_then, steps_behind}
use Rattle.nz_sat.proofs.LogGrowth.{grows_none}
use Rattle.nz_sat.proofs.SearchRuns.{decided_wanting, has_decided, refutes_far, settles_far}
use Rattle.nz_sat.proofs.search.Search.turn.Goals as goal

pub decide-requires-clause-within : goal.decide-requires-clause-within
decide-requires-clause-within g c =
    All-contains (λ (t : ℕ). t < c.args.self.now.trail.size) c.args.self.now.atoms c.args.atom c.requires.search.within c.requires.named

pub decide-requires-clause-small : goal.decide-requires-clause-small
decide-requires-clause-small g c =
    names_small c.args.log.now c.args.self.now.atoms c.requires.search.on.there c.atom_count.ensures.atoms c.args.atom c.requires.named

pub returns-in_err-decide-clause-steps : goal.returns-in_err-decide-clause-steps
returns-in_err-decide-clause-steps g c =
    let s = c.args.self.now in
    let log = c.args.log.now in
    let held = c.args.held.now.items in
    let m = (state_of g.T.Theory.is_over g.T.Theory.has_told g.T.Theory.is_feasible g.T.Theory.is_of g.T.Theory.is_at c.args.theory.now) in
    let e = c.in_err-decide.field-0.0 in
    let same : Err e ≡ c.from_residual.result = search rules in
    record {
      advances = subst (λ (w : WorkList Note). Advances m m s s.trail.entries log log held held c.args.work.now w c.from_residual.result) (sym c.in_err-decide.ensures.err)
          (narrow_advances m s s.trail.entries log log held c.args.work.now c.requires.search.are_held (grows_none log) (λ ns levels known within order. order) e c.in_err-decide.ensures.narrow
          (decided_wanting log held s c.requires.search c.args.atom true c.requires.free c.requires.named c.requires.whole (Option ℕ) m m c.args.work.now c.requires.noted c.requires.ready) c.from_residual.result same);
      met = search rules;
      spent = search rules;
    }

pub settle-requires-clause-search : goal.settle-requires-clause-search
settle-requires-clause-search g c =
    (has_decided c.legal_work_goes_on.ensures.goes_on (state_of g.T.Theory.is_over g.T.Theory.has_told g.T.Theory.is_feasible g.T.Theory.is_of g.T.Theory.is_at c.args.theory.now) c.args.atom c.requires.search c.requires.ready c.requires.noted c.requires.free
    c.requires.named c.requires.whole c.in_ok-decide.ensures.rest c.in_ok-decide.ensures.decides).search

pub settle-requires-clause-first : goal.settle-requires-clause-first
settle-requires-clause-first g c =
    (has_decided c.legal_work_goes_on.ensures.goes_on (state_of g.T.Theory.is_over g.T.Theory.has_told g.T.Theory.is_feasible g.T.Theory.is_of g.T.Theory.is_at c.args.theory.now) c.args.atom c.requires.search c.requires.ready c.requires.noted c.requires.free
    c.requires.named c.requires.whole c.in_ok-decide.ensures.rest c.in_ok-decide.ensures.decides).first

pub settle-requires-clause-noted : goal.settle-requires-clause-noted
settle-requires-clause-noted g c =
    (has_decided c.legal_work_goes_on.ensures.goes_on (state_of g.T.Theory.is_over g.T.Theory.has_told g.T.Theory.is_feasible g.T.Theory.is_of g.T.Theory.is_at c.args.theory.now) c.args.atom c.requires.search c.requires.ready c.requires.noted c.requires.free
    c.requires.named c.requires.whole c.in_ok-decide.ensures.rest c.in_ok-decide.ensures.decides).noted

pub settle-requires-clause-of : goal.settle-requires-clause-of
settle-requires-clause-of g c =
    let d = has_decided c.legal_work_goes_on.ensures.goes_on (state_of g.T.Theory.is_over g.T.Theory.has_told g.T.Theory.is_feasible g.T.Theory.is_of g.T.Theory.is_at c.args.theory.now) c.args.atom c.requires.search c.requires.ready c.requires.noted c.requires.free
    c.requires.named c.requires.whole c.in_ok-decide.ensures.rest c.in_ok-decide.ensures.decides in
    subst (g.T.Theory.is_of c.args.theory.now c.args.log.now.atoms) (sym d.carries.atoms) c.requires.of

pub settle-requires-clause-told : goal.settle-requires-clause-told
settle-requires-clause-told g c =
    let d = has_decided c.legal_work_goes_on.ensures.goes_on (state_of g.T.Theory.is_over g.T.Theory.has_told g.T.Theory.is_feasible g.T.Theory.is_of g.T.Theory.is_at c.args.theory.now) c.args.atom c.requires.search c.requires.ready c.requires.noted c.requires.free
    c.requires.named c.requires.whole c.in_ok-decide.ensures.rest c.in_ok-decide.ensures.decides in
    subst (g.T.Theory.has_told c.args.theory.now) (sym d.told) c.requires.told

pub returns-clause-steps : goal.returns-clause-steps
returns-clause-steps g c =
    let d = has_decided c.legal_work_goes_on.ensures.goes_on (state_of g.T.Theory.is_over g.T.Theory.has_told g.T.Theory.is_feasible g.T.Theory.is_of g.T.Theory.is_at c.args.theory.now) c.args.atom c.requires.search c.requires.ready c.requires.noted c.requires.free
    c.requires.named c.requires.whole c.in_ok-decide.ensures.rest c.in_ok-decide.ensures.decides in
    steps_behind (reaches_then d.reaches d.carries.atoms (assumed_carried d.carries) c.settle.ensures.steps.advances) c.settle.ensures.steps

pub returns-clause-settled : goal.returns-clause-settled
returns-clause-settled g c =
    let d = has_decided c.legal_work_goes_on.ensures.goes_on (state_of g.T.Theory.is_over g.T.Theory.has_told g.T.Theory.is_feasible g.T.Theory.is_of g.T.Theory.is_at c.args.theory.now) c.args.atom c.requires.search c.requires.ready c.requires.noted c.requires.free
    c.requires.named c.requires.whole c.in_ok-decide.ensures.rest c.in_ok-decide.ensures.decides in
    IfOk-weaker c.settle.result
    (λ (o : Option ℕ). o ≡ None → Settles c.settle.new.log c.settle.new.held.items c.decide.new.self c.settle.new.self c.decide.new.work c.settle.new.work)
    (λ (o : Option ℕ). o ≡ None → SettlesOn c.settle.new.log c.settle.new.held.items c.args.self.now c.settle.new.self c.args.work.now c.settle.new.work)
    (λ o settles none. settles_far d c.in_ok-decide.ensures.free (settles none)) c.settle.ensures.settled

pub returns-clause-refuted : goal.returns-clause-refuted
returns-clause-refuted g c =
    let d = has_decided c.legal_work_goes_on.ensures.goes_on (state_of g.T.Theory.is_over g.T.Theory.has_told g.T.Theory.is_feasible g.T.Theory.is_of g.T.Theory.is_at c.args.theory.now) c.args.atom c.requires.search c.requires.ready c.requires.noted c.requires.free
    c.requires.named c.requires.whole c.in_ok-decide.ensures.rest c.in_ok-decide.ensures.decides in
    refutes_far c.args.self.now.trail.entries c.decide.new.self.trail.entries c.settle.new.log d.carries.assumed_only c.settle.result c.settle.ensures.refuted
