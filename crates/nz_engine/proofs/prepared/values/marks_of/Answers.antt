use Rattle.std.proofs.Common.{rules, ℕ, ◌<◌, ◌≤◌, true, List, length, get_or, subst, arith, ◌∙◌}
use Rattle.std.proofs.lemmas.List.{length-set, take_all}
use Rattle.nz_engine.specs.Checking.{AreMarksOf}
use Rattle.nz_engine.proofs.CoveredMarks.{marks_more, marks_none}
use Rattle.nz_engine.proofs.prepared.values.marks_of.Goals as goal

pub loop-term-init : goal.loop-term-init
loop-term-init c = record { long = search rules; marked = search (rules, marks_none) }

pub loop-term-preserved : goal.loop-term-preserved
loop-term-preserved c =
    let listed = c.args.listed.now in
    let i = c.loop-term.term-index in
    let marks = c.loop-term.marks.items in
    let long = c.loop-term.invariant.long in
    let small : get_or listed i 0 < c.args.count = c.requires.within i 0 c.loop-term-test.true in
    record {
      long = length-set marks (get_or listed i 0) true ∙ long;
      marked = marks_more listed i marks c.loop-term-test.true (omega (arith, small, long)) c.loop-term.invariant.marked;
    }

pub returns : goal.returns
returns c =
    let listed = c.args.listed.now in
    let past : length listed ≤ c.loop-term.term-index = omega (arith, c.loop-term-test.false) in
    record {
      long = c.loop-term.invariant.long;
      marks = subst (λ (xs : List ℕ). AreMarksOf xs c.loop-term.marks.items) (take_all c.loop-term.term-index listed past) c.loop-term.invariant.marked;
    }
