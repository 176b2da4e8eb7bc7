use Rattle.std.proofs.Common.{rules, ◌<◌, ℕ, List, arith, get_or, length, subst, sym, ◌∙◌}
use Rattle.std.proofs.lemmas.List.{take_all}
use Rattle.nz_log.specs.declared.lits.Lit.{Lit}
use Rattle.nz_log.specs.Logs.{literals_at}
use Rattle.nz_reals.specs.Exclusions.{AreMarked, Joins, Marks}
use Rattle.nz_reals.proofs.Joints.{joined_too, marked_too}
use Rattle.nz_reals.proofs.neighbours.marked.Goals as goal

pub loop-id-preserved : goal.loop-id-preserved
loop-id-preserved c =
    let held = c.args.held.now in
    let xs = c.args.lowers.now in
    let log = c.args.log.now in
    let slots = c.args.slots.now in
    let places = c.args.places.now in
    let i = c.loop-id.id-index in
    let old = c.loop-id.marks.items in
    let new = c.mark.new.marks.items in
    let below : i < length held = search rules in
    let marks : Marks xs (literals_at log (get_or held i 0)) old new = subst (λ (l : List Lit). Marks xs l old new) c.clause.ensures.literals c.mark.ensures.marks in
    record {
      long = marks.long ∙ c.loop-id.invariant.long;
      joined = joined_too log held xs i below old new (c.requires.live i 0 below) c.loop-id.invariant.joined marks;
      noted =
          marked_too log held xs i below slots places old new marks
          (λ k first noted joins. c.mark.ensures.noted k first noted (subst (λ (l : List Lit). Joins xs k l) (sym c.clause.ensures.literals) joins)) c.loop-id.invariant.noted;
    }

pub returns-clause-noted : goal.returns-clause-noted
returns-clause-noted c =
    subst (λ (ids : List ℕ). AreMarked c.args.log.now ids c.args.lowers.now c.args.slots.now c.args.places.now c.loop-id.marks.items) (take_all c.loop-id.id-index c.args.held.now (omega arith)) c.loop-id.invariant.noted
