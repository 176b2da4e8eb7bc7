use Rattle.std.proofs.Common.{◌≤◌, length, refl, arith}
use Rattle.nz_term.specs.Constants.{sort_of}
use Rattle.nz_elaborate.proofs.TableGrowth.{push_within}
use Rattle.nz_elaborate.proofs.OperatorApplications.{reading_next, reading_ends}
use Rattle.nz_elaborate.proofs.apply.read_at.Goals as goal

pub loop-argument-preserved : goal.loop-argument-preserved
loop-argument-preserved c =
    let old = c.args.terms.now in
    let i = c.loop-argument.argument-index in
    let before = c.loop-argument.invariant in
    let here = c.in_ok-id.ensures in
    let items = c.in_ok-push.ensures.items in
    record {
      grown = c.grows_twice.ensures.twice _ _ _ before.grown here.grows;
      within = push_within _ _ c.loop-argument.ids.items _ c.in_ok-id.id here.grows before.within here.within items;
      reading = λ ts typed.
          reading_next (sort_of c.args.sort) old c.loop-argument.terms c.read_one.new.terms _ _ c.args.arguments.now c.loop-argument.ids.items _ i c.in_ok-id.id ts
          before.grown here.grows (omega arith) refl before.within here.read items (before.reading ts typed);
    }

pub returns-in_err-id-clause-grows : goal.returns-in_err-id-clause-grows
returns-in_err-id-clause-grows c = c.grows_twice.ensures.twice _ _ _ c.loop-argument.invariant.grown c.in_err-id.ensures.grows

pub returns-clause-read : goal.returns-clause-read
returns-clause-read c = λ ts typed.
    let above : length c.args.arguments.now ≤ c.loop-argument.argument-index = omega arith in
    reading_ends (sort_of c.args.sort) c.args.terms.now c.loop-argument.terms c.args.arguments.now c.loop-argument.ids.items c.loop-argument.argument-index ts above
    c.loop-argument.invariant.within (c.loop-argument.invariant.reading ts typed)
