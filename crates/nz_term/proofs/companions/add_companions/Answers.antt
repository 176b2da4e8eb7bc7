-- One term after another, and then all have their companions.
use Rattle.std.proofs.Common.{◌<◌, ◌≤◌, length, arith}
use Rattle.nz_term.proofs.AddedCompanions.{finish, start, step}
use Rattle.nz_term.proofs.companions.add_companions.Goals as goal

pub loop-id-init : goal.loop-id-init
loop-id-init c = start c.term_stays.ensures.stays c.args.terms.now c.args.from

pub loop-id-preserved : goal.loop-id-preserved
loop-id-preserved c =
    let inside : c.loop-id.id < length c.args.terms.now = omega arith in
    step c.args.terms.now c.loop-id.terms c.make_companion.new.terms c.args.from c.loop-id.id c.loop-id.invariant inside c.make_companion.ensures.grows
    c.in_ok-make_companion.ensures.made c.make_companion.ensures.alone

pub returns-clause-companions : goal.returns-clause-companions
returns-clause-companions c =
    let all : length c.args.terms.now ≤ c.loop-id.id = omega arith in
    finish c.args.terms.now c.loop-id.terms c.args.from c.loop-id.id c.loop-id.invariant all
