use Rattle.std.proofs.Common.{rules, ◌≡◌, ◌<◌, ℕ, List, arith, false, length, subst, sym}
use Rattle.std.proofs.lemmas.List.{take_all}
use Rattle.nz_log.specs.declared.lits.Lit.{Lit}
use Rattle.nz_reals.specs.Exclusions.{HasNoJoint, Joins}
use Rattle.nz_reals.proofs.Joints.{no_joint_more}
use Rattle.nz_reals.proofs.neighbours.has_joint.Goals as goal

pub loop-id-preserved : goal.loop-id-preserved
loop-id-preserved c =
    let held = c.args.held.now in
    let xs = c.args.lowers.now in
    let log = c.args.log.now in
    let place = c.args.place in
    let i = c.loop-id.id-index in
    let below : i < length held = search rules in
    let other : c.joins.result ≡ false = search rules in
    record {
      none =
          no_joint_more log held xs i below place
          (λ first joins. c.joins.ensures.no other first (subst (λ (l : List Lit). Joins xs place l) (sym c.clause.ensures.literals) joins)) c.loop-id.invariant.none;
    }

pub returns-clause-no : goal.returns-clause-no
returns-clause-no c = λ is.
    subst (λ (ids : List ℕ). HasNoJoint c.args.log.now ids c.args.lowers.now c.args.place) (take_all c.loop-id.id-index c.args.held.now (omega arith)) c.loop-id.invariant.none
