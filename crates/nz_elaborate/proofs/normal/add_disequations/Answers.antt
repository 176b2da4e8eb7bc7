use Rattle.std.proofs.Common.{◌<◌, length, get_or, ◌∙◌, arith}
use Rattle.std.proofs.lemmas.List.Elements.{All-get_or}
use Rattle.nz_elaborate.proofs.TableGrowth.{push_within}
use Rattle.nz_elaborate.proofs.NormalTerms.{disequation_next}
use Rattle.nz_elaborate.proofs.normal.add_disequations.Goals as goal

pub loop-other-preserved : goal.loop-other-preserved
loop-other-preserved c =
    let old = c.args.terms.now in
    let others = c.args.others.now in
    let i = c.loop-other.other-index in
    let ids = c.loop-other.disequations.items in
    let equal = c.in_ok-equation.ensures in
    let here = c.in_ok-denied.ensures in
    let items = c.in_ok-push.ensures.items in
    let grows = c.grows_twice.ensures.twice _ _ _ equal.grows here.grows in
    let other : get_or others i 0 < length old = All-get_or (λ k. k < length old) others i 0 (omega arith) c.requires.within in
    record {
      grown = c.grows_twice.ensures.twice _ _ _ c.loop-other.invariant.grown grows;
      within = push_within _ _ ids _ c.in_ok-denied.denied grows c.loop-other.invariant.within here.made.within items;
      added = λ more.
          disequation_next c.grows_twice.ensures.twice old c.loop-other.terms c.make.new.terms c.make-in-loop-other.new.terms c.args.kid others ids _ i c.in_ok-equation.equation c.in_ok-denied.denied more
          c.loop-other.invariant.grown equal.grows here.grows c.requires.kid (omega arith) other c.loop-other.invariant.within equal.made here.made items
          ∙ c.loop-other.invariant.added more;
    }
