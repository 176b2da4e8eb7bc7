use Rattle.std.proofs.Common.{rules, ◌≡◌, ◌+◌, ◌∷◌, ◌++◌, ℕ, [], length, sym, subst, arith}
use Rattle.nz_engine.specs.Joining.{AreNumbersBelow}
use Rattle.nz_engine.proofs.NumbersBelow.{in_order, one_more}
use Rattle.nz_engine.proofs.joining.joining_order.Goals as goal

pub loop-place-preserved : goal.loop-place-preserved
loop-place-preserved c =
    let k = c.loop-place.place in
    let items : c.push.new.self.items ≡ c.loop-place.order.items ++ k ∷ [] = search rules in
    subst (AreNumbersBelow (k + 1)) (sym items) (one_more k c.loop-place.order.items c.loop-place.invariant)

pub returns : goal.returns
returns c =
    let ordered = c.sort_by_key.new.self.items in
    let all : c.loop-place.place ≡ length c.args.atoms.now = omega arith in
    record {
      order = subst (λ (n : ℕ). AreNumbersBelow n ordered) all
          (in_order c.loop-place.place c.loop-place.order.items ordered c.sort_by_key.ensures.permutation c.loop-place.invariant);
    }
