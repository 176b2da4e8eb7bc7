use Rattle.std.proofs.Common.{◌≡◌, inl, ℕ, List, Some, subst}
use Rattle.std.specs.Prelude.{IfOk, IfSome, slice_get}
use Rattle.nz_lin.specs.declared.form.Part.{Part}
use Rattle.nz_reals.proofs.Arranged.{arranged_more, may_add_form}
use Rattle.nz_reals.proofs.SumCounts.{joined_keeps}
use Rattle.nz_reals.proofs.reals.Reals.add_bound.Goals as goal

pub add_sum-requires-clause-may : goal.add_sum-requires-clause-may
add_sum-requires-clause-may c = (may_add_form c.args.log.now.atoms c.args.atoms.now c.requires.may c.args.bound.now c.requires.among c.args.self.now c.requires.arranged c.in_ok-sum.sum c.in_ok-sum.ensures.zeroed).0

pub returns : goal.returns
returns c =
    let all = c.args.log.now.atoms in
    let ids = c.args.atoms.now in
    let b = c.args.bound.now in
    let is = (may_add_form all ids c.requires.may b c.requires.among c.args.self.now c.requires.arranged c.in_ok-sum.sum c.in_ok-sum.ensures.zeroed).1 in
    record {
      arranged = arranged_more all ids c.requires.may b c.requires.among c.in_ok-sum.sum.sides.parts (inl is) c.args.self.now c.add_sum.new.self c.requires.arranged c.add_sum.ensures.joined;
      kept = joined_keeps c.args.self.now c.add_sum.new.self c.in_ok-sum.sum.sides.parts c.add_sum.ensures.joined;
      form = subst (λ (f : List Part). IfOk c.add_sum.result (λ r. IfSome r (λ (v : ℕ). slice_get c.add_sum.new.self.simplex.forms v ≡ Some f))) is c.add_sum.ensures.form;
    }
