use Rattle.std.proofs.Common.{◌≡◌, ℕ, Option, Some, ap, subst}
use Rattle.std.specs.Prelude.{IfSome, slice_get}
use Rattle.std.proofs.lemmas.Option.{slice_get_within}
use Rattle.nz_delta.specs.DeltaSpace.{infinitesimal_of}
use Rattle.nz_reals.specs.Known.{SideBound}
use Rattle.nz_reals.specs.Sums.{turned_sum}
use Rattle.nz_reals.proofs.Arranged.{arranged_stood}
use Rattle.nz_reals.proofs.SumCounts.{keeps_both, stood_keeps}
use Rattle.nz_reals.proofs.reals.Reals.stand_at.Goals as goal

pub stand-requires-clause-listed : goal.stand-requires-clause-listed
stand-requires-clause-listed c =
    let f = turned_sum c.in-Some.bound.now.sides.parts in
    slice_get_within c.add_bound.new.self.simplex.forms c.in-Some-2.var f
    (subst (λ (o : Option ℕ). IfSome o (λ (v : ℕ). slice_get c.add_bound.new.self.simplex.forms v ≡ Some f)) c.in-Some-2.is c.in_ok-var.ensures.form)

pub returns-in-Some-2 : goal.returns-in-Some-2
returns-in-Some-2 c =
    let says = c.in-Some.ensures.says in
    let f = turned_sum c.in-Some.bound.now.sides.parts in
    record {
      arranged = arranged_stood c.args.log.now.atoms c.args.atoms.now c.add_bound.new.self c.stand.new.self c.in-Some.bound.now c.in-Some.ensures.among c.in-Some-2.var (infinitesimal_of c.in-Some.said.value) says.0
          (subst (λ (o : Option ℕ). IfSome o (λ (v : ℕ). slice_get c.add_bound.new.self.simplex.forms v ≡ Some f)) c.in-Some-2.is c.in_ok-var.ensures.form)
          (ap (λ (s : SideBound). s.value) says.1) c.in_ok-var.ensures.arranged c.stand.ensures.stood;
      kept = keeps_both c.args.self.now c.add_bound.new.self c.stand.new.self c.add_bound.ensures.kept
          (stood_keeps c.add_bound.new.self c.stand.new.self c.in-Some-2.var (infinitesimal_of c.in-Some.said.value) c.stand.ensures.stood);
    }
