use Rattle.std.proofs.Common.{◌≡◌, List, sym, subst, rules, arith, take, ◌+◌, Some}
use Rattle.std.specs.Prelude.{slice_get}
use Rattle.nz_lin.specs.declared.bound.Bound.{Bound}
use Rattle.nz_log.specs.declared.atoms.Atom.TheVariants.{AtMost}
use Rattle.std.proofs.lemmas.List.{take_all}
use Rattle.nz_log.specs.declared.multiples.LitMultiple.{LitMultiple}
use Rattle.nz_reals.specs.Tells.{AreBoundsOf}
use Rattle.nz_reals.proofs.RefutationClauses.{bounds_more, lit_among}
use Rattle.nz_reals.proofs.refute.bounds_of.Goals as goal

pub bound_of-requires : goal.bound_of-requires
bound_of-requires c = record {
  bound =
      subst (λ (m : LitMultiple). (b : Bound) × (slice_get c.args.log.now.atoms m.literal.atom ≡ Some (AtMost b))) (sym c.multiple-item.is)
      (c.requires.bounds c.loop-multiple.multiple-index c.multiple-item.result c.loop-multiple-test.true);
}

pub loop-multiple-preserved : goal.loop-multiple-preserved
loop-multiple-preserved c = λ ns among.
    let m = c.multiple-item.result in
    let ms = c.args.multiples.now in
    let i = c.loop-multiple.multiple-index in
    let units = c.in_ok-bound.ensures.units ns (lit_among ns c.args.log.now.atoms ms i m c.loop-multiple-test.true c.multiple-item.is among) in
    subst (AreBoundsOf ns c.args.log.now.atoms (take (i + 1) ms)) (sym (search rules))
    (bounds_more ns c.args.log.now.atoms ms i m c.loop-multiple.bounds.items c.in_ok-bound.bound c.loop-multiple-test.true c.multiple-item.is (c.in_ok-bound.ensures.literal ns) units (c.loop-multiple.invariant ns among))

pub returns : goal.returns
returns c = record {
  bounds = λ ns among.
      let ms = c.args.multiples.now in
      let all : take c.loop-multiple.multiple-index ms ≡ ms = take_all c.loop-multiple.multiple-index ms (omega arith) in
      subst (λ (xs : List LitMultiple). AreBoundsOf ns c.args.log.now.atoms xs c.loop-multiple.bounds.items) all (c.loop-multiple.invariant ns among);
}
