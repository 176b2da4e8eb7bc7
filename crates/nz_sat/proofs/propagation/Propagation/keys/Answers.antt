-- A key that has a clause has a slot.
use Rattle.std.proofs.Common.{◌<◌, length, subst, sym, refl, arith}
use Rattle.std.specs.Prelude.{IsSome}
use Rattle.slab.proofs.SlabLemmas.{ContainsKey-within}
use Rattle.nz_sat.proofs.propagation.Propagation.keys.Goals as goal

pub returns : goal.returns
returns c =
    record {
      all = λ key h at.
          let slab = c.args.self.now.clauses in
          let inside : key < length slab.slots = ContainsKey-within slab key (subst IsSome (sym at) refl) in
          omega (arith, inside, c.capacity.ensures.slots);
    }
