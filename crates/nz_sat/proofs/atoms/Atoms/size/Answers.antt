-- Each atom has its number in the table.
use Rattle.std.proofs.Common.{ℕ, ◌<◌, List, length, get_or, subst, arith}
use Rattle.nz_sat.proofs.AtomNumbers.{atom_within}
use Rattle.nz_sat.proofs.atoms.Atoms.size.Goals as goal

pub returns : goal.returns
returns c =
    let P : List ℕ → Type 0 = λ us. (k d : ℕ) → k < length us → get_or us k d < c.len.result in
    record {
      within = subst P c.self.view_is
          (λ k d inside. let h = atom_within c.self.inside.ids.items c.self.inside.numbers.items c.self.invariant k d inside in omega (arith, c.len.ensures));
    }
