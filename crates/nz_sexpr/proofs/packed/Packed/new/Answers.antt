use Rattle.std.proofs.Common.{ℕ, List, ◌++◌, ◌∙◌, ap}
use Rattle.nz_sexpr.specs.Packed.{packed, unpacked}
use Rattle.nz_sexpr.specs.View.{view}
use Rattle.nz_sexpr.proofs.PackedTrees.{unpacked-packed}
use Rattle.nz_sexpr.proofs.packed.Packed.new.Goals as goal

pub returns : goal.returns
returns c =
    let tree = view c.args.tree.now in
    record {
      tree =
          ap unpacked (c.in_ok-text.ensures.bytes ∙ c.as_slice.ensures.value ∙ c.in_ok-pack.ensures.packed ∙ ap (λ (l : List ℕ). l ++ packed tree) c.in_ok-bytes.ensures.items)
          ∙ unpacked-packed tree;
    }
