use Rattle.std.proofs.Common.{◌∙◌, ◌++◌, ℕ, List, ap, sym}
use Rattle.std.specs.Prelude.{flat_map}
use Rattle.std.proofs.lemmas.List.{take_all}
use Rattle.nz_sort.specs.declared.levels.Level.{Level}
use Rattle.nz_sort.specs.Layers.{Layer, layer_of}
use Rattle.nz_sort.proofs.Lists.{flat_map_mapped, flat_map_more}
use Rattle.nz_sort.proofs.live.accepted_in.Goals as goal

pub loop-level-preserved : goal.loop-level-preserved
loop-level-preserved c =
    let before = c.loop-level.terms.items in
    let accepted : Level → List ℕ = λ k. k.accepted.items in
    c.in_ok-extend_from_slice.ensures.items ∙ ap (λ ts. before ++ ts) c.as_slice.ensures.value ∙ ap (λ ts. ts ++ c.level-item.result.accepted.items) c.loop-level.invariant
    ∙ sym (flat_map_more accepted c.args.levels.now c.loop-level.level-index c.level-item.result c.loop-level-test.true c.level-item.is)

pub returns : goal.returns
returns c =
    record {
      accepted = c.loop-level.invariant ∙ ap (flat_map (λ (k : Level). k.accepted.items)) (take_all c.loop-level.level-index c.args.levels.now c.loop-level-test.false)
          ∙ sym (flat_map_mapped (λ (l : Layer). l.accepted) layer_of c.args.levels.now);
    }
