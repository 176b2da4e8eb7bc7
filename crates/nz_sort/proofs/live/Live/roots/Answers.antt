use Rattle.std.proofs.Common.{◌∙◌, ◌++◌, ℕ, List, map, ap, sym}
use Rattle.std.specs.Prelude.{flat_map}
use Rattle.nz_sort.specs.Layers.{Layer, layer_of}
use Rattle.nz_sort.specs.Live.{Standing, accepted_by}
use Rattle.nz_sort.proofs.Lists.{flat_map_last}
use Rattle.nz_sort.proofs.live.Live.roots.Goals as goal

pub returns : goal.returns
returns c =
    let self = c.self.inside in
    let assumed = c.args.assumed.now in
    let terms : Layer → List ℕ = λ l. l.accepted in
    let below = c.in_ok-roots.ensures.accepted ∙ ap (λ ls. flat_map terms (map layer_of ls)) c.as_slice.ensures.value in
    record {
      roots = c.in_ok-extend_from_slice-2.ensures.items
          ∙ ap (λ ts. ts ++ assumed)
          (c.in_ok-extend_from_slice.ensures.items ∙ ap (λ ts. c.in_ok-roots.roots.items ++ ts) c.as_slice-2.ensures.value ∙ ap (λ ts. ts ++ self.top.accepted.items) below
          ∙ sym (flat_map_last terms (map layer_of self.below.items) (layer_of self.top)))
          ∙ ap (λ (st : Standing). accepted_by st ++ assumed) c.self.view_is;
    }
