use Rattle.std.proofs.Common.{◌∙◌, [], map, false, ap}
use Rattle.nz_sort.specs.Layers.{layer_of, empty_layer}
use Rattle.nz_sort.proofs.LiveStates.{live_at_start}
use Rattle.nz_sort.proofs.live.Live.new.Goals as goal

pub returns-clause-live : goal.returns-clause-live
returns-clause-live c =
    live_at_start c.in_ok-names.names (layer_of c.new-top.result) (map layer_of c.new-2.result.items) (c.new-top.ensures.empty ∙ ap (λ n. empty_layer n 0 false) c.count.ensures.count)
    (ap (map layer_of) c.new-2.ensures.items) (c.in_ok-names.ensures.operators [])
