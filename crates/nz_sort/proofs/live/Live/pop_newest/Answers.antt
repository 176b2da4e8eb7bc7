use Rattle.std.proofs.Common.{◌≡◌, ◌∙◌, ◌∷◌, ◌++◌, [], map, refl, ap, subst}
use Rattle.std.specs.Prelude.{option_to_list}
use Rattle.std.proofs.lemmas.List.{map-append}
use Rattle.nz_sort.specs.Layers.{layer_of}
use Rattle.nz_sort.specs.Live.{Standing, standing_of}
use Rattle.nz_sort.specs.Changes.{Drops}
use Rattle.nz_sort.proofs.live.Live.pop_newest.Goals as goal

pub returns : goal.returns
returns c =
    let older = c.in-Some.older in
    let rest = c.pop.new.self.items in
    let items : c.self.inside.below.items ≡ rest ++ older ∷ [] = c.pop.ensures.items ∙ ap (λ o. rest ++ option_to_list o) c.in-Some.is in
    let below : map layer_of c.self.inside.below.items ≡ map layer_of rest ++ layer_of older ∷ [] = ap (map layer_of) items ∙ map-append layer_of rest (older ∷ []) in
    record {
      dropped = subst (λ (st : Standing). Drops st (standing_of c.truncate.new.self older rest c.self.inside.next)) c.self.view_is (below, c.truncate.ensures.kept, refl);
    }
