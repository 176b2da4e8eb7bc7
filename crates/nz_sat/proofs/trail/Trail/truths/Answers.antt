-- The table has the entry of each term.
use Rattle.std.proofs.Common.{◌≡◌, List, Option, None, Bool, ap, subst, ◌∙◌, map, option_map, slice_index_or}
use Rattle.nz_lists.proofs.Places.{slice_index_or-map}
use Rattle.nz_sat.specs.declared.trail.Assigned.{Assigned}
use Rattle.nz_sat.specs.Trails.{AreTruthsOn, TrailState}
use Rattle.nz_sat.proofs.trail.Trail.truths.Goals as goal

pub returns : goal.returns
returns c =
    let f : Option Assigned → Option Bool = option_map (λ (e : Assigned). e.literal.sign) in
    let by_atom = c.self.inside.by_atom.items in
    let read : c.deref.result.now ≡ by_atom = c.deref.ensures.value in
    let items : c.in_ok-signs.field-0.items ≡ map f by_atom = c.in_ok-signs.ensures.signs ∙ ap (map f) read in
    let P : TrailState → Type 0 = λ s. AreTruthsOn s.entries c.in_ok-signs.field-0.items in
    record {
      truths = subst P c.self.view_is
          (λ t. ap (λ (xs : List (Option Bool)). slice_index_or xs t None) items ∙ slice_index_or-map f by_atom t None ∙ ap f (c.self.invariant.table t));
    }
