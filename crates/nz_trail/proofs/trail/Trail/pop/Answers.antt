-- What the newest bound replaced stands again.
use Rattle.std.proofs.Common.{rules, ◌≡◌, ◌<◌, ◌∷◌, [], ◌++◌, List, length, Some, refl, sym, subst}
use Rattle.std.specs.Prelude.{slice_get, slice_set}
use Rattle.std.proofs.lemmas.List.Elements.{All-contains, Contains-push}
use Rattle.std.proofs.lemmas.Option.{slice_get_read}
use Rattle.nz_trail.specs.Stored.{IsTabled}
use Rattle.nz_trail.specs.declared.limits.Limits.{Limits}
use Rattle.nz_trail.specs.declared.trail.Entry.{Entry}
use Rattle.nz_trail.proofs.Tables.{tabled_pop}
use Rattle.nz_trail.proofs.trail.Trail.pop.Goals as goal

pub invariant_of-self : goal.invariant_of-self
invariant_of-self g c =
    let S = g.row.S.Denot in
    let order = g.S.Scalar.order in
    let limits = c.self.inside.limits.items in
    let left = c.pop.new.self.items in
    let e = c.unwrap-entry.result in
    let pair = c.index-limits.result.now in
    let items : c.self.inside.entries.items ≡ left ++ e ∷ [] = search rules in
    let old : IsTabled order limits (left ++ e ∷ []) = subst (λ (xs : List (Entry S)). IsTabled order limits xs) items c.self.invariant in
    let known : e.var < length limits = All-contains (λ (x : Entry S). x.var < length limits) (left ++ e ∷ []) e old.known (Contains-push left e) in
    let there : slice_get limits e.var ≡ Some pair = slice_get_read limits (length limits) e.var pair refl known c.index-limits.ensures in
    subst (λ (p : Limits S). IsTabled order (slice_set limits e.var p) left) (sym c.with.ensures.limits)
    (tabled_pop g.met.S.Scalar.laws.ordered limits left e pair old there)
