-- The bound stands, and its entry has what stood before it.
use Rattle.std.proofs.Common.{rules, ◌≡◌, ◌<◌, ◌∷◌, [], ◌++◌, List, length, Some, refl, sym, subst}
use Rattle.std.specs.Prelude.{slice_get, slice_set}
use Rattle.std.proofs.lemmas.Option.{slice_get_read}
use Rattle.nz_trail.specs.Bounds.{TrailState, IsImplied, IsExcluded}
use Rattle.nz_trail.specs.Pairs.{with_limit}
use Rattle.nz_trail.specs.Stored.{IsTabled, asserted_of}
use Rattle.nz_trail.specs.declared.limits.Limits.{Limits}
use Rattle.nz_trail.specs.declared.trail.Entry.{Entry}
use Rattle.nz_trail.proofs.Tables.{tabled_put}
use Rattle.nz_trail.proofs.trail.Trail.put.Goals as goal

pub invariant_of-self-2 : goal.invariant_of-self-2
invariant_of-self-2 g c =
    let S = g.row.S.Denot in
    let order = g.S.Scalar.order in
    let limits = c.self.inside.limits.items in
    let entries = c.self.inside.entries.items in
    let pair = c.index-limits.result.now in
    let e : Entry S = record { var = c.args.var; side = c.args.side; limit = c.args.limit; replaced = c.on.result } in
    let items : c.push.new.self.items ≡ entries ++ e ∷ [] = search rules in
    let known : e.var < length limits = subst (λ (s : TrailState S). e.var < s.vars) (sym c.self.view_is) c.requires.known in
    let there : slice_get limits e.var ≡ Some pair = slice_get_read limits (length limits) e.var pair refl known c.index-limits.ensures in
    let tighter = subst (λ (s : TrailState S). ¬ IsImplied order s.asserted (asserted_of e)) (sym c.self.view_is) c.requires.tighter in
    let agreeing = subst (λ (s : TrailState S). ¬ IsExcluded order s.asserted (asserted_of e)) (sym c.self.view_is) c.requires.agreeing in
    subst (λ (p : Limits S). IsTabled order (slice_set limits e.var p) c.push.new.self.items) (sym c.with.ensures.limits)
    (subst (λ (xs : List (Entry S)). IsTabled order (slice_set limits e.var (with_limit e.side (Some e.limit) pair)) xs) (sym items)
    (tabled_put g.met.S.Scalar.laws.ordered limits entries e pair c.self.invariant there c.on.ensures.limit tighter agreeing))
