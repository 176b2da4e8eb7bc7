-- The new variable has no bounds.
use Rattle.std.proofs.Common.{rules, ◌≡◌, ◌∷◌, [], ◌++◌, List, None, sym, subst}
use Rattle.nz_trail.specs.declared.limits.Limits.{Limits}
use Rattle.nz_trail.specs.Stored.{IsTabled}
use Rattle.nz_trail.proofs.Tables.{tabled_var}
use Rattle.nz_trail.proofs.trail.Trail.add_var.Goals as goal

pub invariant_of-self-2 : goal.invariant_of-self-2
invariant_of-self-2 g c =
    let limits = c.self.inside.limits.items in
    let entries = c.self.inside.entries.items in
    let items : c.push.new.self.items ≡ limits ++ record { lower = None; upper = None } ∷ [] = search rules in
    subst (λ (xs : List (Limits g.row.S.Denot)). IsTabled g.S.Scalar.order xs entries) (sym items) (tabled_var limits entries c.self.invariant)
