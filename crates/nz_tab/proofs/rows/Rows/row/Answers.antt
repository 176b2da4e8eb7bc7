-- A row stands in its slot.
use Rattle.std.proofs.Common.{◌<◌, length, sym, ap, subst, arith}
use Rattle.nz_tab.specs.Rows.{Grid}
use Rattle.nz_tab.proofs.rows.Rows.row.Goals as goal
use Rattle.nz_tab.proofs.rows.Rows.row.Goals.{After-as_slice-places}

inside : (c : After-as_slice-places) → c.args.var < length c.self.inside.nonbasic.items
inside c = subst (λ (x : Grid). c.args.var < length x.marks) (sym c.self.view_is) c.requires.listed

pub bounds-places-var : goal.bounds-places-var
bounds-places-var c = omega (arith, c.self.invariant.placed, inside (goal.at.bounds-places-var c).After-as_slice-places, ap length c.as_slice-places.ensures.value)

pub offset_bounds-places-var : goal.offset_bounds-places-var
offset_bounds-places-var c = omega (arith, c.self.invariant.placed, inside (goal.at.offset_bounds-places-var c).After-as_slice-places, ap length c.as_slice-places.ensures.value, c.as_slice-places.type_inv)
