-- Where a form that joins leaves the numbers.
use Rattle.std.specs.Prelude.{◌≡◌, false, List, []}
use Rattle.nz_spec.specs.simplex.LiteralBounds.{position_under}
use Rattle.nz_spec.specs.search.Places.{IsOfJoining}
use Rattle.nz_spec.specs.terms.Table.{Node}
use Rattle.nz_frac.specs.declared.frac.Wide as frac
use Rattle.nz_frac.specs.Operations.{operation_of}
use Rattle.nz_lin.specs.declared.form.Part.{Part}
use Rattle.nz_lin.specs.Forms.{AreUnits}
use Rattle.nz_term.specs.declared.stops.ArithmeticStop.TheVariants.{Wide}
use Rattle.nz_tab.specs.Units.{is_unit_form}
use Rattle.nz_simplex.specs.Moves.{JoinStops, joined_over}
use Rattle.nz_simplex.specs.State.{State, IsOver, IsSound}

-- Where a join stops, the operation is one of the row of the form that joins, over the position to which its units have joined.
abbrev pub JoinsStopAtRows : Type 0
JoinsStopAtRows = (ns : List Node) (s : State) (f : List Part) (w : frac.Wide) → IsSound s → IsOver ns s → AreUnits ns f → is_unit_form f ≡ false → JoinStops ns s f (Wide w)
    → IsOfJoining (position_under (joined_over ns s f).forms (joined_over ns s f).point []) (operation_of w)
