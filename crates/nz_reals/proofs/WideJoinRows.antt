-- The place of a sum whose row leaves the numbers.
use Rattle.std.proofs.Common.{◌≡◌, false, List, []}
use Rattle.nz_fractions.specs.Fraction.{IsNumber}
use Rattle.nz_spec.specs.terms.Table.{Node}
use Rattle.nz_frac.specs.declared.frac.Wide.{Wide}
use Rattle.nz_frac.specs.Operations.{operation_of}
use Rattle.nz_lin.specs.declared.form.Part.{Part}
use Rattle.nz_lin.specs.Forms.{AreUnits}
use Rattle.nz_term.specs.declared.stops.ArithmeticStop.TheVariants as arithmetic
use Rattle.nz_tab.specs.Units.{is_unit_form}
use Rattle.nz_place.specs.declared.place.Site.TheVariants.{Joining}
use Rattle.nz_place.specs.Places.{IsPlaceIn}
use Rattle.nz_simplex.specs.Joins.{JoinsStopAtRows}
use Rattle.nz_simplex.specs.Moves.{JoinStops, joined_over, joining}
use Rattle.nz_simplex.specs.State.{IsOver, IsSound, State}
use Rattle.nz_fractions.proofs.FirstOperations.{first_wide-is}

pub joining_place : JoinsStopAtRows → (ns : List Node) (s : State) (f : List Part) (w : Wide) → IsSound s → IsOver ns s → AreUnits ns f → JoinStops ns s f (arithmetic.Wide w) → is_unit_form f ≡ false → IsNumber w.a → IsNumber w.b
    → IsPlaceIn ns (joined_over ns s f).forms [] (joined_over ns s f).point (record { wide = w; site = Joining })
joining_place law ns s f w sound over are stops many left right = record {
  at = law ns s f w sound over are many stops;
  leaves = record { left = left; right = right; wide = (first_wide-is (joining ns s stops.0 f).operations (operation_of w) stops.2).1 };
  within = tt;
}
