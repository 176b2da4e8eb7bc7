-- What two forms differ by, from either side.
use Rattle.std.specs.Prelude.{List, Result, Ok, Err}
use Rattle.nz_fractions.specs.Fraction.{first_wide}
use Rattle.nz_spec.specs.numbers.Computation.{Computation}
use Rattle.nz_spec.specs.terms.Form.{Form}
use Rattle.nz_spec.specs.terms.FormOf.{number_in}
use Rattle.nz_spec.specs.clauses.Links.{minus}
use Rattle.nz_spec.specs.terms.Table.{Node}
use Rattle.nz_term.specs.declared.stops.ArithmeticStop.{ArithmeticStop}
use Rattle.nz_lin.specs.Comes.{IsFormed}
use Rattle.nz_term.specs.Stops.{IsStopAt}
use Rattle.nz_rows.specs.declared.bounds.Opposites.{Opposites}

-- of two computations; a stop is that of the first less the second
abbrev pub AreOpposites : List Node → (c d : Computation Form) → Result Opposites ArithmeticStop → Type 0
AreOpposites ns c d (Ok x) = IsFormed ns (minus (number_in ns) c d) (Ok x.forward) × IsFormed ns (minus (number_in ns) d c) (Ok x.backward)
AreOpposites ns c d (Err s) = IsStopAt (first_wide (minus (number_in ns) c d).operations) s
