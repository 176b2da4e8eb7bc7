-- The first operation that leaves the numbers, of one list of them and then another.
use Rattle.std.proofs.Common.{◌≡◌, List, ◌++◌, None, sym, subst}
use Rattle.nz_fractions.proofs.FirstOperations.{first_wide-none, first_wide-some}
use Rattle.nz_fractions.specs.Fraction.{Operation, first_wide}
use Rattle.nz_term.specs.declared.stops.ArithmeticStop.{ArithmeticStop}
use Rattle.nz_term.specs.declared.stops.ArithmeticStop.TheVariants.{Wide, Memory}
use Rattle.nz_term.specs.Stops.{IsStopAt}

pub stop_before : (xs ys : List Operation) (s : ArithmeticStop) → IsStopAt (first_wide xs) s → IsStopAt (first_wide (xs ++ ys)) s
stop_before xs ys (Wide w) h = first_wide-some xs ys _ h
stop_before xs ys Memory h = tt

-- the first list has none, and it is that of the second
pub stop_behind : (xs ys : List Operation) (s : ArithmeticStop) → first_wide xs ≡ None → IsStopAt (first_wide ys) s → IsStopAt (first_wide (xs ++ ys)) s
stop_behind xs ys s none h = subst (λ o. IsStopAt o s) (sym (first_wide-none xs ys none)) h
