-- The difference of two forms, from either side.
use Rattle.std.specs.Prelude.{◌≡◌, List, None}
use Rattle.nz_fractions.specs.Fraction.{Difference, first_wide}
use Rattle.nz_spec.specs.terms.Form.{joined, negated_form}
use Rattle.nz_spec.specs.terms.FormOf.{number_in}
use Rattle.nz_spec.specs.terms.Table.{IsTable, Node}
use Rattle.nz_lin.specs.Comes.{IsDone}
use Rattle.nz_lin.specs.Forms.{AreUnits, Numbered, form_over}

-- Where the difference of two forms stays within the numbers, that of the second and the first does, and is its negation.
abbrev pub DifferencesAreOpposite : Type 0
DifferencesAreOpposite = (ns : List Node) → IsTable ns → (f g : Numbered) → AreUnits ns f.parts → AreUnits ns g.parts
    → first_wide (joined (number_in ns) Difference (form_over ns f) (form_over ns g)).operations ≡ None
    → IsDone (joined (number_in ns) Difference (form_over ns g) (form_over ns f)) (negated_form (joined (number_in ns) Difference (form_over ns f) (form_over ns g)).result)
