-- What a value of the code is.
use Rattle.std.specs.Prelude.{◌≡◌, ℕ, nat_eq, List, option_map}
use Rattle.std.specs.HashMap.{HashMap, get}
use Rattle.nz_spec.specs.terms.Term as spec
use Rattle.nz_spec.specs.terms.Term.{truth, number}
use Rattle.nz_spec.specs.terms.Table.{listed_value}
use Rattle.nz_term.specs.declared.assign.Value.{Value}
use Rattle.nz_term.specs.declared.assign.Value.TheVariants.{Truth, Number}

abbrev pub value_of : Value → spec.Value
value_of (Truth b) = truth b
value_of (Number q) = number q

-- a number with its value
abbrev pub pair_of : ℕ × Value → ℕ × spec.Value
pair_of p = (p.0, value_of p.1)

-- the map has the first value that is listed with each number
abbrev pub HasFirsts : {S : Type 0} → HashMap ℕ Value S → List (ℕ × spec.Value) → Type 0
HasFirsts firsts ps = (id : ℕ) → option_map value_of (get nat_eq firsts id) ≡ listed_value ps id
