-- What is known of terms, by what is kept of each.
use Rattle.std.specs.Prelude.{ℕ, suc, List, [], ◌∷◌, Option, None, if◌then◌else◌}
use Rattle.nz_fractions.specs.Fraction.{Fraction}
use Rattle.nz_term.specs.declared.fact_table.Marks.{Marks}
use Rattle.nz_term.specs.declared.facts.Fact.{Fact}

-- what is known of a term that has this value if it is constant
abbrev pub fact_by : Option Fraction → Marks → Fact
fact_by value m = record { constant = if m.is_constant then value else None; is_linear = m.is_linear; holds_integer = m.holds_integer }

-- likewise of terms, where the first has this number
abbrev pub facts_by : (ℕ → Option Fraction) → ℕ → List Marks → List Fact
facts_by value_of i [] = []
facts_by value_of i (m ∷ ms) = fact_by (value_of i) m ∷ facts_by value_of (suc i) ms
