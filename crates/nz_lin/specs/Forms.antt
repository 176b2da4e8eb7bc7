-- What forms of the code are: over a table, whose numbers name their units.
use Rattle.std.specs.Prelude.{◌≡◌, ℕ, ◌<◌, List, [], ◌∷◌, ◌++◌, map, length, set, remove, slice_get, ⊤, Some, None, pos, if◌then◌else◌}
use Rattle.std.specs.List.{AllByRecursion}
use Rattle.nz_fractions.specs.Fraction.{Fraction, whole, neg_ℚ, Arithmetic, first_wide}
use Rattle.nz_spec.specs.numbers.Computation.{Computation, operated}
use Rattle.nz_spec.specs.terms.Form as spec
use Rattle.nz_spec.specs.terms.FormOf.{form_of, number_in}
use Rattle.nz_spec.specs.terms.Table.{Node, term_in}
use Rattle.nz_spec.specs.terms.Term.{sort_of, is_zero}
use Rattle.nz_term.specs.Constants as sorts
use Rattle.nz_lin.specs.declared.form.Part.{Part}

-- parts by the numbers of their units, and a number that is added
pub record Numbered : Type 0 where
  pub parts : List Part
  pub offset : Fraction

abbrev pub part_over : List Node → Part → spec.Part
part_over ns p = record { coefficient = p.coefficient; unit = term_in ns p.unit }

abbrev pub parts_over : List Node → List Part → List spec.Part
parts_over ns ps = map (part_over ns) ps

abbrev pub form_over : List Node → Numbered → spec.Form
form_over ns f = record { parts = parts_over ns f.parts; offset = f.offset }

-- a part with the other sign
abbrev pub negated : Part → Part
negated p = record { unit = p.unit; sort = p.sort; coefficient = neg_ℚ p.coefficient }

-- the parts with one more, where its coefficient isn't 0
abbrev pub with_last : List Part → Part → List Part
with_last ps p = if is_zero p.coefficient then ps else ps ++ p ∷ []

-- the coefficient at a place with another, and the list with it
abbrev pub meeting : List Part → Arithmetic → ℕ → Fraction → Computation Fraction
meeting ps op place c = operated op (elim (slice_get ps place) [ Some p ↦ p.coefficient | None ↦ whole (pos 0) ]) c

abbrev pub with_met : List Part → ℕ → Fraction → List Part
with_met ps place met =
    if is_zero met then remove ps place
    else elim (slice_get ps place) [ Some p ↦ set ps place (record { unit = p.unit; sort = p.sort; coefficient = met }) | None ↦ ps ]

-- the part names a term of the table, and its sort
abbrev pub NamesUnit : List Node → Part → Type 0
NamesUnit ns p = (p.unit < length ns) × (sorts.sort_of p.sort ≡ sort_of (term_in ns p.unit))

-- the numbers of the units rise
abbrev pub AreInOrder : List Part → Type 0
AreInOrder [] = ⊤
AreInOrder (p ∷ ps) = AllByRecursion (λ (q : Part). p.unit < q.unit) ps × AreInOrder ps

-- the parts of a form over this table
pub record AreUnits (ns : List Node) (ps : List Part) : Type 0 where
  pub names : AllByRecursion (NamesUnit ns) ps
  pub in_order : AreInOrder ps

-- this is the form of a term of a table, and none of its operations leaves the numbers
pub record IsFormOf (ns : List Node) (id : ℕ) (f : Numbered) : Type 0 where
  pub form : form_over ns f ≡ (form_of (number_in ns) (term_in ns id)).result
  pub fits : first_wide (form_of (number_in ns) (term_in ns id)).operations ≡ None
  pub units : AreUnits ns f.parts
