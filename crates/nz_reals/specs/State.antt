-- What a contract sees of the theory.
use Rattle.std.specs.Prelude.{ℕ, ◌==◌, List, [], ◌∷◌, Option, Some, None, if◌then◌else◌, map, slice_index_or, false}
use Rattle.nz_spec.specs.clauses.Literal as spec
use Rattle.nz_spec.specs.clauses.Literal.{term_literal}
use Rattle.nz_spec.specs.terms.Table.{Node, term_in}
use Rattle.nz_lin.specs.declared.form.Part.{Part}
use Rattle.nz_lin.specs.Forms.{parts_over}
use Rattle.nz_log.specs.declared.lits.Lit.{Lit}
use Rattle.nz_simplex.specs.State.{State, empty_state}
use Rattle.nz_reals.specs.declared.atoms.BoundedAtom.{BoundedAtom}
use Rattle.nz_reals.specs.declared.reals.MarkedLiteral.{MarkedLiteral}
use Rattle.nz_reals.specs.Known.{Known, known_of, literal_by}

-- What is known of an atom, by its number.
pub record KnownAtom : Type 0 where
  pub atom : ℕ
  pub known : Known

-- The simplex, what atoms say of its forms, the last of what is known of one atom, and the literals that were told, the oldest first, each with the number of
-- bounds that stood before.
pub record Theory : Type 0 where
  pub simplex : State
  pub known : List KnownAtom
  pub told : List MarkedLiteral

abbrev pub empty_theory : Theory
empty_theory = record { simplex = empty_state; known = []; told = [] }

abbrev pub known_list : List BoundedAtom → List KnownAtom
known_list es = map (λ (e : BoundedAtom). record { atom = e.atom; known = known_of e.bounded }) es

-- the last of what is known of an atom
abbrev pub known_among : List KnownAtom → ℕ → Option Known
known_among [] i = None
known_among (e ∷ es) i = elim (known_among es i) [ None ↦ if e.atom == i then Some e.known else None | Some k ↦ Some k ]

-- what an atom says, where it is known
abbrev pub known_at : Theory → ℕ → Option Known
known_at t i = known_among t.known i

-- a form, by its number
abbrev pub sum_at : Theory → ℕ → List Part
sum_at t k = slice_index_or t.simplex.forms k []

-- the literals that were told
abbrev pub told_lits : Theory → List Lit
told_lits t = map (λ (x : MarkedLiteral). x.literal) t.told

-- the literal that was told at a place
abbrev pub lit_at : Theory → ℕ → Lit
lit_at t r = (slice_index_or t.told r (record { literal = record { atom = 0; sign = false }; mark = 0 })).literal

-- what a literal says over a table, by what is known of its atom
abbrev pub literal_over : List Node → Theory → Lit → spec.Literal
literal_over ns t l =
    elim (known_at t l.atom) [ None ↦ term_literal (term_in ns 0) l.sign | Some k ↦ literal_by (parts_over ns (sum_at t k.form)) k l.sign ]
