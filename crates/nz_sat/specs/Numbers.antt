-- Atoms by the numbers that a work list gives them.
use Rattle.std.specs.Prelude.{◌≡◌, ℕ, suc, ◌==◌, Bool, true, false, List, [], ◌∷◌, map, slice_get, Option, Some, None, option_map, unwrap_or, slice_index_or, if◌then◌else◌}
use Rattle.nz_spec.specs.clauses.Literal.{Literal}
use Rattle.nz_spec.specs.terms.Table.{Node}
use Rattle.nz_spec.specs.search.Work.{WorkLine, UnitLine, NoteLine}
use Rattle.nz_log.specs.declared.atoms.Atom as log
use Rattle.nz_log.specs.declared.lits.Lit.{Lit}
use Rattle.nz_search.specs.declared.note.Note.{Note}
use Rattle.nz_search.specs.declared.note.Note.TheVariants.{Start, Atom, Bound, Form, Under, Told}
use Rattle.nz_log.specs.Atoms.{IsLitIn, literal_in}

-- the atoms that these lines name, in their order
abbrev pub noted_atoms : List (WorkLine Note) → List log.Atom
noted_atoms [] = []
noted_atoms (NoteLine (Start start) ∷ lines) = noted_atoms lines
noted_atoms (NoteLine (Atom t) ∷ lines) = log.TheVariants.Term t ∷ noted_atoms lines
noted_atoms (NoteLine (Bound b) ∷ lines) = log.TheVariants.AtMost b ∷ noted_atoms lines
noted_atoms (NoteLine (Form atom) ∷ lines) = noted_atoms lines
noted_atoms (NoteLine (Under literals) ∷ lines) = noted_atoms lines
noted_atoms (NoteLine (Told atom sign) ∷ lines) = noted_atoms lines
noted_atoms (UnitLine entry ∷ lines) = noted_atoms lines

-- these atoms of a log are those that the lines name, in their order
abbrev pub AreNotedIn : List log.Atom → List (WorkLine Note) → List ℕ → Type 0
AreNotedIn all lines atoms = map (slice_get all) atoms ≡ map Some (noted_atoms lines)

-- the number of an atom
abbrev pub number_of : List ℕ → ℕ → Option ℕ
number_of [] t = None
number_of (u ∷ us) t = if u == t then Some 0 else option_map suc (number_of us t)

-- the number of an atom behind one more, by whether it is that, and how many were before it
abbrev pub number_or : Option ℕ → Bool → ℕ → Option ℕ
number_or (Some n) here next = Some n
number_or None true next = Some next
number_or None false next = None

-- what an atom says; a number past the end stands for the first term
abbrev pub atom_literal : List Node → List log.Atom → ℕ → Literal
atom_literal ns all i = literal_in ns all (record { atom = i; sign = true })

-- the atom of a number is there, and over the table
abbrev pub IsAtomAt : List Node → List log.Atom → ℕ → Type 0
IsAtomAt ns all i = IsLitIn ns all (record { atom = i; sign = true })

-- a literal by the number of its atom
abbrev pub numbered : List ℕ → Lit → ℕ × Bool
numbered atoms l = (unwrap_or (number_of atoms l.atom) 0, l.sign)

-- the table has the number of each atom
abbrev pub IsNumbered : List ℕ → List (Option ℕ) → Type 0
IsNumbered atoms numbers = (t : ℕ) → slice_index_or numbers t None ≡ number_of atoms t
