-- Atoms by number, and what literals on them say over a table of terms.
use Rattle.std.specs.Prelude.{◌≡◌, ◌⊎◌, ℕ, suc, ◌^◌, ◌<◌, ◌≤◌, ◌==◌, Bool, true, false, List, [], ◌∷◌, length, map, Option, Some, None, slice_get, if◌then◌else◌, Contains, ⊤}
use Rattle.std.specs.List.{AllByRecursion}
use Rattle.nz_spec.specs.terms.Table.{Node, IsTable, term_in}
use Rattle.nz_spec.specs.clauses.Literal.{Literal, term_literal, negation_of, Clause, are_same_literal, StandOnce}
use Rattle.nz_lin.specs.declared.form.Part.{Part}
use Rattle.nz_lin.specs.Bounds.{HasUnits, literal_over}
use Rattle.nz_log.specs.declared.atoms.Atom.{Atom}
use Rattle.nz_log.specs.declared.atoms.Atom.TheVariants.{Term, AtMost}
use Rattle.nz_log.specs.declared.lits.Lit.{Lit}
use Rattle.nz_term.specs.declared.term_lits.TermLit.{TermLit}
use Rattle.nz_log.specs.Lits.{are_same_lit}

-- ---- Tables of atoms

-- a sum that is no atom is below its limit: that is the negation of one
abbrev pub IsNormal : Atom → Type 0
IsNormal (Term t) = ⊤
IsNormal (AtMost b) = b.strict ≡ false

-- Each atom has one number, and a literal on it one of 32 bits.
pub record AreAtoms (atoms : List Atom) : Type 0 where
  pub once : StandOnce atoms
  pub normal : AllByRecursion IsNormal atoms
  pub few : length atoms ≤ 2 ^ 31

-- each atom keeps its number
abbrev pub Stay : (old new : List Atom) → Type 0
Stay old new = (i : ℕ) (a : Atom) → slice_get old i ≡ Some a → slice_get new i ≡ Some a

-- the number of an atom that has joined is one of these
abbrev pub JoinOnly : (old new : List Atom) → (ℕ → Type 0) → Type 0
JoinOnly old new P = (i : ℕ) → i < length new → (i < length old) ⊎ P i

-- one of the literals is on the atom of this number
abbrev pub IsAtomOf : List Lit → ℕ → Type 0
IsAtomOf c i = (l : Lit) × Contains c l × (i ≡ l.atom)

-- the terms that an atom names
abbrev pub unit_numbers : List Part → List ℕ
unit_numbers ps = map (λ (p : Part). p.unit) ps

abbrev pub terms_of : Atom → List ℕ
terms_of (Term t) = t ∷ []
terms_of (AtMost b) = unit_numbers b.sides.parts

-- the terms that a literal names; a number past the end names none
abbrev pub terms_at : List Atom → Lit → List ℕ
terms_at atoms l = elim (slice_get atoms l.atom) [ None ↦ [] | Some a ↦ terms_of a ]

-- ---- Terms

abbrev pub is_of_term : ℕ → Atom → Bool
is_of_term t (Term u) = u == t
is_of_term t (AtMost b) = false

-- the number of the atom that a term is true, or that of the next atom
abbrev pub term_place : List Atom → ℕ → ℕ
term_place [] t = 0
term_place (a ∷ rest) t = if is_of_term t a then 0 else suc (term_place rest t)

-- the atom of the term is there
abbrev pub HasTerm : List Atom → ℕ → Type 0
HasTerm atoms t = slice_get atoms (term_place atoms t) ≡ Some (Term t)

-- The atom of a term keeps its number where each atom does; where a number has it, that is the term's, if each atom has one number.
pub record AtomsOfTerms : Type 0 where
  pub keep : (old new : List Atom) → Stay old new → (t : ℕ) → HasTerm old t → HasTerm new t × (term_place new t ≡ term_place old t)
  pub there : (atoms : List Atom) (i t : ℕ) → slice_get atoms i ≡ Some (Term t) → HasTerm atoms t
  pub only : (atoms : List Atom) (t : ℕ) (a : Atom) → slice_get atoms (term_place atoms t) ≡ Some a → a ≡ Term t
  pub one : (atoms : List Atom) → AreAtoms atoms → (i t : ℕ) → slice_get atoms i ≡ Some (Term t) → i ≡ term_place atoms t

-- the number is that of the term's atom; with no number, there is no such atom
abbrev pub IsFoundTerm : List Atom → ℕ → Option ℕ → Type 0
IsFoundTerm atoms t None = (i : ℕ) → slice_get atoms i ≡ Some (Term t) → ⊥
IsFoundTerm atoms t (Some i) = (i ≡ term_place atoms t) × (slice_get atoms i ≡ Some (Term t))

-- the literal on a term, by the number of its atom
abbrev pub lit_of : List Atom → TermLit → Lit
lit_of atoms l = record { atom = term_place atoms l.term; sign = l.sign }

abbrev pub lits_of : List Atom → List TermLit → List Lit
lits_of atoms c = map (lit_of atoms) c

-- ---- Over a table of terms

-- what an atom says
abbrev pub atom_in : List Node → Atom → Literal
atom_in ns (Term t) = term_literal (term_in ns t) true
atom_in ns (AtMost b) = literal_over ns b

abbrev pub with_sign : Bool → Literal → Literal
with_sign true l = l
with_sign false l = negation_of l

-- what a literal says; a number past the end stands for the first term
abbrev pub literal_in : List Node → List Atom → Lit → Literal
literal_in ns atoms l = elim (slice_get atoms l.atom) [ None ↦ term_literal (term_in ns 0) l.sign | Some a ↦ with_sign l.sign (atom_in ns a) ]

abbrev pub clause_in : List Node → List Atom → List Lit → Clause
clause_in ns atoms c = map (literal_in ns atoms) c

-- the table has the terms of the atom, and they fit
abbrev pub IsAtomIn : List Node → Atom → Type 0
IsAtomIn ns (Term t) = t < length ns
IsAtomIn ns (AtMost b) = HasUnits ns b

-- The literal is on an atom that is there, over the table.
pub record IsLitIn (ns : List Node) (atoms : List Atom) (l : Lit) : Type 0 where
  pub atom : Atom
  pub at : slice_get atoms l.atom ≡ Some atom
  pub within : IsAtomIn ns atom

abbrev pub AreWithin : List Node → List Atom → List Lit → Type 0
AreWithin ns atoms c = AllByRecursion (IsLitIn ns atoms) c

-- over this table two literals are one where their numbers and signs are
abbrev pub LiteralsAgree : List Node → List Atom → Type 0
LiteralsAgree ns atoms =
    (l m : Lit) → IsLitIn ns atoms l → IsLitIn ns atoms m → are_same_literal (literal_in ns atoms l) (literal_in ns atoms m) ≡ are_same_lit l m

-- The test of two literals tells whether they are one, and whether they say the same over a table.
pub record TellsLits : Type 0 where
  pub same : (l m : Lit) → are_same_lit l m ≡ true → l ≡ m
  pub one : (l : Lit) → are_same_lit l l ≡ true
  pub agree : (ns : List Node) → IsTable ns → (atoms : List Atom) → AreAtoms atoms → LiteralsAgree ns atoms
