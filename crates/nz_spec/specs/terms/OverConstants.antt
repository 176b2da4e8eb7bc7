-- Terms by the constants that they are made of.
use Rattle.std.specs.Prelude.{◌≡◌, List, Contains, ⊤}
use Rattle.nz_spec.specs.terms.Term.{Constant, Head, constant, Term, apply, Terms, no_terms, terms, Assignment, value_of}

-- a head that is a constant is one of these
abbrev pub IsHeadOver : List Constant → Head → Type 0
IsHeadOver cs (constant c) = Contains cs c
IsHeadOver cs h = ⊤

-- So is each constant of the term.
abbrev mutual
  pub IsOver : List Constant → Term → Type 0
  IsOver cs (apply h ts) = IsHeadOver cs h × AreOver cs ts

  pub AreOver : List Constant → Terms → Type 0
  AreOver cs no_terms = ⊤
  AreOver cs (terms t ts) = IsOver cs t × AreOver cs ts

-- two assignments that give these constants the same values
abbrev pub AgreeOn : List Constant → Assignment → Assignment → Type 0
AgreeOn cs a b = (c : Constant) → Contains cs c → a c ≡ b c

-- ---- Laws

-- They give a term over these constants one value.
abbrev pub ConstantsTellValues : Type 0
ConstantsTellValues = (cs : List Constant) (a b : Assignment) (t : Term) → AgreeOn cs a b → IsOver cs t → value_of a t ≡ value_of b t
