-- Literals on Boolean terms, by the numbers of the terms.
use Rattle.std.specs.Prelude.{ℕ, ◌<◌, true, false, not, List, length, map, All, Contains, Option, Some, None}
use Rattle.std.specs.List.{AllByRecursion}
use Rattle.nz_spec.specs.terms.Table.{Node, term_in}
use Rattle.nz_spec.specs.clauses.Literal.{Literal, term_literal, Clause}
use Rattle.nz_term.specs.declared.term_lits.TermLit.{TermLit}

-- the literal that the term of this number is true, or false
abbrev pub yes : ℕ → TermLit
yes t = record { term = t; sign = true }

abbrev pub no : ℕ → TermLit
no t = record { term = t; sign = false }

abbrev pub turned : TermLit → TermLit
turned l = record { term = l.term; sign = not l.sign }

-- no literal of these is the negation of one of them
abbrev pub AreConsistent : List TermLit → Type 0
AreConsistent ls = All (λ (l : TermLit). Contains ls (turned l) → ⊥) ls

-- there are such literals, each the negation of one of these
abbrev pub AreNegations : List TermLit → Option (List TermLit) → Type 0
AreNegations ls None = ⊥
AreNegations ls (Some c) = All (λ (l : TermLit). Contains ls (turned l)) c

-- ---- In a table of terms

-- what a literal says
abbrev pub literal_of : List Node → TermLit → Literal
literal_of ns l = term_literal (term_in ns l.term) l.sign

abbrev pub clause_of_terms : List Node → List TermLit → Clause
clause_of_terms ns c = map (literal_of ns) c

-- the literals are of terms of the table
abbrev pub AreOfTerms : List Node → List TermLit → Type 0
AreOfTerms ns c = AllByRecursion (λ (l : TermLit). l.term < length ns) c
