-- The gate table, with literals on Boolean terms by the numbers of the terms.
use Rattle.std.specs.Prelude.{ℕ, Bool, List, [], ◌∷◌, ◌++◌, map, Some, None, not, slice_get}
use Rattle.std.specs.declared.vec.Vec.{Vec}
use Rattle.std.specs.declared.alloc.Global.{Global}
use Rattle.nz_spec.specs.terms.Term.{Head, sort_of, is_bool}
use Rattle.nz_spec.specs.terms.Table.{Node, term_in}
use Rattle.nz_spec.specs.clauses.Gates.{clauses_over}
use Rattle.nz_term.specs.declared.term_lits.TermLit.{TermLit}
use Rattle.nz_term.specs.TermLits.{no, turned, yes}

abbrev pub is_boolean_at : List Node → ℕ → Bool
is_boolean_at ns i = is_bool (sort_of (term_in ns i))

-- the clauses of a term of this head over these arguments
abbrev pub gates_over : List Node → ℕ → Head → List ℕ → List (List TermLit)
gates_over ns t h kids = clauses_over yes no (is_boolean_at ns) t h kids

-- the clauses of the gate table of the term of a number
abbrev pub gates_at : List Node → ℕ → List (List TermLit)
gates_at ns t = elim (slice_get ns t) [ None ↦ [] | Some n ↦ gates_over ns t n.head n.kids ]

-- the literals of rows
abbrev pub lists_of : List (Vec TermLit Global) → List (List TermLit)
lists_of rows = map (λ (v : Vec TermLit Global). v.items) rows

-- the literals of these terms with a sign
abbrev pub signed : Bool → List ℕ → List TermLit
signed sign ts = map (λ t. record { term = t; sign = sign }) ts

-- a literal with each of these
abbrev pub paired : TermLit → Bool → List ℕ → List (List TermLit)
paired l sign ts = map (λ t. l ∷ record { term = t; sign = sign } ∷ []) ts

-- those of a conjunction, where the first literal is that it is false, and the sign is true; of a disjunction the other way round
abbrev pub connected : TermLit → Bool → List ℕ → List (List TermLit)
connected l sign ts = paired l sign ts ++ (turned l ∷ signed (not sign) ts) ∷ []

-- the clauses of a term that has none where it has arguments
abbrev pub only : List TermLit → List ℕ → List (List TermLit)
only c [] = c ∷ []
only c (k ∷ ks) = []

-- those of a term that is true where one of two literals is true and the other isn't
abbrev pub excluded : ℕ → TermLit → TermLit → List (List TermLit)
excluded t a b = (no t ∷ a ∷ b ∷ []) ∷ (no t ∷ turned a ∷ turned b ∷ []) ∷ (yes t ∷ turned a ∷ b ∷ []) ∷ (yes t ∷ a ∷ turned b ∷ []) ∷ []
