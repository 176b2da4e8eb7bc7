-- What a check assumes, by the numbers of terms in the table.
use Rattle.std.specs.Prelude.{◌≡◌, List, [], ◌∷◌, ⊤}
use Rattle.nz_spec.specs.terms.Normal.{normal_of}
use Rattle.nz_spec.specs.clauses.Literal.{Literal, term_literal}
use Rattle.nz_spec.specs.terms.Table.{Node}
use Rattle.nz_elaborate.specs.Typed.{StandsFor}
use Rattle.nz_term.specs.declared.term_lits.TermLit.{TermLit}

-- The number is that of the normal term of a literal of a term, which is assumed with its sign.
abbrev pub IsAssumed : List Node → TermLit → Literal → Type 0
IsAssumed ns x (term_literal t sign) = StandsFor ns x.term (normal_of t) × (x.sign ≡ sign)
IsAssumed ns x l = ⊥

-- likewise, one for one
abbrev pub AreAssumed : List Node → List TermLit → List Literal → Type 0
AreAssumed ns [] [] = ⊤
AreAssumed ns (x ∷ xs) (l ∷ ls) = IsAssumed ns x l × AreAssumed ns xs ls
AreAssumed ns xs ls = ⊥
