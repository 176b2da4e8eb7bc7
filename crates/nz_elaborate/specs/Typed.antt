-- Terms of the code: the number of a normal term, and the sort of the term that it is the normal one of.
use Rattle.std.specs.Prelude.{◌≡◌, ℕ, ◌<◌, List, [], ◌∷◌, length, All, Some, ⊤}
use Rattle.nz_spec.specs.terms.Term as spec
use Rattle.nz_spec.specs.terms.Term.{bool_sort, int_sort, real_sort, Term, Terms, no_terms, terms}
use Rattle.nz_spec.specs.terms.Normal.{normal_of, normals_of}
use Rattle.nz_spec.specs.terms.Table.{Node, term_in, terms_at}
use Rattle.nz_spec.specs.terms.Operators.{Operator, applied, as_real, read_at}
use Rattle.nz_term.specs.Constants.{sort_of}
pub use Rattle.nz_term.specs.Growth.{IsOperator, Grows}
use Rattle.nz_elaborate.specs.declared.typed.Typed.{Typed}

-- The number is that of this term.
pub record StandsFor (ns : List Node) (id : ℕ) (t : Term) : Type 0 where
  pub within : id < length ns
  pub term : term_in ns id ≡ t

-- The number is that of the normal term of this one, and the sort its sort.
pub record IsTyped (ns : List Node) (x : Typed) (t : Term) : Type 0 where
  pub within : x.id < length ns
  pub normal : term_in ns x.id ≡ normal_of t
  pub sort : sort_of x.sort ≡ spec.sort_of t

-- likewise, one for one
abbrev pub AreTyped : List Node → List Typed → Terms → Type 0
AreTyped ns [] no_terms = ⊤
AreTyped ns (x ∷ xs) (terms t ts) = IsTyped ns x t × AreTyped ns xs ts
AreTyped ns [] (terms t ts) = ⊥
AreTyped ns (x ∷ xs) no_terms = ⊥

-- The operator takes these arguments, and this is what it makes of them.
pub record HasApplied (o : Operator) (ts : Terms) (ns : List Node) (x : Typed) : Type 0 where
  pub term : Term
  pub is : applied o ts ≡ Some term
  pub typed : IsTyped ns x term

-- the terms of these numbers, and then others
abbrev pub terms_before : (ℕ → Term) → List ℕ → Terms → Terms
terms_before term_at [] others = others
terms_before term_at (i ∷ is) others = terms (term_at i) (terms_before term_at is others)

-- an argument, read at a sort
abbrev pub read_term : spec.Sort → Term → Term
read_term bool_sort t = t
read_term int_sort t = t
read_term real_sort t = as_real t

-- The numbers are those of the normal terms of these arguments, read at this sort.
pub record HasRead (s : spec.Sort) (ts : Terms) (ns : List Node) (ids : List ℕ) : Type 0 where
  pub within : All (λ i. i < length ns) ids
  pub terms : terms_at (term_in ns) ids ≡ normals_of (read_at s ts)
