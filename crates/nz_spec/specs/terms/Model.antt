-- Models: which assignments make terms true (SMT-LIB 2.6, sections 4.1.5 and 5.3: satisfiability).
use Rattle.std.specs.Prelude.{◌≡◌, List, [], ◌∷◌, map, if◌then◌else◌}
use Rattle.std.specs.List.{AllByRecursion}
use Rattle.nz_spec.specs.terms.Term.{Sort, Constant, are_same_constant, Term, Value, Assignment, default_value, value_of, IsOfSort, ValueFits, IsTrueUnder}
use Rattle.nz_spec.specs.clauses.Literal.{Literal, AreTrueLiterals}

-- what a constant stands for in a model
pub record Binding : Type 0 where
  pub constant : Constant
  pub value : Value

-- what the bindings give a constant: what is bound first, and the default of its sort where nothing is
abbrev pub assignment_of : List Binding → Assignment
assignment_of [] c = default_value c.sort
assignment_of (b ∷ bs) c = if are_same_constant b.constant c then b.value else assignment_of bs c

-- The assignment gives each constant a value of its sort.
abbrev pub IsAssignment : Assignment → Type 0
IsAssignment a = (c : Constant) → IsOfSort c.sort (a c)

-- Under each such assignment the term has a value of this sort.
abbrev pub HasSort : Sort → Term → Type 0
HasSort s t = (a : Assignment) → IsAssignment a → IsOfSort s (value_of a t)

-- The assignment makes each of the asserted terms and of the assumed literals true.
pub record IsModel (asserted : List Term) (assumed : List Literal) (a : Assignment) : Type 0 where
  pub sorts : IsAssignment a
  pub asserted_hold : AllByRecursion (IsTrueUnder a) asserted
  pub assumed_hold : AreTrueLiterals a assumed

-- No assignment does.
abbrev pub IsUnsatisfiable : List Term → List Literal → Type 0
IsUnsatisfiable asserted assumed = (a : Assignment) → IsModel asserted assumed a → ⊥

-- what each of the bindings gives its constant is a truth, or a number of 128 bits
abbrev pub ValuesFit : List Binding → Type 0
ValuesFit bs = AllByRecursion (λ (b : Binding). ValueFits b.value) bs

-- The bindings are of these constants, in their order, each to a truth or a number, and make a model.
pub record AreModel (cs : List Constant) (asserted : List Term) (assumed : List Literal) (bs : List Binding) : Type 0 where
  pub constants : map (λ (b : Binding). b.constant) bs ≡ cs
  pub numbers : ValuesFit bs
  pub makes : IsModel asserted assumed (assignment_of bs)
