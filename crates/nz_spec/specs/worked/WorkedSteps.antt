-- Worked steps: gates of each kind, and a refutation, computed from the definitions.
use Rattle.std.specs.Prelude.{◌≡◌, List, [], ◌∷◌, ◌++◌}
use Rattle.nz_spec.specs.terms.Term.{bool_sort, int_sort, verum, falsum, integer, conjunction, disjunction, exclusion, equality, choice, Term, apply, no_terms}
use Rattle.nz_spec.specs.terms.Normal.{negated, paired}
use Rattle.nz_spec.specs.worked.TermSamples.{a_term}
use Rattle.nz_spec.specs.worked.TruthTables.{b_term, c_term, of_three}
use Rattle.nz_spec.specs.clauses.Literal.{Literal, Clause, clause_of, resolvent}
use Rattle.nz_spec.specs.clauses.Gates.{holds, fails, gate_clauses}
use Rattle.nz_spec.specs.clauses.Steps.{asserting, Step, given_step, gate_step, resolve_step, IsDerivation}

abbrev pub a_true : Literal
a_true = holds a_term

abbrev pub b_true : Literal
b_true = holds b_term

abbrev pub c_true : Literal
c_true = holds c_term

abbrev pub a_false : Literal
a_false = fails a_term

abbrev pub b_false : Literal
b_false = fails b_term

abbrev pub c_false : Literal
c_false = fails c_term

-- the clauses of a term, from the term's own literals
abbrev pub HasGates : Term → (Literal → Literal → List Clause) → Type 0
HasGates t clauses = gate_clauses t ≡ clauses (holds t) (fails t)

-- A gate of each kind, and terms outside the table.
pub record HasGateTable : Type 0 where
  pub truth : HasGates (apply verum no_terms) (λ t n. (t ∷ []) ∷ [])
  pub falsehood : HasGates (apply falsum no_terms) (λ t n. (n ∷ []) ∷ [])
  pub negations : HasGates (negated a_term) (λ t n. (n ∷ a_false ∷ []) ∷ (t ∷ a_true ∷ []) ∷ [])
  pub conjunctions : HasGates (of_three conjunction a_term b_term c_term)
      (λ t n. (n ∷ a_true ∷ []) ∷ (n ∷ b_true ∷ []) ∷ (n ∷ c_true ∷ []) ∷ (t ∷ a_false ∷ b_false ∷ c_false ∷ []) ∷ [])
  pub disjunctions : HasGates (of_three disjunction a_term b_term c_term)
      (λ t n. (t ∷ a_false ∷ []) ∷ (t ∷ b_false ∷ []) ∷ (t ∷ c_false ∷ []) ∷ (n ∷ a_true ∷ b_true ∷ c_true ∷ []) ∷ [])
  pub exclusions : HasGates (paired exclusion a_term b_term)
      (λ t n. (n ∷ a_true ∷ b_true ∷ []) ∷ (n ∷ a_false ∷ b_false ∷ []) ∷ (t ∷ a_false ∷ b_true ∷ []) ∷ (t ∷ a_true ∷ b_false ∷ []) ∷ [])
  pub equations : HasGates (paired equality a_term b_term)
      (λ t n. (n ∷ a_false ∷ b_true ∷ []) ∷ (n ∷ a_true ∷ b_false ∷ []) ∷ (t ∷ a_true ∷ b_true ∷ []) ∷ (t ∷ a_false ∷ b_false ∷ []) ∷ [])
  pub choices : HasGates (of_three (choice bool_sort) a_term b_term c_term)
      (λ t n. (n ∷ a_false ∷ b_true ∷ []) ∷ (n ∷ a_true ∷ c_true ∷ []) ∷ (t ∷ a_false ∷ b_false ∷ []) ∷ (t ∷ a_true ∷ c_false ∷ []) ∷ [])
  pub constants : HasGates a_term (λ t n. [])
  pub number_equations : HasGates (paired equality (apply (integer 1) no_terms) (apply (integer 2) no_terms)) (λ t n. [])
  pub number_choices : HasGates (of_three (choice int_sort) a_term (apply (integer 1) no_terms) (apply (integer 2) no_terms)) (λ t n. [])

-- Resolvents: the literal goes from the first clause and its negation from the second, and what stands in both stands once.
pub record HasResolvents : Type 0 where
  pub goes : resolvent a_true (a_true ∷ b_true ∷ []) (a_false ∷ c_true ∷ []) ≡ b_true ∷ c_true ∷ []
  pub once : resolvent a_true (b_true ∷ a_true ∷ []) (b_true ∷ a_false ∷ []) ≡ b_true ∷ []
  pub turned : resolvent a_false (a_true ∷ b_true ∷ []) (a_false ∷ c_true ∷ []) ≡ a_true ∷ b_true ∷ a_false ∷ c_true ∷ []
  pub missing : resolvent c_true (a_true ∷ []) (b_true ∷ []) ≡ a_true ∷ b_true ∷ []
  pub repeated : clause_of (a_true ∷ b_true ∷ a_true ∷ []) ≡ a_true ∷ b_true ∷ []

-- `a` and `(not a)`, refuted
abbrev pub opposites : List Term
opposites = a_term ∷ negated a_term ∷ []

abbrev pub refuting_steps : List Step
refuting_steps =
    given_step 0 ∷ given_step 1 ∷ gate_step (negated a_term) 0
    ∷ resolve_step 1 2 (holds (negated a_term)) ∷ resolve_step 0 3 a_true ∷ []

-- its clauses before the last
abbrev pub refuting_clauses : List Clause
refuting_clauses =
    (a_true ∷ []) ∷ (holds (negated a_term) ∷ []) ∷ (fails (negated a_term) ∷ a_false ∷ []) ∷ (a_false ∷ []) ∷ []

-- The last step gives the empty clause.
abbrev pub HasRefutation : Type 0
HasRefutation = IsDerivation (λ t. 0) (asserting opposites) refuting_steps (refuting_clauses ++ [] ∷ [])
