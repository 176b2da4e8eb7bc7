-- The gate table: the clauses that tie a Boolean operator to its arguments (Tseitin 1968), as a function of the term.
use Rattle.std.specs.Prelude.{◌≡◌, ℕ, ◌<◌, Bool, true, false, ⊤, List, [], ◌∷◌, ◌++◌, length, map, Contains, Option, Some, if◌then◌else◌}
use Rattle.std.specs.List.{AllByRecursion}
use Rattle.nz_spec.specs.terms.Term.{Constant, Head, bool_sort, constant, verum, falsum, negation, conjunction, disjunction, exclusion, equality, choice, Term, apply, Terms, no_terms, terms, Assignment, truth, value_of, sort_of, is_bool, holds_number}
use Rattle.nz_spec.specs.terms.Table.{Node, term_in, HasOneNumberEach}
use Rattle.nz_spec.specs.terms.Order.{post_order}
use Rattle.nz_spec.specs.terms.Model.{IsAssignment, HasSort}
use Rattle.nz_spec.specs.clauses.Literal.{Literal, term_literal, Clause, IsClauseTrue}

-- ---- The table, over terms that are named in any way, by what it is that one is true, or false, and whether one is Boolean

module _ {A L : Type 0} (yes no : A → L) (is_boolean : A → Bool) where
  -- where a conjunction is true, so is each argument; where all are, so is it
  abbrev pub conjunction_clauses : A → List A → List (List L)
  conjunction_clauses t args = map (λ u. no t ∷ yes u ∷ []) args ++ (yes t ∷ map no args) ∷ []

  -- where an argument of a disjunction is true, so is it; where it is true, so is one of them
  abbrev pub disjunction_clauses : A → List A → List (List L)
  disjunction_clauses t args = map (λ u. yes t ∷ no u ∷ []) args ++ (no t ∷ map yes args) ∷ []

  -- the clauses of a term of this head over these arguments
  abbrev pub clauses_over : A → Head → List A → List (List L)
  clauses_over t verum [] = (yes t ∷ []) ∷ []
  clauses_over t falsum [] = (no t ∷ []) ∷ []
  clauses_over t negation (u ∷ []) = (no t ∷ no u ∷ []) ∷ (yes t ∷ yes u ∷ []) ∷ []
  clauses_over t conjunction args = conjunction_clauses t args
  clauses_over t disjunction args = disjunction_clauses t args
  clauses_over t exclusion (u ∷ v ∷ []) =
      (no t ∷ yes u ∷ yes v ∷ []) ∷ (no t ∷ no u ∷ no v ∷ []) ∷ (yes t ∷ no u ∷ yes v ∷ []) ∷ (yes t ∷ yes u ∷ no v ∷ []) ∷ []
  clauses_over t equality (u ∷ v ∷ []) =
      if is_boolean u
      then (no t ∷ no u ∷ yes v ∷ []) ∷ (no t ∷ yes u ∷ no v ∷ []) ∷ (yes t ∷ yes u ∷ yes v ∷ []) ∷ (yes t ∷ no u ∷ no v ∷ []) ∷ []
      else []
  clauses_over t (choice bool_sort) (c ∷ u ∷ v ∷ []) =
      (no t ∷ no c ∷ yes u ∷ []) ∷ (no t ∷ yes c ∷ yes v ∷ []) ∷ (yes t ∷ no c ∷ no u ∷ []) ∷ (yes t ∷ yes c ∷ no v ∷ []) ∷ []
  clauses_over t h args = []

-- ---- Terms themselves

-- the literal that the term is true, or false
abbrev pub holds : Term → Literal
holds t = term_literal t true

abbrev pub fails : Term → Literal
fails t = term_literal t false

abbrev pub list_of : Terms → List Term
list_of no_terms = []
list_of (terms t ts) = t ∷ list_of ts

abbrev pub is_boolean_term : Term → Bool
is_boolean_term t = is_bool (sort_of t)

-- the clauses of a term, in the order of the table; a term outside the table has none
abbrev pub gate_clauses : Term → List Clause
gate_clauses (apply h ts) = clauses_over holds fails is_boolean_term (apply h ts) h (list_of ts)

-- ---- Terms of the table alone

-- a constant of sort Bool, or a head of the table over as many arguments as it has there
abbrev pub IsRow : Head → Terms → Type 0
IsRow (constant c) no_terms = c.sort ≡ bool_sort
IsRow verum no_terms = ⊤
IsRow falsum no_terms = ⊤
IsRow negation (terms t no_terms) = ⊤
IsRow conjunction ts = ⊤
IsRow disjunction ts = ⊤
IsRow exclusion (terms t (terms u no_terms)) = ⊤
IsRow equality (terms t (terms u no_terms)) = ⊤
IsRow (choice bool_sort) (terms c (terms t (terms u no_terms))) = ⊤
IsRow h ts = ⊥

-- The term is so, and all that it is made of.
abbrev mutual
  pub IsGated : Term → Type 0
  IsGated (apply h ts) = IsRow h ts × AreGated ts

  pub AreGated : Terms → Type 0
  AreGated no_terms = ⊤
  AreGated (terms t ts) = IsGated t × AreGated ts

-- ---- Truths of terms, which some terms have

module _ (HasTruth : Term → Bool → Type 0) where
  -- one of the literals is true
  abbrev pub HasTrueLiteral : Clause → Type 0
  HasTrueLiteral c = (u : Term) × (sign : Bool) × Contains c (term_literal u sign) × HasTruth u sign

  -- Each clause of these terms has a true literal, and the assignment gives the constants among them their truths.
  pub record MeetsGates (a : Assignment) (parts : List Term) : Type 0 where
    pub clauses : (u : Term) → Contains parts u → AllByRecursion HasTrueLiteral (gate_clauses u)
    pub constants : (c : Constant) (sign : Bool) → Contains parts (apply (constant c) no_terms) → HasTruth (apply (constant c) no_terms) sign → a c ≡ truth sign

-- each term has the truth that a function gives it
abbrev pub IsTruthBy : (Term → Bool) → Term → Bool → Type 0
IsTruthBy truths t sign = truths t ≡ sign

-- the term has the truth that is listed with a number of it in a table
abbrev pub IsTruthAt : List Node → (ℕ → Option Bool) → Term → Bool → Type 0
IsTruthAt ns truths t sign = (i : ℕ) × (i < length ns) × (term_in ns i ≡ t) × (truths i ≡ Some sign)

-- ---- Laws

-- The term has a truth under each assignment.
abbrev pub IsBoolean : Term → Type 0
IsBoolean t = HasSort bool_sort t

abbrev pub HasBooleanArguments : Term → Type 0
HasBooleanArguments (apply h ts) = AllByRecursion IsBoolean (list_of ts)

-- The clauses of a term over Boolean arguments are true under each assignment.
abbrev pub GatesAreTrue : Type 0
GatesAreTrue = (a : Assignment) → IsAssignment a → (t : Term) → HasBooleanArguments t → AllByRecursion (IsClauseTrue a) (gate_clauses t)

-- A term that holds no number is Boolean, and so are its arguments.
pub record PlainTermsAreBoolean : Type 0 where
  pub itself : (t : Term) → holds_number t ≡ false → IsBoolean t
  pub arguments : (t : Term) → holds_number t ≡ false → HasBooleanArguments t

-- A term of the table holds no number.
abbrev pub GatedTermsArePlain : Type 0
GatedTermsArePlain = (t : Term) → IsGated t → holds_number t ≡ false

-- Where the truths of all that a term of the table is made of meet the clauses, the term has the value that its truth says.
abbrev pub GatesDecide : Type 0
GatesDecide = (a : Assignment) (truths : Term → Bool) (t : Term) → IsGated t → MeetsGates (IsTruthBy truths) a (post_order t) → value_of a t ≡ truth (truths t)

-- So it is of truths by numbers, where each term has one number at most.
abbrev pub NumberedGatesDecide : Type 0
NumberedGatesDecide = (ns : List Node) → HasOneNumberEach ns → (a : Assignment) (truths : ℕ → Option Bool) (t : Term) (sign : Bool)
    → IsGated t → MeetsGates (IsTruthAt ns truths) a (post_order t) → IsTruthAt ns truths t sign → value_of a t ≡ truth sign
