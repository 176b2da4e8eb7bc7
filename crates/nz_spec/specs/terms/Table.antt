-- A table of shared terms: a list of nodes, the oldest first, each with the places of its arguments in the list.
-- A place is the number of the term that stands there.
use Rattle.std.specs.Prelude.{◌≡◌, ℕ, ◌<◌, ◌≤◌, ◌==◌, Bool, false, IsTrue, List, [], ◌∷◌, ◌++◌, length, take, Option, Some, None, All, fold, slice_get, slice_index_or, unwrap_or, if◌then◌else◌, ⊤}
use Rattle.nz_spec.specs.terms.Term.{Constant, are_same_constant, Head, constant, falsum, constant_of, head_fits, Term, apply, Terms, no_terms, terms, Value, Assignment, default_value}

pub record Node : Type 0 where
  pub head : Head
  pub kids : List ℕ

-- the terms of these numbers, by what a number stands for
abbrev pub terms_at : (ℕ → Term) → List ℕ → Terms
terms_at term_of [] = no_terms
terms_at term_of (i ∷ is) = terms (term_of i) (terms_at term_of is)

-- the term of a number in a list of terms; a number past its end stands for `false`
abbrev pub listed_term : List Term → ℕ → Term
listed_term ts i = slice_index_or ts i (apply falsum no_terms)

-- a list of terms, and then that of a node, whose arguments are in the list
abbrev pub with_term : List Term → Node → List Term
with_term ts n = ts ++ apply n.head (terms_at (listed_term ts) n.kids) ∷ []

-- the term of a number in a table
unfoldable pub term_in : List Node → ℕ → Term
term_in ns i = listed_term (fold with_term [] ns) i

-- a constant has no arguments
abbrev pub HasItsArguments : Head → List ℕ → Type 0
HasItsArguments h kids = elim (constant_of h) [ Some c ↦ kids ≡ [] | None ↦ ⊤ ]

-- Arguments come before the node, no node stands twice, what is spelled as a number is one, and a constant has no arguments.
pub record IsTable (ns : List Node) : Type 0 where
  pub before : (i : ℕ) (n : Node) → slice_get ns i ≡ Some n → All (λ k. k < i) n.kids
  pub once : (i j : ℕ) (n : Node) → slice_get ns i ≡ Some n → slice_get ns j ≡ Some n → i ≡ j
  pub fits : (i : ℕ) (n : Node) → slice_get ns i ≡ Some n → IsTrue (head_fits n.head)
  pub leaves : (i : ℕ) (n : Node) → slice_get ns i ≡ Some n → HasItsArguments n.head n.kids

-- Equal terms have equal numbers.
abbrev pub HasOneNumberEach : List Node → Type 0
HasOneNumberEach ns = (i j : ℕ) → i < length ns → j < length ns → term_in ns i ≡ term_in ns j → i ≡ j

-- ---- Laws

-- In a table equal terms have equal numbers.
abbrev pub OneNumber : Type 0
OneNumber = (ns : List Node) → IsTable ns → HasOneNumberEach ns

-- The term of a number is the head of its node over the terms of the arguments.
abbrev pub TermOfNode : Type 0
TermOfNode = (ns : List Node) → IsTable ns → (i : ℕ) (n : Node) → slice_get ns i ≡ Some n → term_in ns i ≡ apply n.head (terms_at (term_in ns) n.kids)

-- The term of a number stays when a table grows, and where it is cut behind the number.
abbrev pub TermStays : Type 0
TermStays = (ns more : List Node) (i : ℕ) → i < length ns → term_in (ns ++ more) i ≡ term_in ns i

abbrev pub TermStaysInFront : Type 0
TermStaysInFront = (ns : List Node) (m i : ℕ) → i < m → m ≤ length ns → term_in (take m ns) i ≡ term_in ns i

-- So do the terms of a list of numbers.
abbrev pub TermsStay : Type 0
TermsStay = (ns more : List Node) (is : List ℕ) → All (λ i. i < length ns) is → terms_at (term_in (ns ++ more)) is ≡ terms_at (term_in ns) is

-- ---- Assignments by numbers of constants

-- the node is this constant
abbrev pub is_node_of : Option Node → Constant → Bool
is_node_of None c = false
is_node_of (Some n) c = elim (constant_of n.head) [ Some d ↦ are_same_constant d c | None ↦ false ]

-- the first value that is listed with a number
abbrev pub listed_value : List (ℕ × Value) → ℕ → Option Value
listed_value [] i = None
listed_value (p ∷ ps) i = if p.0 == i then Some p.1 else listed_value ps i

-- what a list of numbers of constants, each with a value, gives a constant: the first value that is listed with its number, and
-- the default of its sort where none is
abbrev pub assignment_by : List Node → List (ℕ × Value) → Assignment
assignment_by ns [] c = default_value c.sort
assignment_by ns (p ∷ ps) c = if is_node_of (slice_get ns p.0) c then p.1 else assignment_by ns ps c

-- In a table the assignment gives a constant the value that is listed with its number.
abbrev pub AssignsByNumber : Type 0
AssignsByNumber = (ns : List Node) → IsTable ns → (ps : List (ℕ × Value)) (i : ℕ) (n : Node) (c : Constant) → slice_get ns i ≡ Some n → n.head ≡ constant c
    → assignment_by ns ps c ≡ unwrap_or (listed_value ps i) (default_value c.sort)
