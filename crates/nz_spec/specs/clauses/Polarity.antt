-- Clauses for the signs with which terms are needed: a negation is a sign, a comparison is its bound, and of a term's rows those are held that deny the sign
-- with which it is needed.
-- Sources: Plaisted and Greenbaum, A Structure-Preserving Clause Form Translation, 1986 (which rows a sign needs); Dutertre and de Moura, A Fast
-- Linear-Arithmetic Solver for DPLL(T), CAV 2006, section 3 (an atom is a bound). Which disjunctions are opened in place is left open.
use Rattle.std.specs.Prelude.{Bool, true, false, not, List, [], ◌∷◌, ◌++◌, map, flat_map, if◌then◌else◌}
use Rattle.nz_spec.specs.numbers.Computation.{Computation}
use Rattle.nz_spec.specs.terms.Term.{constant, negation, conjunction, disjunction, less, at_most, Term, apply, Terms, no_terms, terms}
use Rattle.nz_spec.specs.terms.Form.{Numbering}
use Rattle.nz_spec.specs.clauses.Literal.{Literal, term_literal, is_at_most, is_below, are_same_sign, Clause}
use Rattle.nz_spec.specs.clauses.Gates.{is_boolean_term, gate_clauses}
use Rattle.nz_spec.specs.clauses.Links.{at_most_literal, below_literal, link_clauses}
use Rattle.nz_spec.specs.clauses.Units.{unit_clauses}

-- A Boolean term is needed where its having this truth has to mean what it says. A number is needed with the sign `true`.
pub record Need : Type 0 where
  pub term : Term
  pub sign : Bool

-- ---- What is asked of other terms

-- What has to be so for a term to have a truth, all of it: a conjunction says it of its arguments, and a negation turns the sign.
abbrev mutual
  pub conjuncts : Term → Bool → List Need
  conjuncts (apply negation (terms t no_terms)) sign = conjuncts t (not sign)
  conjuncts (apply conjunction ts) true = conjuncts_of ts true
  conjuncts (apply disjunction ts) false = conjuncts_of ts false
  conjuncts t sign = record { term = t; sign = sign } ∷ []

  pub conjuncts_of : Terms → Bool → List Need
  conjuncts_of no_terms sign = []
  conjuncts_of (terms t ts) sign = conjuncts t sign ++ conjuncts_of ts sign

module _ (opened : Term → Bool) where
  -- What has to be so for it, one of it: a disjunction says it of its arguments, where it is opened.
  abbrev mutual
    pub disjuncts : Term → Bool → List Need
    disjuncts (apply negation (terms t no_terms)) sign = disjuncts t (not sign)
    disjuncts (apply disjunction ts) true = if opened (apply disjunction ts) then disjuncts_of ts true else record { term = apply disjunction ts; sign = true } ∷ []
    disjuncts (apply conjunction ts) false = if opened (apply conjunction ts) then disjuncts_of ts false else record { term = apply conjunction ts; sign = false } ∷ []
    disjuncts t sign = record { term = t; sign = sign } ∷ []

    pub disjuncts_of : Terms → Bool → List Need
    disjuncts_of no_terms sign = []
    disjuncts_of (terms t ts) sign = disjuncts t sign ++ disjuncts_of ts sign

  -- what a literal of a row asks
  abbrev pub asked_by : Literal → List Need
  asked_by (term_literal t sign) = disjuncts t sign
  asked_by (is_at_most ps b) = []
  asked_by (is_below ps b) = []

-- ---- Rows

-- what stands behind the first literal in those of these rows that begin with the other sign
abbrev pub behind : Bool → List Clause → List Clause
behind sign [] = []
behind sign ((term_literal t s ∷ row) ∷ rows) = if are_same_sign s sign then behind sign rows else row ∷ behind sign rows
behind sign (row ∷ rows) = behind sign rows

-- the numbers among arguments
abbrev pub numbers_among : Terms → List Need
numbers_among no_terms = []
numbers_among (terms t ts) = if is_boolean_term t then numbers_among ts else record { term = t; sign = true } ∷ numbers_among ts

abbrev pub results : List (Computation Clause) → List Clause
results cs = map (λ (c : Computation Clause). c.result) cs

module _ (number : Numbering) where
  -- what the tables say where a term has this truth, and what they say of a unit
  abbrev pub rows_of : Term → Bool → List Clause
  rows_of t sign = behind sign (gate_clauses t) ++ behind sign (results (link_clauses number t))

  abbrev pub unit_rows : Term → List Clause
  unit_rows t = results (unit_clauses number t)

  -- the literal that a term has this truth
  abbrev pub literal_of : Term → Bool → Literal
  literal_of (apply less (terms t (terms u no_terms))) true = (below_literal number t u).result
  literal_of (apply less (terms t (terms u no_terms))) false = (at_most_literal number u t).result
  literal_of (apply at_most (terms t (terms u no_terms))) true = (at_most_literal number t u).result
  literal_of (apply at_most (terms t (terms u no_terms))) false = (below_literal number u t).result
  literal_of t sign = term_literal t sign

  module _ (opened : Term → Bool) where
    -- the literals that stand for one of a row
    abbrev pub standing_for : Literal → Clause
    standing_for (term_literal t sign) = map (λ (n : Need). literal_of n.term n.sign) (disjuncts opened t sign)
    standing_for (is_at_most ps b) = is_at_most ps b ∷ []
    standing_for (is_below ps b) = is_below ps b ∷ []

    abbrev pub spliced : Clause → Clause
    spliced row = flat_map standing_for row

    -- ---- Clauses

    -- the clauses by which the term's own atom, where it has this truth, says what the tables do
    abbrev pub own_clauses : Term → Bool → List Clause
    own_clauses t sign = map (λ row. term_literal t (not sign) ∷ spliced row) (rows_of t sign)

    -- The clauses of a term that is needed with a sign. A comparison has none, as its literal is a bound.
    abbrev pub needed_clauses : Term → Bool → List Clause
    needed_clauses (apply less ts) sign = []
    needed_clauses (apply at_most ts) sign = []
    needed_clauses t sign = own_clauses t sign ++ map spliced (unit_rows t)

    -- What it needs besides: what its rows ask, and its arguments that are numbers.
    abbrev pub needs_of : Term → Bool → List Need
    needs_of (apply h ts) sign = flat_map (flat_map (asked_by opened)) (rows_of (apply h ts) sign ++ unit_rows (apply h ts)) ++ numbers_among ts

    -- the clauses that state it outright
    abbrev pub stating_clauses : Term → Bool → List Clause
    stating_clauses (apply (constant c) ts) sign = (term_literal (apply (constant c) ts) sign ∷ []) ∷ []
    stating_clauses t sign = map spliced (rows_of t sign)
