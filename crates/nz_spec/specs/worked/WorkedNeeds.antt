-- Worked needs: what is stated and needed of assertions, and what open atoms leave forced, computed from the definitions.
use Rattle.std.specs.Prelude.{◌≡◌, Bool, true, false, List, [], ◌∷◌, Some, None, pos, if◌then◌else◌}
use Rattle.nz_fractions.specs.Fraction.{whole}
use Rattle.nz_spec.specs.terms.Term.{bool_sort, real_sort, conjunction, disjunction, exclusion, choice, less, Term}
use Rattle.nz_spec.specs.terms.Normal.{negated, paired}
use Rattle.nz_spec.specs.terms.Form.{Numbering, unit_form}
use Rattle.nz_spec.specs.clauses.Literal.{Literal, is_below, Clause, are_same_term}
use Rattle.nz_spec.specs.clauses.Gates.{holds, fails}
use Rattle.nz_spec.specs.clauses.Forced.{Truths, IsForced}
use Rattle.nz_spec.specs.clauses.Polarity.{Need, conjuncts, needed_clauses, needs_of, stating_clauses}
use Rattle.nz_spec.specs.worked.TermSamples.{a_term, u_term, numeral_term, real_of}
use Rattle.nz_spec.specs.worked.TruthTables.{b_term, c_term, of_three}
use Rattle.nz_spec.specs.worked.WorkedSteps.{a_true, b_true, c_true, a_false, b_false, c_false}

abbrev pub yes : Term → Need
yes t = record { term = t; sign = true }

abbrev pub no : Term → Need
no t = record { term = t; sign = false }

abbrev pub one : Term
one = real_of (numeral_term 1)

-- `(< u 1)`, and the bounds that it has
abbrev pub below_one : Term
below_one = paired less u_term one

abbrev pub is_below_one : Literal
is_below_one = is_below (unit_form u_term).parts (whole (pos 1))

abbrev pub all_alike : Numbering
all_alike t = 0

-- of an assertion, where no disjunction is opened, or each is
abbrev pub stated_of : Bool → Term → List Clause
stated_of opened t = stating_clauses all_alike (λ u. opened) t true

abbrev pub clauses_of : Term → Bool → List Clause
clauses_of t sign = needed_clauses all_alike (λ u. false) t sign

abbrev pub needs : Term → Bool → List Need
needs t sign = needs_of all_alike (λ u. false) t sign

-- `(and c (< u 1))`
abbrev pub both : Term
both = paired conjunction c_term below_one

-- `(or a (not b) (and c (< u 1)))`
abbrev pub one_of_three : Term
one_of_three = of_three disjunction a_term (negated b_term) both

-- `(or a (not (and b c)))`
abbrev pub not_both : Term
not_both = paired disjunction a_term (negated (paired conjunction b_term c_term))

-- `(ite a u 1)`
abbrev pub chosen : Term
chosen = of_three (choice real_sort) a_term u_term one

-- What is asserted of terms, which clauses they have, and what these need.
pub record HasNeeds : Type 0 where
  pub stated : conjuncts one_of_three true ≡ yes one_of_three ∷ []
  pub one_clause : stated_of false one_of_three ≡ (a_true ∷ b_false ∷ holds both ∷ []) ∷ []
  pub its_needs : needs one_of_three true ≡ yes a_term ∷ no b_term ∷ yes both ∷ []
  pub gate : clauses_of both true ≡ (fails both ∷ c_true ∷ []) ∷ (fails both ∷ is_below_one ∷ []) ∷ []
  pub gate_needs : needs both true ≡ yes c_term ∷ yes below_one ∷ []
  pub comparison : clauses_of below_one true ≡ []
  pub numbers : needs below_one true ≡ yes u_term ∷ yes one ∷ []
  pub constants : clauses_of a_term true ≡ []
  pub conjunctions : conjuncts (paired conjunction a_term (negated (paired disjunction b_term c_term))) true ≡ yes a_term ∷ no b_term ∷ no c_term ∷ []
  pub closed : stated_of false not_both ≡ (a_true ∷ fails (paired conjunction b_term c_term) ∷ []) ∷ []
  pub opened : stated_of true not_both ≡ (a_true ∷ b_false ∷ c_false ∷ []) ∷ []
  pub exclusions : stated_of false (paired exclusion a_term (negated b_term)) ≡ (a_true ∷ b_false ∷ []) ∷ (a_false ∷ b_true ∷ []) ∷ []
  pub conditions : needs chosen true ≡ no a_term ∷ no a_term ∷ yes a_term ∷ yes a_term ∷ yes u_term ∷ yes one ∷ []

-- a is true, and all else is open
abbrev pub only_a : Truths
only_a t = if are_same_term t a_term then Some true else None

abbrev pub IsForcedByA : Term → Type 0
IsForcedByA t = IsForced all_alike only_a (λ u. whole (pos 0)) t true

-- Which truths are forced while atoms are open. A disjunction of an open atom and its negation isn't.
pub record HasForcedTerms : Type 0 where
  pub disjunctions : IsForcedByA one_of_three
  pub choices : IsForcedByA (of_three (choice bool_sort) b_term a_term a_term)
  pub comparisons : IsForcedByA below_one
  pub tautology : IsForcedByA (paired disjunction b_term (negated b_term)) → ⊥
