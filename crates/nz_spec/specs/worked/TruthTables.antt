-- Worked values of the operators of the theory Core: columns of truth tables, and normal terms, computed from the definitions.
use Rattle.std.specs.Prelude.{◌≡◌, Bool, true, false, List, [], ◌∷◌, ◌++◌, map, codes}
use Rattle.nz_spec.specs.terms.Term.{bool_sort, Head, constant, conjunction, implication, exclusion, equality, distinction, choice, disjunction, Term, apply, no_terms, terms, Value, truth, is_true, head_value}
use Rattle.nz_spec.specs.terms.Normal.{negated, paired, normal_of}
use Rattle.nz_spec.specs.worked.TermSamples.{a_term}

-- the values of two, and of three, arguments, the last changing first
abbrev pub pairs : List (List Value)
pairs =
    (truth false ∷ truth false ∷ [])
    ∷ (truth false ∷ truth true ∷ [])
    ∷ (truth true ∷ truth false ∷ [])
    ∷ (truth true ∷ truth true ∷ [])
    ∷ []

abbrev pub triples : List (List Value)
triples = map (λ vs. truth false ∷ vs) pairs ++ map (λ vs. truth true ∷ vs) pairs

-- what an operator makes of each of these
abbrev pub column : Head → List (List Value) → List Bool
column h rows = map (λ vs. is_true (head_value (λ name. truth false) h vs)) rows

-- Of two arguments.
pub record HasPairs : Type 0 where
  pub implies : column implication pairs ≡ true ∷ true ∷ false ∷ true ∷ []
  pub excludes : column exclusion pairs ≡ false ∷ true ∷ true ∷ false ∷ []
  pub equals : column equality pairs ≡ true ∷ false ∷ false ∷ true ∷ []
  pub differs : column distinction pairs ≡ false ∷ true ∷ true ∷ false ∷ []

-- Of three: `=>` groups to the right, `xor` tells the parity and not that exactly one is true, `=` takes all of them
-- together, and `distinct` the first and the last too.
pub record HasTriples : Type 0 where
  pub implies : column implication triples ≡ true ∷ true ∷ true ∷ true ∷ true ∷ true ∷ false ∷ true ∷ []
  pub excludes : column exclusion triples ≡ false ∷ true ∷ true ∷ false ∷ true ∷ false ∷ false ∷ true ∷ []
  pub equals : column equality triples ≡ true ∷ false ∷ false ∷ false ∷ false ∷ false ∷ false ∷ true ∷ []
  pub differs : column distinction triples ≡ false ∷ false ∷ false ∷ false ∷ false ∷ false ∷ false ∷ false ∷ []
  pub chooses : column (choice bool_sort) triples ≡ false ∷ true ∷ false ∷ true ∷ false ∷ false ∷ true ∷ true ∷ []

-- two constants more
abbrev pub b_term : Term
b_term = apply (constant (record { name = codes "b"; sort = bool_sort })) no_terms

abbrev pub c_term : Term
c_term = apply (constant (record { name = codes "c"; sort = bool_sort })) no_terms

abbrev pub of_three : Head → Term → Term → Term → Term
of_three h t u v = apply h (terms t (terms u (terms v no_terms)))

-- Normal terms of these operators over three constants.
pub record HasNormalTerms : Type 0 where
  pub implies : normal_of (of_three implication a_term b_term c_term) ≡ paired disjunction (negated a_term) (paired disjunction (negated b_term) c_term)
  pub excludes : normal_of (of_three exclusion a_term b_term c_term) ≡ paired exclusion (paired exclusion a_term b_term) c_term
  pub equals : normal_of (of_three equality a_term b_term c_term) ≡ paired conjunction (paired equality a_term b_term) (paired equality b_term c_term)
  pub differs : normal_of (of_three distinction a_term b_term c_term)
      ≡ of_three conjunction (negated (paired equality a_term b_term)) (negated (paired equality a_term c_term)) (negated (paired equality b_term c_term))
  pub differs_once : normal_of (paired distinction a_term b_term) ≡ negated (paired equality a_term b_term)
  pub equals_once : normal_of (paired equality a_term b_term) ≡ paired equality a_term b_term
