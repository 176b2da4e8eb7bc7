-- Worked listings: the order in which a term list takes a term, with all that it takes besides.
use Rattle.std.specs.Prelude.{◌≡◌, ℕ, true, false, List, [], ◌∷◌, flat_map, pos, Option, Some, option_map, codes}
use Rattle.nz_fractions.specs.Fraction.{whole}
use Rattle.nz_spec.specs.terms.Term.{int_sort, choice, sum, integer_quotient, modulus, to_int, is_int, Term, apply, no_terms, terms, over_int}
use Rattle.nz_spec.specs.terms.Normal.{negated, paired}
use Rattle.nz_spec.specs.terms.Order.{listing_order}
use Rattle.nz_spec.specs.clauses.Literal.{term_literal}
use Rattle.nz_script.specs.live.Live.{Wish, wished, item_terms, start}
use Rattle.nz_script.specs.replies.Right.{listed_under}
use Rattle.nz_spec.specs.worked.TermSamples.{over_one, a_term, x_term, y_term, u_term, numeral_term}
use Rattle.nz_script.specs.worked.Samples.{normal_in}

abbrev pub listing_in : List ℕ → Option (List Term)
listing_in text = option_map listing_order (normal_in text)

abbrev pub quotient_term : Term
quotient_term = paired integer_quotient x_term y_term

abbrev pub remainder_term : Term
remainder_term = paired modulus x_term y_term

-- (assert-soft (not a) :weight 1)
abbrev pub sample_wish : Wish
sample_wish = record { term = negated a_term; weight = whole (pos 1); is_numeral = true; group = [] }

abbrev pub sample_cost : Term
sample_cost = apply (choice int_sort) (terms (negated a_term) (terms (numeral_term 0) (terms (numeral_term 1) no_terms)))

-- Just before a remainder stands the quotient of the same arguments, and before a test for an integer the rounded number.
-- A wish has the terms of its own term, then 0, 1 and what chooses between them. What is assumed to be false is listed with its negation.
pub record HasListings : Type 0 where
  pub remainder : listing_in (codes "(mod x y)") ≡ Some (x_term ∷ y_term ∷ quotient_term ∷ remainder_term ∷ [])
  pub test : listing_in (codes "(not (is_int u))") ≡ Some (u_term ∷ over_one to_int u_term ∷ over_one is_int u_term ∷ negated (over_one is_int u_term) ∷ [])
  pub nested : listing_in (codes "(mod (mod x y) 3)")
      ≡ Some (x_term ∷ y_term ∷ quotient_term ∷ remainder_term ∷ numeral_term 3 ∷ paired integer_quotient remainder_term (numeral_term 3) ∷ paired modulus remainder_term (numeral_term 3) ∷ [])
  pub others : listing_in (codes "(+ (div x y) (to_int u))") ≡ Some (x_term ∷ y_term ∷ quotient_term ∷ u_term ∷ over_one to_int u_term ∷ paired (sum over_int) quotient_term (over_one to_int u_term) ∷ [])
  pub wish : flat_map listing_order (item_terms (wished sample_wish)) ≡ a_term ∷ negated a_term ∷ numeral_term 0 ∷ numeral_term 1 ∷ sample_cost ∷ []
  pub assumed : listed_under start (term_literal x_term true ∷ term_literal a_term false ∷ []) ≡ x_term ∷ a_term ∷ negated a_term ∷ []
