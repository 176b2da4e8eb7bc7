-- The arguments of a linear term are linear.
use Rattle.std.proofs.Common.{ℕ, ◌&&◌, true, List, subst}
use Rattle.std.specs.Prelude.{IsTrue}
use Rattle.std.specs.Cmp.{first_so, second_so}
use Rattle.nz_spec.specs.terms.Linear.{constant_values, is_linear, is_linear_node}
use Rattle.nz_spec.specs.terms.Table.{Node, term_in}
use Rattle.nz_spec.specs.terms.Term.{Head, Term, choice, no_terms, terms}
use Rattle.nz_rows.specs.Comparisons.{IsBinary}
use Rattle.nz_rows.specs.Meanings.{IsChoice}
use Rattle.nz_rows.specs.Rows.{IsLinearIn}

module _ (ns : List Node) (t : Term) (linear : IsTrue (is_linear t)) where
  pub first_linear : (h : Head) (a b : ℕ) → IsBinary ns t h a b → IsLinearIn ns a
  first_linear h a b is =
      let x = is_linear (term_in ns a) in
      let rest = is_linear (term_in ns b) && true in
      let cs = constant_values (terms (term_in ns a) (terms (term_in ns b) no_terms)) in
      record { within = is.left; linear = first_so x rest (second_so (is_linear_node h cs) (x && rest) (subst (λ u. IsTrue (is_linear u)) is.term linear)) }

  module _ (c a b : ℕ) (is : IsChoice ns t c a b) where
    numbers_linear : IsTrue (is_linear (term_in ns a) && (is_linear (term_in ns b) && true))
    numbers_linear =
        let numbers = is_linear (term_in ns a) && (is_linear (term_in ns b) && true) in
        let cs = constant_values (terms (term_in ns c) (terms (term_in ns a) (terms (term_in ns b) no_terms))) in
        second_so (is_linear (term_in ns c)) numbers
        (second_so (is_linear_node (choice is.sort) cs) (is_linear (term_in ns c) && numbers) (subst (λ u. IsTrue (is_linear u)) is.term linear))

    pub left_linear : IsLinearIn ns a
    left_linear = record { within = is.left; linear = first_so (is_linear (term_in ns a)) (is_linear (term_in ns b) && true) numbers_linear }

    pub right_linear : IsLinearIn ns b
    right_linear =
        record { within = is.right; linear = first_so (is_linear (term_in ns b)) true (second_so (is_linear (term_in ns a)) (is_linear (term_in ns b) && true) numbers_linear) }
