-- Worked groups of wishes: the form of a group, what it costs, and where weights leave the numbers.
use Rattle.std.specs.Prelude.{◌≡◌, true, false, List, [], ◌∷◌, Some, pos}
use Rattle.nz_fractions.specs.Fraction.{Fraction, whole, over, largest, Sum, Operation, first_wide}
use Rattle.nz_spec.specs.terms.Term.{Term, Assignment, truth}
use Rattle.nz_spec.specs.terms.Normal.{negated}
use Rattle.nz_spec.specs.terms.Order.{listing_order}
use Rattle.nz_spec.specs.terms.Form.{Numbering}
use Rattle.nz_spec.specs.terms.FormOf.{place_of}
use Rattle.nz_spec.specs.clauses.Wishes.{Wish, cost_of, wishes_form, wishes_goal, penalty}
use Rattle.nz_spec.specs.search.Search.{Task}
use Rattle.nz_spec.specs.search.Places.{IsOfTerm, IsOfPenalty}
use Rattle.nz_spec.specs.worked.TermSamples.{a_term}
use Rattle.nz_spec.specs.worked.WorkedWork.{task_of}

-- `a` is to be true, at so much
abbrev pub wish_for_a : Fraction → Wish
wish_for_a weight = record { term = a_term; weight = weight }

-- and `(not a)`, at 1/2
abbrev pub wish_for_not_a : Wish
wish_for_not_a = record { term = negated a_term; weight = over (pos 1) 2 }

-- `(ite a 0 1)`
abbrev pub cost_of_a : Term
cost_of_a = cost_of (wish_for_a (whole (pos 1)))

abbrev pub cost_order : Numbering
cost_order = place_of (cost_of_a ∷ cost_of wish_for_not_a ∷ [])

-- each constant is true, and none is
abbrev pub all_true : Assignment
all_true c = truth true

abbrev pub none_true : Assignment
none_true c = truth false

-- Of two wishes one is false.
abbrev pub opposites : List Wish
opposites = wish_for_a (whole (pos 3)) ∷ wish_for_not_a ∷ []

-- One wish stands twice.
abbrev pub repeated : List Wish
repeated = wish_for_a (whole (pos 3)) ∷ wish_for_a (whole (pos 2)) ∷ []

-- So it does here, at the largest number.
abbrev pub heavy : List Wish
heavy = wish_for_a (whole (pos largest)) ∷ wish_for_a (whole (pos 2)) ∷ []

abbrev pub heavy_task : Task
heavy_task = record (task_of [] (listing_order cost_of_a)) {
  goals = wishes_goal cost_order heavy ∷ [];
  groups = record { goal = 0; wishes = heavy } ∷ [];
}

abbrev pub heavy_sum : Operation
heavy_sum = record { operator = Sum; left = whole (pos largest); right = whole (pos 2) }

-- Each wish has its weight at its unit, and weights at one unit add. What is paid is the weights of the false wishes alone. Where weights leave the numbers, they do
-- so at the unit of the second wish; in the value of the group that is so at a model where it is false.
pub record HasWishes : Type 0 where
  pub form : (wishes_form cost_order opposites).result
      ≡ record {
        parts = record { coefficient = whole (pos 3); unit = cost_of_a } ∷ record { coefficient = over (pos 1) 2; unit = cost_of wish_for_not_a } ∷ [];
        offset = whole (pos 0);
      }
  pub first_false : (penalty none_true opposites).result ≡ whole (pos 3)
  pub second_false : (penalty all_true opposites).result ≡ over (pos 1) 2
  pub added : (wishes_form cost_order repeated).result ≡ record { parts = record { coefficient = whole (pos 5); unit = cost_of_a } ∷ []; offset = whole (pos 0) }
  pub both_false : (penalty none_true repeated).result ≡ whole (pos 5)
  pub none_false : (penalty all_true repeated).result ≡ whole (pos 0)
  pub wide : first_wide (wishes_form cost_order heavy).operations ≡ Some heavy_sum
  pub at_term : IsOfTerm heavy_task cost_of_a heavy_sum
  pub at_value : IsOfPenalty heavy_task none_true cost_of_a heavy_sum
  pub met : IsOfPenalty heavy_task all_true cost_of_a heavy_sum → ⊥
