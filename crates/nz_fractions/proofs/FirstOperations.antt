-- The first operation of a list that leaves the numbers.
use Rattle.std.proofs.Common.{◌≡◌, Bool, true, false, List, [], ◌∷◌, ◌++◌, Some, None, refl, subst, if◌then◌else◌}
use Rattle.std.specs.Prelude.{Contains}
use Rattle.nz_lists.proofs.Members.{has_first, has_more}
use Rattle.nz_fractions.specs.Fraction.{Operation, first_wide, is_wide}

append_none : (x : Operation) (b : Bool) (xs ys : List Operation) → (first_wide xs ≡ None → first_wide (xs ++ ys) ≡ first_wide ys)
    → (if b then Some x else first_wide xs) ≡ None → (if b then Some x else first_wide (xs ++ ys)) ≡ first_wide ys
append_none x true xs ys rest e = cc
append_none x false xs ys rest e = rest e

append_some : (x w : Operation) (b : Bool) (xs ys : List Operation) → (first_wide xs ≡ Some w → first_wide (xs ++ ys) ≡ Some w)
    → (if b then Some x else first_wide xs) ≡ Some w → (if b then Some x else first_wide (xs ++ ys)) ≡ Some w
append_some x w true xs ys rest e = e
append_some x w false xs ys rest e = rest e

-- of two lists it is that of the second, where the first has none
pub first_wide-none : (xs ys : List Operation) → first_wide xs ≡ None → first_wide (xs ++ ys) ≡ first_wide ys
unfolding first_wide
first_wide-none [] ys e = refl
first_wide-none (x ∷ xs) ys e = append_none x (is_wide x.operator x.left x.right) xs ys (first_wide-none xs ys) e

-- else that of the first
pub first_wide-some : (xs ys : List Operation) (w : Operation) → first_wide xs ≡ Some w → first_wide (xs ++ ys) ≡ Some w
unfolding first_wide
first_wide-some [] ys w e = cc
first_wide-some (x ∷ xs) ys w e = append_some x w (is_wide x.operator x.left x.right) xs ys (first_wide-some xs ys w) e

pub no_operation : first_wide [] ≡ None
unfolding first_wide
no_operation = refl

-- it is one of the list, and leaves the numbers
pub first_wide-is : (xs : List Operation) (o : Operation) → first_wide xs ≡ Some o → Contains xs o × (is_wide o.operator o.left o.right ≡ true)
unfolding first_wide
first_wide-is [] o e = absurd cc
first_wide-is (x ∷ xs) o e = by_test (is_wide x.operator x.left x.right) (first_wide-is xs o) refl e
  where
    by_test : (b : Bool) → (first_wide xs ≡ Some o → Contains xs o × (is_wide o.operator o.left o.right ≡ true)) → is_wide x.operator x.left x.right ≡ b → (if b then Some x else first_wide xs) ≡ Some o
        → Contains (x ∷ xs) o × (is_wide o.operator o.left o.right ≡ true)
    by_test true more wide f = let same : x ≡ o = cc in (subst (Contains (x ∷ xs)) same (has_first x xs), subst (λ (p : Operation). is_wide p.operator p.left p.right ≡ true) same wide)
    by_test false more wide f = let rest = more f in (has_more x o xs rest.0, rest.1)
