-- Which terms are taken: normal terms of well sorted ones, and what taken terms are made of. What the tables ask of them.
use Rattle.std.proofs.Common.{◌≡◌, true, false, not, ◌⊎◌, inl, inr, List, [], ◌∷◌, ◌++◌, refl, sym, ap, ◌∙◌, subst, arith, true≢false, append-nil, Contains}
use Rattle.std.specs.Prelude.{is_some}
use Rattle.std.proofs.lemmas.Bool.{and_from, and_parts}
use Rattle.std.proofs.lemmas.List.Elements.{Contains-append_cases, Contains-push_cases}
use Rattle.nz_spec.specs.terms.Term.{Sort, bool_sort, int_sort, is_bool, is_int_sort, Head, constant, parameter, integer, decimal_number, equality, choice, sum, difference, product, integer_quotient, modulus, magnitude, to_int, is_int, Term, apply, Terms, no_terms, terms, sort_of}
use Rattle.nz_spec.specs.terms.Order.{post_order, post_orders, companions, listing_order, listing_orders}
use Rattle.nz_spec.specs.terms.Linear.{head_constant, is_linear, are_linear, is_linear_node, constant_values}
use Rattle.nz_spec.specs.terms.FormOf.{is_opened, is_taken_whole}
use Rattle.nz_spec.specs.terms.Operators.{Operator, true_operator, false_operator, not_operator, and_operator, or_operator, xor_operator, equals_operator, ite_operator, has_sort, all_terms, branches, operands_of, operator_head}
use Rattle.nz_spec.specs.clauses.Gates.{gate_clauses, is_boolean_term, HasBooleanArguments}
use Rattle.nz_spec.specs.terms.WellSorted.{AreOperands, IsSortedHead, AreWellSorted}
use Rattle.nz_spec.specs.terms.Taken.{IsTakenHead, HasTakenHeads, HaveTakenHeads, IsTaken, NormalTermsAreTaken, TakenTermsAreInOrder}
use Rattle.nz_spec.proofs.SortedArithmetic.{each_has, sorted_terms_are_arithmetic}
use Rattle.nz_spec.proofs.NormalSorts.{of_sort, first_has, normal_stays_sorted}
use Rattle.nz_spec.proofs.NormalHeads.{normal_heads}

pub normal_terms_are_taken : NormalTermsAreTaken
normal_terms_are_taken t w linear whole = record { sorted = (normal_stays_sorted [] t w).0; linear = linear; heads = normal_heads t w whole }

-- ---- What a term is made of

-- the arguments of a taken term, together
pub record AreTaken (ts : Terms) : Type 0 where
  pub sorted : AreWellSorted [] ts
  pub linear : are_linear ts ≡ true
  pub heads : HaveTakenHeads ts

pub arguments_taken : (h : Head) (ts : Terms) → IsTaken (apply h ts) → AreTaken ts
arguments_taken h ts k =
    record { sorted = k.sorted.1; linear = (and_parts (is_linear_node h (constant_values ts)) (are_linear ts) k.linear).1; heads = k.heads.1 }

pub first_taken : (t : Term) (ts : Terms) → AreTaken (terms t ts) → IsTaken t
first_taken t ts k = record { sorted = k.sorted.0; linear = (and_parts (is_linear t) (are_linear ts) k.linear).0; heads = k.heads.0 }

pub rest_taken : (t : Term) (ts : Terms) → AreTaken (terms t ts) → AreTaken ts
rest_taken t ts k = record { sorted = k.sorted.1; linear = (and_parts (is_linear t) (are_linear ts) k.linear).1; heads = k.heads.1 }

mutual
  part_taken : (t u : Term) → IsTaken t → Contains (post_order t) u → IsTaken u
  part_taken (apply h ts) u k c =
      elim (Contains-push_cases (post_orders ts) (apply h ts) u c) [
        | inl i ↦ parts_taken ts u (arguments_taken h ts k) i
        | inr e ↦ subst IsTaken e k
      ]

  parts_taken : (ts : Terms) (u : Term) → AreTaken ts → Contains (post_orders ts) u → IsTaken u
  parts_taken no_terms u k c = absurd (omega (arith, c.1))
  parts_taken (terms t ts) u k c =
      elim (Contains-append_cases (post_order t) (post_orders ts) u c) [
        | inl i ↦ part_taken t u (first_taken t ts k) i
        | inr i ↦ parts_taken ts u (rest_taken t ts k) i
      ]

-- ---- Gates

-- no gates, or Boolean arguments
abbrev IsInOrder : Term → Type 0
IsInOrder t = (gate_clauses t ≡ []) ⊎ HasBooleanArguments t

number_equation : (s : Sort) (t u : Term) → is_bool s ≡ false → has_sort s t ≡ true → gate_clauses (apply equality (terms t (terms u no_terms))) ≡ []
number_equation s t u n e =
    let is : is_boolean_term t ≡ false = ap is_bool (of_sort s t e) ∙ n in
    rw is refl

-- an equation of terms of one sort
equation : (s : Sort) (ts : Terms) → all_terms (has_sort s) ts ≡ true → AreWellSorted [] ts → IsInOrder (apply equality ts)
equation bool_sort ts e w = inr (each_has bool_sort ts e w)
equation s no_terms e w = inl refl
equation s (terms t no_terms) e w = inl refl
equation s (terms t (terms u no_terms)) e w = inl (number_equation s t u refl (first_has s t (terms u no_terms) e))
equation s (terms t (terms u (terms v ts))) e w = inl refl

branches_in_order : (s : Sort) (ts : Terms) → AreOperands branches s ts → AreWellSorted [] ts → IsInOrder (apply (choice s) ts)
branches_in_order s no_terms e w = absurd e
branches_in_order bool_sort (terms c ts) e w =
    inr (each_has bool_sort (terms c ts) (and_from (has_sort bool_sort c) (all_terms (has_sort bool_sort) ts) e.0 e.1) w)
branches_in_order s (terms c ts) e w = inl refl

by_operator : (o : Operator) (s : Sort) (ts : Terms) → AreOperands (operands_of o) s ts → AreWellSorted [] ts → IsInOrder (apply (operator_head o s) ts)
by_operator true_operator s ts e w = inr (each_has bool_sort ts e w)
by_operator false_operator s ts e w = inr (each_has bool_sort ts e w)
by_operator not_operator s ts e w = inr (each_has bool_sort ts e w)
by_operator and_operator s ts e w = inr (each_has bool_sort ts e w)
by_operator or_operator s ts e w = inr (each_has bool_sort ts e w)
by_operator xor_operator s ts e w = inr (each_has bool_sort ts e w)
by_operator equals_operator s ts e w = equation s ts e w
by_operator ite_operator s ts e w = branches_in_order s ts e w
by_operator o s ts e w = inl refl

in_order : (h : Head) (ts : Terms) → IsSortedHead [] h ts → AreWellSorted [] ts → IsInOrder (apply h ts)
in_order (constant c) ts i w = inl refl
in_order (parameter n s) ts i w = inl refl
in_order (integer n) ts i w = inl refl
in_order (decimal_number n places) ts i w = inl refl
in_order h ts i w = subst (λ (g : Head). IsInOrder (apply g ts)) (sym i.is) (by_operator i.operator i.sort ts i.operands w)

gates : (t : Term) → IsTaken t → IsInOrder t
gates (apply h ts) k = in_order h ts k.sorted.0 k.sorted.1

-- ---- What is listed with it

no_companions : (h : Head) (ts : Terms) → IsTakenHead h ts → companions h ts ≡ []
no_companions modulus ts k = absurd k
no_companions is_int ts k = absurd k
no_companions h ts k = refl

mutual
  listed : (t : Term) → HasTakenHeads t → listing_order t ≡ post_order t
  listed (apply h ts) k =
      ap (λ (us : List Term). listing_orders ts ++ us ++ apply h ts ∷ []) (no_companions h ts k.0)
      ∙ ap (λ (us : List Term). us ++ apply h ts ∷ []) (append-nil (listing_orders ts) ∙ all_listed ts k.1)

  all_listed : (ts : Terms) → HaveTakenHeads ts → listing_orders ts ≡ post_orders ts
  all_listed no_terms k = refl
  all_listed (terms t ts) k = ap (λ (us : List Term). us ++ listing_orders ts) (listed t k.0) ∙ ap (λ (us : List Term). post_order t ++ us) (all_listed ts k.1)

-- ---- Units of sort Int

-- a head over numbers is opened
opened_again : (h : Head) (ts : Terms) → is_opened h ≡ true → is_taken_whole (apply h ts) ≡ true → ⊥
opened_again h ts opened whole =
    let closed = (and_parts (not (is_some (head_constant h (constant_values ts)))) (not (is_opened h)) whole).1 in
    true≢false (sym closed ∙ ap not opened)

no_integer : (h : Head) (ts : Terms) → IsTakenHead h ts → is_taken_whole (apply h ts) ≡ true → sort_of (apply h ts) ≡ int_sort → ⊥
no_integer (constant c) no_terms k whole e = true≢false (sym (ap is_int_sort e) ∙ k)
no_integer (constant c) (terms t ts) k whole e = absurd k
no_integer (parameter i s) ts k whole e = absurd k
no_integer (integer n) ts k whole e = true≢false (sym whole)
no_integer (choice int_sort) ts k whole e = absurd k
no_integer (sum s) ts k whole e = opened_again (sum s) ts refl whole
no_integer (difference s) ts k whole e = opened_again (difference s) ts refl whole
no_integer (product s) ts k whole e = opened_again (product s) ts refl whole
no_integer integer_quotient ts k whole e = absurd k
no_integer modulus ts k whole e = absurd k
no_integer magnitude ts k whole e = absurd k
no_integer to_int ts k whole e = absurd k
no_integer h ts k whole e = cc

unit : (t : Term) → IsTaken t → is_taken_whole t ≡ true → sort_of t ≡ int_sort → ⊥
unit (apply h ts) k whole e = no_integer h ts k.heads.0 whole e

pub taken_terms_are_in_order : TakenTermsAreInOrder
taken_terms_are_in_order =
    record {
      parts = part_taken;
      arithmetic = λ t k. sorted_terms_are_arithmetic.tables t k.sorted k.linear;
      gates = gates;
      listing = λ t k. listed t k.heads;
      units = unit;
    }
