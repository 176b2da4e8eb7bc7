-- The constants of a term tell its value.
use Rattle.std.proofs.Common.{◌≡◌, List, [], ◌∷◌, refl, ap, ◌∙◌}
use Rattle.nz_spec.specs.terms.Term.{Constant, Head, constant, parameter, integer, decimal_number, verum, falsum, negation, conjunction, disjunction, implication, exclusion, equality, distinction, choice, less, at_most, greater, at_least, sum, difference, product, quotient, integer_quotient, modulus, magnitude, to_real, to_int, is_int, Term, apply, Terms, no_terms, terms, Value, Assignment, head_value, value_of, values_of}
use Rattle.nz_spec.specs.terms.OverConstants.{IsHeadOver, IsOver, AreOver, AgreeOn, ConstantsTellValues}

-- a head that is no constant makes the same of the same values under each assignment
head_same : (cs : List Constant) (a b : Assignment) → AgreeOn cs a b → (h : Head) → IsHeadOver cs h → (vs : List Value) → head_value a h vs ≡ head_value b h vs
head_same cs a b same (constant c) over vs = same c over
head_same cs a b same (parameter i s) over vs = refl
head_same cs a b same (integer n) over vs = refl
head_same cs a b same (decimal_number n places) over vs = refl
head_same cs a b same verum over vs = refl
head_same cs a b same falsum over vs = refl
head_same cs a b same negation over [] = refl
head_same cs a b same negation over (v ∷ vs) = refl
head_same cs a b same conjunction over vs = refl
head_same cs a b same disjunction over vs = refl
head_same cs a b same implication over vs = refl
head_same cs a b same exclusion over [] = refl
head_same cs a b same exclusion over (v ∷ vs) = refl
head_same cs a b same equality over vs = refl
head_same cs a b same distinction over vs = refl
head_same cs a b same (choice s) over [] = refl
head_same cs a b same (choice s) over (v ∷ []) = refl
head_same cs a b same (choice s) over (v ∷ w ∷ []) = refl
head_same cs a b same (choice s) over (v ∷ w ∷ x ∷ []) = refl
head_same cs a b same (choice s) over (v ∷ w ∷ x ∷ y ∷ vs) = refl
head_same cs a b same less over vs = refl
head_same cs a b same at_most over vs = refl
head_same cs a b same greater over vs = refl
head_same cs a b same at_least over vs = refl
head_same cs a b same (sum s) over [] = refl
head_same cs a b same (sum s) over (v ∷ vs) = refl
head_same cs a b same (difference s) over [] = refl
head_same cs a b same (difference s) over (v ∷ []) = refl
head_same cs a b same (difference s) over (v ∷ w ∷ vs) = refl
head_same cs a b same (product s) over [] = refl
head_same cs a b same (product s) over (v ∷ vs) = refl
head_same cs a b same quotient over [] = refl
head_same cs a b same quotient over (v ∷ vs) = refl
head_same cs a b same integer_quotient over [] = refl
head_same cs a b same integer_quotient over (v ∷ vs) = refl
head_same cs a b same modulus over [] = refl
head_same cs a b same modulus over (v ∷ []) = refl
head_same cs a b same modulus over (v ∷ w ∷ []) = refl
head_same cs a b same modulus over (v ∷ w ∷ x ∷ vs) = refl
head_same cs a b same magnitude over [] = refl
head_same cs a b same magnitude over (v ∷ []) = refl
head_same cs a b same magnitude over (v ∷ w ∷ vs) = refl
head_same cs a b same to_real over [] = refl
head_same cs a b same to_real over (v ∷ []) = refl
head_same cs a b same to_real over (v ∷ w ∷ vs) = refl
head_same cs a b same to_int over [] = refl
head_same cs a b same to_int over (v ∷ []) = refl
head_same cs a b same to_int over (v ∷ w ∷ vs) = refl
head_same cs a b same is_int over [] = refl
head_same cs a b same is_int over (v ∷ []) = refl
head_same cs a b same is_int over (v ∷ w ∷ vs) = refl

mutual
  value_same : (cs : List Constant) (a b : Assignment) → AgreeOn cs a b → (t : Term) → IsOver cs t → value_of a t ≡ value_of b t
  value_same cs a b same (apply h ts) over = ap (head_value a h) (values_same cs a b same ts over.1) ∙ head_same cs a b same h over.0 (values_of b ts)

  values_same : (cs : List Constant) (a b : Assignment) → AgreeOn cs a b → (ts : Terms) → AreOver cs ts → values_of a ts ≡ values_of b ts
  values_same cs a b same no_terms over = refl
  values_same cs a b same (terms t ts) over =
      ap (λ v. v ∷ values_of a ts) (value_same cs a b same t over.0) ∙ ap (λ vs. value_of b t ∷ vs) (values_same cs a b same ts over.1)

pub constants_tell_values : ConstantsTellValues
constants_tell_values cs a b t same over = value_same cs a b same t over
