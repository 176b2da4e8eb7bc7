-- Which heads, terms and fractions are one.
use Rattle.std.proofs.Common.{◌≡◌, ℕ, zero, suc, true, List, [], ◌∷◌, ℤ, refl, sym, ap, ap₂, ◌∙◌, true≢false, arith}
use Rattle.std.specs.Prelude.{slice_index_or, ◌==◌}
use Rattle.std.specs.Ordering.{int_eq}
use Rattle.std.specs.Cmp.{signed_Decides}
use Rattle.std.proofs.lemmas.Slice.Eq.{bytes_eq-Decides}
use Rattle.std.proofs.lemmas.Bool.{and_from, and_parts}
use Rattle.std.proofs.lemmas.Bool.Decides.{nat_tests}
use Rattle.nz_spec.specs.terms.Operators.{numbers_at}
use Rattle.nz_fractions.specs.Fraction.{Fraction}
use Rattle.nz_spec.specs.terms.Term.{Sort, bool_sort, int_sort, real_sort, NumberSort, over_int, over_real, sort_over, Head, constant, parameter, integer, decimal_number, verum, falsum, negation, conjunction, disjunction, implication, exclusion, equality, distinction, choice, less, at_most, greater, at_least, sum, difference, product, quotient, integer_quotient, modulus, magnitude, to_real, to_int, is_int, Term, apply, Terms, no_terms, terms}
use Rattle.nz_spec.specs.terms.Same.{are_same_fraction, sort_number, TellsHeads, TellsTerms, head_numbers, are_same_head, are_same_term, are_same_terms}

-- ---- A head from its numbers

abbrev sort_numbered : ℕ → Sort
sort_numbered zero = bool_sort
sort_numbered (suc zero) = int_sort
sort_numbered (suc (suc n)) = real_sort

sort_back : (s : Sort) → sort_numbered (sort_number s) ≡ s
sort_back bool_sort = refl
sort_back int_sort = refl
sort_back real_sort = refl

numbers_back : (s : NumberSort) → numbers_at (sort_numbered (sort_number (sort_over s))) ≡ s
numbers_back over_int = refl
numbers_back over_real = refl

-- the heads by their kinds
abbrev picked : ℕ → Sort → ℕ → ℕ → List ℕ → Head
picked k s n p name =
    slice_index_or
    (constant (record { name = name; sort = s }) ∷ parameter p s ∷ integer n ∷ decimal_number n p ∷ verum ∷ falsum ∷ negation ∷ conjunction ∷ disjunction ∷ exclusion ∷ equality ∷ choice s
    ∷ less ∷ at_most ∷ sum (numbers_at s) ∷ difference (numbers_at s) ∷ product (numbers_at s) ∷ quotient ∷ integer_quotient ∷ modulus ∷ magnitude ∷ to_real ∷ to_int ∷ is_int ∷ implication ∷ distinction ∷ greater ∷ at_least ∷ [])
    k falsum

abbrev built : List ℕ → Head
built (k ∷ s ∷ n ∷ p ∷ name) = picked k (sort_numbered s) n p name
built ns = falsum

head_back : (h : Head) → built (head_numbers h) ≡ h
head_back (constant c) = ap (λ s. constant (record { name = c.name; sort = s })) (sort_back c.sort)
head_back (parameter i s) = ap (parameter i) (sort_back s)
head_back (choice s) = ap choice (sort_back s)
head_back (sum s) = ap sum (numbers_back s)
head_back (difference s) = ap difference (numbers_back s)
head_back (product s) = ap product (numbers_back s)
head_back h = refl

pub same_head : TellsHeads
same_head g h e = sym (head_back g) ∙ ap built ((bytes_eq-Decides (head_numbers g) (head_numbers h)).0 e) ∙ head_back h

one_head : (h : Head) → are_same_head h h ≡ true
one_head h = (bytes_eq-Decides (head_numbers h) (head_numbers h)).1 refl

-- ---- Terms

mutual
  pub same_term : (t u : Term) → are_same_term t u ≡ true → t ≡ u
  same_term (apply g ts) (apply h us) e =
      ap (λ f. apply f ts) (same_head g h ((and_parts (are_same_head g h) (are_same_terms ts us) e).0))
      ∙ ap (apply h) (same_terms ts us ((and_parts (are_same_head g h) (are_same_terms ts us) e).1))

  same_terms : (ts us : Terms) → are_same_terms ts us ≡ true → ts ≡ us
  same_terms no_terms no_terms e = refl
  same_terms no_terms (terms u us) e = absurd (true≢false (sym e))
  same_terms (terms t ts) no_terms e = absurd (true≢false (sym e))
  same_terms (terms t ts) (terms u us) e =
      ap (λ v. terms v ts) (same_term t u ((and_parts (are_same_term t u) (are_same_terms ts us) e).0))
      ∙ ap (terms u) (same_terms ts us ((and_parts (are_same_term t u) (are_same_terms ts us) e).1))

mutual
  pub one_term : (t : Term) → are_same_term t t ≡ true
  one_term (apply h ts) = and_from (are_same_head h h) (are_same_terms ts ts) (one_head h) (one_terms ts)

  one_terms : (ts : Terms) → are_same_terms ts ts ≡ true
  one_terms no_terms = refl
  one_terms (terms t ts) = and_from (are_same_term t t) (are_same_terms ts ts) (one_term t) (one_terms ts)

pub tells_terms : TellsTerms
tells_terms = record { same = same_term; one = one_term }

-- ---- Fractions

same_number : (m n : ℕ) → (m == n) ≡ true → m ≡ n
same_number m n e = grind (arith, nat_tests)

one_number : (n : ℕ) → (n == n) ≡ true
one_number n = grind (arith, nat_tests)

pub same_fraction : (p q : Fraction) → are_same_fraction p q ≡ true → p ≡ q
same_fraction p q e =
    let both = and_parts (int_eq p.numerator q.numerator) (p.below == q.below) e in
    ap₂ (λ (n : ℤ) (b : ℕ). let r : Fraction = record { numerator = n; below = b } in r)
    ((signed_Decides p.numerator q.numerator).0 both.0) (same_number p.below q.below both.1)

pub one_fraction : (p : Fraction) → are_same_fraction p p ≡ true
one_fraction p =
    and_from (int_eq p.numerator p.numerator) (p.below == p.below) ((signed_Decides p.numerator p.numerator).1 refl) (one_number p.below)
