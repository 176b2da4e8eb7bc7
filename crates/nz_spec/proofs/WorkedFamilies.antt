-- The worked family is steady, and the other one isn't.
use Rattle.std.proofs.Common.{◌≡◌, inl, inr, ℕ, Bool, true, false, [], ◌∷◌, pos, refl, sym, subst, ◌∙◌, true≢false}
use Rattle.std.specs.Prelude.{Contains, if◌then◌else◌}
use Rattle.std.proofs.lemmas.List.Elements.{All-nil, All-cons, All-contains}
use Rattle.nz_lists.proofs.Members.{has_cases, has_first, has_none}
use Rattle.nz_ints.specs.Division.{gcd_within, gcd, floor_div}
use Rattle.nz_ints.proofs.Divisors.{gcd-one}
use Rattle.nz_ints.proofs.Ring.{Atom, Literal as Whole, ◌⊕◌, ◌⊗◌}
use Rattle.nz_fractions.specs.Fraction.{Fraction, whole, over, denominator, IsWhole, fraction_eq, ◌+ℚ◌, ◌-ℚ◌, neg_ℚ, ◌*ℚ◌, ◌/ℚ◌, reciprocal, flipped, floor, reduce}
use Rattle.nz_fractions.proofs.Laws.{=ℚ_sym, IsLowest, reduce-same, reduce-is}
use Rattle.nz_fractions.proofs.Arithmetic.{+ℚ-same}
use Rattle.nz_fractions.proofs.Solver.{◌∙ℚ◌, solve, times_left}
use Rattle.nz_spec.specs.terms.Term.{Constant, constant, Term, apply, number, default_value, are_same_constant, IsOfSort}
use Rattle.nz_spec.specs.terms.Model.{IsModel}
use Rattle.nz_spec.specs.clauses.Gates.{is_boolean_term}
use Rattle.nz_spec.specs.simplex.Climb.{Line, line_at, naturals, IsInRange, Course, along, Family, member, unit_of}
use Rattle.nz_spec.specs.simplex.Families.{line_of, KeepsTo, IsIntegerLine, IsCourseOf, HasDividedSlope}
use Rattle.nz_spec.specs.worked.TermSamples.{x_constant, x_term}
use Rattle.nz_spec.specs.worked.WorkedFamilies.{rising, HasSteadyFamily}
use Rattle.nz_spec.proofs.FamilyLines.{lines_tell}
use Rattle.nz_spec.proofs.Sorted.{default_is}
use Rattle.nz_spec.proofs.Tables.{same_constant}

abbrev one : Fraction
one = whole (pos 1)

abbrev by_one : Line
by_one = record { start = whole (pos 0); slope = one }

abbrev family : Family
family = rising one

-- at each natural number x is that number
at_natural : (n : ℕ) → reduce (line_at by_one (whole (pos n))) ≡ whole (pos n)
unfolding denominator
at_natural n =
    reduce-is (solve (whole (pos n) ∷ []) (Whole (pos 0) ⊕ Whole (pos 1) ⊗ Atom 0) (Atom 0) refl)
    (let lowest : IsLowest (whole (pos n)) = record { lowest = gcd-one n } in lowest)

member_sorted : (n : ℕ) (c : Constant) → IsOfSort c.sort (member family (whole (pos n)) c)
member_sorted n c = by_test (are_same_constant x_constant c) refl
  where
    by_test : (b : Bool) → are_same_constant x_constant c ≡ b → IsOfSort c.sort (if b then number (reduce (line_at by_one (whole (pos n)))) else default_value c.sort)
    by_test true e =
        subst (λ (d : Constant). IsOfSort d.sort (number (reduce (line_at by_one (whole (pos n)))))) (same_constant x_constant c e)
        (subst IsWhole (sym (at_natural n)) refl)
    by_test false e = default_is c.sort

members : (s : Fraction) → IsInRange naturals s → IsModel [] [] (member family s)
members s (n, e) = subst (λ (q : Fraction). IsModel [] [] (member family q)) (sym e) (record { sorts = member_sorted n; asserted_hold = tt; assumed_hold = tt })

keeps_to : KeepsTo family x_term by_one
keeps_to s there = reduce-same (line_at by_one s)

keeps : KeepsTo family x_term (line_of family x_term)
keeps s there =
    let same = lines_tell.same family x_term by_one tt keeps_to in
    keeps_to s there ∙ℚ +ℚ-same (=ℚ_sym same.0) (times_left s (=ℚ_sym same.1))

is_integer : IsIntegerLine naturals (line_of family x_term)
unfolding gcd_within gcd floor_div denominator over fraction_eq neg_ℚ ◌+ℚ◌ ◌-ℚ◌ ◌*ℚ◌ ◌/ℚ◌ flipped reciprocal floor reduce
is_integer = (refl, refl)

by_x : (P : Term → Type 0) (t : Term) → Contains (x_term ∷ []) t → P x_term → P t
by_x P t has h = elim (has_cases x_term t [] has) [ inl same ↦ subst P same h | inr none ↦ absurd (has_none t none) ]

abbrev constant_in : Term → Constant
constant_in (apply (constant c) ts) = c
constant_in t = x_constant

the_course : (c : Constant) → Contains (x_term ∷ []) (unit_of c) → (course : Course) × Contains family.courses (c, course)
the_course c has =
    let same : x_constant ≡ c = by_x (λ (t : Term). x_constant ≡ constant_in t) (unit_of c) has refl in
    subst (λ (d : Constant). (course : Course) × Contains family.courses (d, course)) same (along by_one, has_first (x_constant, along by_one) [])

courses : IsIntegerLine naturals by_one
unfolding floor_div denominator fraction_eq floor
courses = (refl, refl)

half_apart : IsIntegerLine naturals (let l : Line = record { start = whole (pos 0); slope = over (pos 1) 2 } in l) → ⊥
unfolding floor_div denominator over fraction_eq floor
half_apart h = true≢false (sym h.1)

pub steady_family : HasSteadyFamily
steady_family = record {
  steady = record {
    reached = tt;
    courses = All-cons (λ (p : Constant × Course). IsCourseOf naturals p.0.sort p.1) (x_constant, along by_one) [] courses (All-nil _);
    members = members;
    truths = λ t has boolean. absurd (true≢false (sym boolean ∙ by_x (λ (u : Term). is_boolean_term u ≡ false) t has refl));
    units = λ t has unit. by_x (λ (u : Term). KeepsTo family u (line_of family u)) t has keeps;
    integers = λ t has unit sort. by_x (λ (u : Term). IsIntegerLine naturals (line_of family u)) t has is_integer;
    divisors = λ t has. by_x (HasDividedSlope family) t has tt;
    all = the_course;
  };
  unsteady = λ h. half_apart (All-contains (λ (p : Constant × Course). IsCourseOf naturals p.0.sort p.1) (rising (over (pos 1) 2)).courses
      (x_constant, along (record { start = whole (pos 0); slope = over (pos 1) 2 })) h.courses (has_first _ []));
}
