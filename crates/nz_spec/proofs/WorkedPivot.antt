-- The worked exchange is legal, and so is the check that begins behind it.
use Rattle.std.proofs.Common.{◌≡◌, ◌⊎◌, inl, inr, ℕ, zero, suc, ◌<◌, Bool, true, false, List, [], ◌∷◌, pos, negsuc, Option, Some, None, refl, sym, subst, ◌∙◌, arith, true≢false, if◌then◌else◌}
use Rattle.std.proofs.Math.Path.{fun_ext}
use Rattle.std.specs.Prelude.{IsTrue, ◌==◌, ◌&&◌}
use Rattle.std.proofs.lemmas.List.Elements.{All-nil, All-cons, All-contains, Contains-append_left}
use Rattle.nz_lists.proofs.Numbers.{other-number}
use Rattle.nz_lists.proofs.Members.{has_none}
use Rattle.nz_ints.specs.Division.{gcd_within, gcd}
use Rattle.nz_ints.proofs.Ring.{Atom, Literal as Whole, ◌⊕◌, ◌⊗◌}
use Rattle.nz_fractions.specs.Fraction.{Fraction, whole, denominator, over, fraction_eq, fraction_lt, fraction_cmp, neg_ℚ, ◌+ℚ◌, ◌-ℚ◌, ◌*ℚ◌, reduce, exact, outcome}
use Rattle.nz_fractions.proofs.Laws.{=ℚ_refl}
use Rattle.nz_fractions.proofs.Solver.{solve}
use Rattle.nz_spec.specs.numbers.Infinitesimal.{Infinitesimal, infinitesimal_cmp}
use Rattle.nz_spec.specs.numbers.Computation.{at_once, in_turn}
use Rattle.nz_spec.specs.terms.Term.{over_int, sum, Assignment, is_true, value_of}
use Rattle.nz_spec.specs.terms.Normal.{paired}
use Rattle.nz_spec.specs.terms.Form.{Part, reordered}
use Rattle.nz_spec.specs.terms.Same.{are_same_term}
use Rattle.nz_spec.specs.terms.Model.{IsAssignment}
use Rattle.nz_spec.specs.clauses.Literal.{Literal, SayTheSame, is_literal_true}
use Rattle.nz_spec.specs.clauses.Gates.{fails}
use Rattle.nz_spec.specs.clauses.Links.{at_most_literal}
use Rattle.nz_spec.specs.simplex.Basis.{Coefficients, IsZeroAtBasic, IsRow}
use Rattle.nz_spec.specs.simplex.Bland.{Point, Position, is_nonbasic, standing, zero_infinitesimal, Side, lower_side, upper_side, bound_on, HasValue, Breaks, exchanged_point, IsCheckStep}
use Rattle.nz_spec.specs.simplex.PositionMoves.{AreConsistent}
use Rattle.nz_spec.specs.simplex.LiteralBounds.{joined, moved_by}
use Rattle.nz_spec.specs.search.Search.{terms_known, Search, at_first, no_point, point_at, position_of}
use Rattle.nz_spec.specs.search.Beginnings.{MayBegin}
use Rattle.nz_spec.specs.search.Atoms.{IsTruth, IsTabled, IsBoundOf, of_table}
use Rattle.nz_spec.specs.search.Legal.{after_lines, Lead}
use Rattle.nz_spec.specs.search.Work.{PivotEntry, UnitLine}
use Rattle.nz_spec.specs.worked.TermSamples.{x_term, y_term, numeral_term}
use Rattle.nz_spec.specs.worked.WorkedArithmetic.{sample_order, part}
use Rattle.nz_spec.specs.worked.WorkedWork.{sum_term, sum_from_one, pivot_task, opening, pivot_lines, HasPivot, three_forms, later_task, later_lines, HasLaterCheck, sum_turned_round, HasEitherOrder}
use Rattle.nz_spec.proofs.LegalWork.{goes_on}
use Rattle.nz_spec.proofs.MoreTerms.{more_terms_may_begin}
use Rattle.nz_spec.proofs.SameSums.{say_back}
use Rattle.nz_spec.proofs.Starts.{legal_work_may_begin}
use Rattle.nz_spec.proofs.LinkTruths.{links_are_true}
use Rattle.nz_spec.proofs.WorkedWork.{opened, none_other, one_known, no_values, only_second, above_zero, in_first_row, as_it_is}

abbrev sum_parts : List Part
sum_parts = part (pos 1) x_term ∷ part (pos 1) y_term ∷ []

abbrev pivot_search : Search
pivot_search = after_lines at_first (opening sum_from_one)

abbrev both_at_zero : Point
both_at_zero = (joined (position_of at_first no_point) sum_parts).point

abbrev pivot_start : Point
pivot_start = moved_by three_forms sum_from_one both_at_zero

abbrev pivot_position : Position
pivot_position = position_of pivot_search pivot_start

abbrev one_value : Infinitesimal
one_value = standing (whole (pos 1))

-- the sum stands at 1, and x is basic
abbrev pivot_end : Point
pivot_end = exchanged_point pivot_start 2 0 one_value

sum_follows : (a : Assignment) → IsAssignment a → IsTrue (is_true (value_of a sum_term)) → IsTrue (is_literal_true a sum_from_one)
unfolding gcd_within gcd denominator over fraction_eq fraction_lt neg_ℚ ◌+ℚ◌ ◌-ℚ◌ ◌*ℚ◌ reduce exact outcome
sum_follows a good holds =
    only_second (is_true (value_of a sum_term)) (is_literal_true a sum_from_one) holds (links_are_true sample_order a good sum_term (record { linear = refl; arguments = tt })).0

sum_tabled : IsTabled sample_order pivot_task.listed sum_from_one
unfolding gcd_within gcd denominator over fraction_eq fraction_lt neg_ℚ ◌+ℚ◌ ◌-ℚ◌ ◌*ℚ◌ reduce exact outcome
sum_tabled =
    in_first_row pivot_task.listed sum_term sum_from_one (in_turn (at_once (fails sum_term) ∷ at_most_literal sample_order (numeral_term 1) (paired (sum over_int) x_term y_term) ∷ []))
    (4, omega arith, refl) refl refl (1, omega arith, refl)

sum_bound : IsBoundOf sample_order pivot_task.listed sum_from_one
sum_bound = as_it_is pivot_task.listed sum_from_one sum_tabled

-- ---- The row of the sum

abbrev sum_row : Coefficients
sum_row zero = whole (pos 1)
sum_row (suc zero) = whole (pos 1)
sum_row (suc (suc k)) = whole (pos 0)

zero_at_basic : IsZeroAtBasic (is_nonbasic pivot_start) sum_row
unfolding denominator fraction_lt fraction_eq neg_ℚ
zero_at_basic zero basic = absurd (true≢false basic)
zero_at_basic (suc zero) basic = absurd (true≢false basic)
zero_at_basic (suc (suc k)) basic = =ℚ_refl (whole (pos 0))

is_sum_row : IsRow three_forms (is_nonbasic pivot_start) 2 sum_row
is_sum_row = record {
  at_basic = zero_at_basic;
  equal = λ v.
      let one = Whole (pos 1) in
      let none = Whole (pos 0) in
      let x = one ⊗ Atom 0 in
      let y = one ⊗ Atom 1 in
      solve (v x_term ∷ v y_term ∷ []) (x ⊕ (y ⊕ none)) (((none ⊕ one ⊗ (x ⊕ none)) ⊕ one ⊗ (y ⊕ none)) ⊕ none ⊗ (x ⊕ (y ⊕ none))) refl;
}

sum_has : HasValue pivot_position 2 zero_infinitesimal
unfolding denominator over fraction_eq fraction_lt fraction_cmp infinitesimal_cmp neg_ℚ ◌+ℚ◌ ◌*ℚ◌
sum_has = record { row = sum_row; is_row = is_sum_row; at = record { standard = record { cross = refl }; coefficient = record { cross = refl } } }

-- ---- The step

below_two : (k : ℕ) → k < 2 → (k ≡ 0) ⊎ (k ≡ 1)
below_two zero less = inl refl
below_two (suc zero) less = inr refl
below_two (suc (suc k)) less = absurd (omega (arith, less))

sum_bounded : bound_on lower_side pivot_position 2 ≡ Some one_value
unfolding denominator fraction_lt fraction_eq neg_ℚ
sum_bounded = refl

-- x and y break no bound
units_fit : (k : ℕ) → k < 2 → (side : Side) (bound : Infinitesimal) → Breaks pivot_position side bound k → ⊥
unfolding denominator fraction_lt fraction_eq neg_ℚ
units_fit k less side bound breaks =
    elim (below_two k less) [
      | inl first ↦ true≢false (subst (λ (i : ℕ). is_nonbasic pivot_start i ≡ false) first breaks.basic)
      | inr second ↦ true≢false (subst (λ (i : ℕ). is_nonbasic pivot_start i ≡ false) second breaks.basic)
    ]

-- no form has an upper bound
none_above : (k : ℕ) → bound_on upper_side pivot_position k ≡ None
unfolding denominator fraction_lt fraction_eq neg_ℚ
none_above k = by_test (2 == k)
  where
    by_test : (b : Bool) → (if b && false then Some one_value else None) ≡ None
    by_test true = refl
    by_test false = refl

consistent : AreConsistent pivot_position
consistent k low high at_low at_high agree = let e = sym (none_above k) ∙ at_high in cc

step : IsCheckStep pivot_position (position_of pivot_search pivot_end) 2 0
unfolding denominator fraction_lt fraction_eq fraction_cmp infinitesimal_cmp neg_ℚ
step = record {
  side = lower_side;
  bound = one_value;
  breaks = record { listed = omega arith; basic = refl; bounded = sum_bounded; value = zero_infinitesimal; has = sum_has; outside = refl };
  least_broken = units_fit;
  helps = record {
    nonbasic = refl;
    coefficient = whole (pos 1);
    at = record { row = sum_row; is_row = is_sum_row; at = =ℚ_refl (whole (pos 1)) };
    way = inl (above_zero, λ bound e. let none = sym (none_above 0) ∙ e in cc);
  };
  least_helper = λ k less help. omega (arith, less);
  after = refl;
}

pivot_lead : Lead pivot_task at_first no_point pivot_lines pivot_end
unfolding denominator fraction_lt fraction_eq neg_ℚ
pivot_lead =
    goes_on.line pivot_task at_first no_point pivot_start pivot_end (opening sum_from_one) (UnitLine (PivotEntry 2 0))
    (opened pivot_task sum_from_one sum_bound refl (λ a model. sum_follows a model.sorts model.asserted_hold.0)) (inl (consistent, step))

pub pivot : HasPivot
pivot = record {
  point = pivot_end;
  lead = pivot_lead;
  few = record {
    atoms = λ others once all. none_other pivot_task (after_lines at_first pivot_lines) 0 (one_known pivot_task sum_from_one (inr sum_bound)) others all;
    begun = omega arith;
    spread = no_values pivot_task;
  };
}

-- ---- The check behind it

abbrev later_point : Point
later_point = point_at (None ∷ Some zero_infinitesimal ∷ Some one_value ∷ [])

same_places : (k : ℕ) → pivot_end k ≡ later_point k
unfolding denominator fraction_lt fraction_eq fraction_cmp infinitesimal_cmp neg_ℚ
same_places zero = refl
same_places (suc zero) = refl
same_places (suc (suc zero)) = refl
same_places (suc (suc (suc k))) =
    let at : ℕ = suc (suc (suc k)) in
    rw (other-number at 2 (λ e. omega (arith, e))) (rw (other-number at 0 (λ e. omega (arith, e))) (rw (other-number at 1 (λ e. omega (arith, e))) refl))

may_begin : MayBegin (terms_known later_task) [] three_forms later_point
unfolding denominator fraction_lt fraction_eq neg_ℚ
may_begin =
    subst (MayBegin (terms_known later_task) [] three_forms) (fun_ext same_places)
    (more_terms_may_begin.begin (terms_known pivot_task) (terms_known later_task) [] [] three_forms pivot_end
    (λ t has. Contains-append_left pivot_task.listed pivot_task.listed t has) (λ g has. has)
    (legal_work_may_begin.plain pivot_task pivot_lines pivot_end pivot_lead refl (All-nil _)
    (All-cons (λ (l : Literal). IsTruth pivot_task.listed l ⊎ IsTabled sample_order pivot_task.listed l) sum_from_one [] (inr sum_tabled) (All-nil _))))

later_lead : Lead later_task at_first no_point later_lines (moved_by three_forms sum_from_one later_point)
unfolding denominator fraction_lt fraction_eq neg_ℚ
later_lead =
    let x = later_point in (
      no_point,
      x,
      ([], refl),
      (record { first = refl; may_begin = may_begin }, refl),
      (
        x,
        x,
        ([], refl),
        (record { literals = inl (All-nil _); first = λ e. (refl, refl, refl) }, refl),
        (
          x,
          x,
          ([], refl),
          (record { atom = of_table sum_bound; fresh = All-nil _; negation_fresh = All-nil _ }, refl),
          (
            x,
            moved_by three_forms sum_from_one x,
            ([], refl),
            (
              record {
                there = omega arith;
                new = has_none _;
                follows = λ a may. sum_follows a may.model.sorts may.model.asserted_hold.0;
              },
              refl,
            ),
            ([], refl),
          ),
        ),
      ),
    )

pub later_check : HasLaterCheck
later_check = record {
  point = moved_by three_forms sum_from_one later_point;
  lead = later_lead;
  few = record {
    atoms = λ others once all. none_other later_task (after_lines at_first later_lines) 0 (one_known later_task sum_from_one (inr sum_bound)) others all;
    begun = omega arith;
    spread = no_values later_task;
  };
}

-- ---- Orders of units

turned_round : SayTheSame sum_turned_round sum_from_one
turned_round = (reordered (record { before = ((refl, tt), (tt, tt)); after = ((refl, tt), (tt, tt)); alike = λ u. either (are_same_term y_term u) (are_same_term x_term u) }), refl)
  where
    one : Option Fraction
    one = Some (whole (negsuc 0))

    either : (a b : Bool) → (if a then one else if b then one else None) ≡ (if b then one else if a then one else None)
    either true true = refl
    either true false = refl
    either false true = refl
    either false false = refl

pub either_order : HasEitherOrder
either_order = record {
  known = record {
    plain = sum_from_one;
    tabled = sum_tabled;
    written = sum_turned_round;
    same = turned_round;
    is_tight = false;
    is = refl;
  };
  refused = λ s x has may. All-contains (λ (m : Literal). SayTheSame m sum_turned_round → ⊥) s.atoms sum_from_one may.fresh has (say_back sum_turned_round sum_from_one turned_round);
}
