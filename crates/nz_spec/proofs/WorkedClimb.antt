-- The worked climb is legal.
use Rattle.std.proofs.Common.{◌≡◌, inl, inr, ℕ, ◌≤◌, List, [], ◌∷◌, pos, Some, ℤ, Bool, true, false, take, slice_get, refl, sym, subst, ◌∙◌, arith, true≢false}
use Rattle.std.specs.Prelude.{All, ◌==◌, ◌&&◌, Option, unwrap_or, count_by}
use Rattle.std.specs.declared.cmp.Ordering.TheVariants.{Less}
use Rattle.std.proofs.lemmas.List.Elements.{All-nil, All-cons}
use Rattle.std.proofs.lemmas.List.Sums.{count_by-le-length}
use Rattle.nz_lists.proofs.Members.{has_first, has_none}
use Rattle.nz_ints.proofs.Ring.{Atom, Literal as Whole, ◌⊕◌, ◌⊗◌}
use Rattle.nz_fractions.specs.Fraction.{Fraction, whole, ◌=ℚ◌, denominator, over, fraction_eq, fraction_le, fraction_lt, fraction_cmp, neg_ℚ, ◌+ℚ◌, ◌*ℚ◌}
use Rattle.nz_fractions.proofs.Laws.{=ℚ_refl, =ℚ_sym, <ℚ_irrefl, ≤ℚ_trans, ≤ℚ-from_lt, ≤ℚ-from_eq}
use Rattle.nz_fractions.proofs.Arithmetic.{+ℚ-same, *ℚ-same}
use Rattle.nz_fractions.proofs.Solver.{◌∙ℚ◌, solve}
use Rattle.nz_spec.specs.numbers.Infinitesimal.{Infinitesimal, ◌=δ◌, infinitesimal_cmp, ◌+δ◌, scaled}
use Rattle.nz_spec.specs.terms.Term.{Sort, bool_sort, int_sort, real_sort, Value, truth, whole_number, is_true, value_of, Constant, Assignment, IsOfSort}
use Rattle.nz_spec.specs.terms.Model.{IsModel}
use Rattle.nz_spec.specs.clauses.Literal.{Literal, is_literal_true}
use Rattle.nz_spec.specs.simplex.Basis.{IsBasis, IsCoefficient, alone as one_at}
use Rattle.nz_spec.specs.simplex.Bland.{Point, Position, is_nonbasic, standing, zero_infinitesimal, Side, upper_side, bound_on, HasValue, IsWithinBounds, HasRoom, CanHelp, IsLed, Blocks, exchanged_point, IsClimbStep}
use Rattle.nz_spec.specs.simplex.LiteralBounds.{moved_by}
use Rattle.nz_spec.specs.search.Work.{FoundEntry, WorkLine, UnitLine, NoteLine}
use Rattle.nz_spec.specs.search.Notes.{told_under, Note, atom_note, goal_note, under_note, told_note}
use Rattle.nz_spec.specs.clauses.Goals.{Goal, goal_value, IsBetter}
use Rattle.nz_spec.specs.search.Search.{Found, Search, at_first, no_point, position_of, IsHeld}
use Rattle.nz_spec.specs.search.Atoms.{IsBoundOf, of_table}
use Rattle.nz_spec.specs.search.Beginnings.{MayKeep}
use Rattle.nz_spec.specs.search.Legal.{IsClimbing, found_at, after_lines, Lead, are_alike, AreSpread}
use Rattle.nz_spec.specs.worked.WorkedArithmetic.{sample_order}
use Rattle.nz_spec.specs.worked.WorkedWork.{x_goal, one_term, x_up_to_one, climb_task, climb_lines, HasClimb}
use Rattle.nz_spec.proofs.BasisRows.{nonbasic_form_is_itself, coefficients_are_unique}
use Rattle.nz_spec.proofs.BlandPositions.{positions_have_values}
use Rattle.nz_spec.proofs.InfinitesimalMoves.{infinitesimals_move}
use Rattle.nz_spec.proofs.InfinitesimalOrder.{infinitesimals_are_ordered}
use Rattle.nz_spec.proofs.LegalWork.{goes_on}
use Rattle.nz_spec.proofs.Starts.{legal_work_may_begin}
use Rattle.nz_spec.proofs.WorkedWork.{none_other, one_known, x_parts, at_zero, above_zero, one_bound}

-- ---- Members

-- each integer constant is this number
abbrev integers_at : ℤ → Assignment
integers_at n c = by_sort c.sort
  where
    by_sort : Sort → Value
    by_sort bool_sort = truth false
    by_sort int_sort = whole_number n
    by_sort real_sort = whole_number (pos 0)

have_sorts : (n : ℤ) (s : Sort) (c : Constant) → c.sort ≡ s → IsOfSort c.sort (integers_at n c)
have_sorts n bool_sort c e = rw e tt
have_sorts n int_sort c e = rw e refl
have_sorts n real_sort c e = rw e tt

-- a member of which x is this number
makes_model : (n : ℤ) → is_true (value_of (integers_at n) one_term) ≡ true → IsModel climb_task.asserted climb_task.assumed (integers_at n)
makes_model n within = record { sorts = λ c. have_sorts n c.sort c refl; asserted_hold = (within, tt); assumed_hold = tt }

is_held : (n : ℤ) (found : List Found) → is_true (value_of (integers_at n) one_term) ≡ true → IsHeld climb_task found 0 (integers_at n)
is_held n found within = record { model = makes_model n within; held = λ j g v less. absurd (omega (arith, less)) }

zero_within : is_true (value_of (integers_at (pos 0)) one_term) ≡ true
unfolding denominator fraction_le
zero_within = refl

one_within : is_true (value_of (integers_at (pos 1)) one_term) ≡ true
unfolding denominator fraction_le
one_within = refl

zero_there : goal_value (integers_at (pos 0)) x_goal =ℚ whole (pos 0)
unfolding denominator over ◌+ℚ◌ ◌*ℚ◌
zero_there = record { cross = refl }

one_there : goal_value (integers_at (pos 1)) x_goal =ℚ whole (pos 1)
unfolding denominator over ◌+ℚ◌ ◌*ℚ◌
one_there = record { cross = refl }

zero_under : is_literal_true (integers_at (pos 0)) x_up_to_one ≡ true
unfolding denominator over fraction_le ◌+ℚ◌ ◌*ℚ◌
zero_under = refl

-- ---- The bound

one_is_bound : IsBoundOf sample_order climb_task.listed x_up_to_one
one_is_bound = one_bound climb_task.listed (2, omega arith, refl)

abbrev lines_to_climb : List (WorkLine Note)
lines_to_climb =
    NoteLine (under_note []) ∷ UnitLine (FoundEntry 0 (whole (pos 0))) ∷ NoteLine (atom_note x_up_to_one) ∷ NoteLine (goal_note x_parts)
    ∷ NoteLine (under_note (x_up_to_one ∷ [])) ∷ NoteLine (told_note (told_under 0)) ∷ []

abbrev climb_search : Search
climb_search = after_lines at_first lines_to_climb

abbrev climb_start : Point
climb_start = moved_by (x_parts ∷ []) x_up_to_one at_zero

abbrev climb_position : Position
climb_position = position_of climb_search climb_start

abbrev one_value : Infinitesimal
one_value = standing (whole (pos 1))

abbrev climb_end : Point
climb_end = exchanged_point climb_start 0 0 one_value

abbrev zero_found : Found
zero_found = found_at 0 (whole (pos 0))

climb_begins : Lead climb_task at_first no_point lines_to_climb climb_start
unfolding denominator fraction_le fraction_lt fraction_eq neg_ℚ
climb_begins =
    let x = no_point in
    let Kept : Literal → Type 0 = MayKeep climb_task (after_lines at_first (take 4 lines_to_climb)) in (
      x,
      x,
      ([], refl),
      (record { literals = inl (All-nil _); first = λ e. (refl, refl, refl) }, refl),
      (
        x,
        x,
        ([], refl),
        (
          record {
            goal = x_goal;
            listed = refl;
            in_order = All-nil _;
            better = All-nil _;
            before = λ j g less. absurd (omega (arith, less));
            member = integers_at (pos 0);
            held = is_held (pos 0) [] zero_within;
            has = zero_there;
          },
          refl,
        ),
        (
          x,
          x,
          ([], refl),
          (
            record {
              atom = of_table one_is_bound;
              fresh = All-nil _;
              negation_fresh = All-nil _;
            },
            refl,
          ),
          (
            x,
            at_zero,
            ([], refl),
            (record { goal = x_goal; listed = has_first x_goal []; is = refl; new = refl }, refl),
            (
              at_zero,
              at_zero,
              ([], refl),
              (
                record {
                  literals = inr (record {
                    goal = x_goal;
                    value = whole (pos 0);
                    member = integers_at (pos 0);
                    is_member = record { before = []; last = zero_found; found = refl; listed = refl; value = refl; held = is_held (pos 0) (zero_found ∷ []) zero_within; has = zero_there };
                    hold = (zero_under, tt);
                    kept = All-cons Kept x_up_to_one [] (inl (x_up_to_one, true, has_first x_up_to_one [], refl)) (All-nil Kept);
                  });
                  first = λ e. absurd (omega (arith, e));
                },
                refl,
              ),
              (
                at_zero,
                climb_start,
                ([], refl),
                (record { there = omega arith; new = has_none _; follows = λ a may. may.model.assumed_hold.0 }, refl),
                ([], refl),
              ),
            ),
          ),
        ),
      ),
    )

climb_basis : IsBasis (x_parts ∷ []) (is_nonbasic climb_start)
unfolding denominator fraction_lt neg_ℚ
climb_basis = legal_work_may_begin.basis climb_task lines_to_climb climb_start climb_begins

-- ---- The move

-- the coefficient of x at itself, and its value
x_itself : IsCoefficient (x_parts ∷ []) (is_nonbasic climb_start) 0 0 (whole (pos 1))
x_itself = record { row = one_at 0; is_row = nonbasic_form_is_itself.row (x_parts ∷ []) (is_nonbasic climb_start) 0 climb_basis refl; at = =ℚ_refl (whole (pos 1)) }

x_has : HasValue climb_position 0 zero_infinitesimal
unfolding denominator over fraction_eq fraction_lt fraction_cmp infinitesimal_cmp neg_ℚ ◌+ℚ◌ ◌*ℚ◌
x_has = record {
  row = one_at 0;
  is_row = nonbasic_form_is_itself.row (x_parts ∷ []) (is_nonbasic climb_start) 0 climb_basis refl;
  at = record { standard = record { cross = refl }; coefficient = record { cross = refl } };
}

-- no other bound of x stands above
bound_is_one : (bound : Infinitesimal) → bound_on upper_side climb_position 0 ≡ Some bound → one_value ≡ bound
unfolding denominator fraction_lt fraction_eq neg_ℚ
bound_is_one bound e = subst (λ (o : Option Infinitesimal). one_value ≡ unwrap_or o one_value) e refl

has_room : HasRoom climb_position upper_side 0
unfolding denominator fraction_lt fraction_cmp infinitesimal_cmp neg_ℚ fraction_eq
has_room bound e = subst (λ (b : Infinitesimal). infinitesimal_cmp zero_infinitesimal b ≡ Less) (bound_is_one bound e) refl

abbrev x_helps : CanHelp climb_position 0 upper_side 0
x_helps = record { nonbasic = refl; coefficient = whole (pos 1); at = x_itself; way = inl (above_zero, has_room) }

x_reaches : (zero_infinitesimal +δ scaled one_value (whole (pos 1))) =δ one_value
unfolding ◌+δ◌ scaled denominator over ◌+ℚ◌ ◌*ℚ◌
x_reaches = record { standard = record { cross = refl }; coefficient = record { cross = refl } }

x_bounded : bound_on upper_side climb_position 0 ≡ Some one_value
unfolding denominator fraction_lt fraction_eq neg_ℚ
x_bounded = refl

abbrev x_blocks : Blocks climb_position 0 upper_side 0 one_value
x_blocks = record {
  listed = omega arith;
  coefficient = whole (pos 1);
  at = x_itself;
  side = upper_side;
  led = inl (above_zero, refl);
  bound = one_value;
  bounded = x_bounded;
  value = zero_infinitesimal;
  has = x_has;
  reaches = x_reaches;
}

-- a coefficient that is 1 leads upwards
led_up : (c : Fraction) (side : Side) → c =ℚ whole (pos 1) → IsLed upper_side c side → side ≡ upper_side
led_up c side one (inl (above, same)) = same
led_up c side one (inr (below, same)) = absurd (<ℚ_irrefl below (≤ℚ_trans (≤ℚ-from_lt above_zero) (≤ℚ-from_eq (=ℚ_sym one))))

part_reaches : (value move c bound : Fraction) → value =ℚ whole (pos 0) → c =ℚ whole (pos 1) → (value +ℚ move *ℚ c) =ℚ bound → move =ℚ bound
part_reaches value move c bound none one reaches =
    solve (move ∷ []) (Atom 0) (Whole (pos 0) ⊕ Atom 0 ⊗ Whole (pos 1)) refl ∙ℚ +ℚ-same (=ℚ_sym none) (*ℚ-same (=ℚ_refl move) (=ℚ_sym one)) ∙ℚ reaches

-- nothing blocks x before 1
no_block : (other : Infinitesimal) → Blocks climb_position 0 upper_side 0 other → other =δ one_value
unfolding ◌+δ◌ scaled
no_block other blocks =
    let one = coefficients_are_unique.one (x_parts ∷ []) (is_nonbasic climb_start) 0 0 blocks.coefficient (whole (pos 1)) climb_basis (omega arith) blocks.at x_itself in
    let value = positions_have_values.one climb_position 0 blocks.value zero_infinitesimal climb_basis (omega arith) blocks.has x_has in
    let side : blocks.side ≡ upper_side = led_up blocks.coefficient blocks.side one blocks.led in
    let bound : one_value ≡ blocks.bound = bound_is_one blocks.bound (subst (λ (s : Side). bound_on s climb_position 0 ≡ Some blocks.bound) side blocks.bounded) in
    let reached : other =δ blocks.bound =
    record {
      standard = part_reaches blocks.value.standard other.standard blocks.coefficient blocks.bound.standard value.standard one blocks.reaches.standard;
      coefficient = part_reaches blocks.value.coefficient other.coefficient blocks.coefficient blocks.bound.coefficient value.coefficient one blocks.reaches.coefficient;
    } in
    subst (λ (b : Infinitesimal). other =δ b) (sym bound) reached

climbs : IsClimbStep climb_position (position_of climb_search climb_end) 0 upper_side 0 0
unfolding denominator fraction_lt fraction_eq neg_ℚ
climbs = record {
  helps = x_helps;
  least_helper = λ k less help. omega (arith, less);
  way = upper_side;
  led = inl (above_zero, refl);
  move = one_value;
  blocks = x_blocks;
  first = λ k other blocks inside.
      let here : k ≡ 0 = omega (arith, blocks.listed) in
      let same : other =δ one_value = no_block other (subst (λ (n : ℕ). Blocks climb_position 0 upper_side n other) here blocks) in
      infinitesimals_are_ordered.never_less one_value (sym (infinitesimals_move.ordered other one_value one_value one_value same (infinitesimals_move.itself one_value)) ∙ inside);
  least_first = λ k other less blocks same. omega (arith, less);
  after = refl;
}

climb_within : IsWithinBounds climb_position
unfolding denominator fraction_lt neg_ℚ
climb_within side bound i breaks =
    let first : i ≡ 0 = omega (arith, breaks.listed) in
    true≢false (subst (λ (k : ℕ). is_nonbasic climb_start k ≡ false) first breaks.basic)

climbing : IsClimbing climb_task climb_search climb_start climb_end 0 0
unfolding denominator fraction_lt fraction_eq neg_ℚ
climbing = record {
  within = climb_within;
  form = 0;
  way = upper_side;
  sought = record { before = []; last = zero_found; found = refl; goal = x_goal; listed = refl; side = upper_side; form_is = refl; way_is = refl };
  step = climbs;
}

climb_ends : Lead climb_task climb_search climb_start (UnitLine (FoundEntry 0 (whole (pos 1))) ∷ []) climb_end
climb_ends = (
  climb_end,
  climb_end,
  (0 ∷ [], (climb_end, climbing, refl)),
  (
    record {
      goal = x_goal;
      listed = refl;
      in_order = All-cons (λ (e : Found). e.goal ≤ 0) zero_found [] (omega arith) (All-nil _);
      better = All-cons (λ (e : Found). e.goal ≡ 0 → IsBetter true (whole (pos 1)) e.value) zero_found [] (λ same. above_zero) (All-nil _);
      before = λ j g less. absurd (omega (arith, less));
      member = integers_at (pos 1);
      held = is_held (pos 1) (zero_found ∷ []) one_within;
      has = one_there;
    },
    refl,
  ),
  ([], refl),
)

-- ---- The list

abbrev zero_member : Found × Assignment
zero_member = (zero_found, integers_at (pos 0))

abbrev one_member : Found × Assignment
one_member = (found_at 0 (whole (pos 1)), integers_at (pos 1))

abbrev both_found : List Found
both_found = zero_member.0 ∷ one_member.0 ∷ []

goal_is : (g : Goal) (a : Assignment) (v : Fraction) → slice_get climb_task.goals 0 ≡ Some g → goal_value a x_goal =ℚ v → goal_value a g =ℚ v
goal_is g a v at has = subst (λ (h : Goal). goal_value a h =ℚ v) (subst (λ (o : Option Goal). x_goal ≡ unwrap_or o x_goal) at refl) has

-- whether values of one goal were found at assignments that agree
abbrev alike_to : Found × Assignment → Found × Assignment → Bool
alike_to m n = (m.0.goal == n.0.goal) && are_alike climb_task m.1 n.1

counted : (p : Found × Assignment → Bool) → count_by p (zero_member ∷ one_member ∷ []) ≤ 4
counted p = omega (arith, count_by-le-length p (zero_member ∷ one_member ∷ []))

both_each : (P : Found × Assignment → Type 0) → P zero_member → P one_member → All P (zero_member ∷ one_member ∷ [])
both_each P first second = All-cons P zero_member (one_member ∷ []) first (All-cons P one_member [] second (All-nil P))

both_spread : AreSpread climb_task both_found
both_spread = record {
  members = zero_member ∷ one_member ∷ [];
  values = refl;
  held = both_each (λ (m : Found × Assignment). IsHeld climb_task both_found m.0.goal m.1) (is_held (pos 0) both_found zero_within) (is_held (pos 1) both_found one_within);
  has = both_each (λ (m : Found × Assignment). (g : Goal) → slice_get climb_task.goals m.0.goal ≡ Some g → goal_value m.1 g =ℚ m.0.value)
      (λ g at. goal_is g (integers_at (pos 0)) (whole (pos 0)) at zero_there) (λ g at. goal_is g (integers_at (pos 1)) (whole (pos 1)) at one_there);
  few = both_each (λ (m : Found × Assignment). count_by (alike_to m) (zero_member ∷ one_member ∷ []) ≤ 4) (counted (alike_to zero_member)) (counted (alike_to one_member));
}

pub climb : HasClimb
climb = record {
  point = climb_end;
  lead = goes_on.lines climb_task at_first no_point climb_start climb_end lines_to_climb (UnitLine (FoundEntry 0 (whole (pos 1))) ∷ []) climb_begins climb_ends;
  few = record {
    atoms = λ others once all. none_other climb_task (after_lines at_first climb_lines) 6 (one_known climb_task x_up_to_one (inr one_is_bound)) others all;
    begun = omega arith;
    spread = both_spread;
  };
}
