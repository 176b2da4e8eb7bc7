-- The worked lists of work are legal, and the lines that are refused may not follow.
use Rattle.std.proofs.Common.{◌≡◌, ◌⊎◌, inl, inr, ℕ, zero, suc, ◌<◌, ◌≤◌, Bool, true, false, List, [], ◌∷◌, length, pos, negsuc, refl, sym, ap, subst, ◌∙◌, arith, true≢false}
use Rattle.std.specs.Prelude.{◌++◌, Option, unwrap_or, All, Contains, IsTrue, not, ◌||◌, Some, slice_get, ℤ}
use Rattle.std.specs.List.{AllByRecursion}
use Rattle.std.specs.declared.cmp.Ordering.TheVariants.{Less}
use Rattle.std.proofs.lemmas.List.Elements.{All-nil, All-cons, All-contains, All-from_recursion}
use Rattle.nz_lists.proofs.Members.{has_cases, has_first, has_none, has_found}
use Rattle.nz_lists.proofs.Elements.{AllByRecursion-weaker}
use Rattle.nz_lists.proofs.Tests.{no_contradiction}
use Rattle.nz_ints.specs.Division.{gcd_within, gcd, floor_div}
use Rattle.nz_fractions.specs.Fraction.{whole, denominator, over, fraction_eq, fraction_lt, fraction_cmp, ◌<ℚ◌, neg_ℚ, ◌+ℚ◌, ◌-ℚ◌, ◌*ℚ◌, ◌/ℚ◌, flipped, reciprocal, ratio, floor, ceiling, reduce, exact, outcome}
use Rattle.nz_fractions.proofs.Laws.{=ℚ-from_same}
use Rattle.nz_fractions.proofs.Order.{lt_from, fraction_eq-same}
use Rattle.nz_spec.specs.numbers.Infinitesimal.{Infinitesimal, ◌=δ◌, infinitesimal_cmp}
use Rattle.nz_spec.specs.numbers.Computation.{Computation, at_once, in_turn}
use Rattle.nz_spec.specs.terms.Term.{Assignment, is_true, value_of, decimal_number, Term}
use Rattle.nz_spec.specs.terms.Normal.{negated}
use Rattle.nz_spec.specs.terms.Form.{Part}
use Rattle.nz_spec.specs.terms.Model.{IsAssignment, IsModel}
use Rattle.nz_spec.specs.clauses.Literal.{Literal, StandOnce, is_below, Clause, negation_of, SayTheSame, is_literal_true}
use Rattle.nz_spec.specs.clauses.Gates.{fails}
use Rattle.nz_spec.specs.clauses.Links.{link_clauses, at_most_literal}
use Rattle.nz_spec.specs.clauses.Units.{unit_clauses}
use Rattle.nz_spec.specs.clauses.Farkas.{is_linear_literal, bound_of}
use Rattle.nz_spec.specs.clauses.LinearLiteral.{parts_of}
use Rattle.nz_spec.specs.simplex.Basis.{IsBasis, alone as one_at}
use Rattle.nz_spec.specs.simplex.Bland.{Point, Position, is_nonbasic, standing, HasValue, IsWithinBounds}
use Rattle.nz_spec.specs.simplex.LiteralBounds.{turned, joined, moved_by}
use Rattle.nz_spec.specs.search.Branches.{Branch, branch_at}
use Rattle.nz_spec.specs.search.Work.{DecisionEntry, PivotEntry, BranchEntry, UnitLine, NoteLine}
use Rattle.nz_spec.specs.search.Notes.{atom_note}
use Rattle.nz_spec.specs.search.Search.{Task, signed_literal, Search, at_first, no_point, position_of, HasWorth, Found}
use Rattle.nz_spec.specs.search.Legal.{after_lines, MayFollow, Lead, AreSpread}
use Rattle.nz_spec.specs.search.Atoms.{IsTruth, IsBoundOf, of_term, of_table, IsTabled, IsBroken, HasUnit, WasTold, LiesBetween, MayBranch, of_split, of_branch, on_unit, branch_by}
use Rattle.nz_spec.specs.search.Beginnings.{IsComparison}
use Rattle.nz_spec.specs.worked.TermSamples.{a_term, x_term, alone, numeral_term, real_of}
use Rattle.nz_spec.specs.worked.WorkedSteps.{a_true, a_false}
use Rattle.nz_spec.specs.worked.WorkedWork.{not_a_true, boolean_task, boolean_lines, HasSearches, HasSpentUnits, half_term, x_from_half, branch_task, opening, lines_to_half, branching_lines, one_term, x_up_to_one, HasBranch, HasRefusals}
use Rattle.nz_spec.specs.worked.WorkedArithmetic.{sample_order, part, one_half, x_up_to_zero, x_from_one}
use Rattle.nz_spec.proofs.SameSums.{say_itself, say_limits, broken_below}
use Rattle.nz_spec.proofs.LinkTruths.{links_are_true}
use Rattle.nz_spec.proofs.Starts.{legal_work_may_begin}
use Rattle.nz_spec.proofs.LegalWork.{goes_on}
use Rattle.nz_spec.proofs.BasisRows.{nonbasic_form_is_itself}
use Rattle.nz_spec.proofs.BlandPositions.{positions_have_values}
use Rattle.nz_spec.proofs.InfinitesimalMoves.{infinitesimals_move}
use Rattle.nz_spec.proofs.InfinitesimalOrder.{infinitesimals_are_ordered}

-- ---- Numbers of atoms and values

abbrev pub IsKnown : Task → Literal → Type 0
IsKnown q l = IsTruth q.listed l ⊎ IsBoundOf q.numbering q.listed l

-- atoms that aren't known
abbrev AreOthers : Task → Search → List Literal → Type 0
AreOthers q s others = All (λ (l : Literal). Contains s.atoms l × (IsKnown q l → ⊥)) others

pub none_other : (q : Task) (s : Search) (n : ℕ) → ((l : Literal) → Contains s.atoms l → IsKnown q l) → (others : List Literal) → AreOthers q s others → length others ≤ n
none_other q s n known [] all = omega arith
none_other q s n known (l ∷ ls) all = let first = all 0 l (omega arith) in absurd (first.1 (known l first.0))

-- one atom alone, which is known
pub one_known : (q : Task) (l : Literal) → IsKnown q l → (m : Literal) → Contains (l ∷ []) m → IsKnown q m
one_known q l known m has = elim (has_cases l m [] has) [ inl same ↦ subst (IsKnown q) same known | inr more ↦ absurd (has_none m more) ]

pub no_values : (q : Task) → AreSpread q []
no_values q = record { members = []; values = refl; held = All-nil _; has = All-nil _; few = All-nil _ }

pub above_zero : whole (pos 0) <ℚ whole (pos 1)
unfolding denominator fraction_lt
above_zero = lt_from (whole (pos 0)) (whole (pos 1)) refl

once_alone : {A : Type 0} (x : A) → StandOnce (x ∷ [])
once_alone x zero zero y at_i at_j = refl
once_alone x zero (suc j) y at_i at_j = cc
once_alone x (suc i) j y at_i at_j = cc

-- ---- Two searches over a Boolean constant

a_is_truth : IsTruth boolean_task.listed a_true
a_is_truth = record { term = a_term; boolean = refl; listed = has_first a_term (negated a_term ∷ x_term ∷ []); is = refl }

-- where a search goes under `(not a)` alone, or under nothing, neither sign of the atom is held
not_given : (under : List Literal) → ((m : Literal) → Contains under m → not_a_true ≡ m) → (l : Literal) → (not_a_true ≡ l → ⊥) → Contains (not_a_true ∷ under) l → ⊥
not_given under only l other has = elim (has_cases not_a_true l under has) [ inl asserted ↦ other asserted | inr more ↦ other (only l more) ]

a_is_free : (under : List Literal) → ((m : Literal) → Contains under m → not_a_true ≡ m) → (sign : Bool) → Contains (not_a_true ∷ under) (signed_literal a_true sign) → ⊥
a_is_free under only true = not_given under only a_true (λ same. cc)
a_is_free under only false = not_given under only a_false (λ same. cc)

or_nothing : (b : Bool) → IsTrue b → IsTrue (b || false)
or_nothing true h = h
or_nothing false h = h

searches_lead : Lead boolean_task at_first no_point boolean_lines no_point
searches_lead =
    let x = no_point in (
      x,
      x,
      ([], refl),
      (record { literals = inl (All-cons (λ (l : Literal). Contains boolean_task.assumed l ⊎ IsComparison boolean_task at_first no_point l) not_a_true [] (inl (has_first not_a_true [])) (All-nil _)); first = λ e. (refl, refl, refl) }, refl),
      (
        x,
        x,
        ([], refl),
        (
          record {
            atom = of_term a_is_truth;
            fresh = All-nil _;
            negation_fresh = All-nil _;
          },
          refl,
        ),
        (
          x,
          x,
          ([], refl),
          (record { named = omega arith; undecided = All-nil _; free = a_is_free (not_a_true ∷ []) (λ m has. elim (has_cases not_a_true m [] has) [ inl same ↦ same | inr none ↦ absurd (has_none m none) ]) }, refl),
          (
            x,
            x,
            ([], refl),
            (
              record {
                fewer = omega arith;
                dead_end = λ a may. no_contradiction (is_true (value_of a a_term)) may.decided.0 may.model.asserted_hold.0;
                follows = λ a model. or_nothing (not (is_true (value_of a a_term))) model.asserted_hold.0;
                named = All-cons (λ (p : ℕ × Bool). p.0 < 1) (0, false) [] (omega arith) (All-nil _);
                once = once_alone 0;
                new = All-nil _;
              },
              refl,
            ),
            (
              x,
              x,
              ([], refl),
              (record { literals = inl (All-nil _); first = λ e. absurd (omega (arith, e)) }, refl),
              ([], refl),
            ),
          ),
        ),
      ),
    )

pub searches : HasSearches
searches = record {
  point = no_point;
  lead = searches_lead;
  few = record {
    atoms = λ others once all. none_other boolean_task (after_lines at_first boolean_lines) 2 (one_known boolean_task a_true (inl a_is_truth)) others all;
    begun = omega arith;
    spread = no_values boolean_task;
  };
}

pub spent_units : HasSpentUnits
unfolding searches
spent_units = record {
  spent = refl;
  legal = searches;
  wanted = DecisionEntry 0 true;
  after = no_point;
  may = (record { named = omega arith; undecided = All-nil _; free = a_is_free [] (λ m has. absurd (has_none m has)) }, refl);
  under = λ none. cc;
}

-- ---- A branch

-- no literal of a list says the same where the limits differ
not_said : (ls : List Literal) (m : Literal) → AllByRecursion (λ (l : Literal). fraction_eq (bound_of l).limit (bound_of m).limit ≡ false) ls → All (λ (l : Literal). SayTheSame l m → ⊥) ls
not_said ls m others =
    All-from_recursion (λ (l : Literal). SayTheSame l m → ⊥) ls
    (AllByRecursion-weaker (λ (l : Literal). fraction_eq (bound_of l).limit (bound_of m).limit ≡ false) (λ (l : Literal). SayTheSame l m → ⊥)
    (λ l differ same. true≢false (sym (fraction_eq-same (bound_of l).limit (bound_of m).limit (=ℚ-from_same (say_limits l m same))) ∙ differ)) ls others)

abbrev pub x_parts : List Part
x_parts = part (pos 1) x_term ∷ []

-- x is below 1/2
abbrev x_below_half : Literal
x_below_half = is_below x_parts one_half

abbrev half_value : Infinitesimal
half_value = standing one_half

abbrev pub at_zero : Point
at_zero = (joined (position_of at_first no_point) x_parts).point

abbrev at_half : Point
at_half = moved_by (x_parts ∷ []) x_from_half at_zero

abbrev half_search : Search
half_search = after_lines at_first lines_to_half

pub only_second : (b c : Bool) → IsTrue b → IsTrue (not b || (c || false)) → IsTrue c
only_second true true h k = refl
only_second true false h k = k
only_second false c h k = absurd (true≢false (sym h))

half_follows : (a : Assignment) → IsAssignment a → IsTrue (is_true (value_of a half_term)) → IsTrue (is_literal_true a x_from_half)
unfolding gcd_within gcd denominator over fraction_eq fraction_lt neg_ℚ ◌+ℚ◌ ◌-ℚ◌ ◌*ℚ◌ ◌/ℚ◌ flipped reciprocal ratio reduce exact outcome
half_follows a good holds =
    only_second (is_true (value_of a half_term)) (is_literal_true a x_from_half) holds
    (links_are_true sample_order a good half_term (record { linear = refl; arguments = tt })).0

-- a literal of the first row of a listed term
pub in_first_row : (ts : List Term) (t : Term) (l : Literal) (row : Computation Clause) → Contains ts t → slice_get (link_clauses sample_order t ++ unit_clauses sample_order t) 0 ≡ Some row
    → IsTrue (is_linear_literal l) → Contains row.result l → IsTabled sample_order ts l
in_first_row ts t l row listed first linear has =
    record { term = t; listed = listed; row = row; tabled = has_found (link_clauses sample_order t ++ unit_clauses sample_order t) 0 row first; linear = linear; has = inl has }

-- an atom of the tables, as it is
pub as_it_is : (ts : List Term) (l : Literal) → IsTabled sample_order ts l → IsBoundOf sample_order ts l
as_it_is ts l tabled = record { plain = l; tabled = tabled; written = l; same = say_itself l; is_tight = false; is = refl }

-- the point of a sum that joins alone
abbrev pub joined_alone : Literal → Point
joined_alone l = (joined (position_of at_first no_point) (turned (parts_of l))).point

-- A bound of the tables may be told first, where it follows from what is asserted.
pub opened : (q : Task) (l : Literal) → IsBoundOf q.numbering q.listed l → IsTrue (is_linear_literal l)
    → ((a : Assignment) → IsModel q.asserted [] a → IsTrue (is_literal_true a l))
    → Lead q at_first no_point (opening l) (moved_by (after_lines at_first (opening l)).forms l (joined_alone l))
opened q l bound linear follows =
    let x = no_point in
    let y = joined_alone l in (
      x,
      x,
      ([], refl),
      (record { literals = inl (All-nil _); first = λ e. (refl, refl, refl) }, refl),
      (
        x,
        x,
        ([], refl),
        (record { atom = of_table bound; fresh = All-nil _; negation_fresh = All-nil _ }, refl),
        (
          x,
          y,
          ([], refl),
          (record { bound = l; named = refl; linear = linear; new = refl }, refl),
          (
            y,
            moved_by (after_lines at_first (opening l)).forms l y,
            ([], refl),
            (record { there = omega arith; new = has_none l; follows = λ a may. follows a may.model }, refl),
            ([], refl),
          ),
        ),
      ),
    )

half_bound : IsBoundOf sample_order branch_task.listed x_from_half
unfolding gcd_within gcd denominator over fraction_eq fraction_lt neg_ℚ ◌+ℚ◌ ◌-ℚ◌ ◌*ℚ◌ ◌/ℚ◌ flipped reciprocal ratio reduce exact outcome
half_bound =
    as_it_is branch_task.listed x_from_half
    (in_first_row branch_task.listed half_term x_from_half (in_turn (at_once (fails half_term) ∷ at_most_literal sample_order (alone (decimal_number 5 1)) (real_of x_term) ∷ []))
    (3, omega arith, refl) refl refl (1, omega arith, refl))

pub one_bound : (ts : List Term) → Contains ts one_term → IsBoundOf sample_order ts x_up_to_one
unfolding gcd_within gcd denominator over fraction_eq neg_ℚ ◌+ℚ◌ ◌-ℚ◌ ◌*ℚ◌ reduce exact outcome
one_bound ts listed =
    as_it_is ts x_up_to_one
    (in_first_row ts one_term x_up_to_one (in_turn (at_once (fails one_term) ∷ at_most_literal sample_order x_term (numeral_term 1) ∷ [])) listed refl refl (1, omega arith, refl))

half_lead : Lead branch_task at_first no_point lines_to_half at_half
unfolding denominator over fraction_eq fraction_lt neg_ℚ
half_lead = opened branch_task x_from_half half_bound refl (λ a model. half_follows a model.sorts model.asserted_hold.0)

half_basis : IsBasis (x_parts ∷ []) (is_nonbasic at_half)
unfolding denominator fraction_lt neg_ℚ
half_basis = legal_work_may_begin.basis branch_task lines_to_half at_half half_lead

abbrev half_position : Position
half_position = position_of half_search at_half

half_has : HasValue half_position 0 half_value
unfolding denominator over fraction_eq fraction_lt fraction_cmp infinitesimal_cmp neg_ℚ ◌+ℚ◌ ◌*ℚ◌
half_has = record {
  row = one_at 0;
  is_row = nonbasic_form_is_itself.row (x_parts ∷ []) (is_nonbasic at_half) 0 half_basis refl;
  at = record { standard = record { cross = refl }; coefficient = record { cross = refl } };
}

half_worth : HasWorth half_position x_parts half_value
unfolding denominator fraction_lt neg_ℚ
half_worth = record { row = half_has.row; at_basic = half_has.is_row.at_basic; equal = half_has.is_row.equal; at = half_has.at }

-- x has no other value
stands : (v : Infinitesimal) → HasWorth half_position x_parts v → v =δ half_value
unfolding denominator fraction_lt neg_ℚ
stands v has =
    let value : HasValue half_position 0 v = record { row = has.row; is_row = record { at_basic = has.at_basic; equal = has.equal }; at = has.at } in
    positions_have_values.one half_position 0 v half_value half_basis (omega arith) value half_has

half_within : IsWithinBounds half_position
unfolding denominator fraction_lt neg_ℚ
half_within side bound i breaks =
    let first : i ≡ 0 = omega (arith, breaks.listed) in
    true≢false (subst (λ (k : ℕ). is_nonbasic at_half k ≡ false) first breaks.basic)

half_meets : IsBroken half_position x_from_half → ⊥
unfolding denominator over fraction_eq fraction_lt neg_ℚ
half_meets broken =
    let (v, has, below) = broken_below half_position x_parts (over (negsuc 0) 2) broken in
    infinitesimals_are_ordered.never_less half_value (sym (infinitesimals_move.ordered v half_value half_value half_value (stands v has) (infinitesimals_move.itself half_value)) ∙ below)

abbrev with_atoms : List Literal → Search
with_atoms ls = record half_search { atoms = ls }

may_branch : (ls : List Literal) → MayBranch branch_task (with_atoms ls) at_half x_up_to_zero
unfolding gcd_within gcd denominator over fraction_eq fraction_lt fraction_cmp infinitesimal_cmp neg_ℚ ◌+ℚ◌ ◌-ℚ◌ ◌*ℚ◌ ◌/ℚ◌ flipped reciprocal ratio reduce exact outcome
may_branch ls =
    let Told : Literal → Type 0 = λ m. HasUnit m → WasTold (with_atoms ls) m in
    let Met : Literal → Type 0 = λ m. HasUnit m → IsBroken half_position m → ⊥ in
    record {
      parts = x_parts;
      above = pos 0;
      is = refl;
      between = record { value = half_value; has = half_worth; above = refl; below = refl };
      turn = on_unit refl;
      new = All-nil (λ (b : Branch). LiesBetween half_position b → ⊥);
      within = half_within;
      meets = All-cons Met x_from_half [] (λ has broken. half_meets broken) (All-nil Met);
      all_told = All-cons Told x_from_half (x_below_half ∷ []) (λ has. (x_from_half, say_itself x_from_half, true, false, has_first x_from_half []))
          (All-cons Told x_below_half [] (λ has. (x_below_half, say_itself x_below_half, false, false, has_first x_from_half [])) (All-nil Told));
    }

branch_lead : Lead branch_task half_search at_half branching_lines at_half
unfolding gcd_within gcd floor_div denominator over fraction_eq fraction_lt neg_ℚ ◌+ℚ◌ ◌-ℚ◌ ◌*ℚ◌ ◌/ℚ◌ flipped reciprocal ratio floor ceiling reduce exact outcome
branch_lead =
    let x = at_half in
    let two = x_from_half ∷ x_up_to_zero ∷ [] in (
      x,
      x,
      ([], refl),
      (
        record {
          atom = of_split (may_branch (x_from_half ∷ []));
          fresh = not_said (x_from_half ∷ []) x_up_to_zero (refl, tt);
          negation_fresh = not_said (x_from_half ∷ []) (negation_of x_up_to_zero) (refl, tt);
        },
        refl,
      ),
      (
        x,
        x,
        ([], refl),
        (
          record {
            last = refl;
            may = λ l at. subst (λ (m : Literal). MayBranch branch_task (with_atoms two) x m) (subst (λ (o : Option Literal). x_up_to_zero ≡ unwrap_or o x_up_to_zero) at refl) (may_branch two);
          },
          refl,
        ),
        (
          x,
          x,
          ([], refl),
          (
            record {
              atom = of_branch x_up_to_zero (1, omega arith, refl) (has_first (branch_by x_up_to_zero) []) refl;
              fresh = not_said two x_from_one (refl, (refl, tt));
              negation_fresh = not_said two (negation_of x_from_one) (refl, (refl, tt));
            },
            refl,
          ),
          ([], refl),
        ),
      ),
    )

-- At most two different literals are one of two.
at_most_two : (p r : Literal) (others : List Literal) → StandOnce others → ((l : Literal) → Contains others l → (l ≡ p) ⊎ (l ≡ r)) → length others ≤ 2
at_most_two p r [] once each = omega arith
at_most_two p r (x ∷ []) once each = omega arith
at_most_two p r (x ∷ y ∷ []) once each = omega arith
at_most_two p r (x ∷ y ∷ z ∷ ls) once each =
    let a = each x (0, omega arith, refl) in
    let b = each y (1, omega arith, refl) in
    let c = each z (2, omega arith, refl) in
    let xy : x ≡ y → ⊥ = λ e. absurd (omega (arith, once 0 1 y (ap Some e) refl)) in
    let xz : x ≡ z → ⊥ = λ e. absurd (omega (arith, once 0 2 z (ap Some e) refl)) in
    let yz : y ≡ z → ⊥ = λ e. absurd (omega (arith, once 1 2 z (ap Some e) refl)) in
    elim a [
      | inl x_p ↦ elim b [
        | inl y_p ↦ absurd (xy (x_p ∙ sym y_p))
        | inr y_r ↦ elim c [ inl z_p ↦ absurd (xz (x_p ∙ sym z_p)) | inr z_r ↦ absurd (yz (y_r ∙ sym z_r)) ]
      ]
      | inr x_r ↦ elim b [
        | inl y_p ↦ elim c [ inl z_p ↦ absurd (yz (y_p ∙ sym z_p)) | inr z_r ↦ absurd (xz (x_r ∙ sym z_r)) ]
        | inr y_r ↦ absurd (xy (x_r ∙ sym y_r))
      ]
    ]

branch_atoms : (l : Literal) → Contains (x_from_half ∷ x_up_to_zero ∷ x_from_one ∷ []) l → (IsKnown branch_task l → ⊥) → (l ≡ x_up_to_zero) ⊎ (l ≡ x_from_one)
branch_atoms l has other =
    elim (has_cases x_from_half l (x_up_to_zero ∷ x_from_one ∷ []) has) [
      | inl first ↦ absurd (other (subst (IsKnown branch_task) first (inr half_bound)))
      | inr more ↦ elim (has_cases x_up_to_zero l (x_from_one ∷ []) more) [
        | inl second ↦ inl (sym second)
        | inr last ↦ elim (has_cases x_from_one l [] last) [ inl third ↦ inr (sym third) | inr none ↦ absurd (has_none l none) ]
      ]
    ]

pub branch : HasBranch
branch =
    let lines = lines_to_half ++ branching_lines in
    record {
      point = at_half;
      lead = goes_on.lines branch_task at_first no_point at_half at_half lines_to_half branching_lines half_lead branch_lead;
      few = record {
        atoms = λ others once all. at_most_two x_up_to_zero x_from_one others once
            (λ l has. let both = All-contains (λ (m : Literal). Contains (after_lines at_first lines).atoms m × (IsKnown branch_task m → ⊥)) others l all has in branch_atoms l both.0 both.1);
        begun = omega arith;
        spread = no_values branch_task;
      };
    }

-- ---- What may not follow

nothing_last : (before : List Found) (last : Found) → [] ≡ before ++ last ∷ [] → ⊥
nothing_last [] last e = cc
nothing_last (f ∷ fs) last e = cc

abbrev refusing_search : Search
refusing_search = with_atoms (x_from_half ∷ x_up_to_one ∷ [])

refusing_lead : Lead branch_task half_search at_half (NoteLine (atom_note x_up_to_one) ∷ []) at_half
unfolding denominator over fraction_eq fraction_lt neg_ℚ
refusing_lead = (
  at_half,
  at_half,
  ([], refl),
  (
    record {
      atom = of_table (one_bound branch_task.listed (6, omega arith, refl));
      fresh = not_said (x_from_half ∷ []) x_up_to_one (refl, tt);
      negation_fresh = not_said (x_from_half ∷ []) (negation_of x_up_to_one) (refl, tt);
    },
    refl,
  ),
  ([], refl),
)

no_pivot : (i j : ℕ) (y : Point) → MayFollow branch_task refusing_search at_half (UnitLine (PivotEntry i j)) y → ⊥
no_pivot i j y (inl (agree, step)) = half_within step.side step.bound i step.breaks
no_pivot i j y (inr (apart, climbing)) = nothing_last climbing.sought.before climbing.sought.last climbing.sought.found

no_branch : (y : Point) → MayFollow branch_task refusing_search at_half (UnitLine (BranchEntry 1)) y → ⊥
unfolding denominator over fraction_eq fraction_lt fraction_cmp infinitesimal_cmp neg_ℚ
no_branch y (allowed, same) =
    let may : MayBranch branch_task refusing_search at_half x_up_to_one = allowed.may x_up_to_one refl in
    let parts : may.parts ≡ x_parts = sym (ap parts_of may.is) in
    let above : may.above ≡ pos 1 = sym (ap (λ (l : Literal). (bound_of l).limit.numerator) may.is) in
    let lies : LiesBetween half_position (branch_at x_parts (pos 1)) =
    subst (λ (k : ℤ). LiesBetween half_position (branch_at x_parts k)) above (subst (λ (ps : List Part). LiesBetween half_position (branch_at ps may.above)) parts may.between) in
    let one = standing (whole (pos 1)) in
    let less : infinitesimal_cmp one half_value ≡ Less = sym (infinitesimals_move.ordered one one lies.value half_value (infinitesimals_move.itself one) (stands lies.value lies.has)) ∙ lies.above in
    cc

pub refusals : HasRefusals
refusals = record {
  point = at_half;
  lead = goes_on.lines branch_task at_first no_point at_half at_half lines_to_half (NoteLine (atom_note x_up_to_one) ∷ []) half_lead refusing_lead;
  pivot = no_pivot;
  branch = no_branch;
}
