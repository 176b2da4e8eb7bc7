-- What an exchange does to a simplex, by what is shown of it.
use Rattle.std.proofs.Common.{◌≡◌, ℕ, ◌<◌, false, true, List, ◌++◌, length, take, drop, Option, Some, None, sym, ap, ◌∙◌, subst, arith}
use Rattle.std.specs.Prelude.{◌≢◌, option_map, slice_index_or}
use Rattle.std.proofs.lemmas.List.{take-append-le, take_all, length-map}
use Rattle.nz_fractions.specs.Fraction.{Fraction, IsNumber, first_wide}
use Rattle.nz_spec.specs.numbers.Infinitesimal.{Infinitesimal}
use Rattle.nz_spec.specs.laws.InfinitesimalMoves.{InfinitesimalsMove}
use Rattle.nz_spec.specs.simplex.Basis.{NonbasicFormIsItself}
use Rattle.nz_spec.specs.simplex.BasisMoves.{exchange}
use Rattle.nz_spec.specs.simplex.Bland as bland
use Rattle.nz_spec.specs.simplex.Bland.{CanHelp, CheckStepsKeepBasis, IsCheckStep, RowsTell}
use Rattle.nz_spec.specs.simplex.Pivots.{MayPivot, pivot}
use Rattle.nz_spec.specs.simplex.PositionMoves.{MovesKeepReady}
use Rattle.nz_spec.specs.terms.Table.{Node}
use Rattle.nz_spec.specs.terms.Term.{is_zero}
use Rattle.nz_frac.specs.Operations.{operation_of}
use Rattle.nz_frac.specs.declared.frac.Wide.{Wide}
use Rattle.nz_tab.specs.Rows.{is_nonbasic, rows_of}
use Rattle.nz_tab.specs.Tables.{IsPivoted, IsTableau, Table}
use Rattle.nz_trail.specs.Bounds.{TrailState, other_side}
use Rattle.nz_trail.specs.declared.limits.Side.{Side}
use Rattle.nz_place.specs.declared.place.Site.TheVariants as sites
use Rattle.nz_simplex.specs.Checks.{IsFirstBroken, IsPlace}
use Rattle.nz_simplex.specs.Choices.{IsFollowed}
use Rattle.nz_simplex.specs.Standing.{half}
use Rattle.nz_simplex.specs.State.{State, nonbasic_in, IsOver, IsSound, position_over}
use Rattle.nz_simplex.specs.Stored.{first_passing, is_helping, nonbasic_numbers, state_of}
use Rattle.nz_simplex.specs.Tabled.{marks_in, rows_in}
use Rattle.nz_simplex.proofs.EntryChoice.{chosen_found, none_helps}
use Rattle.nz_simplex.proofs.Firsts.{first_least}
use Rattle.nz_simplex.proofs.HelpfulForms.{helping_nonzero}
use Rattle.nz_simplex.proofs.Pointed.{rows_told}
use Rattle.nz_simplex.proofs.CheckSteps.{IsChosen, chosen_may, sound_after, step_after}

-- what is written back of a slice of all items
pub written_back : {X : Type 0} (len : ℕ) (items new : List X) → len ≡ length items → length new ≡ length items → take len (new ++ drop (length new) items) ≡ new
written_back len items new e h =
    take-append-le len new (drop (length new) items) (omega (arith, e, h)) ∙ take_all len new (omega (arith, e, h))

module _ {S : Type 0} (stands_for : S → Infinitesimal) (tab : Table) (trail : TrailState S) (values : List (Option S)) (why : List (ℕ × Fraction)) (seen : State)
    (view : state_of stands_for tab trail values why ≡ seen) (sound : IsSound (state_of stands_for tab trail values why))
    (i : ℕ) (listed : i < length seen.forms) (basic : nonbasic_in seen i ≡ false) (side : Side) where
  abbrev here : State
  here = state_of stands_for tab trail values why

  -- what is found first among the nonbasic forms
  abbrev first_found : Option ℕ
  first_found = first_passing (λ k. is_helping stands_for trail.asserted values (other_side side) k (rows_in tab i k)) (nonbasic_numbers here)

  listed_here : i < length tab.forms
  listed_here = subst (λ (s : State). i < length s.forms) (sym view) listed

  basic_here : nonbasic_in here i ≡ false
  basic_here = ap (λ (s : State). nonbasic_in s i) view ∙ basic

  module _ (j : ℕ) (found : first_found ≡ Some j) where
    pub enters_nonbasic : is_nonbasic tab.grid j ≡ true
    enters_nonbasic =
        (first_least (length tab.forms) (nonbasic_in here) (λ k. is_helping stands_for trail.asserted values (other_side side) k (rows_in tab i k)) j found).is_listed

    pub enters_nonzero : is_zero (rows_of tab.grid i j) ≡ false
    enters_nonzero =
        helping_nonzero stands_for trail values (other_side side) j (rows_in tab i j)
        (first_least (length tab.forms) (nonbasic_in here) (λ k. is_helping stands_for trail.asserted values (other_side side) k (rows_in tab i k)) j found).passes

  module _ (law : RowsTell) (tableau : IsTableau tab) where
    pub helpless : first_found ≡ None → (ns : List Node) → IsOver ns seen → (k : ℕ) → CanHelp (position_over ns seen) i (bland.other_side (half side)) k → ⊥
    helpless found =
        subst (λ (s : State). (ns : List Node) → IsOver ns s → (k : ℕ) → CanHelp (position_over ns s) i (bland.other_side (half side)) k → ⊥) view
        (none_helps stands_for tab trail values why sound law tableau i listed_here basic_here side found)

    module _ (j : ℕ) (found : first_found ≡ Some j) (target : S) (broken : (ns : List Node) → IsOver ns seen → IsFirstBroken (position_over ns seen) (half side) (stands_for target) i) where
      chosen : (ns : List Node) → IsOver ns here → IsChosen (position_over ns here) (half side) (stands_for target) i j
      chosen ns over =
          chosen_found stands_for tab trail values why sound law tableau i listed_here basic_here side (stands_for target) j found ns over
          (subst (λ (s : State). (ns : List Node) → IsOver ns s → IsFirstBroken (position_over ns s) (half side) (stands_for target) i) (sym view) broken ns over)

      may_exchange : (ns : List Node) → IsOver ns here → MayPivot (position_over ns here) (pivot i j)
      may_exchange ns over = chosen_may (position_over ns here) (half side) (stands_for target) i j (chosen ns over)

      pub may_step : (ns : List Node) → IsOver ns seen → MayPivot (position_over ns seen) (pivot i j)
      may_step = subst (λ (s : State). (ns : List Node) → IsOver ns s → MayPivot (position_over ns s) (pivot i j)) view may_exchange

      -- an exchange that leaves the numbers has its place
      pub exchange_place : (w : Wide) → first_wide (exchange (length tab.forms) (is_nonbasic tab.grid) (rows_of tab.grid) i j).operations ≡ Some (operation_of w)
          → IsNumber w.a → IsNumber w.b → (ns : List Node) → IsOver ns seen → IsPlace ns seen (record { wide = w; site = sites.Exchange i j })
      exchange_place w stop left right =
          subst (λ (s : State). (ns : List Node) → IsOver ns s → IsPlace ns s (record { wide = w; site = sites.Exchange i j })) view
          (λ ns over. record {
            site = may_exchange ns over;
            left = left;
            right = right;
            rows = rows_in tab;
            are_rows = rows_told stands_for tab trail values why sound tableau ns over;
            first = stop;
          })

      -- what the exchange leaves
      module _ (new_tab : Table) (now new : List (Option S)) (pivoted : IsPivoted tab new_tab i j) (is_now : now ≡ values)
          (moved : slice_index_or new i None ≡ Some target)
          (stays : (k : ℕ) → k ≢ i → slice_index_or (marks_in new_tab) k false ≡ true → slice_index_or new k None ≡ slice_index_or now k None) where
        abbrev there : State
        there = state_of stands_for new_tab trail new why

        abbrev Stays : List (Option S) → Type 0
        Stays vs = (k : ℕ) → k ≢ i → slice_index_or (marks_in new_tab) k false ≡ true → slice_index_or new k None ≡ slice_index_or vs k None

        pub exchanged_step : (ns : List Node) → IsOver ns seen → IsCheckStep (position_over ns seen) (position_over ns there) i j
        exchanged_step =
            subst (λ (s : State). (ns : List Node) → IsOver ns s → IsCheckStep (position_over ns s) (position_over ns there) i j) view
            (step_after stands_for tab new_tab trail values new why i j target pivoted moved (subst Stays is_now stays) sound side chosen)

        pub exchanged_sound : MovesKeepReady → CheckStepsKeepBasis → InfinitesimalsMove → NonbasicFormIsItself → IsTableau new_tab → length new ≡ length now
            → ((k : ℕ) → k < length new_tab.forms → slice_index_or (marks_in new_tab) k false ≡ false
            → IsFollowed stands_for (slice_index_or now i None) target (rows_in new_tab k i) (slice_index_or now k None) (slice_index_or new k None))
            → IsSound there
        exchanged_sound moves kept infinitesimals itself new_tableau long follows =
            sound_after stands_for tab new_tab trail values new why i j target pivoted moved (subst Stays is_now stays) sound side chosen moves kept infinitesimals itself new_tableau
            (long ∙ ap length is_now ∙ sym (length-map values (option_map stands_for)) ∙ sound.valued ∙ ap length (sym pivoted.forms))
            (subst
            (λ (vs : List (Option S)). (k : ℕ) → k < length new_tab.forms → slice_index_or (marks_in new_tab) k false ≡ false
            → IsFollowed stands_for (slice_index_or vs i None) target (rows_in new_tab k i) (slice_index_or vs k None) (slice_index_or new k None))
            is_now follows)
