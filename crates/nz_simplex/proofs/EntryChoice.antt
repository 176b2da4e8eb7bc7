-- The first nonbasic form that passes the test is the one of a check step; where none passes, none can help.
use Rattle.std.proofs.Common.{◌≡◌, ℕ, ◌<◌, Bool, true, false, List, length, Option, Some, None, sym, ◌∙◌, subst, true≢false}
use Rattle.std.proofs.lemmas.List.{length-map}
use Rattle.nz_fractions.specs.Fraction.{Fraction}
use Rattle.nz_spec.specs.numbers.Infinitesimal.{Infinitesimal}
use Rattle.nz_spec.specs.simplex.Bland as bland
use Rattle.nz_spec.specs.simplex.Bland.{CanHelp, RowsTell}
use Rattle.nz_spec.specs.terms.Table.{Node}
use Rattle.nz_lin.specs.Forms.{parts_over}
use Rattle.nz_tab.specs.Tables.{IsTableau, Table}
use Rattle.nz_trail.specs.Bounds.{TrailState, other_side}
use Rattle.nz_trail.specs.declared.limits.Side.{Side}
use Rattle.nz_simplex.specs.Checks.{IsFirstBroken}
use Rattle.nz_simplex.specs.Standing.{half}
use Rattle.nz_simplex.specs.State.{State, nonbasic_in, IsOver, IsSound, position_over}
use Rattle.nz_simplex.specs.Stored.{first_passing, is_helping, nonbasic_numbers, state_of}
use Rattle.nz_simplex.specs.Tabled.{rows_in}
use Rattle.nz_simplex.proofs.Firsts.{first_least, first_none}
use Rattle.nz_simplex.proofs.HelpfulForms.{half_other, help_told, help_tested}
use Rattle.nz_simplex.proofs.Pointed.{point_marks}
use Rattle.nz_simplex.proofs.CheckSteps.{IsChosen}

module _ {S : Type 0} (stands_for : S → Infinitesimal) (tab : Table) (trail : TrailState S) (values : List (Option S)) (why : List (ℕ × Fraction)) (sound : IsSound (state_of stands_for tab trail values why))
    (law : RowsTell) (tableau : IsTableau tab) (i : ℕ) (listed : i < length tab.forms) (basic : nonbasic_in (state_of stands_for tab trail values why) i ≡ false) (side : Side) where
  abbrev here : State
  here = state_of stands_for tab trail values why

  -- the test of a nonbasic form
  abbrev passes : ℕ → Bool
  passes k = is_helping stands_for trail.asserted values (other_side side) k (rows_in tab i k)

  -- a form that can help is nonbasic, and passes
  nonbasic_helper : (ns : List Node) (k : ℕ) → CanHelp (position_over ns here) i (bland.other_side (half side)) k → nonbasic_in here k ≡ true
  nonbasic_helper ns k help = sym (point_marks here sound k) ∙ help.nonbasic

  passing_helper : (ns : List Node) (over : IsOver ns here) (k : ℕ) → CanHelp (position_over ns here) i (bland.other_side (half side)) k → passes k ≡ true
  passing_helper ns over k help =
      help_tested stands_for tab trail values why sound law tableau ns over i listed basic (other_side side) k (nonbasic_helper ns k help)
      (subst (λ (s : bland.Side). CanHelp (position_over ns here) i s k) (half_other side) help)

  pub chosen_found : (bound : Infinitesimal) (j : ℕ) → first_passing passes (nonbasic_numbers here) ≡ Some j → (ns : List Node) → IsOver ns here
      → IsFirstBroken (position_over ns here) (half side) bound i → IsChosen (position_over ns here) (half side) bound i j
  chosen_found bound j found ns over first =
      let least = first_least (length tab.forms) (nonbasic_in here) passes j found in
      record {
        first = first;
        helps =
            subst (λ (s : bland.Side). CanHelp (position_over ns here) i s j) (sym (half_other side))
            (help_told stands_for tab trail values why sound law tableau ns over i listed basic (other_side side) j least.is_listed least.passes);
        least = λ k below help. true≢false (sym (passing_helper ns over k help) ∙ least.least k below (nonbasic_helper ns k help));
      }

  pub none_helps : first_passing passes (nonbasic_numbers here) ≡ None → (ns : List Node) → IsOver ns here → (j : ℕ) → CanHelp (position_over ns here) i (bland.other_side (half side)) j → ⊥
  none_helps none ns over j help =
      let inside : j < length tab.forms = subst (λ (n : ℕ). j < n) (length-map tab.forms (parts_over ns)) ((sound.ready ns over).basis.listed j help.nonbasic) in
      true≢false
      (sym (passing_helper ns over j help)
      ∙ first_none (length tab.forms) (nonbasic_in here) passes none j inside (nonbasic_helper ns j help))
