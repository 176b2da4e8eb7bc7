-- Which nonbasic forms can help: what is tested is what the definitions say.
use Rattle.std.proofs.Common.{◌≡◌, ℕ, ◌<◌, ◌⊎◌, inl, inr, Bool, true, false, List, length, map, Option, Some, None, pos, refl, sym, ap, ap₂, ◌∙◌, subst, true≢false}
use Rattle.std.specs.Prelude.{option_map, unwrap_or, if◌then◌else◌}
use Rattle.std.specs.Ordering.{is_lt}
use Rattle.std.proofs.lemmas.List.{length-map}
use Rattle.nz_fractions.specs.Fraction.{Fraction, whole, ◌<ℚ◌}
use Rattle.nz_fractions.proofs.Signs.{above_back, above_nonzero, above_told, below_back, below_nonzero, below_told}
use Rattle.nz_spec.specs.numbers.Infinitesimal.{Infinitesimal}
use Rattle.nz_spec.specs.terms.Term.{is_zero}
use Rattle.nz_spec.specs.simplex.Bland as bland
use Rattle.nz_spec.specs.simplex.Bland.{lower_side, upper_side, IsOutside, IsInside, bound_on, HasRoom, CanHelp, Position, RowsTell}
use Rattle.nz_spec.specs.simplex.PositionMoves.{is_outside}
use Rattle.nz_spec.specs.terms.Table.{Node}
use Rattle.nz_lin.specs.Forms.{parts_over}
use Rattle.nz_tab.specs.Tables.{Table, IsTableau}
use Rattle.nz_trail.specs.Bounds.{TrailState, other_side}
use Rattle.nz_trail.specs.declared.limits.Side.{Side}
use Rattle.nz_trail.specs.declared.limits.Side.TheVariants.{Lower, Upper}
use Rattle.nz_simplex.specs.Choices.{is_below_zero, numbers_in}
use Rattle.nz_simplex.specs.Standing.{Held, half, standing, bound_in, told}
use Rattle.nz_simplex.specs.State.{State, nonbasic_in, point_in, IsOver, IsSound, position_over}
use Rattle.nz_simplex.specs.Stored.{has_room_in, is_helping, state_of}
use Rattle.nz_simplex.specs.Tabled.{rows_in}
use Rattle.nz_simplex.proofs.Pointed.{numbers_at, point_marks, rows_told}
use Rattle.nz_simplex.proofs.LooserBounds.{outside_told}

-- ---- Sides

pub half_other : (side : Side) → bland.other_side (half side) ≡ half (other_side side)
half_other Lower = refl
half_other Upper = refl

pub bound_told : (ns : List Node) (s : State) (side : Side) (k : ℕ) → bound_on (half side) (position_over ns s) k ≡ bound_in s.asserted side k
bound_told ns s Lower k = refl
bound_told ns s Upper k = refl

pub outside_test : (side : bland.Side) (bound x : Infinitesimal) → IsOutside side bound x → is_outside side bound x ≡ true
outside_test lower_side bound x h = ap is_lt h
outside_test upper_side bound x h = ap is_lt h

inside_told : (side : Side) (bound x : Infinitesimal) → is_outside (half (other_side side)) bound x ≡ true → IsInside (half side) bound x
inside_told Lower bound x e = outside_told upper_side bound x e
inside_told Upper bound x e = outside_told lower_side bound x e

inside_test : (side : Side) (bound x : Infinitesimal) → IsInside (half side) bound x → is_outside (half (other_side side)) bound x ≡ true
inside_test Lower bound x h = outside_test upper_side bound x h
inside_test Upper bound x h = outside_test lower_side bound x h

-- ---- Room

room_told : (o : Option Held) (side : Side) (x : Infinitesimal) → has_room_in o side x ≡ true → (bound : Infinitesimal) → option_map (λ (b : Held). b.value) o ≡ Some bound → IsInside (half side) bound x
room_told None side x e bound is = absurd (cc)
room_told (Some b) side x e bound is =
    subst (λ (y : Infinitesimal). IsInside (half side) y x) (ap (λ (o : Option Infinitesimal). unwrap_or o bound) is) (inside_told side b.value x e)

room_test : (o : Option Held) (side : Side) (x : Infinitesimal) → ((bound : Infinitesimal) → option_map (λ (b : Held). b.value) o ≡ Some bound → IsInside (half side) bound x) → has_room_in o side x ≡ true
room_test None side x h = refl
room_test (Some b) side x h = inside_test side b.value x (h b.value refl)

-- x is the value of a form
module _ (ns : List Node) (s : State) (side : Side) (j : ℕ) (x : Infinitesimal) (same : x ≡ bland.value_in (point_in s) j) where
  position_room : has_room_in (standing s.asserted j side) side x ≡ true → HasRoom (position_over ns s) (half side) j
  position_room h bound e =
      subst (λ (y : Infinitesimal). IsInside (half side) bound y) same
      (room_told (standing s.asserted j side) side x h bound (sym (bound_told ns s side j) ∙ e))

  tested_room : HasRoom (position_over ns s) (half side) j → has_room_in (standing s.asserted j side) side x ≡ true
  tested_room room =
      room_test (standing s.asserted j side) side x
      (λ bound e. subst (λ (y : Infinitesimal). IsInside (half side) bound y) (sym same) (room bound (bound_told ns s side j ∙ e)))

-- ---- Help

pub helping_nonzero : {S : Type 0} (stands_for : S → Infinitesimal) (trail : TrailState S) (values : List (Option S)) (side : Side) (j : ℕ) (c : Fraction)
    → is_helping stands_for trail.asserted values side j c ≡ true → is_zero c ≡ false
helping_nonzero stands_for trail values side j c = by_test (is_zero c)
  where
    by_test : (z : Bool)
        → elim (if z then None else if is_below_zero c then Some (other_side side) else Some side) [ None ↦ false | Some way ↦ has_room_in (standing (map (told stands_for) trail.asserted) j way) way (numbers_in stands_for values j) ] ≡ true
        → z ≡ false
    by_test true h = absurd (true≢false (sym h))
    by_test false h = refl

module _ {S : Type 0} (stands_for : S → Infinitesimal) (tab : Table) (trail : TrailState S) (values : List (Option S)) (why : List (ℕ × Fraction)) (sound : IsSound (state_of stands_for tab trail values why))
    (law : RowsTell) (tableau : IsTableau tab) (ns : List Node) (over : IsOver ns (state_of stands_for tab trail values why))
    (i : ℕ) (listed : i < length tab.forms) (basic : nonbasic_in (state_of stands_for tab trail values why) i ≡ false) (side : Side) (j : ℕ) (nonbasic : nonbasic_in (state_of stands_for tab trail values why) j ≡ true) where
  abbrev here : State
  here = state_of stands_for tab trail values why

  abbrev place : Position
  place = position_over ns here

  abbrev c : Fraction
  c = rows_in tab i j

  abbrev x : Infinitesimal
  x = numbers_in stands_for values j

  same : x ≡ bland.value_in (point_in here) j
  same = numbers_at stands_for tab trail values why sound j nonbasic

  abbrev Way : Type 0
  Way = ((whole (pos 0) <ℚ c) × HasRoom place (half side) j) ⊎ ((c <ℚ whole (pos 0)) × HasRoom place (bland.other_side (half side)) j)

  abbrev way_is : (Way → CanHelp place i (half side) j) × (CanHelp place i (half side) j → Way)
  way_is =
      law.helps place (rows_in tab) (half side) i j (sound.ready ns over).basis (rows_told stands_for tab trail values why sound tableau ns over)
      (subst (λ (n : ℕ). i < n) (sym (length-map tab.forms (parts_over ns))) listed)
      (point_marks here sound i ∙ basic)
      (point_marks here sound j ∙ nonbasic)

  abbrev tested : Bool → Bool → Bool
  tested z b = elim (if z then None else if b then Some (other_side side) else Some side) [ None ↦ false | Some way ↦ has_room_in (standing here.asserted j way) way x ]

  way_told : (z b : Bool) → is_zero c ≡ z → is_below_zero c ≡ b → tested z b ≡ true → Way
  way_told true b z e h = absurd (true≢false (sym h))
  way_told false true z e h =
      inr (below_told c e, subst (λ (s : bland.Side). HasRoom place s j) (sym (half_other side)) (position_room ns here (other_side side) j x same h))
  way_told false false z e h = inl (above_told c z e, position_room ns here side j x same h)

  -- a form that passes the test can help
  pub help_told : is_helping stands_for trail.asserted values side j c ≡ true → CanHelp place i (half side) j
  help_told h = way_is.0 (way_told (is_zero c) (is_below_zero c) refl refl h)

  way_tested : Way → tested (is_zero c) (is_below_zero c) ≡ true
  way_tested (inl w) = ap₂ tested (above_nonzero c w.0) (above_back c w.0) ∙ tested_room ns here side j x same w.1
  way_tested (inr w) =
      ap₂ tested (below_nonzero c w.0) (below_back c w.0)
      ∙ tested_room ns here (other_side side) j x same (subst (λ (s : bland.Side). HasRoom place s j) (half_other side) w.1)

  -- and one that can help passes it
  pub help_tested : CanHelp place i (half side) j → is_helping stands_for trail.asserted values side j c ≡ true
  help_tested help = way_tested (way_is.1 help)
