-- Where no form can help, the bounds that hold the nonbasic forms back refute the broken bound, and are told with their multipliers.
use Rattle.std.proofs.Common.{◌≡◌, ℕ, ◌<◌, Bool, true, false, List, [], ◌∷◌, length, flat_map, Option, Some, None, pos, refl, sym, ap, ◌∙◌, true≢false}
use Rattle.std.specs.Prelude.{IsSome, option_map, unwrap_or, if◌then◌else◌}
use Rattle.std.proofs.Math.Path.{fun_ext}
use Rattle.nz_fractions.specs.Fraction.{Fraction, whole}
use Rattle.nz_fractions.proofs.Signs.{above_told, below_told}
use Rattle.nz_spec.specs.numbers.Infinitesimal.{Infinitesimal}
use Rattle.nz_spec.specs.terms.Term.{is_zero}
use Rattle.nz_spec.specs.simplex.Basis.{Coefficients}
use Rattle.nz_spec.specs.simplex.BasisMoves.{numbers}
use Rattle.nz_spec.specs.simplex.Bland as bland
use Rattle.nz_spec.specs.simplex.Bland.{Breaks, CanHelp, HasValue, IsRefutation, NoHelpRefutes, Position, PositionsHaveValues, bound_on, other_side, sum_at, value_in}
use Rattle.nz_spec.specs.laws.InfinitesimalMoves.{InfinitesimalsMove}
use Rattle.nz_spec.specs.terms.Table.{Node}
use Rattle.nz_tab.specs.Tables.{IsTableau, Table}
use Rattle.nz_trail.specs.Bounds as trails
use Rattle.nz_trail.specs.Bounds.{TrailState}
use Rattle.nz_trail.specs.declared.limits.Limit.{Limit}
use Rattle.nz_trail.specs.declared.limits.Side.{Side}
use Rattle.nz_simplex.specs.Checks.{IsRefuted, holding_side, multiplier, multipliers}
use Rattle.nz_simplex.specs.Choices.{is_below_zero, size_of}
use Rattle.nz_simplex.specs.Standing.{Held, half, reason_in, standing, told_on}
use Rattle.nz_simplex.specs.State.{State, nonbasic_in, IsOver, IsSound, position_over}
use Rattle.nz_simplex.specs.Stored as stored
use Rattle.nz_simplex.specs.Stored.{nonbasic_numbers, one_or_none, state_of}
use Rattle.nz_simplex.specs.Tabled.{rows_in}
use Rattle.nz_simplex.proofs.HelpfulForms.{bound_told, half_other}
use Rattle.nz_simplex.proofs.Pointed.{row_told}

-- ---- The multipliers

told_one : (o : Option Held) (c : Fraction) → IsSome o → one_or_none {A = ℕ × Fraction} (option_map (λ (b : Held). (b.reason, size_of c)) o) ≡ (unwrap_or (option_map (λ (b : Held). b.reason) o) 0, size_of c) ∷ []
told_one None c some = absurd (true≢false (sym some))
told_one (Some b) c some = refl

stands_there : (o : Option Held) (x : Infinitesimal) → option_map (λ (b : Held). b.value) o ≡ Some x → IsSome o
stands_there None x e = absurd (cc)
stands_there (Some b) x e = refl

module _ (law : NoHelpRefutes) (ns : List Node) (s : State) (side : Side) (bound : Infinitesimal) (i : ℕ) (breaks : Breaks (position_over ns s) (half side) bound i)
    (none : (j : ℕ) → CanHelp (position_over ns s) i (other_side (half side)) j → ⊥) where
  abbrev row : Coefficients
  row = breaks.has.row

  abbrev place : Position
  place = position_over ns s

  abbrev bounds : ℕ → Infinitesimal
  bounds = (law.found place (half side) bound i breaks none).0

  refuted : IsRefutation place i (half side) bound row bounds
  refuted = (law.found place (half side) bound i breaks none).1

  -- what holds a form back stands
  held_stands : (k : ℕ) (b : Bool) → is_zero (row k) ≡ false → is_below_zero (row k) ≡ b → IsSome (standing s.asserted k (if b then side else trails.other_side side))
  held_stands k true nonzero below =
      stands_there (standing s.asserted k side) (bounds k) (sym (bound_told ns s side k) ∙ refuted.below_zero k (below_told (row k) below))
  held_stands k false nonzero above =
      stands_there (standing s.asserted k (trails.other_side side)) (bounds k)
      (sym (bound_told ns s (trails.other_side side) k)
      ∙ ap (λ (h : bland.Side). bound_on h place k) (sym (half_other side))
      ∙ refuted.above_zero k (above_told (row k) nonzero above))

  told_multiplier : (k : ℕ) → stored.held_back s.asserted side row k ≡ multiplier s.asserted side row k
  told_multiplier k = by_test (is_zero (row k)) refl
    where
      by_test : (z : Bool) → is_zero (row k) ≡ z
          → one_or_none {A = ℕ × Fraction} (if z then None else option_map (λ (b : Held). (b.reason, size_of (row k))) (standing s.asserted k (holding_side side (row k))))
          ≡ (if z then [] else (reason_in s.asserted (holding_side side (row k)) k, size_of (row k)) ∷ [])
      by_test true e = refl
      by_test false e = told_one (standing s.asserted k (holding_side side (row k))) (row k) (held_stands k (is_below_zero (row k)) e refl)

  -- what was told of the bounds that hold the forms back are the multipliers of the row
  pub told_multipliers : (b : Held) → standing s.asserted i side ≡ Some b
      → (b.reason, whole (pos 1)) ∷ flat_map (stored.held_back s.asserted side row) (numbers (length s.forms) (nonbasic_in s)) ≡ multipliers s i side row
  told_multipliers b e =
      ap (λ (o : Option Held). (unwrap_or (option_map (λ (b : Held). b.reason) o) 0, whole (pos 1)) ∷ flat_map (stored.held_back s.asserted side row) (numbers (length s.forms) (nonbasic_in s))) (sym e)
      ∙ ap (λ (f : ℕ → List (ℕ × Fraction)). (reason_in s.asserted side i, whole (pos 1)) ∷ flat_map f (numbers (length s.forms) (nonbasic_in s))) (fun_ext told_multiplier)

  pub is_refuted : (why : List (ℕ × Fraction)) → why ≡ multipliers s i side row → IsRefuted ns (record s { why = why })
  is_refuted why e = record {
    broken = i;
    basic = breaks.basic;
    side = side;
    bound = bound;
    row = row;
    bounds = bounds;
    refutes = refuted;
    why = e;
  }

-- ---- A simplex

pub sound_why : (s : State) (why : List (ℕ × Fraction)) → IsSound s → IsSound (record s { why = why })
sound_why s why sound = record {
  marked = sound.marked;
  valued = sound.valued;
  known = sound.known;
  ready = λ ns over. sound.ready ns (record { table = over.table; units = over.units });
  right = λ ns k x over e. sound.right ns k x (record { table = over.table; units = over.units }) e;
}

module _ {S : Type 0} (stands_for : S → Infinitesimal) (tab : Table) (trail : TrailState S) (values : List (Option S)) (why : List (ℕ × Fraction)) (sound : IsSound (state_of stands_for tab trail values why))
    (values_law : PositionsHaveValues) (refutes : NoHelpRefutes) (infinitesimals : InfinitesimalsMove) (tableau : IsTableau tab) (i : ℕ) (listed : i < length tab.forms) (basic : nonbasic_in (state_of stands_for tab trail values why) i ≡ false) (ns : List Node) (over : IsOver ns (state_of stands_for tab trail values why)) where
  abbrev here : State
  here = state_of stands_for tab trail values why

  abbrev spot : Position
  spot = position_over ns here

  abbrev own_sum : Infinitesimal
  own_sum = sum_at (length spot.forms) (rows_in tab i) (value_in spot.point)

  own_value : HasValue spot i own_sum
  own_value = record { row = rows_in tab i; is_row = row_told stands_for tab trail values why sound tableau ns over i listed basic; at = infinitesimals.itself own_sum }

  -- a form breaks its bound by the row that is stored
  abbrev breaks_by_row : (side : bland.Side) (bound : Infinitesimal) → Breaks spot side bound i → Breaks spot side bound i
  breaks_by_row side bound breaks = record {
    listed = breaks.listed;
    basic = breaks.basic;
    bounded = breaks.bounded;
    value = breaks.value;
    has = record {
      row = rows_in tab i;
      is_row = row_told stands_for tab trail values why sound tableau ns over i listed basic;
      at = values_law.one spot i breaks.value own_sum (sound.ready ns over).basis breaks.listed breaks.has own_value;
    };
    outside = breaks.outside;
  }

  pub explained : (side : Side) (limit : Limit S) (told_why : List (ℕ × Fraction)) → standing here.asserted i side ≡ Some (told_on stands_for i side limit)
      → Breaks spot (half side) (stands_for limit.value) i → ((j : ℕ) → CanHelp spot i (other_side (half side)) j → ⊥)
      → told_why ≡ (limit.reason, whole (pos 1)) ∷ flat_map (stored.held_back here.asserted side (rows_in tab i)) (nonbasic_numbers here)
      → IsRefuted ns (state_of stands_for tab trail values told_why)
  explained side limit told_why stands breaks none e =
      is_refuted refutes ns here side (stands_for limit.value) i (breaks_by_row (half side) (stands_for limit.value) breaks) none told_why
      (e ∙ told_multipliers refutes ns here side (stands_for limit.value) i (breaks_by_row (half side) (stands_for limit.value) breaks) none (told_on stands_for i side limit) stands)
