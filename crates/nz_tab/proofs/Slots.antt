-- Slots of forms: lists of numbers without repetition, and coefficients that are read and written through slots.
use Rattle.std.proofs.Common.{◌≡◌, ℕ, zero, suc, ◌+◌, ◌<◌, ◌≤◌, Bool, true, false, ◌⊎◌, inl, inr, List, [], ◌∷◌, ◌++◌, length, map, get_or, take, drop, set, pos, refl, sym, ap, ◌∙◌, true≢false, arith}
use Rattle.std.specs.Prelude.{◌≢◌, ◌==◌, slice_index_or, if◌then◌else◌}
use Rattle.std.specs.List.{AllByRecursion}
use Rattle.std.proofs.Math.Seq.{get_or-append_seam}
use Rattle.std.proofs.lemmas.List.{append_assoc, drop_more, get_or-map, get_or-set_other, get_or-set_same, get_or_append_left, length-set, length-take-le, length_push, set_at, take_more}
use Rattle.std.proofs.lemmas.List.Elements.{All-from_recursion}
use Rattle.nz_lists.proofs.Elements.{AllByRecursion-append}
use Rattle.nz_lists.proofs.Numbers.{equal-number, same-number, same_or_below}
use Rattle.nz_fractions.specs.Fraction.{Fraction, whole}
use Rattle.nz_spec.specs.simplex.Basis.{Coefficients}
use Rattle.nz_spec.specs.simplex.BasisMoves.{numbers}
use Rattle.nz_tab.specs.Exchanges.{IsRewritten}
use Rattle.nz_tab.specs.Rows.{AreSlotted, HaveSlots, coefficients_at, place_in, row_in, slot_at}
use Rattle.nz_tab.proofs.Numbers.{all_pass, number_at, place_within}

-- ---- Lists without repetition

abbrev pub AreDistinct : List ℕ → Type 0
AreDistinct ks = (p q : ℕ) → p < length ks → q < length ks → slice_index_or ks p 0 ≡ slice_index_or ks q 0 → p ≡ q

-- one number more, which is another
pub distinct_push : (ks : List ℕ) (k : ℕ) → AreDistinct ks → ((p : ℕ) → p < length ks → slice_index_or ks p 0 ≢ k) → AreDistinct (ks ++ k ∷ [])
distinct_push ks k distinct other p q inside within same =
    by_places
    (same_or_below p (length ks) (omega (arith, inside, length_push ks k)))
    (same_or_below q (length ks) (omega (arith, within, length_push ks k)))
  where
    before : (m : ℕ) → m < length ks → slice_index_or (ks ++ k ∷ []) m 0 ≡ slice_index_or ks m 0
    before m e = get_or_append_left ks (k ∷ []) 0 m e

    at_end : (m : ℕ) → m ≡ length ks → slice_index_or (ks ++ k ∷ []) m 0 ≡ k
    at_end m e = ap (λ (x : ℕ). slice_index_or (ks ++ k ∷ []) x 0) e ∙ get_or-append_seam ks k [] 0

    by_places : (p ≡ length ks) ⊎ (p < length ks) → (q ≡ length ks) ⊎ (q < length ks) → p ≡ q
    by_places (inl e) (inl h) = e ∙ sym h
    by_places (inl e) (inr h) = absurd (other q h (sym (before q h) ∙ sym same ∙ at_end p e))
    by_places (inr e) (inl h) = absurd (other p e (sym (before p e) ∙ same ∙ at_end q h))
    by_places (inr e) (inr h) = distinct p q e h (sym (before p e) ∙ same ∙ before q h)

pub all_below : (f : ℕ → Bool) (n m : ℕ) → n ≤ m → AllByRecursion (λ k. k < m) (numbers n f)
all_below f zero m h = _
all_below f (suc n) m h = by_test (f n) (all_below f n m (omega (arith, h)))
  where
    by_test : (b : Bool) → AllByRecursion (λ k. k < m) (numbers n f) → AllByRecursion (λ k. k < m) (if b then numbers n f ++ n ∷ [] else numbers n f)
    by_test true rest = AllByRecursion-append (λ k. k < m) (numbers n f) (n ∷ []) rest (omega (arith, h), _)
    by_test false rest = rest

pub below_at : (f : ℕ → Bool) (n p : ℕ) → p < length (numbers n f) → slice_index_or (numbers n f) p 0 < n
below_at f n p inside = All-from_recursion (λ k. k < n) (numbers n f) (all_below f n n (omega arith)) p 0 inside

pub passes_at : (f : ℕ → Bool) (n p : ℕ) → p < length (numbers n f) → f (slice_index_or (numbers n f) p 0) ≡ true
passes_at f n p inside = All-from_recursion (λ k. f k ≡ true) (numbers n f) (all_pass f n) p 0 inside

pub numbers_distinct : (f : ℕ → Bool) (n : ℕ) → AreDistinct (numbers n f)
numbers_distinct f zero = λ p q inside within same. absurd (omega (arith, inside))
numbers_distinct f (suc n) = by_test (f n) (numbers_distinct f n)
  where
    by_test : (b : Bool) → AreDistinct (numbers n f) → AreDistinct (if b then numbers n f ++ n ∷ [] else numbers n f)
    by_test true rest = distinct_push (numbers n f) n rest (λ p e same. omega (arith, below_at f n p e, same))
    by_test false rest = rest

-- ---- Slots of lists

module _ (places : List ℕ) (n : ℕ) (test : ℕ → Bool) (bound : ℕ) (slots : HaveSlots places n test bound) (long : n ≤ length places) where
  -- numbers that pass have slots of their own
  pub slotted_in : (ks : List ℕ) → AreDistinct ks → ((p : ℕ) → p < length ks → (test (slice_index_or ks p 0) ≡ true) × (slice_index_or ks p 0 < n)) → AreSlotted places ks bound
  slotted_in ks distinct pass = record {
    listed = λ p inside. omega (arith, (pass p inside).1, long);
    within = λ p inside. slots.within (slice_index_or ks p 0) (pass p inside).1 (pass p inside).0;
    apart = λ p q inside within same.
        distinct p q inside within
        (slots.apart (slice_index_or ks p 0) (slice_index_or ks q 0) (pass p inside).1 (pass q within).1 (pass p inside).0 (pass q within).0 same);
  }

  pub slotted : AreSlotted places (numbers n test) bound
  slotted = slotted_in (numbers n test) (numbers_distinct test n) (λ p inside. (passes_at test n p inside, below_at test n p inside))

-- ---- Coefficients that are read

module _ (places : List ℕ) (row : List Fraction) where
  abbrev pub read : Coefficients
  read k = slice_index_or row (place_in places k) (whole (pos 0))

  -- in the column of a form that has one
  pub at_column : (f : ℕ → Bool) (n : ℕ) (c : Coefficients) → coefficients_at places (numbers n f) row ≡ map c (numbers n f) → (k : ℕ) → k < n → f k ≡ true → read k ≡ c k
  at_column f n c e k inside passes =
      let p = length (numbers k f) in
      let here : slice_index_or (numbers n f) p 0 ≡ k = number_at f k n 0 passes inside in
      let within : p < length (numbers n f) = place_within f k n passes inside in
      ap read (sym here)
      ∙ sym (get_or-map read (numbers n f) p 0 (whole (pos 0)) within)
      ∙ ap (λ (l : List Fraction). slice_index_or l p (whole (pos 0))) e
      ∙ get_or-map c (numbers n f) p 0 (whole (pos 0)) within
      ∙ ap c here

  pub read_slot : (ks : List ℕ) (i : ℕ) (d : Fraction) → i < length ks → get_or (coefficients_at places ks row) i d ≡ slice_index_or row (slot_at places ks i) (whole (pos 0))
  read_slot ks i d inside = get_or-map read ks i 0 d inside

-- ---- Coefficients that are written

maps_by_index : (g h : ℕ → Fraction) (ks : List ℕ) → ((p : ℕ) → p < length ks → g (slice_index_or ks p 0) ≡ h (slice_index_or ks p 0)) → map g ks ≡ map h ks
maps_by_index g h [] same = refl
maps_by_index g h (k ∷ ks) same =
    ap (λ (x : Fraction). x ∷ map g ks) (same 0 (omega arith))
    ∙ ap (λ (l : List Fraction). h k ∷ l) (maps_by_index g h ks (λ p inside. same (suc p) (omega (arith, inside))))

-- where two differ at one place of a list alone
set_mapped : (g h : ℕ → Fraction) (ks : List ℕ) (i : ℕ) (y : Fraction) → i < length ks
    → ((p : ℕ) → p < length ks → p ≢ i → g (slice_index_or ks p 0) ≡ h (slice_index_or ks p 0)) → g (slice_index_or ks i 0) ≡ y → map g ks ≡ set (map h ks) i y
set_mapped g h [] i y inside same here = absurd (omega (arith, inside))
set_mapped g h (k ∷ ks) zero y inside same here =
    ap (λ (x : Fraction). x ∷ map g ks) here
    ∙ ap (λ (l : List Fraction). y ∷ l) (maps_by_index g h ks (λ p e. same (suc p) (omega (arith, e)) (λ q. omega (arith, q))))
set_mapped g h (k ∷ ks) (suc i) y inside same here =
    ap (λ (x : Fraction). x ∷ map g ks) (same 0 (omega arith) (λ q. omega (arith, q)))
    ∙ ap (λ (l : List Fraction). h k ∷ l) (set_mapped g h ks i y (omega (arith, inside)) (λ p e d. same (suc p) (omega (arith, e)) (λ q. d (omega (arith, q)))) here)

-- a coefficient that is set in its slot is set among those that are read
pub set_slot : (places ks : List ℕ) (row : List Fraction) (i : ℕ) (y : Fraction) → AreSlotted places ks (length row) → i < length ks
    → coefficients_at places ks (set row (slot_at places ks i) y) ≡ set (coefficients_at places ks row) i y
set_slot places ks row i y slots inside =
    set_mapped (read places (set row (slot_at places ks i) y)) (read places row) ks i y inside
    (λ p e d. get_or-set_other row (slot_at places ks i) (slot_at places ks p) y (whole (pos 0)) (λ q. d (slots.apart p i e inside q)))
    (get_or-set_same row (slot_at places ks i) y (whole (pos 0)) (slots.within i inside))

-- one coefficient more is written
pub written_more : (places ks : List ℕ) (row old qs : List Fraction) (i : ℕ) (y : Fraction) → AreSlotted places ks (length row) → i < length ks → length qs ≡ length ks → length old ≡ length ks → y ≡ get_or qs i y
    → coefficients_at places ks row ≡ take i qs ++ drop i old → coefficients_at places ks (set row (slot_at places ks i) y) ≡ take (i + 1) qs ++ drop (i + 1) old
written_more places ks row old qs i y slots inside long same is e =
    set_slot places ks row i y slots inside
    ∙ ap (λ (l : List Fraction). set l i y) (e ∙ ap (λ (l : List Fraction). take i qs ++ l) (drop_more old i y (omega (arith, inside, same))))
    ∙ set_at (take i qs) (get_or old i y) (drop (i + 1) old) y i (length-take-le i qs (omega (arith, inside, long)))
    ∙ sym (append_assoc (take i qs) (y ∷ []) (drop (i + 1) old))
    ∙ ap (λ (l : List Fraction). l ++ drop (i + 1) old)
    (ap (λ (x : Fraction). take i qs ++ x ∷ []) is ∙ sym (take_more qs i y (omega (arith, inside, long))))

-- ---- Rows that are written

-- one row more
pub rewritten_more : (places ks rs : List ℕ) (block : List Fraction) (i : ℕ) (old now : List (List Fraction)) (row : List Fraction) → IsRewritten places ks rs block i old now → AreSlotted places rs (length old) → i < length rs
    → coefficients_at places ks row ≡ row_in block (length ks) i → length row ≡ length ks → IsRewritten places ks rs block (i + 1) old (set now (slot_at places rs i) row)
rewritten_more places ks rs block i old now row h slots inside is long = record {
  count = length-set now s row ∙ h.count;
  written = λ p e. written p (same_or_below p i (omega (arith, e)));
  others = λ t other.
      get_or-set_other now s t row [] (λ e. other i (omega arith) (sym e))
      ∙ h.others t (λ p e. other p (omega (arith, e)));
  full = λ m d e. full m d (omega (arith, e, length-set now s row)) (m == s) refl;
}
  where
    s : ℕ
    s = slot_at places rs i

    there : s < length now
    there = omega (arith, slots.within i inside, h.count)

    written : (p : ℕ) → (p ≡ i) ⊎ (p < i) → coefficients_at places ks (slice_index_or (set now s row) (slot_at places rs p) []) ≡ row_in block (length ks) p
    written p (inl e) =
        ap (λ (m : ℕ). coefficients_at places ks (slice_index_or (set now s row) (slot_at places rs m) [])) e
        ∙ ap (coefficients_at places ks) (get_or-set_same now s row [] there)
        ∙ is
        ∙ ap (row_in block (length ks)) (sym e)
    written p (inr e) =
        ap (coefficients_at places ks) (get_or-set_other now s (slot_at places rs p) row [] (λ q. omega (arith, e, slots.apart p i (omega (arith, e, inside)) inside q)))
        ∙ h.written p e

    full : (m : ℕ) (d : List Fraction) → m < length now → (b : Bool) → (m == s) ≡ b → length (get_or (set now s row) m d) ≡ length ks
    full m d e true same =
        ap (λ (x : ℕ). length (get_or (set now s row) x d)) (same-number m s same)
        ∙ ap length (get_or-set_same now s row d there)
        ∙ long
    full m d e false other =
        ap length (get_or-set_other now s m row d (λ q. true≢false (sym (equal-number m s q) ∙ other)))
        ∙ h.full m d e
