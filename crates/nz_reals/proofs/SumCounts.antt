-- How many sums there are: forms that stay, and sums that join.
use Rattle.std.proofs.Common.{◌≡◌, ℕ, zero, suc, ◌≤◌, inl, inr, Bool, true, false, List, [], ◌∷◌, length, Some, refl, sym, subst, arith}
use Rattle.std.specs.Prelude.{slice_get, if◌then◌else◌}
use Rattle.nz_spec.specs.numbers.Infinitesimal.{Infinitesimal}
use Rattle.nz_lin.specs.declared.form.Part.{Part}
use Rattle.nz_tab.specs.Units.{is_unit_form}
use Rattle.nz_reals.specs.Arranging.{KeepsForms, MayExchangeOne, MayHaveExchanged, MayHaveJoined, MayHaveStood, sum_count}
use Rattle.nz_reals.specs.State.{Theory}

-- ---- Lists

abbrev Keeps : List (List Part) → List (List Part) → Type 0
Keeps xs ys = (k : ℕ) (f : List Part) → slice_get xs k ≡ Some f → slice_get ys k ≡ Some f

first_kept : (x y : List Part) (xs ys : List (List Part)) → Keeps (x ∷ xs) (y ∷ ys) → y ≡ x
first_kept x y xs ys kept = let both = kept 0 x refl in cc

rest_kept : (x y : List Part) (xs ys : List (List Part)) → Keeps (x ∷ xs) (y ∷ ys) → Keeps xs ys
rest_kept x y xs ys kept k f at = kept (suc k) f at

none_kept : (x : List Part) (xs : List (List Part)) → Keeps (x ∷ xs) [] → ⊥
none_kept x xs kept = let both = kept 0 x refl in cc

pub counted_kept : (xs ys : List (List Part)) → Keeps xs ys → sum_count xs ≤ sum_count ys
counted_kept [] ys kept = omega arith
counted_kept (x ∷ xs) [] kept = absurd (none_kept x xs kept)
counted_kept (x ∷ xs) (y ∷ ys) kept =
    subst (λ (z : List Part). sum_count (x ∷ xs) ≤ (if is_unit_form z then sum_count ys else suc (sum_count ys))) (sym (first_kept x y xs ys kept))
    (by_test (is_unit_form x) (counted_kept xs ys (rest_kept x y xs ys kept)))
  where
    by_test : (b : Bool) → sum_count xs ≤ sum_count ys → (if b then sum_count xs else suc (sum_count xs)) ≤ (if b then sum_count ys else suc (sum_count ys))
    by_test true h = h
    by_test false h = omega (arith, h)

counted_one : (ys : List (List Part)) (i : ℕ) (f : List Part) → slice_get ys i ≡ Some f → is_unit_form f ≡ false → 1 ≤ sum_count ys
counted_one [] i f at many = absurd cc
counted_one (y ∷ ys) zero f at many =
    let same : f ≡ y = cc in
    let none : is_unit_form y ≡ false = subst (λ (z : List Part). is_unit_form z ≡ false) same many in
    subst (λ (b : Bool). 1 ≤ (if b then sum_count ys else suc (sum_count ys))) (sym none) (omega arith)
counted_one (y ∷ ys) (suc i) f at many = by_test (is_unit_form y) (counted_one ys i f at many)
  where
    by_test : (b : Bool) → 1 ≤ sum_count ys → 1 ≤ (if b then sum_count ys else suc (sum_count ys))
    by_test true h = h
    by_test false h = omega arith

-- a sum behind those that stay
counted_more : (xs ys : List (List Part)) → Keeps xs ys → (i : ℕ) (f : List Part) → length xs ≤ i → slice_get ys i ≡ Some f → is_unit_form f ≡ false → suc (sum_count xs) ≤ sum_count ys
counted_more [] ys kept i f long at many = counted_one ys i f at many
counted_more (x ∷ xs) [] kept i f long at many = absurd (none_kept x xs kept)
counted_more (x ∷ xs) (y ∷ ys) kept zero f long at many = absurd (omega (arith, long))
counted_more (x ∷ xs) (y ∷ ys) kept (suc i) f long at many =
    subst (λ (z : List Part). suc (sum_count (x ∷ xs)) ≤ (if is_unit_form z then sum_count ys else suc (sum_count ys))) (sym (first_kept x y xs ys kept))
    (by_test (is_unit_form x) (counted_more xs ys (rest_kept x y xs ys kept) i f (omega (arith, long)) at many))
  where
    by_test : (b : Bool) → suc (sum_count xs) ≤ sum_count ys → suc (if b then sum_count xs else suc (sum_count xs)) ≤ (if b then sum_count ys else suc (sum_count ys))
    by_test true h = h
    by_test false h = omega (arith, h)

-- ---- Theories

pub keeps_itself : (t : Theory) → KeepsForms t t
keeps_itself t k f at = at

pub keeps_both : (old mid new : Theory) → KeepsForms old mid → KeepsForms mid new → KeepsForms old new
keeps_both old mid new first second k f at = second k f (first k f at)

same_keeps : (old new : Theory) → new ≡ old → KeepsForms old new
same_keeps old new same = subst (KeepsForms old) (sym same) (keeps_itself old)

pub joined_keeps : (old new : Theory) (f : List Part) → MayHaveJoined old new f → KeepsForms old new
joined_keeps old new f (inl same) = same_keeps old new same
joined_keeps old new f (inr joined) = joined.moves.kept

exchanged_keeps : (old new : Theory) → MayHaveExchanged old new → KeepsForms old new
exchanged_keeps old new (inl same) = same_keeps old new same
exchanged_keeps old new (inr turned) = turned.moves.kept

pub stood_keeps : (old new : Theory) (k : ℕ) (v : Infinitesimal) → MayHaveStood old new k v → KeepsForms old new
stood_keeps old new k v (inl same) = same_keeps old new same
stood_keeps old new k v (inr turned) = turned.moves.kept

-- ---- Exchanges

-- where one was made of a sum that had joined
pub exchanged_one : (old mid new : Theory) (leaves : ℕ) (b : Bool) → KeepsForms old mid → MayHaveExchanged mid new
    → (b ≡ true → (f : List Part) × (slice_get mid.simplex.forms leaves ≡ Some f) × (is_unit_form f ≡ false)) → length old.simplex.forms ≤ leaves → MayExchangeOne old new b
exchanged_one old mid new leaves b first exchanged sum past =
    let after = exchanged_keeps mid new exchanged in
    let kept = keeps_both old mid new first after in
    record {
      kept = kept;
      joined = λ e. let f = sum e in counted_more old.simplex.forms new.simplex.forms kept leaves f.0 past (after leaves f.0 f.1) f.2;
    }

-- the count so far, with one more
pub one_counted : (old new : Theory) (n m : ℕ) (b : Bool) → m ≤ (if b then suc n else n) → n ≤ sum_count old.simplex.forms → MayExchangeOne old new b → m ≤ sum_count new.simplex.forms
one_counted old new n m true h before one = let more = one.joined refl in omega (arith, h, before, more)
one_counted old new n m false h before one = let more = counted_kept old.simplex.forms new.simplex.forms one.kept in omega (arith, h, before, more)

pub still_counted : (old new : Theory) (n : ℕ) → n ≤ sum_count old.simplex.forms → KeepsForms old new → n ≤ sum_count new.simplex.forms
still_counted old new n before kept = let more = counted_kept old.simplex.forms new.simplex.forms kept in omega (arith, before, more)
