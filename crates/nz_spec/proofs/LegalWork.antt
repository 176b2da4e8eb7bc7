-- Legal lists of work: how they go on, and that they repeat nothing.
use Rattle.std.proofs.Common.{◌≡◌, ◌⊎◌, ℕ, zero, suc, ◌<◌, ◌≢◌, inl, inr, Bool, true, false, List, [], ◌∷◌, ◌++◌, All, Contains, length, nat_le, filter, map, take, slice_get, slice_index_or, Some, refl, sym, ap, subst, ◌∙◌, arith, if◌then◌else◌}
use Rattle.std.proofs.lemmas.Option.{slice_get_within, get_or_from_slice_get}
use Rattle.std.proofs.lemmas.List.{take-map, map-append, length-map}
use Rattle.nz_lists.proofs.Places.{slice_get-push_cases, slice_index_or-map}
use Rattle.nz_spec.specs.clauses.Literal.{Literal, negation_of, SayTheSame, AreSameSet, StandOnce}
use Rattle.nz_spec.specs.simplex.Bland.{Point, Position, IsCheckStep}
use Rattle.nz_spec.specs.simplex.PositionMoves.{AreConsistent}
use Rattle.nz_spec.specs.simplex.Pivots as pivots
use Rattle.nz_spec.specs.simplex.Pivots.{Pivot}
use Rattle.nz_spec.specs.search.Work.{DecisionEntry, LearnedEntry, PivotEntry, BranchEntry, FoundEntry, WorkLine, UnitLine, NoteLine}
use Rattle.nz_spec.specs.search.Notes.{Note, start_note, atom_note, form_note, goal_note, under_note, told_note}
use Rattle.nz_spec.specs.search.Search.{Task, ToldLiteral, Search, at_first, no_point, never, signed_literal, literal_by, literal_told, told_literals, position_of}
use Rattle.nz_spec.specs.search.Legal.{Drifts, MayDrift, MayFollow, after_line, after_lines, Lead}
use Rattle.nz_spec.specs.laws.LegalWork.{LegalWorkGoesOn, LegalWorkDoesNotRepeat, pivot_lines, PivotsAreLegal}
use Rattle.nz_spec.proofs.Negations.{literal-back}
use Rattle.nz_spec.proofs.SameSums.{say_back, say_negated}

-- ---- Lists that go on

drifts_more : (q : Task) (s : Search) (x y z : Point) (js ks : List ℕ) → Drifts q s x js y → Drifts q s y ks z → Drifts q s x (js ++ ks) z
drifts_more q s x y z [] ks same rest = subst (λ (p : Point). Drifts q s p ks z) same rest
drifts_more q s x y z (j ∷ js) ks (mid, first, more) rest = (mid, first, drifts_more q s mid y z js ks more rest)

-- forms may move before all lines
drift_before : (q : Task) (s : Search) (x y z : Point) (lines : List (WorkLine Note)) → MayDrift q s x y → Lead q s y lines z → Lead q s x lines z
drift_before q s x y z [] (js, drift) (ks, rest) = (js ++ ks, drifts_more q s x y z js ks drift rest)
drift_before q s x y z (line ∷ lines) (js, drift) (start, end, (ks, first), may, rest) = (start, end, (js ++ ks, drifts_more q s x y start js ks drift first), may, rest)

lines_go_on : (q : Task) (s : Search) (x y z : Point) (lines more : List (WorkLine Note)) → Lead q s x lines y → Lead q (after_lines s lines) y more z → Lead q s x (lines ++ more) z
lines_go_on q s x y z [] more drift rest = drift_before q s x y z more drift rest
lines_go_on q s x y z (line ∷ lines) more (start, end, drift, may, legal) rest = (start, end, drift, may, lines_go_on q (after_line s line) end y z lines more legal rest)

pub goes_on : LegalWorkGoesOn
goes_on = record {
  line = λ q s x y z lines line legal may. lines_go_on q s x y z lines (line ∷ []) legal (y, z, ([], refl), may, ([], refl));
  lines = lines_go_on;
}

-- ---- Lists of which no two are related

-- related elements stand at one place
abbrev pub Once : {X : Type 0} → (X → X → Type 0) → List X → Type 0
Once R xs = (i j : ℕ) (x y : _) → slice_get xs i ≡ Some x → slice_get xs j ≡ Some y → R x y → i ≡ j

front_at : {X : Type 0} (n : ℕ) (xs : List X) (i : ℕ) (x : X) → slice_get (take n xs) i ≡ Some x → slice_get xs i ≡ Some x
front_at zero xs i x at = cc
front_at (suc n) [] i x at = cc
front_at (suc n) (y ∷ ys) zero x at = at
front_at (suc n) (y ∷ ys) (suc i) x at = front_at n ys i x at

module _ {X : Type 0} (R : X → X → Type 0) (back : (x y : X) → R x y → R y x) where
  -- one more that is related to none
  pub once_more : (xs : List X) (x : X) → Once R xs → ((i : ℕ) (y : X) → slice_get xs i ≡ Some y → R y x → ⊥) → Once R (xs ++ x ∷ [])
  once_more xs x once new i j y z at_i at_j r =
      elim (slice_get-push_cases xs x i y at_i) [
        | inl before_i ↦ elim (slice_get-push_cases xs x j z at_j) [
          | inl before_j ↦ once i j y z before_i before_j r
          | inr last_j ↦ absurd (new i y before_i (subst (λ w. R y w) (sym last_j.1) r))
        ]
        | inr last_i ↦ elim (slice_get-push_cases xs x j z at_j) [
          | inl before_j ↦ absurd (new j z before_j (back x z (subst (λ w. R w z) (sym last_i.1) r)))
          | inr last_j ↦ last_i.0 ∙ sym last_j.0
        ]
      ]

  once_in_front : (n : ℕ) (xs : List X) → Once R xs → Once R (take n xs)
  once_in_front n xs once i j y z at_i at_j r = once i j y z (front_at n xs i y at_i) (front_at n xs j z at_j) r

-- ---- Equal elements

from_stand : {X : Type 0} (xs : List X) → StandOnce xs → Once (λ x y. x ≡ y) xs
from_stand xs once i j x y at_i at_j same = once i j y (at_i ∙ ap Some same) at_j

to_stand : {X : Type 0} (xs : List X) → Once (λ x y. x ≡ y) xs → StandOnce xs
to_stand xs once i j x at_i at_j = once i j x x at_i at_j refl

pub has_at : {X : Type 0} (xs : List X) (i : ℕ) (x y : X) → slice_get xs i ≡ Some y → y ≡ x → Contains xs x
has_at xs i x y at same =
    let found = at ∙ ap Some same in
    (i, slice_get_within xs i x found, get_or_from_slice_get xs i x x found)

all_at : {X : Type 0} (P : X → Type 0) (xs : List X) (i : ℕ) (x : X) → All P xs → slice_get xs i ≡ Some x → P x
all_at P xs i x all at = subst P (get_or_from_slice_get xs i x x at) (all i x (slice_get_within xs i x at))

stand_more : {X : Type 0} (xs : List X) (x : X) → StandOnce xs → (Contains xs x → ⊥) → StandOnce (xs ++ x ∷ [])
stand_more xs x once new =
    to_stand (xs ++ x ∷ []) (once_more (λ y z. y ≡ z) (λ y z e. sym e) xs x (from_stand xs once) (λ i y at same. new (has_at xs i x y at same)))

-- ---- Where a legal list leads

-- ---- Where a legal list leads

zero_no_suc : {n : ℕ} → zero ≡ suc n → ⊥
zero_no_suc e = absurd (omega (arith, e))

suc_injective : {m n : ℕ} → suc m ≡ suc n → m ≡ n
suc_injective e = omega (arith, e)

abbrev pub numbers_of : List (ℕ × Bool) → List ℕ
numbers_of ps = map (λ (p : ℕ × Bool). p.0) ps

undecided_numbers : (ps : List (ℕ × Bool)) (atom : ℕ) → All (λ (p : ℕ × Bool). p.0 ≢ atom) ps → Contains (numbers_of ps) atom → ⊥
undecided_numbers ps atom all (k, within, at) =
    let same : slice_index_or (numbers_of ps) k atom ≡ (slice_index_or ps k (atom, true)).0 = slice_index_or-map (λ (p : ℕ × Bool). p.0) ps k (atom, true) in
    let inside : k < length ps = subst (λ n. k < n) (length-map ps (λ (p : ℕ × Bool). p.0)) within in
    all k (atom, true) inside (sym same ∙ at)

same_back : (c d : List (ℕ × Bool)) → AreSameSet c d → AreSameSet d c
same_back c d same x = (λ h. (same x).1 h, λ h. (same x).0 h)

module _ {X K : Type 0} (test : X → Bool) (key : X → K) where
  abbrev keys : List X → List K
  keys xs = map key xs

  -- what stands among those that pass a test stands among all
  abbrev IsFoundIn : List X → K → Type 0
  IsFoundIn xs k = (j : ℕ) × (slice_get (keys xs) j ≡ Some k)

  found_if : (b : Bool) (x : X) (xs : List X) → ((i : ℕ) (k : K) → slice_get (keys (filter test xs)) i ≡ Some k → IsFoundIn xs k)
      → (i : ℕ) (k : K) → slice_get (keys (if b then x ∷ filter test xs else filter test xs)) i ≡ Some k → IsFoundIn (x ∷ xs) k
  found_if true x xs behind zero k at = (zero, at)
  found_if true x xs behind (suc i) k at = let r = behind i k at in (suc r.0, r.1)
  found_if false x xs behind i k at = let r = behind i k at in (suc r.0, r.1)

  found_in : (xs : List X) (i : ℕ) (k : K) → slice_get (keys (filter test xs)) i ≡ Some k → IsFoundIn xs k
  found_in [] i k at = (i, at)
  found_in (x ∷ xs) i k at = found_if (test x) x xs (found_in xs) i k at

  stand_before : (x : X) (xs ys : List X) → StandOnce (keys (x ∷ xs)) → ((i : ℕ) (k : K) → slice_get (keys ys) i ≡ Some k → IsFoundIn xs k) → StandOnce (keys ys) → StandOnce (keys (x ∷ ys))
  stand_before x xs ys all within once zero zero k at_i at_j = refl
  stand_before x xs ys all within once zero (suc j) k at_i at_j = let r = within j k at_j in absurd (zero_no_suc (all zero (suc r.0) k at_i r.1))
  stand_before x xs ys all within once (suc i) zero k at_i at_j = let r = within i k at_i in absurd (zero_no_suc (all zero (suc r.0) k at_j r.1))
  stand_before x xs ys all within once (suc i) (suc j) k at_i at_j = ap suc (once i j k at_i at_j)

  stand_behind : (x : X) (xs : List X) → StandOnce (keys (x ∷ xs)) → StandOnce (keys xs)
  stand_behind x xs all i j k at_i at_j = suc_injective (all (suc i) (suc j) k at_i at_j)

  once_if : (b : Bool) (x : X) (xs : List X) → StandOnce (keys (x ∷ xs)) → StandOnce (keys (filter test xs))
      → StandOnce (keys (if b then x ∷ filter test xs else filter test xs))
  once_if true x xs once behind = stand_before x xs (filter test xs) once (found_in xs) behind
  once_if false x xs once behind = behind

  once_passing : (xs : List X) → StandOnce (keys xs) → StandOnce (keys (filter test xs))
  once_passing [] once = once
  once_passing (x ∷ xs) once = once_if (test x) x xs once (once_passing xs (stand_behind x xs once))

-- ---- Atoms

abbrev pub AreOpposite : Literal → Literal → Type 0
AreOpposite l m = SayTheSame l m ⊎ SayTheSame l (negation_of m)

-- where the negation of one says the same as another, so does that one's negation
negation_over : (l m : Literal) → SayTheSame (negation_of l) m → SayTheSame l (negation_of m)
negation_over l m h = subst (λ (k : Literal). SayTheSame k (negation_of m)) (literal-back l) (say_negated (negation_of l) m h)

opposite_back : (l m : Literal) → AreOpposite l m → AreOpposite m l
opposite_back l m (inl h) = inl (say_back l m h)
opposite_back l m (inr h) = inr (negation_over m l (say_back l (negation_of m) h))

-- Literals that say the same with these signs are so.
signed_opposite : (l m : Literal) (a b : Bool) → SayTheSame (signed_literal l a) (signed_literal m b) → AreOpposite l m
signed_opposite l m true true h = inl h
signed_opposite l m true false h = inr h
signed_opposite l m false true h = inr (negation_over l m h)
signed_opposite l m false false h = inl (subst (SayTheSame l) (literal-back m) (negation_over l (negation_of m) h))

new_atom : (atoms : List Literal) (l : Literal) → All (λ (m : Literal). SayTheSame m l → ⊥) atoms → All (λ (m : Literal). SayTheSame m (negation_of l) → ⊥) atoms
    → (i : ℕ) (m : Literal) → slice_get atoms i ≡ Some m → AreOpposite m l → ⊥
new_atom atoms l fresh negated i m at (inl h) = all_at (λ (k : Literal). SayTheSame k l → ⊥) atoms i m fresh at h
new_atom atoms l fresh negated i m at (inr h) = all_at (λ (k : Literal). SayTheSame k (negation_of l) → ⊥) atoms i m negated at h

literal_of_number : (atoms : List Literal) (i : ℕ) (a : Bool) (l : Literal) → slice_get atoms i ≡ Some l → literal_by atoms (i, a) ≡ signed_literal l a
literal_of_number atoms i a l at = ap (λ m. signed_literal m a) (get_or_from_slice_get atoms i l never at)

-- ---- What stands once

-- the same, with atoms that aren't one another's negations
pub record StandApart (s : Search) : Type 0 where
  pub atoms : Once AreOpposite s.atoms
  pub decided : StandOnce (numbers_of s.decided)
  pub told : StandOnce (told_literals s)
  pub learned : Once AreSameSet s.learned

pub kept : (q : Task) (s : Search) (x y : Point) (line : WorkLine Note) → MayFollow q s x line y → StandApart s → StandApart (after_line s line)
kept q s x y (NoteLine (start_note fs places)) may h = record { atoms = h.atoms; decided = h.decided; told = h.told; learned = h.learned }
kept q s x y (NoteLine (atom_note l)) may h = record {
  atoms = once_more AreOpposite opposite_back s.atoms l h.atoms (new_atom s.atoms l may.0.fresh may.0.negation_fresh);
  decided = h.decided;
  told = h.told;
  learned = h.learned;
}
kept q s x y (NoteLine (form_note atom)) may h = record { atoms = h.atoms; decided = h.decided; told = h.told; learned = h.learned }
kept q s x y (NoteLine (goal_note sum)) may h = record { atoms = h.atoms; decided = h.decided; told = h.told; learned = h.learned }
kept q s x y (NoteLine (under_note ls)) may h = record { atoms = h.atoms; decided = λ i j x a b. cc; told = λ i j x a b. cc; learned = h.learned }
kept q s x y (NoteLine (told_note t)) may h =
    let new : ToldLiteral = record { depth = length s.decided; literal = literal_told s t } in
    record {
      atoms = h.atoms;
      decided = h.decided;
      told = subst StandOnce (sym (map-append (λ (t : ToldLiteral). t.literal) s.told (new ∷ []))) (stand_more (told_literals s) (literal_told s t) h.told may.0.new);
      learned = h.learned;
    }
kept q s x y (UnitLine (DecisionEntry atom sign)) may h = record {
  atoms = h.atoms;
  decided = subst StandOnce (sym (map-append (λ (p : ℕ × Bool). p.0) s.decided ((atom, sign) ∷ []))) (stand_more (numbers_of s.decided) atom h.decided (undecided_numbers s.decided atom may.0.undecided));
  told = h.told;
  learned = h.learned;
}
kept q s x y (UnitLine (LearnedEntry keep clause)) may h = record {
  atoms = h.atoms;
  decided = subst StandOnce (take-map (λ (p : ℕ × Bool). p.0) keep s.decided)
      (to_stand (take keep (numbers_of s.decided)) (once_in_front (λ x y. x ≡ y) (λ x y e. sym e) keep (numbers_of s.decided) (from_stand (numbers_of s.decided) h.decided)));
  told = once_passing (λ (t : ToldLiteral). nat_le t.depth keep) (λ (t : ToldLiteral). t.literal) s.told h.told;
  learned = once_more AreSameSet same_back s.learned clause h.learned (λ i c at. all_at (λ d. AreSameSet d clause → ⊥) s.learned i c may.0.new at);
}
kept q s x y (UnitLine (PivotEntry i j)) may h = h
kept q s x y (UnitLine (BranchEntry atom)) may h = record { atoms = h.atoms; decided = h.decided; told = h.told; learned = h.learned }
kept q s x y (UnitLine (FoundEntry goal value)) may h = record { atoms = h.atoms; decided = h.decided; told = h.told; learned = h.learned }

stays : (q : Task) (s : Search) (x y : Point) (lines : List (WorkLine Note)) → Lead q s x lines y → StandApart s → StandApart (after_lines s lines)
stays q s x y [] legal h = h
stays q s x y (line ∷ lines) (start, end, drift, may, legal) h = stays q (after_line s line) end y lines legal (kept q s start end line may h)

pub does_not_repeat : LegalWorkDoesNotRepeat
does_not_repeat q lines y legal =
    let first : StandApart at_first = record { atoms = λ i j x y a b. cc; decided = λ i j x a b. cc; told = λ i j x a b. cc; learned = λ i j c d a b e. cc } in
    let s = after_lines at_first lines in
    let all = stays q at_first no_point y lines legal first in
    record {
      atoms = λ i j a b l m at_i at_j e.
          all.atoms i j l m at_i at_j
          (signed_opposite l m a b (subst (SayTheSame (signed_literal l a)) (literal_of_number s.atoms j b m at_j)
          (subst (λ (k : Literal). SayTheSame k (literal_by s.atoms (j, b))) (literal_of_number s.atoms i a l at_i) e)));
      decided = all.decided;
      told = all.told;
      learned = all.learned;
    }

-- ---- Pivots

step_in : (s : Search) (x : Point) (p : Position) (i j : ℕ) → IsCheckStep (position_of s x) p i j → p ≡ position_of s p.point
step_in s x p i j step = step.after ∙ ap (λ (r : Position). position_of s r.point) (sym step.after)

pivots_lead : (q : Task) (s : Search) (x : Point) (ps : List Pivot) (p : Position) → AreConsistent (position_of s x) → pivots.Lead (position_of s x) ps p
    → (p ≡ position_of s p.point) × Lead q s x (pivot_lines ps) p.point
pivots_lead q s x [] p agree e = (e ∙ ap (λ (r : Position). position_of s r.point) (sym e), ([], ap (λ (r : Position). r.point) e))
pivots_lead q s x (v ∷ vs) p agree (mid, first, rest) =
    let within : mid ≡ position_of s mid.point = step_in s x mid v.leaves v.enters first in
    let behind = pivots_lead q s mid.point vs p agree (subst (λ (r : Position). pivots.Lead r vs p) within rest) in
    let step = subst (λ (r : Position). IsCheckStep (position_of s x) r v.leaves v.enters) within first in
    (behind.0, (x, mid.point, ([], refl), inl (agree, step), behind.1))

pivots_stay : (s : Search) (ps : List Pivot) → after_lines s (pivot_lines ps) ≡ s
pivots_stay s [] = refl
pivots_stay s (p ∷ ps) = pivots_stay s ps

pub pivots_are_legal : PivotsAreLegal
pivots_are_legal = record { lead = pivots_lead; stays = pivots_stay }
