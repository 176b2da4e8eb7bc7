-- How many units a list over Booleans alone has: each clause that is learned comes behind few decisions, and the clauses are few.
use Rattle.std.proofs.Common.{◌≡◌, ◌⊎◌, ℕ, zero, suc, ◌<◌, ◌≤◌, ◌+◌, ◌-◌, ◌*◌, ◌^◌, Bool, List, [], ◌∷◌, ◌++◌, All, Contains, length, take, inl, inr, refl, sym, ap, subst, ◌∙◌, arith, length-append}
use Rattle.std.specs.Prelude.{cond}
use Rattle.std.specs.List.{AllByRecursion}
use Rattle.std.proofs.Math.Nat.{mul-suc, suc-mul}
use Rattle.std.proofs.lemmas.Nat.{mul-le}
use Rattle.std.proofs.lemmas.List.{get_or_append_left}
use Rattle.std.proofs.lemmas.List.Elements.{All-contains, All-take, Contains-get_or, Contains-push_cases}
use Rattle.std.proofs.lemmas.List.Sums.{sum_by-cons}
use Rattle.nz_lists.proofs.Members.{has_first, has_none}
use Rattle.nz_spec.specs.terms.Term.{Term}
use Rattle.nz_spec.specs.clauses.Literal.{Literal, term_literal}
use Rattle.nz_spec.specs.simplex.Bland.{Point}
use Rattle.nz_spec.specs.search.Work.{DecisionEntry, LearnedEntry, PivotEntry, BranchEntry, FoundEntry, WorkLine, UnitLine, NoteLine, is_unit, unit_count}
use Rattle.nz_spec.specs.search.Notes.{Note, start_note, atom_note, form_note, goal_note, under_note, told_note}
use Rattle.nz_spec.specs.search.Search.{Task, literals_asked, Search, at_first, no_point, never, signed_literal, literal_by, literals_held, IsUnderAll}
use Rattle.nz_spec.specs.search.Legal.{Drifts, MayLearn, MayFollow, after_line, after_lines, Lead, AreLegal}
use Rattle.nz_spec.specs.laws.BooleanWork.{IsOfClauses, IsBooleanTask, AreAllListed, work_over, BooleanWorkIsBounded}
use Rattle.nz_spec.proofs.BasisJoins.{joins_keep_basis}
use Rattle.nz_spec.proofs.BooleanDecisions.{IsCounted, atoms_few, decided_few, decided_fewer}
use Rattle.nz_spec.proofs.BooleanStates.{IsPlain, asked_listed, no_branching, no_exchange, no_goal, no_joining, no_goal_joining, line_plain}
use Rattle.nz_spec.proofs.ClauseCounts.{IsOver, clauses_few}
use Rattle.nz_spec.proofs.FreeConstants.{no_dead_end}
use Rattle.nz_spec.proofs.LegalWork.{StandApart, kept}
use Rattle.nz_spec.proofs.PlainWork.{lines_find}
use Rattle.nz_spec.proofs.Starts.{IsBasedAt, based, drifts-based, line-based}

-- ---- What is counted

-- the atom of a number, where one more is named
same_atom : (atoms : List Literal) (l : Literal) (i : ℕ) (sign : Bool) → i < length atoms → literal_by (atoms ++ l ∷ []) (i, sign) ≡ literal_by atoms (i, sign)
same_atom atoms l i sign within = ap (λ (m : Literal). signed_literal m sign) (get_or_append_left atoms (l ∷ []) never i within)

longer : (atoms : List Literal) (l : Literal) → length (atoms ++ l ∷ []) ≡ suc (length atoms)
longer atoms l = let n = length-append atoms (l ∷ []) in omega (arith, n)

over_more : (n : ℕ) (c : List (ℕ × Bool)) → IsOver n c → IsOver (suc n) c
over_more n c h = record { below = λ p has. let low = h.below p has in omega (arith, low); once = h.once }

in_front : (n : ℕ) (ps : List (ℕ × Bool)) (p : ℕ × Bool) → Contains (take n ps) p → Contains ps p
in_front n ps p has = All-contains (Contains ps) (take n ps) p (All-take (Contains ps) n ps (λ i d within. Contains-get_or ps i d within)) has

module _ (q : Task) (boolean : IsBooleanTask q) where
  -- the same decisions, clauses and atoms
  line_counted : (s : Search) (x y : Point) (line : WorkLine Note) → MayFollow q s x line y → IsCounted q boolean s → IsCounted q boolean (after_line s line)
  line_counted s x y (NoteLine (start_note fs places)) may h = record { named = h.named; free = h.free; learned = h.learned }
  line_counted s x y (NoteLine (atom_note l)) may h = record {
    named = λ p has. let low = h.named p has in let more = longer s.atoms l in omega (arith, low, more);
    free = λ p has sign held. h.free p has sign (subst (Contains (literals_held q s)) (same_atom s.atoms l p.0 sign (h.named p has)) held);
    learned = λ c has. subst (λ (n : ℕ). IsOver n c) (sym (longer s.atoms l)) (over_more (length s.atoms) c (h.learned c has));
  }
  line_counted s x y (NoteLine (form_note atom)) may h = record { named = h.named; free = h.free; learned = h.learned }
  line_counted s x y (NoteLine (goal_note sum)) may h = record { named = h.named; free = h.free; learned = h.learned }
  line_counted s x y (NoteLine (under_note ls)) may h = record { named = λ p has. absurd (has_none p has); free = λ p has. absurd (has_none p has); learned = h.learned }
  line_counted s x y (NoteLine (told_note t)) may h = record { named = h.named; free = h.free; learned = h.learned }
  line_counted s x y (UnitLine (DecisionEntry atom sign)) may h = record {
    named = λ p has. elim (Contains-push_cases s.decided (atom, sign) p has) [
      | inl before ↦ h.named p before
      | inr last ↦ subst (λ (r : ℕ × Bool). r.0 < length s.atoms) last may.0.named
    ];
    free = λ p has. elim (Contains-push_cases s.decided (atom, sign) p has) [
      | inl before ↦ h.free p before
      | inr last ↦ subst (λ (r : ℕ × Bool). (b : Bool) → Contains (literals_held q s) (literal_by s.atoms (r.0, b)) → ⊥) last may.0.free
    ];
    learned = h.learned;
  }
  line_counted s x y (UnitLine (LearnedEntry keep clause)) may h = record {
    named = λ p has. h.named p (in_front keep s.decided p has);
    free = λ p has. h.free p (in_front keep s.decided p has);
    learned = λ c has. elim (Contains-push_cases s.learned clause c has) [
      | inl before ↦ h.learned c before
      | inr last ↦
          subst (IsOver (length s.atoms)) last
          (record { below = λ p there. All-contains (λ (r : ℕ × Bool). r.0 < length s.atoms) clause p may.0.named there; once = may.0.once })
    ];
  }
  line_counted s x y (UnitLine (PivotEntry i j)) may h = h
  line_counted s x y (UnitLine (BranchEntry atom)) may h = record { named = h.named; free = h.free; learned = h.learned }
  line_counted s x y (UnitLine (FoundEntry goal value)) may h = record { named = h.named; free = h.free; learned = h.learned }

  -- ---- Where a list leads

  pub record Stands (s : Search) (x : Point) : Type 0 where
    pub plain : IsPlain q boolean s
    pub counted : IsCounted q boolean s
    pub apart : StandApart s
    pub basis : IsBasedAt s x

  pub line_stands : (s : Search) (x y : Point) (line : WorkLine Note) → MayFollow q s x line y → Stands s x → Stands (after_line s line) y
  line_stands s x y line may h = record {
    plain = line_plain q boolean s x y line h.basis.basis may h.plain;
    counted = line_counted s x y line may h.counted;
    apart = kept q s x y line may h.apart;
    basis = line-based q s x y line may h.basis;
  }

  pub drift_stands : (s : Search) (x y : Point) (js : List ℕ) → Drifts q s x js y → Stands s x → Stands s y
  drift_stands s x y js drift h = record { plain = h.plain; counted = h.counted; apart = h.apart; basis = drifts-based q s x y js drift h.basis }

  pub first_stands : Stands at_first no_point
  first_stands = record {
    plain = record { under = λ l has. absurd (has_none l has); atoms = λ l has. absurd (has_none l has); told = λ l has. absurd (has_none l has); branches = refl };
    counted = record { named = λ p has. absurd (has_none p has); free = λ p has. absurd (has_none p has); learned = λ c has. absurd (has_none c has) };
    apart = record { atoms = λ i j l m a b. cc; decided = λ i j k a b. cc; told = λ i j l a b. cc; learned = λ i j c d a b e. cc };
    basis = based at_first no_point joins_keep_basis.empty (λ i j f at_i. cc);
  }

  -- each line is of clauses
  line_of_clauses : (s : Search) (x y : Point) (line : WorkLine Note) → MayFollow q s x line y → Stands s x → IsOfClauses line
  line_of_clauses s x y (NoteLine (start_note fs places)) may h = tt
  line_of_clauses s x y (NoteLine (atom_note l)) may h = tt
  line_of_clauses s x y (NoteLine (form_note atom)) may h = no_joining q boolean s atom h.plain may.0
  line_of_clauses s x y (NoteLine (goal_note sum)) may h = no_goal_joining q boolean s sum may.0
  line_of_clauses s x y (NoteLine (under_note ls)) may h = tt
  line_of_clauses s x y (NoteLine (told_note t)) may h = tt
  line_of_clauses s x y (UnitLine (DecisionEntry atom sign)) may h = tt
  line_of_clauses s x y (UnitLine (LearnedEntry keep clause)) may h = tt
  line_of_clauses s x y (UnitLine (PivotEntry i j)) may h = no_exchange q boolean s x y i j h.plain may
  line_of_clauses s x y (UnitLine (BranchEntry atom)) may h = no_branching q boolean s x atom h.basis.basis h.plain may.0
  line_of_clauses s x y (UnitLine (FoundEntry goal value)) may h = no_goal q boolean goal may.0.goal may.0.listed

  pub of_clauses : (s : Search) (x y : Point) (lines : List (WorkLine Note)) → Lead q s x lines y → Stands s x → AllByRecursion IsOfClauses lines
  of_clauses s x y [] legal h = tt
  of_clauses s x y (line ∷ lines) (start, end, (js, drift), may, legal) h =
      let here = drift_stands s x start js drift h in
      (line_of_clauses s start end line may here, of_clauses (after_line s line) end y lines legal (line_stands s start end line may here))

  -- no search begins once more
  begun_grows : (s : Search) (line : WorkLine Note) → s.begun ≤ (after_line s line).begun
  begun_grows s (NoteLine (start_note fs places)) = omega arith
  begun_grows s (NoteLine (atom_note l)) = omega arith
  begun_grows s (NoteLine (form_note atom)) = omega arith
  begun_grows s (NoteLine (goal_note sum)) = omega arith
  begun_grows s (NoteLine (under_note ls)) = omega arith
  begun_grows s (NoteLine (told_note t)) = omega arith
  begun_grows s (UnitLine (DecisionEntry atom sign)) = omega arith
  begun_grows s (UnitLine (LearnedEntry keep clause)) = omega arith
  begun_grows s (UnitLine (PivotEntry i j)) = omega arith
  begun_grows s (UnitLine (BranchEntry atom)) = omega arith
  begun_grows s (UnitLine (FoundEntry goal value)) = omega arith

  begun_more : (s : Search) (lines : List (WorkLine Note)) → s.begun ≤ (after_lines s lines).begun
  begun_more s [] = omega arith
  begun_more s (line ∷ lines) = let first = begun_grows s line in let rest = begun_more (after_line s line) lines in omega (arith, first, rest)

  -- ---- Under all that is assumed

  under_same : (s : Search) (line : WorkLine Note) → (after_line s line).begun ≡ s.begun → (after_line s line).under ≡ s.under
  under_same s (NoteLine (start_note fs places)) same = refl
  under_same s (NoteLine (atom_note l)) same = refl
  under_same s (NoteLine (form_note atom)) same = refl
  under_same s (NoteLine (goal_note sum)) same = refl
  under_same s (NoteLine (under_note ls)) same = absurd (omega (arith, same))
  under_same s (NoteLine (told_note t)) same = refl
  under_same s (UnitLine (DecisionEntry atom sign)) same = refl
  under_same s (UnitLine (LearnedEntry keep clause)) same = refl
  under_same s (UnitLine (PivotEntry i j)) same = refl
  under_same s (UnitLine (BranchEntry atom)) same = refl
  under_same s (UnitLine (FoundEntry goal value)) same = refl

  -- where no search begins any more, the last one goes under the same literals
  under_stays : (s : Search) (lines : List (WorkLine Note)) → (after_lines s lines).begun ≡ s.begun → (after_lines s lines).under ≡ s.under
  under_stays s [] same = refl
  under_stays s (line ∷ lines) same =
      let first = begun_grows s line in
      let rest = begun_more (after_line s line) lines in
      under_stays (after_line s line) lines (omega (arith, same, first, rest)) ∙ under_same s line (omega (arith, same, first, rest))

  push_learned : (cs : List (List (ℕ × Bool))) (c : List (ℕ × Bool)) → cs ++ c ∷ [] ≡ [] → ⊥
  push_learned cs c none = let more = length-append cs (c ∷ []) in let nothing = ap length none in omega (arith, more, nothing)

  -- before the first search nothing is learned
  nothing_learned : (s : Search) (x y : Point) (lines : List (WorkLine Note)) → Lead q s x lines y → s.begun ≡ 0 → 1 ≤ (after_lines s lines).begun → s.learned ≡ []
  nothing_learned s x y [] legal none begun = absurd (omega (arith, none, begun))
  nothing_learned s x y (NoteLine (start_note fs places) ∷ lines) (a, b, drift, may, legal) none begun = nothing_learned (after_line s (NoteLine (start_note fs places))) b y lines legal none begun
  nothing_learned s x y (NoteLine (atom_note l) ∷ lines) (a, b, drift, may, legal) none begun = nothing_learned (after_line s (NoteLine (atom_note l))) b y lines legal none begun
  nothing_learned s x y (NoteLine (form_note atom) ∷ lines) (a, b, drift, may, legal) none begun = nothing_learned (after_line s (NoteLine (form_note atom))) b y lines legal none begun
  nothing_learned s x y (NoteLine (goal_note sum) ∷ lines) (a, b, drift, may, legal) none begun = nothing_learned (after_line s (NoteLine (goal_note sum))) b y lines legal none begun
  nothing_learned s x y (NoteLine (under_note ls) ∷ lines) (a, b, drift, may, legal) none begun = (may.0.first none).1
  nothing_learned s x y (NoteLine (told_note t) ∷ lines) (a, b, drift, may, legal) none begun = nothing_learned (after_line s (NoteLine (told_note t))) b y lines legal none begun
  nothing_learned s x y (UnitLine (DecisionEntry atom sign) ∷ lines) (a, b, drift, may, legal) none begun = nothing_learned (after_line s (UnitLine (DecisionEntry atom sign))) b y lines legal none begun
  nothing_learned s x y (UnitLine (LearnedEntry keep clause) ∷ lines) (a, b, drift, may, legal) none begun =
      absurd (push_learned s.learned clause (nothing_learned (after_line s (UnitLine (LearnedEntry keep clause))) b y lines legal none begun))
  nothing_learned s x y (UnitLine (PivotEntry i j) ∷ lines) (a, b, drift, may, legal) none begun = nothing_learned s b y lines legal none begun
  nothing_learned s x y (UnitLine (BranchEntry atom) ∷ lines) (a, b, drift, may, legal) none begun = nothing_learned (after_line s (UnitLine (BranchEntry atom))) b y lines legal none begun
  nothing_learned s x y (UnitLine (FoundEntry goal value) ∷ lines) (a, b, drift, may, legal) none begun = nothing_learned (after_line s (UnitLine (FoundEntry goal value))) b y lines legal none begun

  -- So where one search goes under all that is assumed, whatever is learned is learned under it.
  whole_there : (s : Search) (x y : Point) (lines : List (WorkLine Note)) → Lead q s x lines y → (s.learned ≡ [] → ⊥) → (after_lines s lines).begun ≤ 1 → IsUnderAll q (after_lines s lines) → IsUnderAll q s
  whole_there s x y lines legal some begun all = by_number s.begun refl
    where
      by_number : (n : ℕ) → s.begun ≡ n → IsUnderAll q s
      by_number zero none = by_last (after_lines s lines).begun refl
        where
          by_last : (m : ℕ) → (after_lines s lines).begun ≡ m → IsUnderAll q s
          by_last zero last = subst (λ (ls : List Literal). All (Contains ls) q.assumed) (under_stays s lines (last ∙ sym none)) all
          by_last (suc m) last = absurd (some (nothing_learned s x y lines legal none (omega (arith, last))))
      by_number (suc n) one =
          let more = begun_more s lines in
          subst (λ (ls : List Literal). All (Contains ls) q.assumed) (under_stays s lines (omega (arith, one, more, begun))) all

  -- ---- How many units

  -- Under all that is assumed at most k decisions stand at a time, and where a clause is learned k is below n.
  module _ (k n : ℕ) (few : (s : Search) (x : Point) → Stands s x → IsUnderAll q s → length s.decided ≤ k)
      (learning : (s : Search) (x : Point) (keep : ℕ) (clause : List (ℕ × Bool)) → Stands s x → IsUnderAll q s → MayLearn q s keep clause → k < n) where
    -- so many units may have led there
    abbrev units_at : Search → ℕ
    units_at s = k * length s.learned + length s.learned + length s.decided

    abbrev unit_of : WorkLine Note → ℕ
    unit_of line = cond (is_unit line) 1 0

    -- the line is no clause, or is learned under all that is assumed
    abbrev LearnsUnderAll : Search → WorkLine Note → Type 0
    LearnsUnderAll s line = (keep : ℕ) (clause : List (ℕ × Bool)) → line ≡ UnitLine (LearnedEntry keep clause) → IsUnderAll q s

    line_units : (s : Search) (x y : Point) (line : WorkLine Note) → MayFollow q s x line y → Stands s x → LearnsUnderAll s line → (after_line s line).begun ≤ 1
        → unit_of line + units_at s ≤ units_at (after_line s line)
    line_units s x y (NoteLine (start_note fs places)) may h whole begun = omega arith
    line_units s x y (NoteLine (atom_note l)) may h whole begun = omega arith
    line_units s x y (NoteLine (form_note atom)) may h whole begun = omega arith
    line_units s x y (NoteLine (goal_note sum)) may h whole begun = omega arith
    line_units s x y (NoteLine (under_note ls)) may h whole begun =
        let none : length s.decided ≡ 0 = ap length (may.0.first (omega (arith, begun))).0 in
        omega (arith, none)
    line_units s x y (NoteLine (told_note t)) may h whole begun = omega arith
    line_units s x y (UnitLine (DecisionEntry atom sign)) may h whole begun =
        let more = length-append s.decided ((atom, sign) ∷ []) in
        omega (arith, more)
    line_units s x y (UnitLine (LearnedEntry keep clause)) may h whole begun =
        let more : length (s.learned ++ clause ∷ []) ≡ suc (length s.learned) =
        let n = length-append s.learned (clause ∷ []) in omega (arith, n) in
        let times : k * length (s.learned ++ clause ∷ []) ≡ k * length s.learned + k = ap (λ (m : ℕ). k * m) more ∙ mul-suc k (length s.learned) in
        let low = few s x h (whole keep clause refl) in
        omega (arith, more, times, low)
    line_units s x y (UnitLine (PivotEntry i j)) may h whole begun = absurd (no_exchange q boolean s x y i j h.plain may)
    line_units s x y (UnitLine (BranchEntry atom)) may h whole begun = absurd (no_branching q boolean s x atom h.basis.basis h.plain may.0)
    line_units s x y (UnitLine (FoundEntry goal value)) may h whole begun = absurd (no_goal q boolean goal may.0.goal may.0.listed)

    line_learns : (s : Search) (x y : Point) (line : WorkLine Note) → MayFollow q s x line y → Stands s x → LearnsUnderAll s line → (s.learned ≡ []) ⊎ (k < n)
        → ((after_line s line).learned ≡ []) ⊎ (k < n)
    line_learns s x y (NoteLine (start_note fs places)) may h whole low = low
    line_learns s x y (NoteLine (atom_note l)) may h whole low = low
    line_learns s x y (NoteLine (form_note atom)) may h whole low = low
    line_learns s x y (NoteLine (goal_note sum)) may h whole low = low
    line_learns s x y (NoteLine (under_note ls)) may h whole low = low
    line_learns s x y (NoteLine (told_note t)) may h whole low = low
    line_learns s x y (UnitLine (DecisionEntry atom sign)) may h whole low = low
    line_learns s x y (UnitLine (LearnedEntry keep clause)) may h whole low = inr (learning s x keep clause h (whole keep clause refl) may.0)
    line_learns s x y (UnitLine (PivotEntry i j)) may h whole low = low
    line_learns s x y (UnitLine (BranchEntry atom)) may h whole low = low
    line_learns s x y (UnitLine (FoundEntry goal value)) may h whole low = low

    learned_under : (s : Search) (line : WorkLine Note) (x y : Point) (lines : List (WorkLine Note)) → Lead q (after_line s line) x lines y
        → (after_lines (after_line s line) lines).begun ≤ 1 → IsUnderAll q (after_lines (after_line s line) lines) → LearnsUnderAll s line
    learned_under s line x y lines legal begun all keep clause is =
        let next = after_line s (UnitLine (LearnedEntry keep clause)) in
        let same : after_line s line ≡ next = ap (after_line s) is in
        whole_there next x y lines (subst (λ (t : Search). Lead q t x lines y) same legal) (push_learned s.learned clause)
        (subst (λ (t : Search). (after_lines t lines).begun ≤ 1) same begun) (subst (λ (t : Search). IsUnderAll q (after_lines t lines)) same all)

    record HasUnits (s t : Search) (y : Point) (lines : List (WorkLine Note)) : Type 0 where
      stands : Stands t y
      learns : (t.learned ≡ []) ⊎ (k < n)
      units : unit_count lines + units_at s ≤ units_at t

    list_units : (s : Search) (x y : Point) (lines : List (WorkLine Note)) → Lead q s x lines y → Stands s x → (s.learned ≡ []) ⊎ (k < n)
        → (after_lines s lines).begun ≤ 1 → IsUnderAll q (after_lines s lines) → HasUnits s (after_lines s lines) y lines
    list_units s x y [] (js, drift) h low begun all = record { stands = drift_stands s x y js drift h; learns = low; units = omega arith }
    list_units s x y (line ∷ lines) (start, end, (js, drift), may, legal) h low begun all =
        let here = drift_stands s x start js drift h in
        let next = after_line s line in
        let now : next.begun ≤ 1 = let rest = begun_more next lines in omega (arith, rest, begun) in
        let whole = learned_under s line end y lines legal begun all in
        let behind = list_units next end y lines legal (line_stands s start end line may here) (line_learns s start end line may here whole low) begun all in
        let first = line_units s start end line may here whole now in
        let rest = behind.units in
        record {
          stands = behind.stands;
          learns = behind.learns;
          units = omega (arith, first, rest, sum_by-cons (λ (l : WorkLine Note). cond (is_unit l) 1 0) line lines);
        }

-- ---- The whole list

over_within : (m n : ℕ) (c : List (ℕ × Bool)) → m ≤ n → IsOver m c → IsOver n c
over_within m n c few h = record { below = λ p has. let low = h.below p has in omega (arith, low, few); once = h.once }

-- l clauses, each behind at most k decisions, and d more
bounded : (k n l d p u : ℕ) → u ≤ k * l + l + d → d ≤ k → (l ≡ 0) ⊎ (k < n) → k ≤ n → l ≤ p → u ≤ n * (p + 1)
bounded k n l d p u units low (inl none) within few =
    let nothing : k * l ≤ k * 0 = mul-le k l k 0 (omega arith) (omega (arith, none)) in
    let all : n * suc p ≡ n * p + n = mul-suc n p in
    omega (arith, units, low, none, within, nothing, all)
bounded k n l d p u units low (inr below) within few =
    let part : suc k * l ≤ n * p = mul-le (suc k) l n p (omega (arith, below)) few in
    let whole : suc k * l ≡ k * l + l = suc-mul k l in
    let all : n * suc p ≡ n * p + n = mul-suc n p in
    omega (arith, units, low, below, part, whole, all)

module _ (q : Task) (boolean : IsBooleanTask q) (ts : List Term) (all : AreAllListed q ts) where
  finish : (k : ℕ) (few : (s : Search) (x : Point) → Stands q boolean s x → IsUnderAll q s → length s.decided ≤ k)
      (learning : (s : Search) (x : Point) (keep : ℕ) (clause : List (ℕ × Bool)) → Stands q boolean s x → IsUnderAll q s → MayLearn q s keep clause → k < length ts)
      → k ≤ length ts → (lines : List (WorkLine Note)) → AreLegal q lines → IsUnderAll q (after_lines at_first lines) → unit_count lines ≤ work_over ts
  finish k few learning within lines legal all_under =
      let t = after_lines at_first lines in
      let found : length t.found ≡ 0 = ap length (lines_find q boolean.goals at_first no_point legal.point lines legal.lead refl) in
      let goals : length q.goals ≡ 0 = ap length boolean.goals in
      let may_begin = legal.few.begun in
      let once : t.begun ≤ 1 = omega (arith, may_begin, found, goals) in
      let h = list_units q boolean k (length ts) few learning at_first no_point legal.point lines legal.lead (first_stands q boolean) (inl refl) once all_under in
      let counted = h.stands.counted in
      let named = atoms_few q boolean t h.stands.plain h.stands.apart ts all in
      let clauses = clauses_few (length ts) t.learned (λ c has. over_within (length t.atoms) (length ts) c named (counted.learned c has))
      (λ i j c d at_i at_j same. h.stands.apart.learned i j c d at_i at_j same) in
      let units = h.units in
      bounded k (length ts) (length t.learned) (length t.decided) (3 ^ length ts) (unit_count lines) (omega (arith, units)) (few t legal.point h.stands all_under)
      (elim h.learns [ inl none ↦ inl (ap length none) | inr below ↦ inr below ]) within clauses

  -- where a listed term is asked for, it is never decided
  where_asked : (t : Term) (sign : Bool) → Contains (literals_asked q) (term_literal t sign) → Contains q.listed t
      → (lines : List (WorkLine Note)) → AreLegal q lines → IsUnderAll q (after_lines at_first lines) → unit_count lines ≤ work_over ts
  where_asked t sign asked listed lines legal all_under =
      finish (length ts - 1)
      (λ s x h under. let low = decided_fewer q boolean s h.plain h.apart h.counted under ts all t sign asked listed in omega (arith, low))
      (λ s x keep clause h under may. let low = decided_fewer q boolean s h.plain h.apart h.counted under ts all t sign asked listed in omega (arith, low))
      (omega arith) lines legal all_under

  where_nothing : literals_asked q ≡ [] → (lines : List (WorkLine Note)) → AreLegal q lines → IsUnderAll q (after_lines at_first lines) → unit_count lines ≤ work_over ts
  where_nothing nothing lines legal all_under =
      finish (length ts) (λ s x h under. decided_few q boolean s h.plain h.apart h.counted ts all)
      (λ s x keep clause h under may. absurd (no_dead_end q boolean nothing s h.plain h.apart h.counted may.dead_end))
      (omega arith) lines legal all_under

  units : (lines : List (WorkLine Note)) → AreLegal q lines → IsUnderAll q (after_lines at_first lines) → unit_count lines ≤ work_over ts
  units = by_asked (literals_asked q) refl
    where
      by_asked : (ls : List Literal) → literals_asked q ≡ ls → (lines : List (WorkLine Note)) → AreLegal q lines → IsUnderAll q (after_lines at_first lines) → unit_count lines ≤ work_over ts
      by_asked [] e = where_nothing e
      by_asked (l ∷ ls) e =
          let asked = subst (λ (ms : List Literal). Contains ms l) (sym e) (has_first l ls) in
          let (t, sign, listed, is) = asked_listed q boolean l asked in
          where_asked t sign (subst (Contains (literals_asked q)) is asked) listed

pub boolean_work_is_bounded : BooleanWorkIsBounded
boolean_work_is_bounded = record {
  lines = λ q lines y boolean legal. of_clauses q boolean at_first no_point y lines legal (first_stands q boolean);
  units = λ q ts lines boolean all legal under. units q boolean ts all lines legal under;
  spent = λ q ts work boolean all h. subst (λ (n : ℕ). n ≤ work_over ts) h.spent (units q boolean ts all work.lines h.legal (h.under boolean.goals));
}
