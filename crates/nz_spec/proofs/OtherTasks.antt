-- A check may begin, and go on, as that of a task may that asks the same of other terms, or numbers them in another way.
use Rattle.std.proofs.Common.{◌≡◌, ℕ, suc, ◌≤◌, Bool, true, false, not, ◌&&◌, ◌||◌, ◌⊎◌, inl, inr, List, [], ◌∷◌, ◌++◌, All, Contains, length, flat_map, Option, Some, refl, sym, ap₂, ◌∙◌, true≢false, arith}
use Rattle.std.specs.Prelude.{◌==◌, count_by, get_or, slice_get}
use Rattle.std.specs.List.{list_all, list_any}
use Rattle.std.proofs.lemmas.Bool.{and_from, and_parts}
use Rattle.std.proofs.lemmas.List.Elements.{All-contains, All-weaker, Contains-append_cases, Contains-append_left, Contains-append_right, Contains-get_or}
use Rattle.std.proofs.lemmas.List.Sums.{AllPass-from_list_all, list_all-from_AllPass}
use Rattle.std.proofs.lemmas.List.Folds.{Any-from_list_any, list_any-from_Any}
use Rattle.nz_fractions.specs.Fraction.{Fraction, fraction_eq, Operation, first_wide}
use Rattle.nz_spec.specs.terms.Term.{Term, Assignment, is_true, value_of, int_sort, are_same_sort, sort_of}
use Rattle.nz_spec.specs.terms.Model.{Binding, assignment_of}
use Rattle.nz_spec.specs.terms.Operations.{operations_of}
use Rattle.nz_spec.specs.terms.Form.{Numbering, Part, unit_value}
use Rattle.nz_spec.specs.terms.Same.{are_same_term}
use Rattle.nz_spec.specs.terms.Order.{listing_order}
use Rattle.nz_spec.specs.clauses.Gates.{is_boolean_term}
use Rattle.nz_spec.specs.clauses.Literal.{Literal, SayTheSame, are_same_sign, is_literal_true}
use Rattle.nz_spec.specs.clauses.Met.{MeetsClauses}
use Rattle.nz_spec.specs.simplex.Basis.{Valuation}
use Rattle.nz_spec.specs.simplex.Bland.{Point, Position}
use Rattle.nz_spec.specs.simplex.LiteralBounds.{is_unit_form}
use Rattle.nz_spec.specs.simplex.Climb.{IsInRange, Family, member, linear_literals, unit_of}
use Rattle.nz_spec.specs.simplex.Families.{operations_along}
use Rattle.nz_spec.specs.search.Work.{DecisionEntry, LearnedEntry, PivotEntry, BranchEntry, FoundEntry, WorkLine, UnitLine, NoteLine, WorkList}
use Rattle.nz_spec.specs.search.Notes.{Note, start_note, atom_note, form_note, goal_note, under_note, told_note, Site, term_site, goal_site, joining_site, exchange_site, value_site, sum_site, cut_site, tight_site, split_site, move_site, limit_site, model_site, worth_site, line_site, goal_line_site, scaling_site, Place}
use Rattle.nz_spec.specs.clauses.Goals.{Goal, IsBest}
use Rattle.nz_spec.specs.clauses.Wishes.{Wish}
use Rattle.nz_spec.specs.terms.FormOf.{is_taken_whole}
use Rattle.nz_spec.specs.search.Branches.{Branch, is_plain, is_integer_of}
use Rattle.nz_spec.specs.search.Search.{Task, terms_known, goals_known, Found, Search, at_first, no_point, point_at, position_of, MayBe, IsHeld, IsMember}
use Rattle.nz_spec.specs.search.Atoms.{IsTruth, IsTabled, IsBoundOf, IsBroken, IsCut, IsInTurn, on_unit, on_cut, bounds_asserted, HasUnit, WasTold, MayBranch, IsAtom, of_term, of_table, of_beginning, of_split, of_branch}
use Rattle.nz_spec.specs.search.Beginnings.{IsKnownForm, of_bound, of_goal, IsKnownPlace, at_zero, at_bound, MayBegin, IsComparison, MaySearchUnder, MayKeep, MayClimbUnder, MayGoUnder}
use Rattle.nz_spec.specs.search.Legal.{IsClimbing, Drifts, MayDrift, IsExchange, MayImprove, found_at, after_line, after_lines, MayFollow, Lead, are_alike, AreSpread, AreFew, AreLegal, IsSpentLegally}
use Rattle.nz_spec.specs.search.Places.{IsWishOf, IsOfWish, IsOfPenalty, term_operations, IsOfTerm, IsModelAt, IsOfWorth, IsSteadyFor, Begins, IsOfLine, IsToldEnough, IsDue, IsOperationAt, IsStoppedLegally}
use Rattle.nz_spec.proofs.FlatLists.{all_fewer, count_more}
use Rattle.nz_spec.proofs.SameSums.{say_back, say_along, say_units, say_truth, say_broken}

-- ---- Beginnings

module _ (ts us : List Term) (within : (t : Term) → Contains ts t → Contains us t) where
  tabled-more : (number : Numbering) (l : Literal) → IsTabled number ts l → IsTabled number us l
  tabled-more number l h = record { term = h.term; listed = within h.term h.listed; row = h.row; tabled = h.tabled; linear = h.linear; has = h.has }

  pub bound-more : (number : Numbering) (l : Literal) → IsBoundOf number ts l → IsBoundOf number us l
  bound-more number l h = record {
    plain = h.plain;
    tabled = tabled-more number h.plain h.tabled;
    written = h.written;
    same = h.same;
    is_tight = h.is_tight;
    is = h.is;
  }

  pub truth-more : (l : Literal) → IsTruth ts l → IsTruth us l
  truth-more l h = record { term = h.term; boolean = h.boolean; listed = within h.term h.listed; is = h.is }

  integer-more : (u : Term) → is_integer_of ts u ≡ true → is_integer_of us u ≡ true
  integer-more u e =
      let unit = and_parts (is_taken_whole u) (are_same_sort (sort_of u) int_sort && list_any (are_same_term u) ts) e in
      let both = and_parts (are_same_sort (sort_of u) int_sort) (list_any (are_same_term u) ts) unit.1 in
      let found = Any-from_list_any (are_same_term u) ts both.1 in
      let there = within found.1 (found.0, found.2, found.3) in
      and_from (is_taken_whole u) (are_same_sort (sort_of u) int_sort && list_any (are_same_term u) us) unit.0
      (and_from (are_same_sort (sort_of u) int_sort) (list_any (are_same_term u) us) both.0 (list_any-from_Any (are_same_term u) us (there.0, found.1, there.1, there.2, found.4)))

  plain-more : (ps : List Part) → is_plain ts ps ≡ true → is_plain us ps ≡ true
  plain-more [] e = absurd (true≢false (sym e))
  plain-more (p ∷ ps) e =
      let both = and_parts (is_unit_form (p ∷ ps)) (is_integer_of ts p.unit) e in
      and_from (is_unit_form (p ∷ ps)) (is_integer_of us p.unit) both.0 (integer-more p.unit both.1)

  module _ (gs hs : List Goal) (goals : (g : Goal) → Contains gs g → Contains hs g) where
    form-more : (f : List Part) → (f ≡ []) ⊎ IsKnownForm ts gs f → (f ≡ []) ⊎ IsKnownForm us hs f
    form-more f (inl none) = inl none
    form-more f (inr (of_bound number l tabled sum)) = inr (of_bound number l (tabled-more number l tabled) sum)
    form-more f (inr (of_goal g has sum)) = inr (of_goal g (goals g has) sum)

    place-more : (fs : List (List Part)) (k : ℕ) (v : _) → IsKnownPlace ts fs k v → IsKnownPlace us fs k v
    place-more fs k v (at_zero e) = at_zero e
    place-more fs k v (at_bound number l side h e) = at_bound number l side (bound-more number l h) e

    pub begin-more : (fs : List (List Part)) (x : Point) → MayBegin ts gs fs x → MayBegin us hs fs x
    begin-more fs x h = record {
      known = All-weaker (λ (f : List Part). (f ≡ []) ⊎ IsKnownForm ts gs f) (λ (f : List Part). (f ≡ []) ⊎ IsKnownForm us hs f) form-more fs h.known;
      once = h.once;
      basis = h.basis;
      places = λ k v e. place-more fs k v (h.places k v e);
    }

-- ---- Lines

either-more : {A : Type 0} (xs ys zs ws : List A) → ((x : A) → Contains xs x → Contains zs x) → ((x : A) → Contains ys x → Contains ws x) → (x : A) → Contains (xs ++ ys) x → Contains (zs ++ ws) x
either-more xs ys zs ws first second x has =
    elim (Contains-append_cases xs ys x has) [
      | inl here ↦ Contains-append_left zs ws x (first x here)
      | inr there ↦ Contains-append_right zs ws x (second x there)
    ]

-- Another task asks of the same: of these terms, by this numbering, behind these checks.
abbrev pub other_task : Task → (listed earlier : List Term) (earlier_goals : List Goal) → Numbering → Task
other_task q listed earlier earlier_goals numbering = record q { listed = listed; earlier = earlier; earlier_goals = earlier_goals; numbering = numbering }

-- each of the first literals says the same as one of the others
abbrev pub AreAmong : List Literal → List Literal → Type 0
AreAmong ls ks = (l : Literal) → Contains ls l → (k : Literal) × Contains ks k × SayTheSame l k

all_of : {A : Type 0} (P : A → Type 0) (xs : List A) → ((x : A) → Contains xs x → P x) → All P xs
all_of P xs each k d inside = each (get_or xs k d) (Contains-get_or xs k d inside)

-- what holds of literals that say the same holds of each of these
all_among : (P : Literal → Type 0) (ls ks : List Literal) → ((l k : Literal) → SayTheSame l k → P k → P l) → AreAmong ls ks → All P ks → All P ls
all_among P ls ks keeps among all = all_of P ls (λ l has. let there = among l has in keeps l there.0 there.2 (All-contains P ks there.0 all there.1))

-- What the first task lists, and what its tables say, stands for the other one.
pub record Allows (q r : Task) : Type 0 where
  pub listed : (t : Term) → Contains q.listed t → Contains r.listed t
  pub earlier : (t : Term) → Contains q.earlier t → Contains r.earlier t
  pub goals : (g : Goal) → Contains q.earlier_goals g → Contains r.earlier_goals g
  pub bound : (l : Literal) → IsBoundOf q.numbering q.listed l → IsBoundOf r.numbering r.listed l
  pub bounds : AreAmong (flat_map (bounds_asserted r.numbering) r.asserted) (flat_map (bounds_asserted q.numbering) q.asserted)
  pub asserted : AreAmong (linear_literals r.numbering (flat_map listing_order r.asserted)) (linear_literals q.numbering (flat_map listing_order q.asserted))
  pub literals : AreAmong (linear_literals q.numbering q.listed) (linear_literals r.numbering r.listed)
  pub met : (truths : Term → Option Bool) (v : Valuation) → MeetsClauses truths v q.numbering (flat_map listing_order q.asserted) → MeetsClauses truths v r.numbering (flat_map listing_order r.asserted)
  pub operation : (t : Term) (op : Operation) → Contains q.listed t → Contains (term_operations q.numbering t) op → Contains (term_operations r.numbering t) op

told_too : (s : Search) (m k : Literal) → SayTheSame m k → WasTold s k → WasTold s m
told_too s m k same (l, says, sign, is_tight, told) = (l, say_along l k m says (say_back m k same), sign, is_tight, told)

module _ (q : Task) (listed earlier : List Term) (earlier_goals : List Goal) (numbering : Numbering) (allows : Allows q (other_task q listed earlier earlier_goals numbering)) where
  abbrev r : Task
  r = other_task q listed earlier earlier_goals numbering

  abbrev more : (t : Term) → Contains q.listed t → Contains listed t
  more = allows.listed

  terms-more : (t : Term) → Contains (terms_known q) t → Contains (terms_known r) t
  terms-more = either-more q.earlier q.listed earlier listed allows.earlier more

  goals-more : (g : Goal) → Contains (goals_known q) g → Contains (goals_known r) g
  goals-more = either-more q.earlier_goals q.goals earlier_goals q.goals allows.goals (λ g has. has)

  held-more : (found : List Found) (i : ℕ) (a : Assignment) → IsHeld q found i a → IsHeld r found i a
  held-more found i a h = record { model = h.model; held = h.held }

  held-fewer : (found : List Found) (i : ℕ) (a : Assignment) → IsHeld r found i a → IsHeld q found i a
  held-fewer found i a h = record { model = h.model; held = h.held }

  may-be-fewer : (s : Search) (a : Assignment) → MayBe r s a → MayBe q s a
  may-be-fewer s a h = record { model = h.model; decided = h.decided }

  branch-more : (s : Search) (x : Point) (l : Literal) → MayBranch q s x l → MayBranch r s x l
  branch-more s x l h = record {
    parts = h.parts;
    above = h.above;
    is = h.is;
    between = h.between;
    turn = turn h.turn;
    new = h.new;
    within = h.within;
    meets =
        all_among (λ (m : Literal). HasUnit m → IsBroken (position_of s x) m → ⊥) (flat_map (bounds_asserted numbering) q.asserted) (flat_map (bounds_asserted q.numbering) q.asserted)
        (λ m k same whole unit broken. whole (say_units m k same unit) (say_broken (position_of s x) m k same broken)) allows.bounds h.meets;
    all_told =
        all_among (λ (m : Literal). HasUnit m → WasTold s m) (linear_literals numbering (flat_map listing_order q.asserted)) (linear_literals q.numbering (flat_map listing_order q.asserted))
        (λ m k same told unit. told_too s m k same (told (say_units m k same unit))) allows.asserted h.all_told;
  }
    where
      by_test : (b : Branch) → IsCut s x l → ((i : ℕ) (c : Branch) → suc i ≡ length s.branches → slice_get s.branches i ≡ Some c → is_plain q.listed c.parts ≡ true)
          → (t : Bool) → is_plain listed b.parts ≡ t → IsInTurn r s x l b
      by_test b c before true e = on_unit e
      by_test b c before false e = on_cut e c (λ i d last at. plain-more q.listed listed more d.parts (before i d last at))

      turn : {b : Branch} → IsInTurn q s x l b → IsInTurn r s x l b
      turn {b} (on_unit e) = on_unit (plain-more q.listed listed more b.parts e)
      turn {b} (on_cut e c before) = by_test b c before (is_plain listed b.parts) refl

  atom-more : (s : Search) (x : Point) (l : Literal) → IsAtom q s x l → IsAtom r s x l
  atom-more s x l (of_term h) = of_term (truth-more q.listed listed more l h)
  atom-more s x l (of_table h) = of_table (allows.bound l h)
  atom-more s x l (of_beginning h) = of_beginning h
  atom-more s x l (of_split h) = of_split (branch-more s x l h)
  atom-more s x l (of_branch m named branched e) = of_branch m named branched e

  comparison-more : (s : Search) (x : Point) (l : Literal) → IsComparison q s x l → IsComparison r s x l
  comparison-more s x l h = record {
    goal = h.goal;
    which = h.which;
    listed = h.listed;
    value = h.value;
    known = h.known;
    from_above = h.from_above;
    strict = h.strict;
    is = h.is;
  }

  searched-more : (s : Search) (x : Point) (l : Literal) → Contains q.assumed l ⊎ IsComparison q s x l → Contains q.assumed l ⊎ IsComparison r s x l
  searched-more s x l (inl h) = inl h
  searched-more s x l (inr h) = inr (comparison-more s x l h)

  keep-more : (s : Search) (l : Literal) → MayKeep q s l → MayKeep r s l
  keep-more s l (inl h) = inl h
  keep-more s l (inr (u, has, sort, is)) = inr (u, more u has, sort, is)

  member-more : (s : Search) (g : Goal) (v : _) (a : Assignment) → IsMember q s g v a → IsMember r s g v a
  member-more s g v a h = record {
    before = h.before;
    last = h.last;
    found = h.found;
    listed = h.listed;
    value = h.value;
    held = held-more s.found h.last.goal a h.held;
    has = h.has;
  }

  climb-more : (s : Search) (ls : List Literal) → MayClimbUnder q s ls → MayClimbUnder r s ls
  climb-more s ls h = record {
    goal = h.goal;
    value = h.value;
    member = h.member;
    is_member = member-more s h.goal h.value h.member h.is_member;
    hold = h.hold;
    kept = All-weaker (MayKeep q s) (MayKeep r s) (keep-more s) ls h.kept;
  }

  under-more : (s : Search) (x : Point) (ls : List Literal) → MayGoUnder q s x ls → MayGoUnder r s x ls
  under-more s x ls h = record { literals = either h.literals; first = h.first }
    where
      either : MaySearchUnder q s x ls ⊎ MayClimbUnder q s ls → MaySearchUnder r s x ls ⊎ MayClimbUnder r s ls
      either (inl search) =
          inl (All-weaker (λ (l : Literal). Contains q.assumed l ⊎ IsComparison q s x l) (λ (l : Literal). Contains q.assumed l ⊎ IsComparison r s x l) (searched-more s x) ls search)
      either (inr climb) = inr (climb-more s ls climb)

  climbing-more : (s : Search) (x y : Point) (i j : ℕ) → IsClimbing q s x y i j → IsClimbing r s x y i j
  climbing-more s x y i j h =
      let k = h.sought in
      record {
        within = h.within;
        form = h.form;
        way = h.way;
        sought = record {
          before = k.before;
          last = k.last;
          found = k.found;
          goal = k.goal;
          listed = k.listed;
          side = k.side;
          form_is = k.form_is;
          way_is = k.way_is;
        };
        step = h.step;
      }

  drifts-more : (s : Search) (x y : Point) (js : List ℕ) → Drifts q s x js y → Drifts r s x js y
  drifts-more s x y [] same = same
  drifts-more s x y (j ∷ js) (mid, climbing, rest) = (mid, climbing-more s x mid j j climbing, drifts-more s mid y js rest)

  drift-more : (s : Search) (x y : Point) → MayDrift q s x y → MayDrift r s x y
  drift-more s x y (js, drift) = (js, drifts-more s x y js drift)

  exchange-more : (s : Search) (x y : Point) (i j : ℕ) → IsExchange q s x y i j → IsExchange r s x y i j
  exchange-more s x y i j (inl step) = inl step
  exchange-more s x y i j (inr (apart, climbing)) = inr (apart, climbing-more s x y i j climbing)

  improve-more : (s : Search) (f : Found) → MayImprove q s f → MayImprove r s f
  improve-more s f h = record {
    goal = h.goal;
    listed = h.listed;
    in_order = h.in_order;
    better = h.better;
    before = λ j g earlier at. let known = h.before j g earlier at in (known.0, known.1, best j g known.0 known.2);
    member = h.member;
    held = held-more s.found f.goal h.member h.held;
    has = h.has;
  }
    where
      best : (j : ℕ) (g : Goal) (v : _) → IsBest (IsHeld q s.found j) g v → IsBest (IsHeld r s.found j) g v
      best j g v b = record {
        best = b.best;
        counts = held-more s.found j b.best b.counts;
        has = b.has;
        unbeaten = λ a counts. b.unbeaten a (held-fewer s.found j a counts);
      }

  line-more : (s : Search) (x y : Point) (line : WorkLine Note) → MayFollow q s x line y → MayFollow r s x line y
  line-more s x y (NoteLine (start_note fs places)) may =
      (record { first = may.0.first; may_begin = begin-more (terms_known q) (terms_known r) terms-more (goals_known q) (goals_known r) goals-more fs (point_at places) may.0.may_begin }, may.1)
  line-more s x y (NoteLine (atom_note l)) may =
      (record { atom = atom-more s x l may.0.atom; fresh = may.0.fresh; negation_fresh = may.0.negation_fresh }, may.1)
  line-more s x y (NoteLine (form_note atom)) may = may
  line-more s x y (NoteLine (goal_note sum)) may = (record { goal = may.0.goal; listed = may.0.listed; is = may.0.is; new = may.0.new }, may.1)
  line-more s x y (NoteLine (under_note ls)) may = (under-more s x ls may.0, may.1)
  line-more s x y (NoteLine (told_note t)) may =
      (record { there = may.0.there; new = may.0.new; follows = λ a be. may.0.follows a (may-be-fewer s a be) }, may.1)
  line-more s x y (UnitLine (DecisionEntry atom sign)) may = (record { named = may.0.named; undecided = may.0.undecided; free = may.0.free }, may.1)
  line-more s x y (UnitLine (LearnedEntry keep clause)) may = (
    record {
      fewer = may.0.fewer;
      dead_end = λ a be. may.0.dead_end a (may-be-fewer s a be);
      follows = may.0.follows;
      named = may.0.named;
      once = may.0.once;
      new = may.0.new;
    },
    may.1,
  )
  line-more s x y (UnitLine (PivotEntry i j)) may = exchange-more s x y i j may
  line-more s x y (UnitLine (BranchEntry atom)) may = (record { last = may.0.last; may = λ l at. branch-more s x l (may.0.may l at) }, may.1)
  line-more s x y (UnitLine (FoundEntry goal value)) may = (improve-more s (found_at goal value) may.0, may.1)

  leads-more : (s : Search) (x y : Point) (lines : List (WorkLine Note)) → Lead q s x lines y → Lead r s x lines y
  leads-more s x y [] drift = drift-more s x y drift
  leads-more s x y (line ∷ lines) (start, end, drift, may, legal) =
      (start, end, drift-more s x start drift, line-more s start end line may, leads-more (after_line s line) end y lines legal)

  -- ---- Counts

  table-more : (l : Literal) → IsTruth q.listed l ⊎ IsBoundOf q.numbering q.listed l → IsTruth listed l ⊎ IsBoundOf numbering listed l
  table-more l (inl h) = inl (truth-more q.listed listed more l h)
  table-more l (inr h) = inr (allows.bound l h)

  -- those that are alike in more are alike in fewer
  alike-fewer : (a b : Assignment) → are_alike r a b ≡ true → are_alike q a b ≡ true
  alike-fewer a b e =
      let truths : Term → Bool = λ t. not (is_boolean_term t) || are_same_sign (is_true (value_of a t)) (is_true (value_of b t)) in
      let literals : Literal → Bool = λ l. are_same_sign (is_literal_true a l) (is_literal_true b l) in
      let numbers : Term → Bool = λ u. not (are_same_sort (sort_of u) int_sort) || fraction_eq (unit_value a u) (unit_value b u) in
      let theirs = linear_literals numbering listed in
      let ours = linear_literals q.numbering q.listed in
      let both = and_parts (list_all truths listed && list_all literals theirs) (list_all numbers listed) e in
      let first = and_parts (list_all truths listed) (list_all literals theirs) both.0 in
      let each = all_among (λ l. literals l ≡ true) ours theirs (λ l k same true_there. ap₂ are_same_sign (say_truth a l k same) (say_truth b l k same) ∙ true_there) allows.literals (AllPass-from_list_all literals theirs first.1) in
      and_from (list_all truths q.listed && list_all literals ours) (list_all numbers q.listed)
      (and_from (list_all truths q.listed) (list_all literals ours) (all_fewer truths q.listed listed more first.0) (list_all-from_AllPass literals ours each))
      (all_fewer numbers q.listed listed more both.1)

  few-alike : (members : List (Found × Assignment)) (m : Found × Assignment) → count_by (λ (n : Found × Assignment). (m.0.goal == n.0.goal) && are_alike q m.1 n.1) members ≤ 4
      → count_by (λ (n : Found × Assignment). (m.0.goal == n.0.goal) && are_alike r m.1 n.1) members ≤ 4
  few-alike members m few =
      omega (
        arith,
        few,
        count_more (λ (n : Found × Assignment). (m.0.goal == n.0.goal) && are_alike r m.1 n.1) (λ (n : Found × Assignment). (m.0.goal == n.0.goal) && are_alike q m.1 n.1)
            (λ n e. let both = and_parts (m.0.goal == n.0.goal) (are_alike r m.1 n.1) e in and_from (m.0.goal == n.0.goal) (are_alike q m.1 n.1) both.0 (alike-fewer m.1 n.1 both.1)) members,
      )

  spread-more : (found : List Found) → AreSpread q found → AreSpread r found
  spread-more found h = record {
    members = h.members;
    values = h.values;
    held = All-weaker (λ (m : Found × Assignment). IsHeld q found m.0.goal m.1) (λ (m : Found × Assignment). IsHeld r found m.0.goal m.1) (λ m held. held-more found m.0.goal m.1 held) h.members h.held;
    has = h.has;
    few = All-weaker (λ (m : Found × Assignment). count_by (λ (n : Found × Assignment). (m.0.goal == n.0.goal) && are_alike q m.1 n.1) h.members ≤ 4)
        (λ (m : Found × Assignment). count_by (λ (n : Found × Assignment). (m.0.goal == n.0.goal) && are_alike r m.1 n.1) h.members ≤ 4) (few-alike h.members) h.members h.few;
  }

  few-more : (s : Search) → AreFew q s → AreFew r s
  few-more s h = record {
    atoms = λ others once all. h.atoms others once (All-weaker (λ (l : Literal). Contains s.atoms l × (IsTruth listed l ⊎ IsBoundOf numbering listed l → ⊥))
        (λ (l : Literal). Contains s.atoms l × (IsTruth q.listed l ⊎ IsBoundOf q.numbering q.listed l → ⊥)) (λ l other. (other.0, λ of. other.1 (table-more l of))) others all);
    begun = h.begun;
    spread = spread-more s.found h.spread;
  }

  pub legal-more : (lines : List (WorkLine Note)) → AreLegal q lines → AreLegal r lines
  legal-more lines h = record {
    point = h.point;
    lead = leads-more at_first no_point h.point lines h.lead;
    few = few-more (after_lines at_first lines) h.few;
  }

  -- ---- Ends

  pub spent-more : (work : WorkList Note) → IsSpentLegally q work → IsSpentLegally r work
  unfolding legal-more
  spent-more work h = record {
    spent = h.spent;
    legal = legal-more work.lines h.legal;
    wanted = h.wanted;
    after = h.after;
    may = line-more (after_lines at_first work.lines) h.legal.point h.after (UnitLine h.wanted) h.may;
    under = h.under;
  }

  model-more : (p : Position) (bs : List Binding) → IsModelAt q p bs → IsModelAt r p bs
  model-more p bs h = record { within = h.within; delta = h.delta; chosen = h.chosen; gives = h.gives; fits = h.fits; makes = h.makes }

  begins-more : (lines : List (WorkLine Note)) (s : Search) (x : Point) (f : Family) → Begins q lines s x f → Begins r lines s x f
  begins-more lines s x f h = record {
    front = h.front;
    more = h.more;
    list = h.list;
    there = h.there;
    before = leads-more at_first no_point h.there h.front h.before;
    behind = leads-more (after_lines at_first h.front) h.there x h.more h.behind;
    model = h.model;
    is_model = model-more (position_of (after_lines at_first h.front) h.there) h.model h.is_model;
    starts = h.starts;
  }

  steady-more : (s : Search) (f : Family) → IsSteadyFor q s f → IsSteadyFor r s f
  steady-more s f h = record {
    before = h.before;
    last = h.last;
    found = h.found;
    steady = record {
      reached = h.steady.reached;
      courses = h.steady.courses;
      members = λ n within. held-more s.found h.last.goal (member f n) (h.steady.members n within);
      truths = h.steady.truths;
      units = h.steady.units;
      integers = h.steady.integers;
      divisors = h.steady.divisors;
      all = h.steady.all;
    };
  }

  abbrev wish-more : (before : List Wish) (w : Wish) → IsWishOf q before w → IsWishOf r before w
  wish-more before w h = record { group = h.group; listed = h.listed; behind = h.behind; wishes = h.wishes; number = h.number; goal = h.goal }

  penalty-more : (a : Assignment) (t : Term) (op : Operation) → IsOfPenalty q a t op → IsOfPenalty r a t op
  penalty-more a t op h = record {
    before = h.before;
    wish = h.wish;
    is_wish = wish-more h.before h.wish h.is_wish;
    cost = h.cost;
    unmet = h.unmet;
    fits = h.fits;
    of = h.of;
  }

  term-more : (t : Term) (op : Operation) → IsOfTerm q t op → IsOfTerm r t op
  term-more t op h = record { listed = more t h.listed; of = of h.of }
    where
      of : Contains (term_operations q.numbering t) op ⊎ IsOfWish q t op → Contains (term_operations numbering t) op ⊎ IsOfWish r t op
      of (inl own) = inl (allows.operation t op h.listed own)
      of (inr k) = inr (record { before = k.before; wish = k.wish; is_wish = wish-more k.before k.wish k.is_wish; cost = k.cost; of = k.of })

  worth-more : (p : Position) (t : Term) (bs : List Binding) (op : Operation) → IsOfWorth q p t bs op → IsOfWorth r p t bs op
  worth-more p t bs op h = record { listed = more t h.listed; model = model-more p bs h.model; of = of h.of }
    where
      of : (first_wide (operations_of (assignment_of bs) t) ≡ Some op) ⊎ IsOfPenalty q (assignment_of bs) t op
          → (first_wide (operations_of (assignment_of bs) t) ≡ Some op) ⊎ IsOfPenalty r (assignment_of bs) t op
      of (inl own) = inl own
      of (inr k) = inr (penalty-more (assignment_of bs) t op k)

  along-more : (s : Search) (p : Position) (t : Term) (f : Family) (op : Operation) → IsOfLine q s p t f op → IsOfLine r s p t f op
  along-more s p t f op h = record { listed = more t h.listed; steady = steady-more s f h.steady; goes = h.goes; of = of h.of }
    where
      of : (first_wide (operations_along f t) ≡ Some op) ⊎ ((at : Fraction) × IsInRange f.range at × IsOfPenalty q (member f at) t op)
          → (first_wide (operations_along f t) ≡ Some op) ⊎ ((at : Fraction) × IsInRange f.range at × IsOfPenalty r (member f at) t op)
      of (inl own) = inl own
      of (inr (at, within, k)) = inr (at, within, penalty-more (member f at) t op k)

  operation-more : (s : Search) (x : Point) (site : Site) (op : Operation) → IsOperationAt q s x site op → IsOperationAt r s x site op
  unfolding comparison-more
  operation-more s x (term_site t) op h = term-more t op h
  operation-more s x (goal_site goal) op h = record { literal = h.literal; comparison = comparison-more s x h.literal h.comparison; of_goal = h.of_goal; of = h.of }
  operation-more s x joining_site op h = h
  operation-more s x (exchange_site leaves enters) op h = h
  operation-more s x (value_site form) op h = h
  operation-more s x (sum_site ms) op h = h
  operation-more s x (cut_site ms) op h = h
  operation-more s x (tight_site l) op h = h
  operation-more s x (split_site unit) op h =
      record { listed = more unit h.listed; integer = h.integer; value = h.value; has = h.has; above = h.above; low = h.low; high = h.high; of = h.of }
  operation-more s x (move_site form moves side) op h = h
  operation-more s x (limit_site form side) op h = h
  operation-more s x (model_site form) op h = record {
    within = h.within;
    constant = h.constant;
    is_listed = more (unit_of h.constant) h.is_listed;
    is = h.is;
    value = h.value;
    has = h.has;
    delta = h.delta;
    chosen = h.chosen;
    first = h.first;
  }
  operation-more s x (worth_site t bs) op h = worth-more (position_of s x) t bs op h
  operation-more s x (line_site t f) op h = along-more s (position_of s x) t f op h
  operation-more s x (goal_line_site goal f) op h =
      record { which = h.which; listed = h.listed; steady = steady-more s f h.steady; goes = h.goes; first = h.first }
  operation-more s x (scaling_site forms moves) op h = h

  enough-more : (s : Search) → IsToldEnough q s → IsToldEnough r s
  enough-more s (truths, each) = (
    truths,
    λ v told.
        let h = each v told in record { held = h.held; decided = h.decided; clauses = allows.met truths v h.clauses },
  )

  due-more : (lines : List (WorkLine Note)) (s : Search) (x : Point) (site : Site) → IsDue q lines s x site → IsDue r lines s x site
  due-more lines s x (term_site t) h = h
  due-more lines s x (goal_site goal) h = h
  due-more lines s x joining_site h = h
  due-more lines s x (exchange_site leaves enters) (y, exchange) = (y, exchange-more s x y leaves enters exchange)
  due-more lines s x (value_site form) h = h
  due-more lines s x (sum_site ms) h = h
  due-more lines s x (cut_site ms) h = h
  due-more lines s x (tight_site l) h = h
  due-more lines s x (split_site unit) h = h
  due-more lines s x (move_site form moves side) h = h
  due-more lines s x (limit_site form side) h = enough-more s h
  due-more lines s x (model_site form) h = enough-more s h
  due-more lines s x (worth_site t bs) h = enough-more s h
  due-more lines s x (line_site t f) (told, begins) = (told, begins-more lines s x f begins)
  due-more lines s x (goal_line_site goal f) (told, begins) = (told, begins-more lines s x f begins)
  due-more lines s x (scaling_site forms moves) h = h

  pub stopped-more : (work : WorkList Note) (place : Place) → IsStoppedLegally q work place → IsStoppedLegally r work place
  unfolding legal-more
  stopped-more work place h = record {
    within = h.within;
    legal = legal-more work.lines h.legal;
    leaves = h.leaves;
    due = due-more work.lines (after_lines at_first work.lines) h.legal.point place.site h.due;
    at = operation-more (after_lines at_first work.lines) h.legal.point place.site place.operation h.at;
  }
