-- Where a part joins those of a form.
use Rattle.std.proofs.Common.{◌≡◌, ℕ, ◌<◌, ◌≤◌, ◌&&◌, suc, Bool, true, false, List, [], ◌∷◌, ◌++◌, length, take, drop, set, get_or, slice_get, Some, None, Result, Ok, Err, OnOk, refl, sym, ap, subst, ◌∙◌, arith, if◌then◌else◌}
use Rattle.std.specs.Prelude.{nat_lt, pos, remove}
use Rattle.std.specs.List.{AllByRecursion, AllWithin, HoldsAt}
use Rattle.std.specs.List.Sorted.{IsNonDecreasingBy, IsPartitionPoint}
use Rattle.std.specs.Ordering.{nat_cmp, ordering_index}
use Rattle.std.specs.declared.cmp.Ordering.TheVariants.{Less, Equal, Greater}
use Rattle.std.proofs.lemmas.Bool.{and_parts}
use Rattle.std.proofs.lemmas.Bool.Decides.{nat_tests}
use Rattle.std.proofs.lemmas.Cmp.{ranked}
use Rattle.std.proofs.lemmas.List.{map-append, set_split, take-append-drop}
use Rattle.nz_lists.proofs.Places.{drop_found}
use Rattle.nz_spec.specs.numbers.Computation.{Computation, operated, at_once, turned_into}
use Rattle.nz_spec.specs.terms.Form as spec
use Rattle.nz_spec.specs.terms.Form.{MayPrecede, with_part, part_alone, part_joined}
use Rattle.nz_spec.specs.terms.FormOf.{number_in, TermHasItsNumber}
use Rattle.nz_spec.specs.laws.FormPlace.{JoinsAtItsPlace}
use Rattle.nz_fractions.specs.Fraction.{Fraction, Arithmetic, whole as whole_number, first_wide}
use Rattle.nz_spec.specs.clauses.Literal.{Literal, TellsLiterals, are_same_sign, are_same_term, term_literal}
use Rattle.nz_spec.specs.terms.Table.{IsTable, Node, term_in}
use Rattle.nz_spec.specs.terms.Term.{Term, is_zero}
use Rattle.nz_term.specs.declared.stops.ArithmeticStop.{ArithmeticStop}
use Rattle.nz_lin.specs.declared.form.Part.{Part}
use Rattle.nz_lin.specs.declared.form.Sign.{Sign}
use Rattle.nz_lin.specs.declared.form.Sign.TheVariants.{Plus, Minus}
use Rattle.nz_term.specs.Stops.{IsStopAt}
use Rattle.nz_lin.specs.Forms.{NamesUnit, AreInOrder, AreUnits, meeting, negated, part_over, parts_over, with_met}
use Rattle.nz_lin.specs.Comes.{IsDone, Comes, alone, arithmetic_of}
use Rattle.nz_fractions.proofs.FirstOperations.{no_operation}
use Rattle.nz_lin.proofs.Units.{all_back, all_before, all_behind, all_front, changed, order_at, units_changed, units_with, units_without}

-- ---- What a search for a unit finds

module _ (xs : List Part) (u : ℕ) where
  rises : AreInOrder xs → IsNonDecreasingBy (λ (p : Part). ordering_index (nat_cmp p.unit u)) xs
  rises order i j d le inside =
      let up : (get_or xs i d).unit ≤ (get_or xs j d).unit = grind (arith, order_at xs order i j d, λ (same : i ≡ j). ap (λ (k : ℕ). (get_or xs k d).unit) same) in
      grind (arith, nat_tests)

  pub found : (place : ℕ) → HoldsAt (λ (p : Part). nat_cmp p.unit u ≡ Equal) xs place → (d : Part) → (get_or xs place d).unit ≡ u
  found place h d = ranked (get_or xs place d).unit u _ (sym (h d))

  pub parted : AreInOrder xs → (place : ℕ)
      → (IsNonDecreasingBy (λ (p : Part). ordering_index (nat_cmp p.unit u)) xs → IsPartitionPoint (λ (p : Part). nat_cmp p.unit u ≡ Less) (λ (p : Part). nat_cmp p.unit u ≡ Greater) xs place)
      → AllWithin (λ (p : Part). p.unit < u) xs 0 place × AllWithin (λ (p : Part). u < p.unit) xs place (length xs)
  parted order place h =
      let both = h (rises order) in
      (λ k d low high. ranked (get_or xs k d).unit u _ (sym (both.0 k d low high)), λ k d low high. ranked (get_or xs k d).unit u _ (sym (both.1 k d low high)))

-- the parts before the place of a unit that is there have lesser numbers
pub before_found : (xs : List Part) → AreInOrder xs → (u place : ℕ) → place < length xs → ((d : Part) → (get_or xs place d).unit ≡ u) → AllWithin (λ (p : Part). p.unit < u) xs 0 place
before_found xs order u place inside is k d low high = subst (λ (v : ℕ). (get_or xs k d).unit < v) (is d) (order_at xs order k place d high inside)

-- ---- Joining

not_true : (b : Bool) → (b ≡ true → ⊥) → b ≡ false
not_true false h = refl
not_true true h = absurd (h refl)

less_to : (m n : ℕ) → m < n → nat_lt m n ≡ true
less_to m n h = grind (arith, nat_tests)

-- ---- Which terms are one

-- the term of a literal on a term; another literal has none
abbrev term_or : Term → Literal → Term
term_or u (term_literal t sign) = t
term_or u l = u

module _ (tells : TellsLiterals) where
  pub one_term : (t : Term) → are_same_term t t ≡ true
  one_term t = (and_parts (are_same_term t t) (are_same_sign true true) (tells.one (term_literal t true))).0

  same_term : (t u : Term) → are_same_term t u ≡ true → t ≡ u
  same_term t u e = ap (term_or u) (tells.same (term_literal t true) (term_literal u true) (ap (λ (b : Bool). b && true) e))

-- ---- The place of a part

module _ (law : JoinsAtItsPlace) (numbers : TermHasItsNumber) (tells : TellsLiterals) (ns : List Node) (table : IsTable ns) (op : Arithmetic) (q : Part) (named : NamesUnit ns q) where
  number_of_unit : (p : Part) → NamesUnit ns p → number_in ns (term_in ns p.unit) ≡ p.unit
  number_of_unit p h = numbers ns table p.unit h.0

  other : (p : Part) → NamesUnit ns p → (p.unit ≡ q.unit → ⊥) → are_same_term (term_in ns p.unit) (term_in ns q.unit) ≡ false
  other p h differ =
      not_true (are_same_term (term_in ns p.unit) (term_in ns q.unit))
      (λ e. differ (sym (number_of_unit p h) ∙ ap (number_in ns) (same_term tells (term_in ns p.unit) (term_in ns q.unit) e) ∙ number_of_unit q named))

  pub may_precede : (p : Part) → NamesUnit ns p → p.unit < q.unit → MayPrecede (number_in ns) (part_over ns p) (part_over ns q)
  may_precede p h below =
      let a = number_of_unit p h in
      let b = number_of_unit q named in
      (omega (arith, below, a, b), other p h (λ e. omega (arith, below, e)))

  precedes : (front : List Part) → AllByRecursion (NamesUnit ns) front → AllByRecursion (λ (p : Part). p.unit < q.unit) front
      → AllByRecursion (λ (p : spec.Part). MayPrecede (number_in ns) p (part_over ns q)) (parts_over ns front)
  precedes [] h below = _
  precedes (p ∷ ps) h below = (may_precede p h.0 below.0, precedes ps h.1 below.1)

  passes : (front rest : List Part) → AreUnits ns (front ++ rest) → AllByRecursion (λ (p : Part). p.unit < q.unit) front
      → part_joined (number_in ns) op (parts_over ns (front ++ rest)) (part_over ns q)
      ≡ turned_into (λ (rs : List spec.Part). parts_over ns front ++ rs) (part_joined (number_in ns) op (parts_over ns rest) (part_over ns q))
  passes front rest h below =
      ap (λ (ps : List spec.Part). part_joined (number_in ns) op ps (part_over ns q)) (map-append (part_over ns) front rest)
      ∙ law.passes (number_in ns) op (parts_over ns front) (parts_over ns rest) (part_over ns q) (precedes front (all_front (NamesUnit ns) front rest h.names) below)

  pub stays : (rest : List Part) → AllByRecursion (NamesUnit ns) rest → AllByRecursion (λ (p : Part). q.unit < p.unit) rest
      → part_joined (number_in ns) op (parts_over ns rest) (part_over ns q) ≡ at_once (part_alone op (part_over ns q) ∷ parts_over ns rest)
  stays [] h above = refl
  stays (p ∷ ps) h above =
      let a = number_of_unit p h.0 in
      let b = number_of_unit q named in
      let less = above.0 in
      law.stays (number_in ns) op (part_over ns p) (parts_over ns ps) (part_over ns q) (other p h.0 (λ e. omega (arith, less, e)))
      (less_to (number_in ns (term_in ns q.unit)) (number_in ns (term_in ns p.unit)) (omega (arith, less, a, b)))

  -- before a unit of a greater number
  pub inserted : (front rest : List Part) (p : Part) → AreUnits ns (front ++ rest) → AllByRecursion (λ (p : Part). p.unit < q.unit) front → AllByRecursion (λ (p : Part). q.unit < p.unit) rest
      → part_over ns p ≡ part_alone op (part_over ns q)
      → IsDone (part_joined (number_in ns) op (parts_over ns (front ++ rest)) (part_over ns q)) (parts_over ns (front ++ p ∷ rest))
  inserted front rest p h below above alone =
      let same = passes front rest h below ∙ ap (turned_into (λ (rs : List spec.Part). parts_over ns front ++ rs)) (stays rest (all_back (NamesUnit ns) front rest h.names) above) in
      subst (λ (c : Computation (List spec.Part)). IsDone c (parts_over ns (front ++ p ∷ rest))) (sym same)
      (record {
        result = map-append (part_over ns) front (p ∷ rest) ∙ ap (λ (r : spec.Part). parts_over ns front ++ r ∷ parts_over ns rest) alone;
        fits = no_operation;
      })

  -- where its unit is
  meets : (front : List Part) (p : Part) (ps : List Part) → AreUnits ns (front ++ p ∷ ps) → AllByRecursion (λ (p : Part). p.unit < q.unit) front → p.unit ≡ q.unit
      → part_joined (number_in ns) op (parts_over ns (front ++ p ∷ ps)) (part_over ns q)
      ≡ turned_into (λ (c : Fraction). parts_over ns front ++ with_part (term_in ns p.unit) c (parts_over ns ps)) (operated op p.coefficient q.coefficient)
  meets front p ps h below same =
      passes front (p ∷ ps) h below
      ∙ ap (turned_into (λ (rs : List spec.Part). parts_over ns front ++ rs))
      (law.meets (number_in ns) op (part_over ns p) (parts_over ns ps) (part_over ns q)
      (ap (λ (u : ℕ). are_same_term (term_in ns u) (term_in ns q.unit)) same ∙ one_term tells (term_in ns q.unit)))

-- ---- The coefficient at a place

module _ (ns : List Node) (old : List Part) (place : ℕ) (p : Part) (at : slice_get old place ≡ Some p) (inside : place < length old) where
  pub split : old ≡ take place old ++ p ∷ drop (suc place) old
  split = sym (take-append-drop place old) ∙ ap (λ (l : List Part). take place old ++ l) (drop_found old place p at)

  -- another one
  set_at : (c : Fraction) → elim (slice_get old place) [ Some r ↦ set old place (changed r c) | None ↦ old ] ≡ take place old ++ changed p c ∷ drop (suc place) old
  set_at c = ap (λ o. elim o [ Some r ↦ set old place (changed r c) | None ↦ old ]) at ∙ set_split old place (changed p c) inside

  over_by : (c : Fraction) (b : Bool)
      → parts_over ns (if b then remove old place else elim (slice_get old place) [ Some r ↦ set old place (changed r c) | None ↦ old ])
      ≡ parts_over ns (take place old) ++ (if b then parts_over ns (drop (suc place) old) else part_over ns (changed p c) ∷ parts_over ns (drop (suc place) old))
  over_by c true = map-append (part_over ns) (take place old) (drop (suc place) old)
  over_by c false = ap (parts_over ns) (set_at c) ∙ map-append (part_over ns) (take place old) (changed p c ∷ drop (suc place) old)

  units_by : (c : Fraction) (b : Bool) → AreUnits ns old → AreUnits ns (if b then remove old place else elim (slice_get old place) [ Some r ↦ set old place (changed r c) | None ↦ old ])
  units_by c true h = units_without ns (take place old) p (drop (suc place) old) (subst (AreUnits ns) split h)
  units_by c false h = subst (AreUnits ns) (sym (set_at c)) (units_changed ns (take place old) p c (drop (suc place) old) (subst (AreUnits ns) split h))

  pub units_met : (c : Fraction) → AreUnits ns old → AreUnits ns (with_met old place c)
  units_met c h = units_by c (is_zero c) h

  module _ (law : JoinsAtItsPlace) (numbers : TermHasItsNumber) (tells : TellsLiterals) (table : IsTable ns) (op : Arithmetic) (q : Part) (named : NamesUnit ns q) (h : AreUnits ns old)
      (below : AllByRecursion (λ (p : Part). p.unit < q.unit) (take place old)) (same : p.unit ≡ q.unit) where
    abbrev whole : Computation (List spec.Part)
    whole = part_joined (number_in ns) op (parts_over ns old) (part_over ns q)

    abbrev with_it : Fraction → List spec.Part
    with_it c = parts_over ns (take place old) ++ with_part (term_in ns p.unit) c (parts_over ns (drop (suc place) old))

    one : meeting old op place q.coefficient ≡ operated op p.coefficient q.coefficient
    one = ap (λ o. operated op (elim o [ Some r ↦ r.coefficient | None ↦ whole_number (pos 0) ]) q.coefficient) at

    joins : whole ≡ turned_into with_it (meeting old op place q.coefficient)
    joins =
        ap (λ (ps : List Part). part_joined (number_in ns) op (parts_over ns ps) (part_over ns q)) split
        ∙ meets law numbers tells ns table op q named (take place old) p (drop (suc place) old) (subst (AreUnits ns) split h) below same
        ∙ ap (turned_into with_it) (sym one)

    pub met_comes : {X : Type 0} (r : Result X ArithmeticStop) (new : List Part) → Comes (meeting old op place q.coefficient) (meeting old op place q.coefficient).result r
        → OnOk r (new ≡ with_met old place (meeting old op place q.coefficient).result) → Comes whole (parts_over ns new) r
    met_comes (Ok x) new done is =
        let c = (meeting old op place q.coefficient).result in
        subst (λ (d : Computation (List spec.Part)). IsDone d (parts_over ns new)) (sym joins)
        (record { result = ap (parts_over ns) is ∙ over_by c (is_zero c); fits = done.fits })
    met_comes (Err s) new stop is = subst (λ (d : Computation (List spec.Part)). IsStopAt (first_wide d.operations) s) (sym joins) stop

pub units_met_on : {X : Type 0} (old : List Part) (place : ℕ) (p : Part) → slice_get old place ≡ Some p → place < length old → (r : Result X ArithmeticStop) (new : List Part) (c : Fraction)
    → OnOk r (new ≡ with_met old place c) → (q : Part) → OnOk r ((ns : List Node) → AreUnits ns old → NamesUnit ns q → AreUnits ns new)
units_met_on old place p at inside (Ok x) new c is q = λ ns h named. subst (AreUnits ns) (sym is) (units_met ns old place p at inside c h)
units_met_on old place p at inside (Err s) new c is q = tt

-- ---- A part that comes

-- the parts before its place have lesser numbers, and those from there on greater ones
pub record IsGap (old : List Part) (u place : ℕ) : Type 0 where
  pub below : AllByRecursion (λ (p : Part). p.unit < u) (take place old)
  pub above : AllByRecursion (λ (p : Part). u < p.unit) (drop place old)

pub gap : (old xs : List Part) → xs ≡ old → (u place : ℕ) → AreInOrder old → place ≤ length xs
    → (IsNonDecreasingBy (λ (p : Part). ordering_index (nat_cmp p.unit u)) xs → IsPartitionPoint (λ (p : Part). nat_cmp p.unit u ≡ Less) (λ (p : Part). nat_cmp p.unit u ≡ Greater) xs place)
    → IsGap old u place
gap old xs same u place order inside h =
    let both = parted xs u (subst AreInOrder (sym same) order) place h in
    subst (λ (l : List Part). IsGap l u place) same
    (record { below = all_before (λ (p : Part). p.unit < u) xs place inside both.0; above = all_behind (λ (p : Part). u < p.unit) xs place inside both.1 })

alone_over : (ns : List Node) (sign : Sign) (q : Part) → part_over ns (alone sign q) ≡ part_alone (arithmetic_of sign) (part_over ns q)
alone_over ns Plus q = refl
alone_over ns Minus q = refl

units_alone : (ns : List Node) (sign : Sign) (q : Part) (xs ys : List Part) → NamesUnit ns q → AllByRecursion (λ (p : Part). p.unit < q.unit) xs → AllByRecursion (λ (p : Part). q.unit < p.unit) ys
    → AreUnits ns (xs ++ ys) → AreUnits ns (xs ++ alone sign q ∷ ys)
units_alone ns Plus q xs ys named below above h = units_with ns xs q ys named below above h
units_alone ns Minus q xs ys named below above h = units_with ns xs (negated q) ys named below above h

module _ (ns : List Node) (sign : Sign) (q : Part) (named : NamesUnit ns q) (old : List Part) (place : ℕ) (h : AreUnits ns old) (is : IsGap old q.unit place) where
  parted_units : AreUnits ns (take place old ++ drop place old)
  parted_units = subst (AreUnits ns) (sym (take-append-drop place old)) h

  pub units_inserted : AreUnits ns (take place old ++ alone sign q ∷ drop place old)
  units_inserted = units_alone ns sign q (take place old) (drop place old) named is.below is.above parted_units

  pub insert_done : JoinsAtItsPlace → TermHasItsNumber → TellsLiterals → IsTable ns
      → IsDone (part_joined (number_in ns) (arithmetic_of sign) (parts_over ns old) (part_over ns q)) (parts_over ns (take place old ++ alone sign q ∷ drop place old))
  insert_done law numbers tells table =
      subst (λ (l : List Part). IsDone (part_joined (number_in ns) (arithmetic_of sign) (parts_over ns l) (part_over ns q)) (parts_over ns (take place old ++ alone sign q ∷ drop place old)))
      (take-append-drop place old)
      (inserted law numbers tells ns table (arithmetic_of sign) q named (take place old) (drop place old) (alone sign q) parted_units is.below is.above (alone_over ns sign q))
