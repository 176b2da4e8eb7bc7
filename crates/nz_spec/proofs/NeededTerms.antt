-- Clauses that are met, of the signs with which terms are needed, force terms.
use Rattle.std.proofs.Common.{◌≡◌, ◌⊎◌, inl, inr, Bool, true, false, not, List, [], ◌∷◌, ◌++◌, map, Some, refl, sym, ap, subst, ◌∙◌, true≢false}
use Rattle.std.specs.Prelude.{flat_map, ⊤, if◌then◌else◌}
use Rattle.std.specs.List.{AllByRecursion}
use Rattle.std.proofs.lemmas.List.{map-append}
use Rattle.std.proofs.lemmas.Option.{same_Some}
use Rattle.nz_lists.proofs.Elements.{AllByRecursion-append, AllByRecursion-map, AllByRecursion-weaker}
use Rattle.nz_fractions.specs.Fraction.{◌=ℚ◌, ◌≤ℚ◌, ◌<ℚ◌, fraction_eq}
use Rattle.nz_fractions.proofs.Laws.{=ℚ_refl, =ℚ_sym, =ℚ_trans, ≤ℚ-from_eq, ≤ℚ_antisymm, <ℚ_irrefl}
use Rattle.nz_fractions.proofs.Order.{fraction_eq-same, lt_is, lt_is_not, le_is, le_is_not}
use Rattle.nz_spec.specs.numbers.Computation.{Computation, at_once, in_turn}
use Rattle.nz_spec.specs.terms.Term.{NumberSort, over_int, over_real, sort_over, bool_sort, real_sort, is_bool, head_sort, Constant, Head, constant, integer, decimal_number, verum, falsum, negation, conjunction, disjunction, exclusion, equality, choice, less, at_most, sum, difference, product, quotient, to_real, Term, apply, Terms, no_terms, terms}
use Rattle.nz_spec.specs.terms.Form.{Numbering}
use Rattle.nz_spec.specs.terms.WellSorted.{AllAre, HaveOperands, IsWellSorted, AreWellSorted}
use Rattle.nz_spec.specs.terms.Taken.{IsTakenHead, HasTakenHeads, HaveTakenHeads}
use Rattle.nz_spec.specs.clauses.Literal.{Literal, term_literal, Clause}
use Rattle.nz_spec.specs.clauses.Gates.{is_boolean_term, list_of, holds, fails}
use Rattle.nz_spec.specs.clauses.Links.{at_most_literal, below_literal}
use Rattle.nz_spec.specs.clauses.Forced.{Truths, GivesBranch, worth_of, IsForced, AreForced, IsOneForced, IsKnown, AreKnown}
use Rattle.nz_spec.specs.clauses.Polarity.{Need, conjuncts, conjuncts_of, disjuncts, disjuncts_of, asked_by, behind, numbers_among, results, rows_of, unit_rows, literal_of, spliced, own_clauses, needs_of}
use Rattle.nz_spec.specs.simplex.Basis.{Valuation}
use Rattle.nz_spec.specs.clauses.Met.{IsMet, HasMetLiteral}
use Rattle.nz_spec.specs.laws.Forcing.{HaveMetLiterals, MeetsNeeds, IsStated, IsAsserted, IsNamed, NeededClausesForce, AssertedTermsAreTrue}
use Rattle.nz_spec.proofs.ArgumentTruths.{alone}
use Rattle.nz_spec.proofs.ForcedOnce.{forced_once}
use Rattle.nz_spec.proofs.ForcedTerms.{forced_terms_have_values}
use Rattle.nz_spec.proofs.FormValues.{unit-worth}
use Rattle.nz_spec.proofs.MetBounds.{apart, at_most_said, below_said}
use Rattle.nz_spec.proofs.NeededRows.{all_parts, all_flat, each_behind, none_behind, Needed, Says, literals_of, IsSoundAs, IsSoundLiteral, AreSoundRows, AreAsked, AreMetRows, AreSaid, rows_said}
use Rattle.nz_spec.proofs.OperandSorts.{operands_are}
use Rattle.nz_spec.proofs.SaidClauses.{OneSaid, said_from, said_parts}

-- ---- Rows of two and three literals

-- by a row that says one of two things, and one that denies one of them
crossed : (F G : Bool → Type 0) → (F true → F false → ⊥) → (G true → G false → ⊥) → (p q : Bool)
    → F p ⊎ (G q ⊎ ⊥) → F (not p) ⊎ (G (not q) ⊎ ⊥) → (F p × G (not q)) ⊎ (F (not p) × G q)
crossed F G k l true q (inl f) (inl g) = absurd (k f g)
crossed F G k l false q (inl f) (inl g) = absurd (k g f)
crossed F G k l p q (inl f) (inr g) = inl (f, alone (G (not q)) g)
crossed F G k l p q (inr f) (inl g) = inr (g, alone (G q) f)
crossed F G k l p true (inr f) (inr g) = absurd (l (alone (G true) f) (alone (G false) g))
crossed F G k l p false (inr f) (inr g) = absurd (l (alone (G true) g) (alone (G false) f))

-- by what the rows of a choice say where its condition fails, and where it holds
branched : (C D P R : Type 0) → (C → D → ⊥) → D ⊎ P → C ⊎ R → GivesBranch C D P R
branched C D P R once (inl d) (inl c) = absurd (once c d)
branched C D P R once (inl d) (inr r) = inr (inl (d, r))
branched C D P R once (inr p) (inl c) = inl (c, p)
branched C D P R once (inr p) (inr r) = inr (inr (p, r))

second : (C P : Type 0) → C ⊎ (P ⊎ ⊥) → C ⊎ P
second C P (inl c) = inl c
second C P (inr p) = inr (alone P p)

-- two rows over one condition
both_seconds : (C P R : Type 0) → C ⊎ (P ⊎ ⊥) → C ⊎ (R ⊎ ⊥) → C ⊎ (P × R)
both_seconds C P R (inl c) k = inl c
both_seconds C P R (inr p) (inl c) = inl c
both_seconds C P R (inr p) (inr r) = inr (alone P p, alone R r)

one_truth : (sign : Bool) → Some sign ≡ Some (not sign) → ⊥
one_truth true e = true≢false (same_Some true false e)
one_truth false e = true≢false (same_Some true false (sym e))

no_number : (n : NumberSort) → is_bool (sort_over n) ≡ true → ⊥
no_number over_int e = true≢false (sym e)
no_number over_real e = true≢false (sym e)

-- a Boolean term that the tables have rows of, but for constants
abbrev is_ruled : Head → Bool
is_ruled (constant c) = false
is_ruled h = is_bool (head_sort h)

module _ (number : Numbering) (opened : Term → Bool) (truths : Truths) (v : Valuation) (is_needed : Term → Bool → Bool) (m : MeetsNeeds number opened truths v is_needed) where
  abbrev Forced : Term → Bool → Type 0
  Forced t sign = IsForced number truths v t sign

  abbrev Known : Term → Type 0
  Known t = IsKnown number truths v t

  abbrev Met : Literal → Type 0
  Met l = IsMet truths v l

  abbrev AreAll : List Need → Type 0
  AreAll ns = Needed number opened truths v is_needed ns

  abbrev IsNeeded : Need → Type 0
  IsNeeded n = is_needed n.term n.sign ≡ true

  abbrev SoundAs : Bool → Term → Type 0
  SoundAs b t = IsSoundAs number opened truths v is_needed b t

  abbrev Sound : Term → Type 0
  Sound t = SoundAs (is_boolean_term t) t

  abbrev AreSound : Terms → Type 0
  AreSound no_terms = ⊤
  AreSound (terms t ts) = Sound t × AreSound ts

  abbrev SoundRows : List Clause → Type 0
  SoundRows rows = AreSoundRows number opened truths v is_needed rows

  abbrev Asked : List Clause → Type 0
  Asked rows = AreAsked number opened truths v is_needed rows

  abbrev MetRows : List Clause → Type 0
  MetRows rows = AreMetRows number opened truths v is_needed rows

  abbrev Said : List Clause → Type 0
  Said rows = AreSaid number opened truths v is_needed rows

  sound_as : (t : Term) (b : Bool) → is_boolean_term t ≡ b → Sound t → SoundAs b t
  sound_as t b e s = subst (λ (c : Bool). SoundAs c t) e s

  once : (t : Term) → Forced t true → Forced t false → ⊥
  once t = forced_once number truths v t

  -- ---- What is needed

  module _ (h : Head) (ts : Terms) (sign : Bool) (n : AreAll (needs_of number opened (apply h ts) sign)) where
    abbrev rows : List Clause
    rows = rows_of number (apply h ts) sign

    abbrev units : List Clause
    units = unit_rows number (apply h ts)

    all_asked : Asked rows × Asked units
    all_asked =
        all_parts (λ (row : Clause). AreAll (flat_map (asked_by opened) row)) rows units
        (all_flat IsNeeded (flat_map (asked_by opened)) (rows ++ units) (all_parts IsNeeded (flat_map (flat_map (asked_by opened)) (rows ++ units)) (numbers_among ts) n).0)

    numbers_needed : AreAll (numbers_among ts)
    numbers_needed = (all_parts IsNeeded (flat_map (flat_map (asked_by opened)) (rows ++ units)) (numbers_among ts) n).1

    said : SoundRows rows → MetRows rows → Said rows
    said s k = rows_said number opened truths v is_needed rows s all_asked.0 k

  -- ---- Numbers among arguments

  abbrev NumberKnown : Term → Type 0
  NumberKnown t = is_boolean_term t ≡ false → Known t

  abbrev NumbersKnown : Terms → Type 0
  NumbersKnown no_terms = ⊤
  NumbersKnown (terms t ts) = NumberKnown t × NumbersKnown ts

  first_known : (t : Term) (ts : Terms) (b : Bool) → is_boolean_term t ≡ b → SoundAs b t
      → AreAll (if b then numbers_among ts else record { term = t; sign = true } ∷ numbers_among ts) → NumberKnown t × AreAll (numbers_among ts)
  first_known t ts true e s n = (λ f. absurd (true≢false (sym e ∙ f)), n)
  first_known t ts false e s n = (λ f. s n.0, n.1)

  numbers_known : (ts : Terms) → AreSound ts → AreAll (numbers_among ts) → NumbersKnown ts
  numbers_known no_terms s n = tt
  numbers_known (terms t ts) s n = let both = first_known t ts (is_boolean_term t) refl s.0 n in (both.0, numbers_known ts s.1 both.1)

  all_known : (ts : Terms) → AllAre false ts → NumbersKnown ts → AreKnown number truths v ts
  all_known no_terms b k = tt
  all_known (terms t ts) b k = (k.0 b.0, all_known ts b.1 k.1)

  -- ---- Conjunctions and disjunctions

  each_sound : (sign : Bool) (ts : Terms) → AllAre true ts → AreSound ts → SoundRows (map (λ u. term_literal u sign ∷ []) (list_of ts))
  each_sound sign no_terms b s = tt
  each_sound sign (terms t ts) b s = ((sound_as t true b.0 s.0, tt), each_sound sign ts b.1 s.1)

  one_sound : (sign : Bool) (ts : Terms) → AllAre true ts → AreSound ts
      → AllByRecursion (IsSoundLiteral number opened truths v is_needed) (map (λ u. term_literal u sign) (list_of ts))
  one_sound sign no_terms b s = tt
  one_sound sign (terms t ts) b s = (sound_as t true b.0 s.0, one_sound sign ts b.1 s.1)

  each_forced : (sign : Bool) (ts : Terms) → Said (map (λ u. term_literal u sign ∷ []) (list_of ts)) → AreForced number truths v ts sign
  each_forced sign no_terms h = tt
  each_forced sign (terms t ts) h = (alone (Forced t sign) h.0, each_forced sign ts h.1)

  one_forced : (sign : Bool) (ts : Terms) → OneSaid (Says number opened truths v is_needed) (map (λ u. term_literal u sign) (list_of ts)) → IsOneForced number truths v ts sign
  one_forced sign no_terms h = absurd h
  one_forced sign (terms t ts) (inl h) = inl h
  one_forced sign (terms t ts) (inr h) = inr (one_forced sign ts h)

  -- where a term has rows that say one thing of each argument
  module _ (h : Head) (ts : Terms) (sign arg : Bool) (b : AllAre true ts) (s : AreSound ts) where
    abbrev each : List Clause
    each = map (λ u. term_literal u arg ∷ []) (list_of ts)

    each_follows : rows_of number (apply h ts) sign ≡ each ++ [] ++ [] → AreAll (needs_of number opened (apply h ts) sign)
        → MetRows (rows_of number (apply h ts) sign) → AreForced number truths v ts arg
    each_follows e n k =
        let P = λ (row : Clause). AllByRecursion (IsSoundLiteral number opened truths v is_needed) row in
        let sound : SoundRows (each ++ [] ++ []) =
        AllByRecursion-append P (each ++ []) [] (AllByRecursion-append P each [] (each_sound arg ts b s) tt) tt
        in
        let all : Said (each ++ [] ++ []) = subst Said e (said h ts sign n (subst SoundRows (sym e) sound) k) in
        let some : Said (each ++ []) = (all_parts (OneSaid (Says number opened truths v is_needed)) (each ++ []) [] all).0 in
        each_forced arg ts (all_parts (OneSaid (Says number opened truths v is_needed)) each [] some).0

    -- and where it has one row that says it of one of them
    one_follows : rows_of number (apply h ts) sign ≡ map (λ u. term_literal u arg) (list_of ts) ∷ [] → AreAll (needs_of number opened (apply h ts) sign)
        → MetRows (rows_of number (apply h ts) sign) → IsOneForced number truths v ts arg
    one_follows e n k =
        let all : Said (map (λ u. term_literal u arg) (list_of ts) ∷ []) = subst Said e (said h ts sign n (subst SoundRows (sym e) (one_sound arg ts b s, tt)) k) in
        one_forced arg ts all.0

  -- ---- Gates

  -- where its rows are met, a term is forced
  abbrev Follows : Head → Terms → Bool → Type 0
  Follows h ts sign = AreAll (needs_of number opened (apply h ts) sign) → MetRows (rows_of number (apply h ts) sign) → Forced (apply h ts) sign

  conjunction_follows : (ts : Terms) → AllAre true ts → AreSound ts → (sign : Bool) → Follows conjunction ts sign
  conjunction_follows ts b s true =
      let t = apply conjunction ts in
      each_follows conjunction ts true true b s
      (ap (λ (cs : List Clause). cs ++ []) (each_behind t true true (list_of ts) ((holds t ∷ map fails (list_of ts)) ∷ [])))
  conjunction_follows ts b s false =
      let t = apply conjunction ts in
      one_follows conjunction ts false false b s
      (ap (λ (cs : List Clause). cs ++ []) (none_behind t false true (list_of ts) ((holds t ∷ map fails (list_of ts)) ∷ [])))

  disjunction_follows : (ts : Terms) → AllAre true ts → AreSound ts → (sign : Bool) → Follows disjunction ts sign
  disjunction_follows ts b s false =
      let t = apply disjunction ts in
      each_follows disjunction ts false false b s
      (ap (λ (cs : List Clause). cs ++ []) (each_behind t false false (list_of ts) ((fails t ∷ map holds (list_of ts)) ∷ [])))
  disjunction_follows ts b s true =
      let t = apply disjunction ts in
      one_follows disjunction ts true true b s
      (ap (λ (cs : List Clause). cs ++ []) (none_behind t true false (list_of ts) ((fails t ∷ map holds (list_of ts)) ∷ [])))

  negation_follows : (t : Term) → SoundAs true t → (sign : Bool) → Follows negation (terms t no_terms) sign
  negation_follows t s true n k = alone (Forced t false) (said negation (terms t no_terms) true n ((s, tt), tt) k).0
  negation_follows t s false n k = alone (Forced t true) (said negation (terms t no_terms) false n ((s, tt), tt) k).0

  exclusion_follows : (t u : Term) → SoundAs true t → SoundAs true u → (sign : Bool) → Follows exclusion (terms t (terms u no_terms)) sign
  exclusion_follows t u s r true n k =
      let all = said exclusion (terms t (terms u no_terms)) true n ((s, (r, tt)), ((s, (r, tt)), tt)) k in
      elim (crossed (Forced t) (Forced u) (once t) (once u) true true all.0 all.1.0) [ inl f ↦ (true, f.0, f.1) | inr f ↦ (false, f.0, f.1) ]
  exclusion_follows t u s r false n k =
      let all = said exclusion (terms t (terms u no_terms)) false n ((s, (r, tt)), ((s, (r, tt)), tt)) k in
      elim (crossed (Forced t) (Forced u) (once t) (once u) false true all.0 all.1.0) [ inl f ↦ (false, f.0, f.1) | inr f ↦ (true, f.0, f.1) ]

  choice_follows : (c t u : Term) → SoundAs true c → SoundAs true t → SoundAs true u → (sign : Bool) → Follows (choice bool_sort) (terms c (terms t (terms u no_terms))) sign
  choice_follows c t u q s r true n k =
      let all = said (choice bool_sort) (terms c (terms t (terms u no_terms))) true n ((q, (s, tt)), ((q, (r, tt)), tt)) k in
      branched (Forced c true) (Forced c false) (Forced t true) (Forced u true) (once c)
      (second (Forced c false) (Forced t true) all.0) (second (Forced c true) (Forced u true) all.1.0)
  choice_follows c t u q s r false n k =
      let all = said (choice bool_sort) (terms c (terms t (terms u no_terms))) false n ((q, (s, tt)), ((q, (r, tt)), tt)) k in
      branched (Forced c true) (Forced c false) (Forced t false) (Forced u false) (once c)
      (second (Forced c false) (Forced t false) all.0) (second (Forced c true) (Forced u false) all.1.0)

  -- ---- Comparisons

  at_most_met : (t u : Term) → Met (at_most_literal number t u).result → worth_of number v t ≤ℚ worth_of number v u
  at_most_met t u h = at_most_said number truths v t u (worth_of number v t) (worth_of number v u) (=ℚ_refl (worth_of number v t)) (=ℚ_refl (worth_of number v u)) h

  below_met : (t u : Term) → Met (below_literal number t u).result → worth_of number v t <ℚ worth_of number v u
  below_met t u h = below_said number truths v t u (worth_of number v t) (worth_of number v u) (=ℚ_refl (worth_of number v t)) (=ℚ_refl (worth_of number v u)) h

  module _ (t u : Term) (k : Known t) (l : Known u) where
    less_forced : (sign : Bool) → Met (literal_of number (apply less (terms t (terms u no_terms))) sign) → Forced (apply less (terms t (terms u no_terms))) sign
    less_forced true h = (k, l, lt_is (worth_of number v t) (worth_of number v u) (below_met t u h))
    less_forced false h = (k, l, lt_is_not (worth_of number v t) (worth_of number v u) (at_most_met u t h))

    at_most_forced : (sign : Bool) → Met (literal_of number (apply at_most (terms t (terms u no_terms))) sign) → Forced (apply at_most (terms t (terms u no_terms))) sign
    at_most_forced true h = (k, l, le_is (worth_of number v t) (worth_of number v u) (at_most_met t u h))
    at_most_forced false h = (k, l, le_is_not (worth_of number v t) (worth_of number v u) (below_met u t h))

    either_below : Met (below_literal number t u).result ⊎ (Met (below_literal number u t).result ⊎ ⊥) → fraction_eq (worth_of number v t) (worth_of number v u) ≡ false
    either_below (inl h) = apart (worth_of number v t) (worth_of number v u) (λ e. <ℚ_irrefl (below_met t u h) (≤ℚ-from_eq (=ℚ_sym e)))
    either_below (inr h) =
        apart (worth_of number v t) (worth_of number v u) (λ e. <ℚ_irrefl (below_met u t (alone (Met (below_literal number u t).result) h)) (≤ℚ-from_eq e))

  pair_known : (t u : Term) → AllAre false (terms t (terms u no_terms)) → AreSound (terms t (terms u no_terms)) → AreAll (numbers_among (terms t (terms u no_terms))) → Known t × Known u
  pair_known t u b s n = let k = all_known (terms t (terms u no_terms)) b (numbers_known (terms t (terms u no_terms)) s n) in (k.0, k.1.0)

  less_follows : (t u : Term) → AllAre false (terms t (terms u no_terms)) → AreSound (terms t (terms u no_terms)) → (sign : Bool) → Follows less (terms t (terms u no_terms)) sign
  less_follows t u b s true n k =
      let known = pair_known t u b s (numbers_needed less (terms t (terms u no_terms)) true n) in
      less_forced t u known.0 known.1 true (alone (Met (below_literal number t u).result) (said less (terms t (terms u no_terms)) true n ((tt, tt), tt) k).0)
  less_follows t u b s false n k =
      let known = pair_known t u b s (numbers_needed less (terms t (terms u no_terms)) false n) in
      less_forced t u known.0 known.1 false (alone (Met (at_most_literal number u t).result) (said less (terms t (terms u no_terms)) false n ((tt, tt), tt) k).0)

  at_most_follows : (t u : Term) → AllAre false (terms t (terms u no_terms)) → AreSound (terms t (terms u no_terms)) → (sign : Bool) → Follows at_most (terms t (terms u no_terms)) sign
  at_most_follows t u b s true n k =
      let known = pair_known t u b s (numbers_needed at_most (terms t (terms u no_terms)) true n) in
      at_most_forced t u known.0 known.1 true (alone (Met (at_most_literal number t u).result) (said at_most (terms t (terms u no_terms)) true n ((tt, tt), tt) k).0)
  at_most_follows t u b s false n k =
      let known = pair_known t u b s (numbers_needed at_most (terms t (terms u no_terms)) false n) in
      at_most_forced t u known.0 known.1 false (alone (Met (below_literal number u t).result) (said at_most (terms t (terms u no_terms)) false n ((tt, tt), tt) k).0)

  -- ---- Equations

  module _ (t u : Term) where
    abbrev pair : Terms
    pair = terms t (terms u no_terms)

    abbrev equation : Term
    equation = apply equality pair

    -- its rows, by whether its arguments are Boolean
    abbrev gates_by : Bool → List Clause
    gates_by b =
        if b
        then (fails equation ∷ fails t ∷ holds u ∷ []) ∷ (fails equation ∷ holds t ∷ fails u ∷ []) ∷ (holds equation ∷ holds t ∷ holds u ∷ [])
        ∷ (holds equation ∷ fails t ∷ fails u ∷ []) ∷ []
        else []

    abbrev links_by : Bool → List (List (Computation Literal))
    links_by b =
        if b then []
        else (at_once (fails equation) ∷ at_most_literal number t u ∷ []) ∷ (at_once (fails equation) ∷ at_most_literal number u t ∷ [])
        ∷ (at_once (holds equation) ∷ below_literal number t u ∷ below_literal number u t ∷ []) ∷ []

    abbrev rows_by : Bool → Bool → List Clause
    rows_by sign b = behind sign (gates_by b) ++ behind sign (results (map in_turn (links_by b)))

    said_by : (sign b : Bool) → is_boolean_term t ≡ b → SoundRows (rows_by sign b) → AreAll (needs_of number opened equation sign)
        → MetRows (rows_of number equation sign) → Said (rows_by sign b)
    said_by sign b e s n k =
        let asked : Asked (rows_by sign (is_boolean_term t)) = (all_asked equality pair sign n).0 in
        rows_said number opened truths v is_needed (rows_by sign b) s (subst (λ (c : Bool). Asked (rows_by sign c)) e asked) (subst (λ (c : Bool). MetRows (rows_by sign c)) e k)

    equality_follows : (b : Bool) → AllAre b pair → AreSound pair → (sign : Bool) → Follows equality pair sign
    equality_follows true b s true n k =
        let p = sound_as t true b.0 s.0 in
        let q = sound_as u true b.1.0 s.1.0 in
        let all = said_by true true b.0 ((p, (q, tt)), ((p, (q, tt)), tt)) n k in
        elim (crossed (Forced t) (Forced u) (once t) (once u) false true all.0 all.1.0) [ inl f ↦ inl (b.0, false, f.0, f.1) | inr f ↦ inl (b.0, true, f.0, f.1) ]
    equality_follows true b s false n k =
        let p = sound_as t true b.0 s.0 in
        let q = sound_as u true b.1.0 s.1.0 in
        let all = said_by false true b.0 ((p, (q, tt)), ((p, (q, tt)), tt)) n k in
        elim (crossed (Forced t) (Forced u) (once t) (once u) true true all.0 all.1.0) [ inl f ↦ inl (b.0, true, f.0, f.1) | inr f ↦ inl (b.0, false, f.0, f.1) ]
    equality_follows false b s true n k =
        let all = said_by true false b.0 ((tt, tt), ((tt, tt), tt)) n k in
        let known = pair_known t u b s (numbers_needed equality pair true n) in
        inr (
          b.0,
          known.0,
          known.1,
          fraction_eq-same (worth_of number v t) (worth_of number v u)
              (≤ℚ_antisymm (at_most_met t u (alone (Met (at_most_literal number t u).result) all.0)) (at_most_met u t (alone (Met (at_most_literal number u t).result) all.1.0))),
        )
    equality_follows false b s false n k =
        let all = said_by false false b.0 ((tt, (tt, tt)), tt) n k in
        let known = pair_known t u b s (numbers_needed equality pair false n) in
        inr (b.0, known.0, known.1, either_below t u known.0 known.1 all.0)

  -- ---- Terms by their rows

  node_follows : (h : Head) (ts : Terms) → IsTakenHead h ts → HaveOperands h ts → AreSound ts → is_ruled h ≡ true → (sign : Bool) → Follows h ts sign
  node_follows (constant c) ts k o s r sign = absurd (true≢false (sym r))
  node_follows verum no_terms k o s r true = λ n j. tt
  node_follows verum no_terms k o s r false = λ n j. absurd j.0
  node_follows falsum no_terms k o s r true = λ n j. absurd j.0
  node_follows falsum no_terms k o s r false = λ n j. tt
  node_follows negation (terms t no_terms) k o s r sign = negation_follows t (sound_as t true o.0 s.0) sign
  node_follows conjunction ts k o s r sign = conjunction_follows ts o s sign
  node_follows disjunction ts k o s r sign = disjunction_follows ts o s sign
  node_follows exclusion (terms t (terms u no_terms)) k o s r sign = exclusion_follows t u (sound_as t true o.0 s.0) (sound_as u true o.1.0 s.1.0) sign
  node_follows equality (terms t (terms u no_terms)) k o s r sign = equality_follows t u o.0 o.1 s sign
  node_follows less (terms t (terms u no_terms)) k o s r sign = less_follows t u o s sign
  node_follows at_most (terms t (terms u no_terms)) k o s r sign = at_most_follows t u o s sign
  node_follows (choice bool_sort) (terms c (terms t (terms u no_terms))) k o s r sign =
      choice_follows c t u (sound_as c true o.0 s.0) (sound_as t true o.1.0 s.1.0) (sound_as u true o.1.1.0 s.1.1.0) sign
  node_follows (sum n) ts k o s r sign = absurd (no_number n r)
  node_follows (difference n) ts k o s r sign = absurd (no_number n r)
  node_follows (product n) ts k o s r sign = absurd (no_number n r)
  node_follows (integer n) ts k o s r sign = absurd (true≢false (sym r))
  node_follows (decimal_number n places) ts k o s r sign = absurd (true≢false (sym r))
  node_follows (choice real_sort) ts k o s r sign = absurd (true≢false (sym r))
  node_follows quotient ts k o s r sign = absurd (true≢false (sym r))
  node_follows to_real ts k o s r sign = absurd (true≢false (sym r))
  node_follows h ts k o s r sign = absurd k

  -- by clauses that say it outright
  rows_met : (rows : List Clause) → HaveMetLiterals truths v (map (spliced number opened) rows) → MetRows rows
  rows_met rows k =
      AllByRecursion-weaker (λ (row : Clause). HasMetLiteral truths v (spliced number opened row)) (λ (row : Clause). OneSaid Met (spliced number opened row))
      (λ row h. said_from Met (spliced number opened row) h.0 h.1 h.2) rows (AllByRecursion-map (HasMetLiteral truths v) (spliced number opened) rows k)

  -- by clauses on its own atom
  row_met : (t : Term) (sign : Bool) → truths t ≡ Some sign → (row : Clause) → HasMetLiteral truths v (term_literal t (not sign) ∷ spliced number opened row)
      → OneSaid Met (spliced number opened row)
  row_met t sign has row h =
      elim (said_from Met (term_literal t (not sign) ∷ spliced number opened row) h.0 h.1 h.2) [ inl k ↦ absurd (one_truth sign (sym has ∙ k)) | inr k ↦ k ]

  own_met : (t : Term) (sign : Bool) → truths t ≡ Some sign → HaveMetLiterals truths v (own_clauses number opened t sign) → MetRows (rows_of number t sign)
  own_met t sign has k =
      AllByRecursion-weaker (λ (row : Clause). HasMetLiteral truths v (term_literal t (not sign) ∷ spliced number opened row)) (λ (row : Clause). OneSaid Met (spliced number opened row))
      (row_met t sign has) (rows_of number t sign)
      (AllByRecursion-map (HasMetLiteral truths v) (λ row. term_literal t (not sign) ∷ spliced number opened row) (rows_of number t sign) k)

  -- a term whose own clauses are met, with the truth that its own atom has
  own_forced : (h : Head) (ts : Terms) (sign : Bool) → Follows h ts sign → truths (apply h ts) ≡ Some sign
      → HaveMetLiterals truths v (own_clauses number opened (apply h ts) sign) → AreAll (needs_of number opened (apply h ts) sign) → Forced (apply h ts) sign
  own_forced h ts sign f has k n = f n (own_met (apply h ts) sign has k)

  -- one that is needed, of a head that has no other clauses
  gate_forced : (h : Head) (ts : Terms) (sign : Bool) → Follows h ts sign → is_needed (apply h ts) sign ≡ true → truths (apply h ts) ≡ Some sign
      → HaveMetLiterals truths v (own_clauses number opened (apply h ts) sign ++ map (spliced number opened) (unit_rows number (apply h ts))) → Forced (apply h ts) sign
  gate_forced h ts sign f n has k =
      own_forced h ts sign f has
      (all_parts (HasMetLiteral truths v) (own_clauses number opened (apply h ts) sign) (map (spliced number opened) (unit_rows number (apply h ts))) k).0
      (m.closed (apply h ts) sign n)

  -- ---- Terms that are needed

  needed_forced : (h : Head) (ts : Terms) → IsTakenHead h ts → HaveOperands h ts → AreSound ts → is_bool (head_sort h) ≡ true → (sign : Bool)
      → is_needed (apply h ts) sign ≡ true → Met (literal_of number (apply h ts) sign) → Forced (apply h ts) sign
  needed_forced (constant c) no_terms k o s e sign n has = has
  needed_forced (constant c) (terms t ts) k o s e sign n has = absurd k
  needed_forced less (terms t (terms u no_terms)) k o s e sign n has =
      let known = pair_known t u o s (numbers_needed less (terms t (terms u no_terms)) sign (m.closed (apply less (terms t (terms u no_terms))) sign n)) in
      less_forced t u known.0 known.1 sign has
  needed_forced less ts k o s e sign n has = absurd k
  needed_forced at_most (terms t (terms u no_terms)) k o s e sign n has =
      let known = pair_known t u o s (numbers_needed at_most (terms t (terms u no_terms)) sign (m.closed (apply at_most (terms t (terms u no_terms))) sign n)) in
      at_most_forced t u known.0 known.1 sign has
  needed_forced at_most ts k o s e sign n has = absurd k
  needed_forced h ts k o s e sign n has = gate_forced h ts sign (node_follows h ts k o s e sign) n has (m.clauses (apply h ts) sign n)

  -- a need of the term alone
  alone_forced : (h : Head) (ts : Terms) → IsTakenHead h ts → HaveOperands h ts → AreSound ts → is_bool (head_sort h) ≡ true → (sign : Bool)
      → AreAll (record { term = apply h ts; sign = sign } ∷ []) → OneSaid Met (literals_of number opened truths v is_needed (record { term = apply h ts; sign = sign } ∷ []))
      → Forced (apply h ts) sign
  alone_forced h ts k o s e sign n has = needed_forced h ts k o s e sign n.0 (alone (Met (literal_of number (apply h ts) sign)) has)

  abbrev Literals : List Need → Clause
  Literals ns = literals_of number opened truths v is_needed ns

  -- ---- Opened disjunctions

  disjuncts_forced : (sign : Bool) (ts : Terms) → AllAre true ts → AreSound ts → AreAll (disjuncts_of opened ts sign) → OneSaid Met (Literals (disjuncts_of opened ts sign))
      → IsOneForced number truths v ts sign
  disjuncts_forced sign no_terms b s n has = absurd has
  disjuncts_forced sign (terms t ts) b s n has =
      let first = disjuncts opened t sign in
      let rest = disjuncts_of opened ts sign in
      let needs = all_parts IsNeeded first rest n in
      elim (said_parts Met (Literals first) (Literals rest) (subst (OneSaid Met) (map-append (λ (k : Need). literal_of number k.term k.sign) first rest) has)) [
        | inl h ↦ inl (sound_as t true b.0 s.0 sign needs.0 h)
        | inr h ↦ inr (disjuncts_forced sign ts b.1 s.1 needs.1 h)
      ]

  -- by whether the term is opened
  opened_forced : (h : Head) (ts : Terms) (sign b : Bool) (F : Type 0)
      → (AreAll (disjuncts_of opened ts sign) → OneSaid Met (Literals (disjuncts_of opened ts sign)) → F)
      → (AreAll (record { term = apply h ts; sign = sign } ∷ []) → OneSaid Met (Literals (record { term = apply h ts; sign = sign } ∷ [])) → F)
      → AreAll (if b then disjuncts_of opened ts sign else record { term = apply h ts; sign = sign } ∷ [])
      → OneSaid Met (Literals (if b then disjuncts_of opened ts sign else record { term = apply h ts; sign = sign } ∷ [])) → F
  opened_forced h ts sign true F f g n has = f n has
  opened_forced h ts sign false F f g n has = g n has

  disjunction_sound : (ts : Terms) → AllAre true ts → AreSound ts → SoundAs true (apply disjunction ts)
  disjunction_sound ts b s true n has =
      opened_forced disjunction ts true (opened (apply disjunction ts)) (IsOneForced number truths v ts true)
      (disjuncts_forced true ts b s) (alone_forced disjunction ts tt b s refl true) n has
  disjunction_sound ts b s false n has = alone_forced disjunction ts tt b s refl false n has

  conjunction_sound : (ts : Terms) → AllAre true ts → AreSound ts → SoundAs true (apply conjunction ts)
  conjunction_sound ts b s false n has =
      opened_forced conjunction ts false (opened (apply conjunction ts)) (IsOneForced number truths v ts false)
      (disjuncts_forced false ts b s) (alone_forced conjunction ts tt b s refl false) n has
  conjunction_sound ts b s true n has = alone_forced conjunction ts tt b s refl true n has

  -- ---- Numbers

  constant_sound : (c : Constant) → IsTakenHead (constant c) no_terms → Sound (apply (constant c) no_terms)
  constant_sound c k = by_sort (is_bool c.sort) refl
    where
      by_sort : (b : Bool) → is_bool c.sort ≡ b → SoundAs b (apply (constant c) no_terms)
      by_sort true e = λ sign n has. alone_forced (constant c) no_terms k tt tt e sign n has
      by_sort false e = λ n. tt

  numbers_sound : (h : Head) (ts : Terms) → AllAre false ts → AreSound ts → is_needed (apply h ts) true ≡ true → AreKnown number truths v ts
  numbers_sound h ts b s n = all_known ts b (numbers_known ts s (numbers_needed h ts true (m.closed (apply h ts) true n)))

  over_number : (n : NumberSort) (t : Term) → SoundAs false t → SoundAs (is_bool (sort_over n)) t
  over_number over_int t h = h
  over_number over_real t h = h

  module _ (c t u : Term) (p : SoundAs true c) where
    abbrev args : Terms
    args = terms c (terms t (terms u no_terms))

    abbrev unit : Term
    unit = apply (choice real_sort) args

    -- two bounds by which the unit is a branch
    is_branch : (x : Term) → Met (at_most_literal number unit x).result × Met (at_most_literal number x unit).result → v unit =ℚ worth_of number v x
    is_branch x h = =ℚ_trans (=ℚ_sym (unit-worth number v unit)) (≤ℚ_antisymm (at_most_met unit x h.0) (at_most_met x unit h.1))

    unit_known : Known t → Known u → Said (unit_rows number unit) → Known unit
    unit_known k l h =
        let first = both_seconds (Forced c false) (Met (at_most_literal number unit t).result) (Met (at_most_literal number t unit).result) h.0 h.1.0 in
        let last = both_seconds (Forced c true) (Met (at_most_literal number unit u).result) (Met (at_most_literal number u unit).result) h.1.1.0 h.1.1.1.0 in
        branched (Forced c true) (Forced c false) (Known t × (v unit =ℚ worth_of number v t)) (Known u × (v unit =ℚ worth_of number v u)) (once c)
        (elim first [ inl f ↦ inl f | inr f ↦ inr (k, is_branch t f) ]) (elim last [ inl f ↦ inl f | inr f ↦ inr (l, is_branch u f) ])

    unit_sound : AllAre false (terms t (terms u no_terms)) → AreSound args → SoundAs false unit
    unit_sound o s n =
        let needs = m.closed unit true n in
        let known = numbers_known args s (numbers_needed (choice real_sort) args true needs) in
        let rows = unit_rows number unit in
        unit_known (known.1.0 o.0) (known.1.1.0 o.1.0)
        (rows_said number opened truths v is_needed rows ((p, (tt, tt)), ((p, (tt, tt)), ((p, (tt, tt)), ((p, (tt, tt)), tt))))
        (all_asked (choice real_sort) args true needs).1 (rows_met rows (m.clauses unit true n)))

  -- ---- Terms

  node_sound : (h : Head) (ts : Terms) → IsTakenHead h ts → HaveOperands h ts → AreSound ts → Sound (apply h ts)
  node_sound (constant c) no_terms k o s = constant_sound c k
  node_sound (integer n) no_terms k o s = λ i. tt
  node_sound (decimal_number n places) no_terms k o s = λ i. tt
  node_sound verum no_terms k o s = alone_forced verum no_terms k o s refl
  node_sound falsum no_terms k o s = alone_forced falsum no_terms k o s refl
  node_sound negation (terms t no_terms) k o s = λ sign n has. sound_as t true o.0 s.0 (not sign) n has
  node_sound conjunction ts k o s = conjunction_sound ts o s
  node_sound disjunction ts k o s = disjunction_sound ts o s
  node_sound exclusion (terms t (terms u no_terms)) k o s = alone_forced exclusion (terms t (terms u no_terms)) k o s refl
  node_sound equality (terms t (terms u no_terms)) k o s = alone_forced equality (terms t (terms u no_terms)) k o s refl
  node_sound less (terms t (terms u no_terms)) k o s = alone_forced less (terms t (terms u no_terms)) k o s refl
  node_sound at_most (terms t (terms u no_terms)) k o s = alone_forced at_most (terms t (terms u no_terms)) k o s refl
  node_sound (choice bool_sort) (terms c (terms t (terms u no_terms))) k o s = alone_forced (choice bool_sort) (terms c (terms t (terms u no_terms))) k o s refl
  node_sound (choice real_sort) (terms c (terms t (terms u no_terms))) k o s =
      unit_sound c t u (sound_as c true o.0 s.0) o.1 s
  node_sound (sum n) ts k o s = over_number n (apply (sum n) ts) (numbers_sound (sum n) ts o s)
  node_sound (difference n) ts k o s = over_number n (apply (difference n) ts) (numbers_sound (difference n) ts o s)
  node_sound (product n) ts k o s = over_number n (apply (product n) ts) (numbers_sound (product n) ts o s)
  node_sound quotient ts k o s = numbers_sound quotient ts o s
  node_sound to_real (terms t no_terms) k o s = numbers_sound to_real (terms t no_terms) o s
  node_sound h ts k o s = absurd k

  mutual
    sound : (t : Term) → IsWellSorted [] t → HasTakenHeads t → Sound t
    sound (apply h ts) w k = node_sound h ts k.0 (operands_are h ts w.0) (all_sound ts w.1 k.1)

    all_sound : (ts : Terms) → AreWellSorted [] ts → HaveTakenHeads ts → AreSound ts
    all_sound no_terms w k = tt
    all_sound (terms t ts) w k = (sound t w.0 k.0, all_sound ts w.1 k.1)

  -- ---- What is asserted

  abbrev Asserted : Term → Bool → Type 0
  Asserted t sign = IsAsserted number opened truths v is_needed t sign

  abbrev Stated : Term → Bool → Type 0
  Stated t sign = IsStated number opened truths v is_needed t sign

  constant_stated : (c : Constant) (sign : Bool) → Stated (apply (constant c) no_terms) sign → Forced (apply (constant c) no_terms) sign
  constant_stated c sign s =
      let only = s.clauses.0 in
      alone (Met (term_literal (apply (constant c) no_terms) sign)) (said_from Met (term_literal (apply (constant c) no_terms) sign ∷ []) only.0 only.1 only.2)

  -- by clauses that state it, of a head that has rows
  rows_stated : (h : Head) (ts : Terms) (sign : Bool) → Follows h ts sign → HaveMetLiterals truths v (map (spliced number opened) (rows_of number (apply h ts) sign))
      → AreAll (needs_of number opened (apply h ts) sign) → Forced (apply h ts) sign
  rows_stated h ts sign f k n = f n (rows_met (rows_of number (apply h ts) sign) k)

  -- an argument that is asserted with a sign is forced
  abbrev Asserts : Term → Type 0
  Asserts t = (sign : Bool) → Asserted t sign → Forced t sign

  abbrev AllAssert : Terms → Type 0
  AllAssert no_terms = ⊤
  AllAssert (terms t ts) = (is_boolean_term t ≡ true → Asserts t) × AllAssert ts

  each_asserted : (sign : Bool) (ts : Terms) → AllAre true ts → AllAssert ts → AllByRecursion (λ (n : Need). Stated n.term n.sign) (conjuncts_of ts sign) → AreForced number truths v ts sign
  each_asserted sign no_terms b a s = tt
  each_asserted sign (terms t ts) b a s =
      let both = all_parts (λ (n : Need). Stated n.term n.sign) (conjuncts t sign) (conjuncts_of ts sign) s in
      (a.0 b.0 sign both.0, each_asserted sign ts b.1 a.1 both.1)

  node_asserts : (h : Head) (ts : Terms) → IsTakenHead h ts → HaveOperands h ts → AreSound ts → AllAssert ts → is_bool (head_sort h) ≡ true → Asserts (apply h ts)
  node_asserts (constant c) no_terms k o s a e sign i = constant_stated c sign i.0
  node_asserts (constant c) (terms t ts) k o s a e sign i = absurd k
  node_asserts negation (terms t no_terms) k o s a e sign i = a.0 o.0 (not sign) i
  node_asserts conjunction ts k o s a e true i = each_asserted true ts o a i
  node_asserts disjunction ts k o s a e false i = each_asserted false ts o a i
  node_asserts h ts k o s a e sign i = rows_stated h ts sign (node_follows h ts k o s e sign) i.0.clauses i.0.needs

  mutual
    asserts : (t : Term) → IsWellSorted [] t → HasTakenHeads t → is_boolean_term t ≡ true → Asserts t
    asserts (apply h ts) w k e = node_asserts h ts k.0 (operands_are h ts w.0) (all_sound ts w.1 k.1) (all_assert ts w.1 k.1) e

    all_assert : (ts : Terms) → AreWellSorted [] ts → HaveTakenHeads ts → AllAssert ts
    all_assert no_terms w k = tt
    all_assert (terms t ts) w k = (asserts t w.0 k.0, all_assert ts w.1 k.1)

  -- ---- What is needed, and what is named

  needed_term : (t : Term) → IsWellSorted [] t → HasTakenHeads t → is_boolean_term t ≡ true → (sign : Bool) → is_needed t sign ≡ true → Met (literal_of number t sign) → Forced t sign
  needed_term (apply h ts) w k e sign n has = needed_forced h ts k.0 (operands_are h ts w.0) (all_sound ts w.1 k.1) e sign n has

  named_node : (h : Head) (ts : Terms) → IsTakenHead h ts → HaveOperands h ts → AreSound ts → is_bool (head_sort h) ≡ true → (sign : Bool)
      → IsNamed number opened truths v is_needed (apply h ts) sign → Forced (apply h ts) sign
  named_node (constant c) no_terms k o s e sign i = i.atom
  named_node (constant c) (terms t ts) k o s e sign i = absurd k
  named_node h ts k o s e sign i = own_forced h ts sign (node_follows h ts k o s e sign) i.atom i.clauses i.needs

  named_term : (t : Term) → IsWellSorted [] t → HasTakenHeads t → is_boolean_term t ≡ true → (sign : Bool) → IsNamed number opened truths v is_needed t sign → Forced t sign
  named_term (apply h ts) w k e sign i = named_node h ts k.0 (operands_are h ts w.0) (all_sound ts w.1 k.1) e sign i

pub needed_clauses_force : NeededClausesForce
needed_clauses_force = record {
  needed = λ number opened truths v is_needed m t sign k e n has. needed_term number opened truths v is_needed m t k.sorted k.heads e sign n has;
  known = λ number opened truths v is_needed m t k e n.
      sound_as number opened truths v is_needed m t false e (sound number opened truths v is_needed m t k.sorted k.heads) n;
  asserted = λ number opened truths v is_needed m t sign k e i. asserts number opened truths v is_needed m t k.sorted k.heads e sign i;
  named = λ number opened truths v is_needed m t sign k e i. named_term number opened truths v is_needed m t k.sorted k.heads e sign i;
}

pub asserted_terms_are_true : AssertedTermsAreTrue
asserted_terms_are_true = record {
  asserted = λ number opened a truths v is_needed m t sign k e good agrees i.
      forced_terms_have_values.truths number a truths v t sign k good agrees e (needed_clauses_force.asserted number opened truths v is_needed m t sign k e i);
  named = λ number opened a truths v is_needed m t sign k e good agrees i.
      forced_terms_have_values.truths number a truths v t sign k good agrees e (needed_clauses_force.named number opened truths v is_needed m t sign k e i);
}
