-- Derivations whose units are numbered anew.
use Rattle.std.proofs.Common.{◌≡◌, ℕ, zero, suc, Bool, true, false, not, ◌&&◌, ◌||◌, List, [], ◌∷◌, ◌++◌, map, Option, Some, None, pos, refl, sym, ap, ap₂, subst, ◌∙◌}
use Rattle.std.specs.Prelude.{Contains, fold, filter, slice_get, option_map, if◌then◌else◌}
use Rattle.std.specs.List.{list_all, list_any}
use Rattle.std.proofs.lemmas.Bool.{and_from, and_parts}
use Rattle.std.proofs.lemmas.Option.{same_Some}
use Rattle.nz_lists.proofs.Tests.{same_tests}
use Rattle.nz_fractions.specs.Fraction.{Fraction, whole, fraction_lt, floor, neg_ℚ, Sum, Difference, Product}
use Rattle.nz_fractions.proofs.FirstOperations.{no_operation}
use Rattle.nz_spec.specs.numbers.Computation.{Computation, operated, at_once, turned_into, and_then}
use Rattle.nz_spec.specs.terms.Term.{Head, verum, falsum, negation, conjunction, disjunction, exclusion, equality, choice, bool_sort, Term, apply, is_zero}
use Rattle.nz_spec.specs.terms.Form.{Numbering, Part, found, negated_part, parts_joined, parts_scaled}
use Rattle.nz_spec.specs.clauses.Literal.{Literal, term_literal, is_at_most, is_below, negation_of, are_same_literal, with_one, without, Clause, clause_of, resolvent}
use Rattle.nz_spec.specs.clauses.LinearLiteral.{is_integral_part, are_integral, is_whole, is_without_units, greatest_below}
use Rattle.nz_spec.specs.clauses.Gates.{holds, fails, list_of, is_boolean_term, clauses_over, gate_clauses}
use Rattle.nz_spec.specs.clauses.Links.{link_clauses}
use Rattle.nz_spec.specs.clauses.Units.{unit_clauses}
use Rattle.nz_spec.specs.clauses.Farkas.{Multiple, Bound, empty_bound, bound_of, is_linear_literal, is_multiple, bound_scaled, bounds_joined, multiples_onto, sum_of_multiples, is_contradiction, negations_of, farkas_clause}
use Rattle.nz_spec.specs.clauses.Cuts.{branch_clause, rounded_limit, cut_clause}
use Rattle.nz_spec.specs.clauses.Goals.{Goal, limited, compared, beats}
use Rattle.nz_spec.specs.clauses.Steps.{Held, Claim, Premises, Step, given_step, hold_step, beat_step, gate_step, link_step, unit_step, farkas_step, branch_step, cut_step, resolve_step, hold_clause, claim_clause, step_taken, step_operations, step_clause, clauses_behind, StepsFit}
use Rattle.nz_spec.specs.laws.Renumbering.{IsOrdered, IsRenumbered, GoTogether, AreEach, AreBoth, MayRenumber, LiteralsRenumber, ClausesRenumber, GoalsRenumber, HoldsRenumber, ClaimsRenumber, PremisesRenumber, MultiplesRenumber, StepsRenumber, DerivationsRenumber}
use Rattle.nz_spec.proofs.Derivations.{taken}
use Rattle.nz_spec.proofs.Literals.{same_literal, one_literal}
use Rattle.nz_spec.specs.terms.Same.{are_same_term}
use Rattle.nz_spec.proofs.Same.{same_term}
use Rattle.nz_spec.proofs.RenumberedSums.{fits_among, front_fits, rest_fits, both_fit, seen, unseen, itself, none_of, one_order, sums_renumber}
use Rattle.nz_spec.proofs.RenumberedTerms.{once_together, turned_together, then_together, operated_together, each_map, terms_renumber}

-- ---- Lists and options

each_append : {A B : Type 0} (R : A → B → Type 0) (xs zs : List A) (ys ws : List B) → AreEach R xs ys → AreEach R zs ws → AreEach R (xs ++ zs) (ys ++ ws)
each_append R [] zs [] ws h k = k
each_append R [] zs (y ∷ ys) ws h k = absurd h
each_append R (x ∷ xs) zs [] ws h k = absurd h
each_append R (x ∷ xs) zs (y ∷ ys) ws h k = (h.0, each_append R xs zs ys ws h.1 k)

each_any : {A B : Type 0} (R : A → B → Type 0) (f : A → Bool) (g : B → Bool) → ((x : A) (y : B) → R x y → f x ≡ g y) → (xs : List A) (ys : List B) → AreEach R xs ys → list_any f xs ≡ list_any g ys
each_any R f g k [] [] h = refl
each_any R f g k [] (y ∷ ys) h = absurd h
each_any R f g k (x ∷ xs) [] h = absurd h
each_any R f g k (x ∷ xs) (y ∷ ys) h = ap₂ (λ (a b : Bool). a || b) (k x y h.0) (each_any R f g k xs ys h.1)

each_all : {A B : Type 0} (R : A → B → Type 0) (f : A → Bool) (g : B → Bool) → ((x : A) (y : B) → R x y → f x ≡ g y) → (xs : List A) (ys : List B) → AreEach R xs ys → list_all f xs ≡ list_all g ys
each_all R f g k [] [] h = refl
each_all R f g k [] (y ∷ ys) h = absurd h
each_all R f g k (x ∷ xs) [] h = absurd h
each_all R f g k (x ∷ xs) (y ∷ ys) h = ap₂ (λ (a b : Bool). a && b) (k x y h.0) (each_all R f g k xs ys h.1)

-- lists by one test
each_if : {A B : Type 0} (R : A → B → Type 0) (b c : Bool) (xs zs : List A) (ys ws : List B) → b ≡ c → AreEach R xs ys → AreEach R zs ws → AreEach R (if b then xs else zs) (if c then ys else ws)
each_if R true c xs zs ys ws e h k = subst (λ (d : Bool). AreEach R xs (if d then ys else ws)) e h
each_if R false c xs zs ys ws e h k = subst (λ (d : Bool). AreEach R zs (if d then ys else ws)) e k

each_filter : {A B : Type 0} (R : A → B → Type 0) (f : A → Bool) (g : B → Bool) → ((x : A) (y : B) → R x y → f x ≡ g y) → (xs : List A) (ys : List B) → AreEach R xs ys → AreEach R (filter f xs) (filter g ys)
each_filter R f g k [] [] h = tt
each_filter R f g k [] (y ∷ ys) h = absurd h
each_filter R f g k (x ∷ xs) [] h = absurd h
each_filter R f g k (x ∷ xs) (y ∷ ys) h =
    let rest = each_filter R f g k xs ys h.1 in
    each_if R (f x) (g y) (x ∷ filter f xs) (filter f xs) (y ∷ filter g ys) (filter g ys) (k x y h.0) (h.0, rest) rest

each_get : {A B : Type 0} (R : A → B → Type 0) (xs : List A) (ys : List B) (i : ℕ) → AreEach R xs ys → AreBoth R (slice_get xs i) (slice_get ys i)
each_get R [] [] i h = tt
each_get R [] (y ∷ ys) i h = absurd h
each_get R (x ∷ xs) [] i h = absurd h
each_get R (x ∷ xs) (y ∷ ys) zero h = h.0
each_get R (x ∷ xs) (y ∷ ys) (suc i) h = each_get R xs ys i h.1

both_some : {A B : Type 0} (R : A → B → Type 0) (o : Option A) (p : Option B) (x : A) → AreBoth R o p → o ≡ Some x → (y : B) × (p ≡ Some y) × R x y
both_some R None None x h e = absurd (cc)
both_some R None (Some y) x h e = absurd h
both_some R (Some z) None x h e = absurd h
both_some {A} {B} R (Some z) (Some y) x h e = (y, refl, subst (λ (a : A). R a y) (same_Some z x e) h)

both_map : {A B C D : Type 0} (R : A → B → Type 0) (S : C → D → Type 0) (f : A → C) (g : B → D) → ((x : A) (y : B) → R x y → S (f x) (g y))
    → (o : Option A) (p : Option B) → AreBoth R o p → AreBoth S (option_map f o) (option_map g p)
both_map R S f g k None None h = tt
both_map R S f g k None (Some y) h = absurd h
both_map R S f g k (Some x) None h = absurd h
both_map R S f g k (Some x) (Some y) h = k x y h

-- computations by one test
if_together : {A B : Type 0} (R : A → B → Type 0) (b c : Bool) (x z : Computation A) (y w : Computation B) → b ≡ c → GoTogether R x y → GoTogether R z w
    → GoTogether R (if b then x else z) (if c then y else w)
if_together R true c x z y w e h k = subst (λ (d : Bool). GoTogether R x (if d then y else w)) e h
if_together R false c x z y w e h k = subst (λ (d : Bool). GoTogether R z (if d then y else w)) e k

same_together : {A : Type 0} (c d : Computation A) → c ≡ d → GoTogether (λ (x y : A). x ≡ y) c d
same_together {A} c d e = record { result = ap (λ (x : Computation A). x.result) e; operations = λ o has. subst (λ (x : Computation A). Contains x.operations o) (sym e) has }

-- ---- Integers

-- a part of a sum of integers is one
integral_found : (ps : List Part) (x : Term) (c : Fraction) → are_integral ps ≡ true → found x ps ≡ Some c → is_integral_part (record { coefficient = c; unit = x }) ≡ true
integral_found [] x c h e = absurd (cc)
integral_found (p ∷ ps) x c h e = by_test (are_same_term p.unit x) refl (integral_found ps x c both.1)
  where
    both : (is_integral_part p ≡ true) × (are_integral ps ≡ true)
    both = and_parts (is_integral_part p) (are_integral ps) h

    by_test : (b : Bool) → are_same_term p.unit x ≡ b → (found x ps ≡ Some c → is_integral_part (record { coefficient = c; unit = x }) ≡ true) → is_integral_part (record { coefficient = c; unit = x }) ≡ true
    by_test true t rest =
        let coefficient = same_Some p.coefficient c (sym (seen p ps x t) ∙ e) in
        subst (λ (d : Fraction). is_integral_part (record { coefficient = d; unit = x }) ≡ true) coefficient
        (subst (λ (u : Term). is_integral_part (record { coefficient = p.coefficient; unit = u }) ≡ true) (same_term p.unit x t) both.0)
    by_test false t rest = rest (sym (unseen p ps x t) ∙ e)

module _ (number : Numbering) (us : List Term) where
  integral_from : (ps : List Part) → IsOrdered number us ps → ((x : Term) (c : Fraction) → found x ps ≡ Some c → is_integral_part (record { coefficient = c; unit = x }) ≡ true) → are_integral ps ≡ true
  integral_from [] h all = refl
  integral_from (p ∷ ps) h all =
      and_from (is_integral_part p) (are_integral ps) (all p.unit p.coefficient (itself p ps))
      (integral_from ps h.2 (λ x c e. by_test x c (are_same_term p.unit x) refl e))
    where
      by_test : (x : Term) (c : Fraction) (b : Bool) → are_same_term p.unit x ≡ b → found x ps ≡ Some c → is_integral_part (record { coefficient = c; unit = x }) ≡ true
      by_test x c true t e = let none : None ≡ Some c = sym (none_of number p.unit x ps t h.1) ∙ e in absurd (cc)
      by_test x c false t e = all x c (unseen p ps x t ∙ e)

-- ---- Rows of gates

each_diagonal : {A : Type 0} (R : Literal → Literal → Type 0) (f : A → Literal) → ((x : A) → R (f x) (f x)) → (xs : List A) → AreEach R (map f xs) (map f xs)
each_diagonal R f k [] = tt
each_diagonal R f k (x ∷ xs) = (k x, each_diagonal R f k xs)

module _ (R : Literal → Literal → Type 0) (own : (t : Term) (sign : Bool) → R (term_literal t sign) (term_literal t sign)) where
  yes_itself : (t : Term) → R (holds t) (holds t)
  yes_itself t = own t true

  no_itself : (t : Term) → R (fails t) (fails t)
  no_itself t = own t false

  -- pairs with each argument
  pairs_each : (l : Literal) (f : Term → Literal) → R l l → ((t : Term) → R (f t) (f t)) → (ts : List Term)
      → AreEach (AreEach R) (map (λ u. l ∷ f u ∷ []) ts) (map (λ u. l ∷ f u ∷ []) ts)
  pairs_each l f a k [] = tt
  pairs_each l f a k (t ∷ ts) = ((a, (k t, tt)), pairs_each l f a k ts)

  gates_each : (t : Term) (h : Head) (ts : List Term) → AreEach (AreEach R) (clauses_over holds fails is_boolean_term t h ts) (clauses_over holds fails is_boolean_term t h ts)
  gates_each t verum [] = ((yes_itself t, tt), tt)
  gates_each t falsum [] = ((no_itself t, tt), tt)
  gates_each t negation (u ∷ []) = ((no_itself t, (no_itself u, tt)), ((yes_itself t, (yes_itself u, tt)), tt))
  gates_each t conjunction ts =
      each_append (AreEach R) (map (λ u. fails t ∷ holds u ∷ []) ts) ((holds t ∷ map fails ts) ∷ []) (map (λ u. fails t ∷ holds u ∷ []) ts) ((holds t ∷ map fails ts) ∷ [])
      (pairs_each (fails t) holds (no_itself t) yes_itself ts) ((yes_itself t, each_diagonal R fails no_itself ts), tt)
  gates_each t disjunction ts =
      each_append (AreEach R) (map (λ u. holds t ∷ fails u ∷ []) ts) ((fails t ∷ map holds ts) ∷ []) (map (λ u. holds t ∷ fails u ∷ []) ts) ((fails t ∷ map holds ts) ∷ [])
      (pairs_each (holds t) fails (yes_itself t) no_itself ts) ((no_itself t, each_diagonal R holds yes_itself ts), tt)
  gates_each t exclusion (u ∷ v ∷ []) = (
    (no_itself t, (yes_itself u, (yes_itself v, tt))),
    ((no_itself t, (no_itself u, (no_itself v, tt))), ((yes_itself t, (no_itself u, (yes_itself v, tt))), ((yes_itself t, (yes_itself u, (no_itself v, tt))), tt))),
  )
  gates_each t equality (u ∷ v ∷ []) =
      each_if (AreEach R) (is_boolean_term u) (is_boolean_term u) _ [] _ [] refl (
        (no_itself t, (no_itself u, (yes_itself v, tt))),
        ((no_itself t, (yes_itself u, (no_itself v, tt))), ((yes_itself t, (yes_itself u, (yes_itself v, tt))), ((yes_itself t, (no_itself u, (no_itself v, tt))), tt))),
      ) tt
  gates_each t (choice bool_sort) (c ∷ u ∷ v ∷ []) = (
    (no_itself t, (no_itself c, (yes_itself u, tt))),
    ((no_itself t, (yes_itself c, (yes_itself v, tt))), ((yes_itself t, (no_itself c, (no_itself u, tt))), ((yes_itself t, (yes_itself c, (no_itself v, tt))), tt))),
  )
  gates_each t h ts = tt

  gates_of : (t : Term) → AreEach (AreEach R) (gate_clauses t) (gate_clauses t)
  gates_of (apply h ts) = gates_each (apply h ts) h (list_of ts)

module _ (m n : Numbering) (us : List Term) (may : MayRenumber m n us) where
  abbrev Sums : List Part → List Part → Type 0
  Sums ps qs = IsRenumbered m n us ps qs

  abbrev Literals : Literal → Literal → Type 0
  Literals l k = LiteralsRenumber m n us l k

  abbrev Clauses : Clause → Clause → Type 0
  Clauses c d = ClausesRenumber m n us c d

  abbrev Found : Option Clause → Option Clause → Type 0
  Found o p = AreBoth Clauses o p

  -- ---- Literals

  -- a literal has one other
  one_after : (l k j : Literal) → Literals l k → Literals l j → k ≡ j
  one_after (term_literal t s) (term_literal u x) (term_literal v y) h i = ap₂ term_literal (sym h.0 ∙ i.0) (sym h.1 ∙ i.1)
  one_after (is_at_most ps b) (is_at_most qs c) (is_at_most rs d) h i =
      ap₂ is_at_most (one_order n us qs rs h.0.after i.0.after (λ x. sym (h.0.alike x) ∙ i.0.alike x)) (sym h.1 ∙ i.1)
  one_after (is_below ps b) (is_below qs c) (is_below rs d) h i =
      ap₂ is_below (one_order n us qs rs h.0.after i.0.after (λ x. sym (h.0.alike x) ∙ i.0.alike x)) (sym h.1 ∙ i.1)
  one_after (term_literal t s) (term_literal u x) j h i = absurd i
  one_after (is_at_most ps b) (is_at_most qs c) j h i = absurd i
  one_after (is_below ps b) (is_below qs c) j h i = absurd i
  one_after l k j h i = absurd h

  one_before : (l j k : Literal) → Literals l k → Literals j k → l ≡ j
  one_before (term_literal t s) (term_literal v y) (term_literal u x) h i = ap₂ term_literal (h.0 ∙ sym i.0) (h.1 ∙ sym i.1)
  one_before (is_at_most ps b) (is_at_most rs d) (is_at_most qs c) h i =
      ap₂ is_at_most (one_order m us ps rs h.0.before i.0.before (λ x. h.0.alike x ∙ sym (i.0.alike x))) (h.1 ∙ sym i.1)
  one_before (is_below ps b) (is_below rs d) (is_below qs c) h i =
      ap₂ is_below (one_order m us ps rs h.0.before i.0.before (λ x. h.0.alike x ∙ sym (i.0.alike x))) (h.1 ∙ sym i.1)
  one_before (term_literal t s) j (term_literal u x) h i = absurd i
  one_before (is_at_most ps b) j (is_at_most qs c) h i = absurd i
  one_before (is_below ps b) j (is_below qs c) h i = absurd i
  one_before l j k h i = absurd h

  tests_alike : (l k j i : Literal) → Literals l k → Literals j i → are_same_literal l j ≡ are_same_literal k i
  tests_alike l k j i h g =
      same_tests (are_same_literal l j) (are_same_literal k i)
      (λ e. subst (λ (x : Literal). are_same_literal k x ≡ true) (one_after l k i h (subst (λ (y : Literal). Literals y i) (sym (same_literal l j e)) g)) (one_literal k))
      (λ e. subst (λ (x : Literal). are_same_literal l x ≡ true) (one_before l j k h (subst (λ (y : Literal). Literals j y) (sym (same_literal k i e)) g)) (one_literal l))

  negations_renumber : (l k : Literal) → Literals l k → Literals (negation_of l) (negation_of k)
  negations_renumber (term_literal t s) (term_literal u x) h = (h.0, ap not h.1)
  negations_renumber (is_at_most ps b) (is_at_most qs c) h = (sums_renumber.negated m n us ps qs h.0, ap neg_ℚ h.1)
  negations_renumber (is_below ps b) (is_below qs c) h = (sums_renumber.negated m n us ps qs h.0, ap neg_ℚ h.1)
  negations_renumber l k h = absurd h

  -- ---- Clauses

  one_more : (xs ys : List Literal) (x y : Literal) → Clauses xs ys → Literals x y → Clauses (with_one are_same_literal xs x) (with_one are_same_literal ys y)
  one_more xs ys x y h k =
      each_if Literals (list_any (are_same_literal x) xs) (list_any (are_same_literal y) ys) xs (xs ++ x ∷ []) ys (ys ++ y ∷ [])
      (each_any Literals (are_same_literal x) (are_same_literal y) (λ l j e. tests_alike x y l j k e) xs ys h) h (each_append Literals xs (x ∷ []) ys (y ∷ []) h (k, tt))

  all_more : (xs ys zs ws : List Literal) → Clauses zs ws → Clauses xs ys → Clauses (fold (with_one are_same_literal) zs xs) (fold (with_one are_same_literal) ws ys)
  all_more [] [] zs ws h k = h
  all_more [] (y ∷ ys) zs ws h k = absurd k
  all_more (x ∷ xs) [] zs ws h k = absurd k
  all_more (x ∷ xs) (y ∷ ys) zs ws h k = all_more xs ys (with_one are_same_literal zs x) (with_one are_same_literal ws y) (one_more zs ws x y h k.0) k.1

  clause_renumbers : (xs ys : List Literal) → Clauses xs ys → Clauses (clause_of xs) (clause_of ys)
  clause_renumbers xs ys h = all_more xs ys [] [] tt h

  without_renumbers : (l k : Literal) (xs ys : Clause) → Literals l k → Clauses xs ys → Clauses (without are_same_literal l xs) (without are_same_literal k ys)
  without_renumbers l k xs ys h c =
      each_filter Literals (λ y. not (are_same_literal l y)) (λ y. not (are_same_literal k y)) (λ x y e. ap not (tests_alike l k x y h e)) xs ys c

  resolvent_renumbers : (l k : Literal) (c d e f : Clause) → Literals l k → Clauses c e → Clauses d f → Clauses (resolvent l c d) (resolvent k e f)
  resolvent_renumbers l k c d e f h a b =
      clause_renumbers
      (without are_same_literal l c ++ without are_same_literal (negation_of l) d)
      (without are_same_literal k e ++ without are_same_literal (negation_of k) f)
      (each_append Literals (without are_same_literal l c) (without are_same_literal (negation_of l) d) (without are_same_literal k e) (without are_same_literal (negation_of k) f)
      (without_renumbers l k c e h a) (without_renumbers (negation_of l) (negation_of k) d f (negations_renumber l k h) b))

  -- ---- Sums of multiples

  record Bounds (x y : Bound) : Type 0 where
    parts : Sums x.parts y.parts
    limit : x.limit ≡ y.limit
    strict : x.is_strict ≡ y.is_strict

  none_renumbers : Sums [] []
  none_renumbers = record { before = tt; after = tt; alike = λ u. refl }

  bound_renumbers : (l k : Literal) → Literals l k → Bounds (bound_of l) (bound_of k)
  bound_renumbers (term_literal t s) (term_literal u x) h = record { parts = none_renumbers; limit = refl; strict = refl }
  bound_renumbers (is_at_most ps b) (is_at_most qs c) h = record { parts = h.0; limit = h.1; strict = refl }
  bound_renumbers (is_below ps b) (is_below qs c) h = record { parts = h.0; limit = h.1; strict = refl }
  bound_renumbers l k h = absurd h

  scaled_bounds : (c : Fraction) (x y : Bound) → Bounds x y → GoTogether Bounds (bound_scaled c x) (bound_scaled c y)
  scaled_bounds c x y h =
      then_together Sums Bounds
      (λ ps. turned_into (λ b. record { parts = ps; limit = b; is_strict = x.is_strict }) (operated Product c x.limit))
      (λ ps. turned_into (λ b. record { parts = ps; limit = b; is_strict = y.is_strict }) (operated Product c y.limit))
      (parts_scaled (operated Product c) x.parts) (parts_scaled (operated Product c) y.parts) (sums_renumber.scaled m n us (operated Product c) x.parts y.parts h.parts)
      (λ ps qs e. turned_together (λ (a b : Fraction). a ≡ b) Bounds (λ b. record { parts = ps; limit = b; is_strict = x.is_strict }) (λ b. record { parts = qs; limit = b; is_strict = y.is_strict })
      (operated Product c x.limit) (operated Product c y.limit) (operated_together Product refl h.limit) (λ a b same. record { parts = e; limit = same; strict = h.strict }))

  joined_bounds : (x z y w : Bound) → Bounds x y → Bounds z w → GoTogether Bounds (bounds_joined m x z) (bounds_joined n y w)
  joined_bounds x z y w h k =
      then_together Sums Bounds
      (λ ps. turned_into (λ b. record { parts = ps; limit = b; is_strict = x.is_strict || z.is_strict }) (operated Sum x.limit z.limit))
      (λ ps. turned_into (λ b. record { parts = ps; limit = b; is_strict = y.is_strict || w.is_strict }) (operated Sum y.limit w.limit))
      (parts_joined m Sum x.parts z.parts) (parts_joined n Sum y.parts w.parts) (sums_renumber.joined m n us Sum x.parts z.parts y.parts w.parts may.before may.after h.parts k.parts)
      (λ ps qs e. turned_together (λ (a b : Fraction). a ≡ b) Bounds
      (λ b. record { parts = ps; limit = b; is_strict = x.is_strict || z.is_strict }) (λ b. record { parts = qs; limit = b; is_strict = y.is_strict || w.is_strict })
      (operated Sum x.limit z.limit) (operated Sum y.limit w.limit) (operated_together Sum h.limit k.limit)
      (λ a b same. record { parts = e; limit = same; strict = ap₂ (λ (s t : Bool). s || t) h.strict k.strict }))

  abbrev Multiples : Multiple → Multiple → Type 0
  Multiples x y = MultiplesRenumber m n us x y

  one_scaled : (x y : Multiple) → Multiples x y → GoTogether Bounds (bound_scaled x.multiplier (bound_of x.literal)) (bound_scaled y.multiplier (bound_of y.literal))
  one_scaled x y h =
      subst (λ (c : Fraction). GoTogether Bounds (bound_scaled x.multiplier (bound_of x.literal)) (bound_scaled c (bound_of y.literal))) h.multiplier
      (scaled_bounds x.multiplier (bound_of x.literal) (bound_of y.literal) (bound_renumbers x.literal y.literal h.literal))

  onto_renumbers : (xs ys : List Multiple) (b c : Bound) → Bounds b c → AreEach Multiples xs ys → GoTogether Bounds (multiples_onto m b xs) (multiples_onto n c ys)
  onto_renumbers [] [] b c h k = once_together Bounds b c h
  onto_renumbers [] (y ∷ ys) b c h k = absurd k
  onto_renumbers (x ∷ xs) [] b c h k = absurd k
  onto_renumbers (x ∷ xs) (y ∷ ys) b c h k =
      then_together Bounds Bounds (λ z. and_then (bounds_joined m b z) (λ w. multiples_onto m w xs)) (λ z. and_then (bounds_joined n c z) (λ w. multiples_onto n w ys))
      (bound_scaled x.multiplier (bound_of x.literal)) (bound_scaled y.multiplier (bound_of y.literal)) (one_scaled x y k.0)
      (λ z w e. then_together Bounds Bounds (λ v. multiples_onto m v xs) (λ v. multiples_onto n v ys) (bounds_joined m b z) (bounds_joined n c w) (joined_bounds b z c w h e)
      (λ v u f. onto_renumbers xs ys v u f k.1))

  sum_renumbers : (xs ys : List Multiple) → AreEach Multiples xs ys → GoTogether Bounds (sum_of_multiples m xs) (sum_of_multiples n ys)
  sum_renumbers xs ys h = onto_renumbers xs ys empty_bound empty_bound (record { parts = none_renumbers; limit = refl; strict = refl }) h

  are_multiples : (x y : Multiple) → Multiples x y → is_multiple x ≡ is_multiple y
  are_multiples x y h = ap₂ (λ (a : Bool) (c : Fraction). a && fraction_lt (whole (pos 0)) c) (linear x.literal y.literal h.literal) h.multiplier
    where
      linear : (l k : Literal) → Literals l k → is_linear_literal l ≡ is_linear_literal k
      linear (term_literal t s) (term_literal u z) e = refl
      linear (is_at_most ps b) (is_at_most qs c) e = refl
      linear (is_below ps b) (is_below qs c) e = refl
      linear l k e = absurd e

  negations_each : (xs ys : List Multiple) → AreEach Multiples xs ys → Clauses (negations_of xs) (negations_of ys)
  negations_each xs ys h =
      each_map Multiples Literals (λ (x : Multiple). negation_of x.literal) (λ (x : Multiple). negation_of x.literal) (λ x y e. negations_renumber x.literal y.literal e.literal) xs ys h

  without_alike : (ps qs : List Part) → Sums ps qs → is_without_units ps ≡ is_without_units qs
  without_alike [] [] h = refl
  without_alike [] (q ∷ qs) h = let e : None ≡ Some q.coefficient = h.alike q.unit ∙ itself q qs in absurd (cc)
  without_alike (p ∷ ps) [] h = let e : Some p.coefficient ≡ None = sym (itself p ps) ∙ h.alike p.unit in absurd (cc)
  without_alike (p ∷ ps) (q ∷ qs) h = refl

  contradictions_alike : (x y : Bound) → Bounds x y → is_contradiction x ≡ is_contradiction y
  contradictions_alike x y h =
      ap₂ (λ (a b : Bool). a && b) (without_alike x.parts y.parts h.parts)
      (ap₂ (λ (l : Fraction) (s : Bool). fraction_lt l (whole (pos 0)) || is_zero l && s) h.limit h.strict)

  integral_alike : (ps qs : List Part) → Sums ps qs → are_integral ps ≡ are_integral qs
  integral_alike ps qs h =
      same_tests (are_integral ps) (are_integral qs)
      (λ e. integral_from n us qs h.after (λ x c f. integral_found ps x c e (h.alike x ∙ f)))
      (λ e. integral_from m us ps h.before (λ x c f. integral_found qs x c e (sym (h.alike x) ∙ f)))

  -- ---- Clauses of sums

  farkas_renumbers : (xs ys : List Multiple) → AreEach Multiples xs ys → GoTogether Found (farkas_clause m xs) (farkas_clause n ys)
  farkas_renumbers xs ys h =
      if_together Found (list_all is_multiple xs) (list_all is_multiple ys) _ _ _ _ (each_all Multiples is_multiple is_multiple are_multiples xs ys h)
      (turned_together Bounds Found
      (λ x. if is_contradiction x then Some (clause_of (negations_of xs)) else None) (λ x. if is_contradiction x then Some (clause_of (negations_of ys)) else None)
      (sum_of_multiples m xs) (sum_of_multiples n ys) (sum_renumbers xs ys h)
      (λ x y e. by_test (is_contradiction x) (is_contradiction y) (contradictions_alike x y e)))
      (once_together Found None None tt)
    where
      by_test : (b c : Bool) → b ≡ c → Found (if b then Some (clause_of (negations_of xs)) else None) (if c then Some (clause_of (negations_of ys)) else None)
      by_test true c e = subst (λ (d : Bool). Found (Some (clause_of (negations_of xs))) (if d then Some (clause_of (negations_of ys)) else None)) e (clause_renumbers (negations_of xs) (negations_of ys) (negations_each xs ys h))
      by_test false c e = subst (λ (d : Bool). Found None (if d then Some (clause_of (negations_of ys)) else None)) e tt

  branch_renumbers : (ps qs : List Part) (k : Fraction) → Sums ps qs → GoTogether Found (branch_clause ps k) (branch_clause qs k)
  branch_renumbers ps qs k h =
      if_together Found (are_integral ps && is_whole k) (are_integral qs && is_whole k) _ _ _ _ (ap (λ (b : Bool). b && is_whole k) (integral_alike ps qs h))
      (turned_together (λ (a b : Fraction). a ≡ b) Found
      (λ c. Some (clause_of (is_at_most ps k ∷ is_at_most (map negated_part ps) c ∷ []))) (λ c. Some (clause_of (is_at_most qs k ∷ is_at_most (map negated_part qs) c ∷ [])))
      (operated Difference (neg_ℚ k) (whole (pos 1))) (operated Difference (neg_ℚ k) (whole (pos 1))) (operated_together Difference refl refl)
      (λ c d e. clause_renumbers (is_at_most ps k ∷ is_at_most (map negated_part ps) c ∷ []) (is_at_most qs k ∷ is_at_most (map negated_part qs) d ∷ [])
      ((h, refl), ((sums_renumber.negated m n us ps qs h, e), tt))))
      (once_together Found None None tt)

  limits_together : (x y : Bound) → Bounds x y → GoTogether (λ (a b : Fraction). a ≡ b) (rounded_limit x) (rounded_limit y)
  limits_together x y h =
      same_together (rounded_limit x) (rounded_limit y)
      (ap₂ (λ (s : Bool) (l : Fraction). if s then greatest_below l else at_once (whole (floor l))) h.strict h.limit)

  cut_renumbers : (xs ys : List Multiple) → AreEach Multiples xs ys → GoTogether Found (cut_clause m xs) (cut_clause n ys)
  cut_renumbers xs ys h =
      if_together Found (list_all is_multiple xs) (list_all is_multiple ys) _ _ _ _ (each_all Multiples is_multiple is_multiple are_multiples xs ys h)
      (then_together Bounds Found
      (λ x. if are_integral x.parts then turned_into (λ c. Some (clause_of (negations_of xs ++ is_at_most x.parts c ∷ []))) (rounded_limit x) else at_once None)
      (λ y. if are_integral y.parts then turned_into (λ c. Some (clause_of (negations_of ys ++ is_at_most y.parts c ∷ []))) (rounded_limit y) else at_once None)
      (sum_of_multiples m xs) (sum_of_multiples n ys) (sum_renumbers xs ys h)
      (λ x y e. if_together Found (are_integral x.parts) (are_integral y.parts) _ _ _ _ (integral_alike x.parts y.parts e.parts)
      (turned_together (λ (a b : Fraction). a ≡ b) Found (λ c. Some (clause_of (negations_of xs ++ is_at_most x.parts c ∷ []))) (λ c. Some (clause_of (negations_of ys ++ is_at_most y.parts c ∷ [])))
      (rounded_limit x) (rounded_limit y) (limits_together x y e)
      (λ c d same. clause_renumbers (negations_of xs ++ is_at_most x.parts c ∷ []) (negations_of ys ++ is_at_most y.parts d ∷ [])
      (each_append Literals (negations_of xs) (is_at_most x.parts c ∷ []) (negations_of ys) (is_at_most y.parts d ∷ []) (negations_each xs ys h) ((e.parts, same), tt))))
      (once_together Found None None tt)))
      (once_together Found None None tt)

  -- ---- Goals

  limited_renumbers : (ps qs : List Part) (strict : Bool) (b c : Fraction) → Sums ps qs → b ≡ c → Literals (limited ps strict b) (limited qs strict c)
  limited_renumbers ps qs true b c h e = (h, e)
  limited_renumbers ps qs false b c h e = (h, e)

  compared_renumbers : (g h : Goal) (above strict : Bool) (v w : Fraction) → GoalsRenumber m n us g h → v ≡ w → GoTogether Literals (compared g above strict v) (compared h above strict w)
  compared_renumbers g h above strict v w k e =
      turned_together (λ (a b : Fraction). a ≡ b) Literals
      (λ b. if above then limited g.form.parts strict b else limited (map negated_part g.form.parts) strict (neg_ℚ b))
      (λ b. if above then limited h.form.parts strict b else limited (map negated_part h.form.parts) strict (neg_ℚ b))
      (operated Difference v g.form.offset) (operated Difference w h.form.offset) (operated_together Difference e k.form.offset) (λ a b same. by_side above a b same)
    where
      by_side : (up : Bool) (a b : Fraction) → a ≡ b
          → Literals (if up then limited g.form.parts strict a else limited (map negated_part g.form.parts) strict (neg_ℚ a))
          (if up then limited h.form.parts strict b else limited (map negated_part h.form.parts) strict (neg_ℚ b))
      by_side true a b same = limited_renumbers g.form.parts h.form.parts strict a b k.form.parts same
      by_side false a b same =
          limited_renumbers (map negated_part g.form.parts) (map negated_part h.form.parts) strict (neg_ℚ a) (neg_ℚ b)
          (sums_renumber.negated m n us g.form.parts h.form.parts k.form.parts) (ap neg_ℚ same)

  alone_renumbers : (c d : Computation Literal) → GoTogether Literals c d → GoTogether Found (turned_into (λ l. Some (l ∷ [])) c) (turned_into (λ l. Some (l ∷ [])) d)
  alone_renumbers c d h = turned_together Literals Found (λ l. Some (l ∷ [])) (λ l. Some (l ∷ [])) c d h (λ l k e. (e, tt))

  hold_renumbers : (above : Bool) (o p : Option Held) → AreBoth (HoldsRenumber m n us) o p → GoTogether Found (hold_clause above o) (hold_clause above p)
  hold_renumbers above None None h = once_together Found None None tt
  hold_renumbers above None (Some k) h = absurd h
  hold_renumbers above (Some k) None h = absurd h
  hold_renumbers above (Some j) (Some k) h =
      alone_renumbers (compared j.goal above false j.value) (compared k.goal above false k.value) (compared_renumbers j.goal k.goal above false j.value k.value h.goal h.value)

  claim_renumbers : (o p : Option Claim) → AreBoth (ClaimsRenumber m n us) o p → GoTogether Found (claim_clause o) (claim_clause p)
  claim_renumbers None None h = once_together Found None None tt
  claim_renumbers None (Some d) h = absurd h
  claim_renumbers (Some c) None h = absurd h
  claim_renumbers (Some c) (Some d) h =
      alone_renumbers (beats c.goal c.strict c.value) (beats d.goal d.strict d.value)
      (subst (λ (s : Bool). GoTogether Literals (beats c.goal c.strict c.value) (beats d.goal s d.value)) h.strict
      (subst (λ (up : Bool). GoTogether Literals (beats c.goal c.strict c.value) (compared d.goal (if up then false else true) c.strict d.value)) h.goal.up
      (compared_renumbers c.goal d.goal (if c.goal.up then false else true) c.strict c.value d.value h.goal h.value)))

  -- ---- Steps

  abbrev row_of : Option (Computation Clause) → Computation (Option Clause)
  row_of o = elim o [ None ↦ at_once None | Some d ↦ turned_into (λ ls. Some (clause_of ls)) d ]

  rows_together : (o p : Option (Computation Clause)) → AreBoth (GoTogether Clauses) o p → GoTogether Found (row_of o) (row_of p)
  rows_together None None h = once_together Found None None tt
  rows_together None (Some d) h = absurd h
  rows_together (Some c) None h = absurd h
  rows_together (Some c) (Some d) h = turned_together Clauses Found (λ ls. Some (clause_of ls)) (λ ls. Some (clause_of ls)) c d h clause_renumbers

  abbrev Steps : Step → Step → Type 0
  Steps s t = StepsRenumber m n us s t

  module _ (p q : Premises) (premises : PremisesRenumber m n us p q) where
    given_together : (k : ℕ) → Found (option_map (λ t. holds t ∷ []) (slice_get p.asserted k)) (option_map (λ t. holds t ∷ []) (slice_get q.asserted k))
    given_together k =
        subst (λ (ts : List Term). Found (option_map (λ t. holds t ∷ []) (slice_get p.asserted k)) (option_map (λ t. holds t ∷ []) (slice_get ts k))) premises.asserted
        (itself_found (slice_get p.asserted k))
      where
        itself_found : (o : Option Term) → Found (option_map (λ t. holds t ∷ []) o) (option_map (λ t. holds t ∷ []) o)
        itself_found None = tt
        itself_found (Some t) = ((refl, refl), tt)

    resolved : (l r : Literal) (o u : Option Clause) (v w : Option Clause) → Literals l r → Found o u → Found v w
        → Found (elim o [ None ↦ None | Some c ↦ option_map (resolvent l c) v ]) (elim u [ None ↦ None | Some c ↦ option_map (resolvent r c) w ])
    resolved l r None None v w h a b = tt
    resolved l r None (Some d) v w h a b = absurd a
    resolved l r (Some c) None v w h a b = absurd a
    resolved l r (Some c) (Some d) v w h a b = both_map Clauses Clauses (resolvent l c) (resolvent r d) (λ e f k. resolvent_renumbers l r c e d f h a k) v w b

    step_together : (earlier others : List Clause) → AreEach Clauses earlier others → (s t : Step) → Steps s t → GoTogether Found (step_taken m p earlier s) (step_taken n q others t)
    step_together es os h (given_step k) (given_step i) e =
        subst (λ (j : ℕ). GoTogether Found (step_taken m p es (given_step k)) (step_taken n q os (given_step j))) e (once_together Found _ _ (given_together k))
    step_together es os h (hold_step i above) (hold_step j from_above) e =
        subst (λ (b : Bool). GoTogether Found (step_taken m p es (hold_step i above)) (step_taken n q os (hold_step j b))) e.1
        (subst (λ (k : ℕ). GoTogether Found (step_taken m p es (hold_step i above)) (step_taken n q os (hold_step k above))) e.0
        (hold_renumbers above (slice_get p.held i) (slice_get q.held i) (each_get (HoldsRenumber m n us) p.held q.held i premises.held)))
    step_together es os h beat_step beat_step e = claim_renumbers p.claim q.claim premises.claim
    step_together es os h (gate_step t j) (gate_step u i) e =
        subst (λ (k : ℕ). GoTogether Found (step_taken m p es (gate_step t j)) (step_taken n q os (gate_step u k))) e.1
        (subst (λ (v : Term). GoTogether Found (step_taken m p es (gate_step t j)) (step_taken n q os (gate_step v j))) e.0
        (once_together Found _ _
        (both_map Clauses Clauses clause_of clause_of clause_renumbers (slice_get (gate_clauses t) j) (slice_get (gate_clauses t) j)
        (each_get Clauses (gate_clauses t) (gate_clauses t) j (gates_of Literals (λ v s. (refl, refl)) t)))))
    step_together es os h (link_step t j) (link_step u i) e =
        subst (λ (k : ℕ). GoTogether Found (step_taken m p es (link_step t j)) (step_taken n q os (link_step u k))) e.1
        (subst (λ (v : Term). GoTogether Found (step_taken m p es (link_step t j)) (step_taken n q os (link_step v j))) e.0
        (rows_together (slice_get (link_clauses m t) j) (slice_get (link_clauses n t) j)
        (each_get (GoTogether Clauses) (link_clauses m t) (link_clauses n t) j (terms_renumber.links m n us may t e.2))))
    step_together es os h (unit_step t j) (unit_step u i) e =
        subst (λ (k : ℕ). GoTogether Found (step_taken m p es (unit_step t j)) (step_taken n q os (unit_step u k))) e.1
        (subst (λ (v : Term). GoTogether Found (step_taken m p es (unit_step t j)) (step_taken n q os (unit_step v j))) e.0
        (rows_together (slice_get (unit_clauses m t) j) (slice_get (unit_clauses n t) j)
        (each_get (GoTogether Clauses) (unit_clauses m t) (unit_clauses n t) j (terms_renumber.units m n us may t e.2))))
    step_together es os h (farkas_step xs) (farkas_step ys) e = farkas_renumbers xs ys e
    step_together es os h (branch_step ps k) (branch_step qs i) e =
        subst (λ (b : Fraction). GoTogether Found (branch_clause ps k) (branch_clause qs b)) e.1 (branch_renumbers ps qs k e.0)
    step_together es os h (cut_step xs) (cut_step ys) e = cut_renumbers xs ys e
    step_together es os h (resolve_step i j l) (resolve_step k o r) e =
        subst (λ (a : ℕ). GoTogether Found (step_taken m p es (resolve_step i j l)) (step_taken n q os (resolve_step a o r))) e.0
        (subst (λ (a : ℕ). GoTogether Found (step_taken m p es (resolve_step i j l)) (step_taken n q os (resolve_step i a r))) e.1
        (once_together Found _ _ (resolved l r (slice_get es i) (slice_get os i) (slice_get es j) (slice_get os j) e.2 (each_get Clauses es os i h) (each_get Clauses es os j h))))
    step_together es os h s t e = absurd e

    derived : (steps others : List Step) (es os cs : List Clause) → AreEach Clauses es os → AreEach Steps steps others → clauses_behind m p es steps ≡ Some cs
        → (ds : List Clause) × (clauses_behind n q os others ≡ Some ds) × AreEach Clauses cs ds
    derived [] [] es os cs h k e = (os, refl, subst (λ (xs : List Clause). AreEach Clauses xs os) (same_Some es cs e) h)
    derived [] (t ∷ ts) es os cs h k e = absurd k
    derived (s ∷ ss) [] es os cs h k e = absurd k
    derived (s ∷ ss) (t ∷ ts) es os cs h k e =
        let found_there = taken (step_clause m p es s) (λ c. clauses_behind m p (es ++ c ∷ []) ss) cs e in
        let other = both_some Clauses (step_clause m p es s) (step_clause n q os t) found_there.0 (step_together es os h s t k.0).result found_there.1 in
        let rest = derived ss ts (es ++ found_there.0 ∷ []) (os ++ other.0 ∷ []) cs (each_append Clauses es (found_there.0 ∷ []) os (other.0 ∷ []) h (other.2, tt)) k.1 found_there.2 in (
          rest.0,
          ap (λ o. elim o [ None ↦ None | Some c ↦ clauses_behind n q (os ++ c ∷ []) ts ]) other.1 ∙ rest.1,
          rest.2,
        )

    fitting : (steps others : List Step) → AreEach Steps steps others → StepsFit m p steps → StepsFit n q others
    fitting [] [] k e = no_operation
    fitting [] (t ∷ ts) k e = absurd k
    fitting (s ∷ ss) [] k e = absurd k
    fitting (s ∷ ss) (t ∷ ts) k e =
        both_fit (step_operations n q t) _ (fits_among (step_operations m p s) (step_operations n q t) (step_together [] [] tt s t k.0).operations (front_fits (step_operations m p s) _ e))
        (fitting ss ts k.1 (rest_fits (step_operations m p s) _ e))

pub derivations_renumber : DerivationsRenumber
derivations_renumber = record {
  clauses = λ m n us may p q premises steps others h cs e. derived m n us may p q premises steps others [] [] cs tt h e;
  fits = λ m n us may p q premises steps others h e. fitting m n us may p q premises steps others h e;
}
