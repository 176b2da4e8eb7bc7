-- The clauses of needed terms are true under each assignment, and those that state a term where it is so.
use Rattle.std.proofs.Common.{◌≡◌, ◌⊎◌, inl, inr, Bool, true, false, not, ◌&&◌, ◌||◌, List, [], ◌∷◌, ◌++◌, map, refl, sym, ap, subst, ◌∙◌, true≢false}
use Rattle.std.specs.Prelude.{⊤, if◌then◌else◌}
use Rattle.std.specs.List.{AllByRecursion, list_all, list_any}
use Rattle.std.proofs.Math.Bool.{or-false}
use Rattle.std.proofs.lemmas.Bool.{and_parts}
use Rattle.std.proofs.lemmas.List.{map-append}
use Rattle.nz_lists.proofs.Elements.{AllByRecursion-append}
use Rattle.nz_fractions.specs.Fraction.{fraction_lt, fraction_le}
use Rattle.nz_spec.specs.numbers.Computation.{Computation, in_turn}
use Rattle.nz_spec.specs.terms.Term.{bool_sort, real_sort, Head, constant, verum, falsum, negation, conjunction, disjunction, exclusion, equality, choice, less, at_most, is_int, integer_quotient, modulus, magnitude, to_int, Term, apply, Terms, no_terms, terms, Value, Assignment, is_true, all_true, some_true, value_of, values_of}
use Rattle.nz_spec.specs.terms.Linear.{constant_values, is_linear_node, is_linear, are_linear}
use Rattle.nz_spec.specs.terms.Model.{IsAssignment}
use Rattle.nz_spec.specs.terms.Form.{Numbering, unit_value}
use Rattle.nz_spec.specs.terms.Taken.{IsTakenHead, IsTaken}
use Rattle.nz_spec.specs.clauses.Literal.{Literal, term_literal, is_at_most, is_below, are_same_sign, is_literal_true, Clause, IsClauseTrue}
use Rattle.nz_spec.specs.clauses.Gates.{is_boolean_term, list_of, holds, fails, gate_clauses}
use Rattle.nz_spec.specs.clauses.Links.{link_clauses}
use Rattle.nz_spec.specs.clauses.Units.{unit_clauses}
use Rattle.nz_spec.specs.clauses.Polarity.{Need, conjuncts, conjuncts_of, disjuncts, disjuncts_of, behind, results, rows_of, unit_rows, literal_of, standing_for, spliced, own_clauses, needed_clauses, stating_clauses}
use Rattle.nz_spec.specs.laws.Forcing.{NeededClausesAreTrue}
use Rattle.nz_spec.proofs.GateTruths.{or_neither, gates_are_true}
use Rattle.nz_spec.proofs.LinkTruths.{and-true, at_most_is, below_is, le_or_lt, lt_or_le, links_are_true}
use Rattle.nz_spec.proofs.NeededRows.{pairs}
use Rattle.nz_spec.proofs.SaidClauses.{OneSaid}
use Rattle.nz_spec.proofs.TakenTerms.{AreTaken, arguments_taken, first_taken, rest_taken, taken_terms_are_in_order}
use Rattle.nz_spec.proofs.UnitTruths.{units_are_true}

-- ---- What the rows of a term are over

-- each of the literals on terms is on one with the property
abbrev OnTerms : (Term → Type 0) → Literal → Type 0
OnTerms P (term_literal t sign) = P t
OnTerms P (is_at_most ps b) = ⊤
OnTerms P (is_below ps b) = ⊤

-- the row begins with a literal on the term, and the others are on terms with the property
abbrev BeginsWith : Term → (Term → Type 0) → Clause → Type 0
BeginsWith t P [] = ⊥
BeginsWith t P (term_literal u sign ∷ row) = (u ≡ t) × AllByRecursion (OnTerms P) row
BeginsWith t P (is_at_most ps b ∷ row) = ⊥
BeginsWith t P (is_below ps b ∷ row) = ⊥

module _ (P : Term → Type 0) where
  abbrev AllAre : Terms → Type 0
  AllAre no_terms = ⊤
  AllAre (terms t ts) = P t × AllAre ts

  abbrev Begin : Term → List Clause → Type 0
  Begin t rows = AllByRecursion (BeginsWith t P) rows

  pairs_begin : (t : Term) (first second : Bool) (ts : Terms) → AllAre ts → Begin t (pairs t first second (list_of ts))
  pairs_begin t first second no_terms p = tt
  pairs_begin t first second (terms u us) p = ((refl, (p.0, tt)), pairs_begin t first second us p.1)

  on_each : (sign : Bool) (ts : Terms) → AllAre ts → AllByRecursion (OnTerms P) (map (λ u. term_literal u sign) (list_of ts))
  on_each sign no_terms p = tt
  on_each sign (terms u us) p = (p.0, on_each sign us p.1)

  by_test : (t : Term) (b : Bool) (rows : List Clause) → Begin t rows → Begin t (if b then rows else [])
  by_test t true rows h = h
  by_test t false rows h = tt

  by_other : (t : Term) (b : Bool) (rows : List (List (Computation Literal))) → Begin t (results (map in_turn rows)) → Begin t (results (map in_turn (if b then [] else rows)))
  by_other t true rows h = tt
  by_other t false rows h = h

  gates_begin : (h : Head) (ts : Terms) → AllAre ts → Begin (apply h ts) (gate_clauses (apply h ts))
  gates_begin verum no_terms p = ((refl, tt), tt)
  gates_begin falsum no_terms p = ((refl, tt), tt)
  gates_begin negation (terms t no_terms) p = ((refl, (p.0, tt)), ((refl, (p.0, tt)), tt))
  gates_begin conjunction ts p =
      let t = apply conjunction ts in
      AllByRecursion-append (BeginsWith t P) (pairs t false true (list_of ts)) ((holds t ∷ map fails (list_of ts)) ∷ [])
      (pairs_begin t false true ts p) ((refl, on_each false ts p), tt)
  gates_begin disjunction ts p =
      let t = apply disjunction ts in
      AllByRecursion-append (BeginsWith t P) (pairs t true false (list_of ts)) ((fails t ∷ map holds (list_of ts)) ∷ [])
      (pairs_begin t true false ts p) ((refl, on_each true ts p), tt)
  gates_begin exclusion (terms t (terms u no_terms)) p =
      ((refl, (p.0, (p.1.0, tt))), ((refl, (p.0, (p.1.0, tt))), ((refl, (p.0, (p.1.0, tt))), ((refl, (p.0, (p.1.0, tt))), tt))))
  gates_begin equality (terms t (terms u no_terms)) p =
      by_test (apply equality (terms t (terms u no_terms))) (is_boolean_term t) _
      ((refl, (p.0, (p.1.0, tt))), ((refl, (p.0, (p.1.0, tt))), ((refl, (p.0, (p.1.0, tt))), ((refl, (p.0, (p.1.0, tt))), tt))))
  gates_begin (choice bool_sort) (terms c (terms t (terms u no_terms))) p =
      ((refl, (p.0, (p.1.0, tt))), ((refl, (p.0, (p.1.1.0, tt))), ((refl, (p.0, (p.1.0, tt))), ((refl, (p.0, (p.1.1.0, tt))), tt))))
  gates_begin h ts p = tt

  links_begin : (number : Numbering) (h : Head) (ts : Terms) → Begin (apply h ts) (results (link_clauses number (apply h ts)))
  links_begin number less (terms t (terms u no_terms)) = ((refl, (tt, tt)), ((refl, (tt, tt)), tt))
  links_begin number at_most (terms t (terms u no_terms)) = ((refl, (tt, tt)), ((refl, (tt, tt)), tt))
  links_begin number equality (terms t (terms u no_terms)) =
      by_other (apply equality (terms t (terms u no_terms))) (is_boolean_term t) _ ((refl, (tt, tt)), ((refl, (tt, tt)), ((refl, (tt, (tt, tt))), tt)))
  links_begin number is_int (terms t no_terms) = ((refl, (tt, tt)), ((refl, (tt, tt)), tt))
  links_begin number h ts = tt

  units_on : (number : Numbering) (h : Head) (ts : Terms) → IsTakenHead h ts → AllAre ts
      → AllByRecursion (λ (row : Clause). AllByRecursion (OnTerms P) row) (unit_rows number (apply h ts))
  units_on number (choice bool_sort) ts k p = tt
  units_on number (choice real_sort) (terms c (terms t (terms u no_terms))) k p = ((p.0, (tt, tt)), ((p.0, (tt, tt)), ((p.0, (tt, tt)), ((p.0, (tt, tt)), tt))))
  units_on number (choice s) ts k p = absurd k
  units_on number integer_quotient ts k p = absurd k
  units_on number modulus ts k p = absurd k
  units_on number magnitude ts k p = absurd k
  units_on number to_int ts k p = absurd k
  units_on number h ts k p = tt

-- ---- Truths by recursion

module _ (f : Literal → Bool) where
  to_said : (c : Clause) → list_any f c ≡ true → OneSaid (λ (l : Literal). f l ≡ true) c
  to_said [] e = true≢false (sym e)
  to_said (l ∷ ls) e = by_first (f l) refl (to_said ls) e
    where
      by_first : (b : Bool) → f l ≡ b → (list_any f ls ≡ true → OneSaid (λ (m : Literal). f m ≡ true) ls) → (b || list_any f ls) ≡ true
          → (f l ≡ true) ⊎ OneSaid (λ (m : Literal). f m ≡ true) ls
      by_first true e rest g = inl e
      by_first false e rest g = inr (rest g)

  from_said : (c : Clause) → OneSaid (λ (l : Literal). f l ≡ true) c → list_any f c ≡ true
  from_said [] h = absurd h
  from_said (l ∷ ls) (inl e) = ap (λ (b : Bool). b || list_any f ls) e
  from_said (l ∷ ls) (inr h) = ap (λ (b : Bool). f l || b) (from_said ls h) ∙ or_true (f l)
    where
      or_true : (b : Bool) → (b || true) ≡ true
      or_true true = refl
      or_true false = refl

module _ (S : Literal → Type 0) where
  said_left : (c d : Clause) → OneSaid S c → OneSaid S (c ++ d)
  said_left [] d h = absurd h
  said_left (l ∷ ls) d (inl h) = inl h
  said_left (l ∷ ls) d (inr h) = inr (said_left ls d h)

  said_right : (c d : Clause) → OneSaid S d → OneSaid S (c ++ d)
  said_right [] d h = h
  said_right (l ∷ ls) d h = inr (said_right ls d h)

-- ---- Signs

other_sign : (s sign : Bool) → are_same_sign s sign ≡ false → s ≡ not sign
other_sign true true e = absurd (true≢false e)
other_sign true false e = refl
other_sign false true e = refl
other_sign false false e = absurd (true≢false e)

turned_sign : (sign b : Bool) → are_same_sign sign (not b) ≡ are_same_sign (not sign) b
turned_sign true b = refl
turned_sign false true = refl
turned_sign false false = refl

never_both : (sign b : Bool) → are_same_sign sign b ≡ true → are_same_sign (not sign) b ≡ true → ⊥
never_both true true e f = true≢false (sym f)
never_both true false e f = true≢false (sym e)
never_both false true e f = true≢false (sym e)
never_both false false e f = true≢false (sym f)

not_true : (b : Bool) → not b ≡ true → b ≡ false
not_true true e = absurd (true≢false (sym e))
not_true false e = refl

some_is_any : (vs : List Value) → is_true (some_true vs) ≡ list_any is_true vs
some_is_any [] = refl
some_is_any (w ∷ []) = sym (or-false (is_true w))
some_is_any (w ∷ x ∷ vs) = refl

all_is_all : (vs : List Value) → is_true (all_true vs) ≡ list_all is_true vs
all_is_all [] = refl
all_is_all (w ∷ []) = sym (and-true (is_true w))
all_is_all (w ∷ x ∷ vs) = refl

mapped : {X Y : Type 0} (P : Y → Type 0) (Q : X → Type 0) (f : X → Y) → ((x : X) → Q x → P (f x)) → (xs : List X) → AllByRecursion Q xs → AllByRecursion P (map f xs)
mapped P Q f g [] h = tt
mapped P Q f g (x ∷ xs) h = (g x h.0, mapped P Q f g xs h.1)

abbrev Linear : Term → Type 0
Linear t = is_linear t ≡ true

all_linear : (ts : Terms) → are_linear ts ≡ true → AllAre Linear ts
all_linear no_terms e = tt
all_linear (terms t ts) e = let both = and_parts (is_linear t) (are_linear ts) e in (both.0, all_linear ts both.1)

arguments_linear : (h : Head) (ts : Terms) → Linear (apply h ts) → AllAre Linear ts
arguments_linear h ts e = all_linear ts (and_parts (is_linear_node h (constant_values ts)) (are_linear ts) e).1

module _ (number : Numbering) (opened : Term → Bool) (a : Assignment) (good : IsAssignment a) where
  abbrev Holds : Literal → Type 0
  Holds l = is_literal_true a l ≡ true

  abbrev OneHolds : Clause → Type 0
  OneHolds c = OneSaid Holds c

  -- ---- Literals that stand for a term's

  abbrev Literals : List Need → Clause
  Literals ns = map (λ (n : Need). literal_of number n.term n.sign) ns

  -- where a literal on the term is true, so is one of those that stand for it
  abbrev Stands : Term → Type 0
  Stands t = (sign : Bool) → Holds (term_literal t sign) → OneHolds (Literals (disjuncts opened t sign))

  parts_hold : (ns ms : List Need) → OneHolds (Literals ns ++ Literals ms) → OneHolds (Literals (ns ++ ms))
  parts_hold ns ms h = subst OneHolds (sym (map-append (λ (n : Need). literal_of number n.term n.sign) ns ms)) h

  one_true : (ts : Terms) → AllAre Stands ts → list_any is_true (values_of a ts) ≡ true → OneHolds (Literals (disjuncts_of opened ts true))
  one_true no_terms s e = true≢false (sym e)
  one_true (terms t ts) s e = parts_hold (disjuncts opened t true) (disjuncts_of opened ts true) (by_first (is_true (value_of a t)) refl (one_true ts s.1) e)
    where
      by_first : (b : Bool) → is_true (value_of a t) ≡ b → (list_any is_true (values_of a ts) ≡ true → OneHolds (Literals (disjuncts_of opened ts true)))
          → (b || list_any is_true (values_of a ts)) ≡ true → OneHolds (Literals (disjuncts opened t true) ++ Literals (disjuncts_of opened ts true))
      by_first true f rest g = said_left Holds (Literals (disjuncts opened t true)) (Literals (disjuncts_of opened ts true)) (s.0 true f)
      by_first false f rest g = said_right Holds (Literals (disjuncts opened t true)) (Literals (disjuncts_of opened ts true)) (rest g)

  one_false : (ts : Terms) → AllAre Stands ts → list_all is_true (values_of a ts) ≡ false → OneHolds (Literals (disjuncts_of opened ts false))
  one_false no_terms s e = true≢false e
  one_false (terms t ts) s e = parts_hold (disjuncts opened t false) (disjuncts_of opened ts false) (by_first (is_true (value_of a t)) refl (one_false ts s.1) e)
    where
      by_first : (b : Bool) → is_true (value_of a t) ≡ b → (list_all is_true (values_of a ts) ≡ false → OneHolds (Literals (disjuncts_of opened ts false)))
          → (b && list_all is_true (values_of a ts)) ≡ false → OneHolds (Literals (disjuncts opened t false) ++ Literals (disjuncts_of opened ts false))
      by_first false f rest g = said_left Holds (Literals (disjuncts opened t false)) (Literals (disjuncts_of opened ts false)) (s.0 false (ap not f))
      by_first true f rest g = said_right Holds (Literals (disjuncts opened t false)) (Literals (disjuncts_of opened ts false)) (rest g)

  by_opened : (t : Term) (sign b : Bool) (ns : List Need) → (b ≡ true → OneHolds (Literals ns)) → Holds (literal_of number t sign)
      → OneHolds (Literals (if b then ns else record { term = t; sign = sign } ∷ []))
  by_opened t sign true ns h k = h refl
  by_opened t sign false ns h k = inl k

  module _ (t u : Term) (l : Linear t) (k : Linear u) where
    less_stands : (sign : Bool) → Holds (term_literal (apply less (terms t (terms u no_terms))) sign) → Holds (literal_of number (apply less (terms t (terms u no_terms))) sign)
    less_stands true h = below_is number a t u l k ∙ sym (and-true (fraction_lt (unit_value a t) (unit_value a u))) ∙ h
    less_stands false h =
        at_most_is number a u t k l ∙ le_or_lt (unit_value a t) (unit_value a u) ∙ ap not (sym (and-true (fraction_lt (unit_value a t) (unit_value a u)))) ∙ h

    at_most_stands : (sign : Bool) → Holds (term_literal (apply at_most (terms t (terms u no_terms))) sign) → Holds (literal_of number (apply at_most (terms t (terms u no_terms))) sign)
    at_most_stands true h = at_most_is number a t u l k ∙ sym (and-true (fraction_le (unit_value a t) (unit_value a u))) ∙ h
    at_most_stands false h =
        below_is number a u t k l ∙ lt_or_le (unit_value a t) (unit_value a u) ∙ ap not (sym (and-true (fraction_le (unit_value a t) (unit_value a u)))) ∙ h

  node_stands : (h : Head) (ts : Terms) → AllAre Linear ts → AllAre Stands ts → Stands (apply h ts)
  node_stands negation (terms t no_terms) l s sign h = s.0 (not sign) (sym (turned_sign sign (is_true (value_of a t))) ∙ h)
  node_stands disjunction ts l s true h =
      by_opened (apply disjunction ts) true (opened (apply disjunction ts)) (disjuncts_of opened ts true) (λ o. one_true ts s (sym (some_is_any (values_of a ts)) ∙ h)) h
  node_stands conjunction ts l s false h =
      by_opened (apply conjunction ts) false (opened (apply conjunction ts)) (disjuncts_of opened ts false)
      (λ o. one_false ts s (sym (all_is_all (values_of a ts)) ∙ not_true (is_true (all_true (values_of a ts))) h)) h
  node_stands less (terms t (terms u no_terms)) l s sign h = inl (less_stands t u l.0 l.1.0 sign h)
  node_stands at_most (terms t (terms u no_terms)) l s sign h = inl (at_most_stands t u l.0 l.1.0 sign h)
  node_stands h ts l s sign k = inl k

  mutual
    stands : (t : Term) → Linear t → Stands t
    stands (apply h ts) l = node_stands h ts (arguments_linear h ts l) (all_stand ts (arguments_linear h ts l))

    all_stand : (ts : Terms) → AllAre Linear ts → AllAre Stands ts
    all_stand no_terms l = tt
    all_stand (terms t ts) l = (stands t l.0, all_stand ts l.1)

  -- ---- Rows

  literal_stands : (l : Literal) → OnTerms Linear l → Holds l → OneHolds (standing_for number opened l)
  literal_stands (term_literal t sign) p h = stands t p sign h
  literal_stands (is_at_most ps b) p h = inl h
  literal_stands (is_below ps b) p h = inl h

  row_stands : (row : Clause) → AllByRecursion (OnTerms Linear) row → OneHolds row → OneHolds (spliced number opened row)
  row_stands [] p h = absurd h
  row_stands (l ∷ ls) p (inl h) = said_left Holds (standing_for number opened l) (spliced number opened ls) (literal_stands l p.0 h)
  row_stands (l ∷ ls) p (inr h) = said_right Holds (standing_for number opened l) (spliced number opened ls) (row_stands ls p.1 h)

  -- the term's own literal is true, or one of those behind it
  abbrev Own : Term → Bool → Clause → Type 0
  Own t sign row = Holds (term_literal t (not sign)) ⊎ OneHolds (spliced number opened row)

  own_row : (t u : Term) (s sign : Bool) (row : Clause) → u ≡ t → s ≡ not sign → AllByRecursion (OnTerms Linear) row → OneHolds (term_literal u s ∷ row) → Own t sign row
  own_row t u s sign row e f p (inl h) = inl (subst (λ (w : Term). Holds (term_literal w (not sign))) e (subst (λ (b : Bool). Holds (term_literal u b)) f h))
  own_row t u s sign row e f p (inr h) = inr (row_stands row p h)

  behind_by : (t : Term) (sign b : Bool) (row : Clause) (rows : List Clause) → (b ≡ false → Own t sign row) → AllByRecursion (Own t sign) (behind sign rows)
      → AllByRecursion (Own t sign) (if b then behind sign rows else row ∷ behind sign rows)
  behind_by t sign true row rows h k = k
  behind_by t sign false row rows h k = (h refl, k)

  behind_true : (t : Term) (sign : Bool) (rows : List Clause) → Begin Linear t rows → AllByRecursion (IsClauseTrue a) rows → AllByRecursion (Own t sign) (behind sign rows)
  behind_true t sign [] p k = tt
  behind_true t sign ([] ∷ rows) p k = absurd p.0
  behind_true t sign ((term_literal u s ∷ row) ∷ rows) p k =
      behind_by t sign (are_same_sign s sign) row rows
      (λ e. own_row t u s sign row p.0.0 (other_sign s sign e) p.0.1 (to_said (is_literal_true a) (term_literal u s ∷ row) k.0))
      (behind_true t sign rows p.1 k.1)
  behind_true t sign ((is_at_most ps b ∷ row) ∷ rows) p k = absurd p.0
  behind_true t sign ((is_below ps b ∷ row) ∷ rows) p k = absurd p.0

  results_true : (cs : List (Computation Clause)) → AllByRecursion (λ (c : Computation Clause). IsClauseTrue a c.result) cs → AllByRecursion (IsClauseTrue a) (results cs)
  results_true cs h = mapped (IsClauseTrue a) (λ (c : Computation Clause). IsClauseTrue a c.result) (λ (c : Computation Clause). c.result) (λ c k. k) cs h

  gates_true : (t : Term) → IsTaken t → AllByRecursion (IsClauseTrue a) (gate_clauses t)
  gates_true t k =
      elim (taken_terms_are_in_order.gates t k) [
        | inl none ↦ subst (λ (cs : List Clause). AllByRecursion (IsClauseTrue a) cs) (sym none) tt
        | inr s ↦ gates_are_true a good t s
      ]

  rows_true : (h : Head) (ts : Terms) → IsTaken (apply h ts) → (sign : Bool) → AllByRecursion (Own (apply h ts) sign) (rows_of number (apply h ts) sign)
  rows_true h ts k sign =
      let t = apply h ts in
      AllByRecursion-append (Own t sign) (behind sign (gate_clauses t)) (behind sign (results (link_clauses number t)))
      (behind_true t sign (gate_clauses t) (gates_begin Linear h ts (arguments_linear h ts k.linear)) (gates_true t k))
      (behind_true t sign (results (link_clauses number t)) (links_begin Linear number h ts)
      (results_true (link_clauses number t) (links_are_true number a good t (taken_terms_are_in_order.arithmetic t k))))

  own_true : (h : Head) (ts : Terms) → IsTaken (apply h ts) → (sign : Bool) → AllByRecursion (IsClauseTrue a) (own_clauses number opened (apply h ts) sign)
  own_true h ts k sign =
      mapped (IsClauseTrue a) (Own (apply h ts) sign) (λ row. term_literal (apply h ts) (not sign) ∷ spliced number opened row)
      (λ row o. from_said (is_literal_true a) (term_literal (apply h ts) (not sign) ∷ spliced number opened row) o)
      (rows_of number (apply h ts) sign) (rows_true h ts k sign)

  spliced_true : (rows : List Clause) → AllByRecursion (λ (row : Clause). AllByRecursion (OnTerms Linear) row) rows → AllByRecursion (IsClauseTrue a) rows
      → AllByRecursion (IsClauseTrue a) (map (spliced number opened) rows)
  spliced_true [] p k = tt
  spliced_true (row ∷ rows) p k =
      (from_said (is_literal_true a) (spliced number opened row) (row_stands row p.0 (to_said (is_literal_true a) row k.0)), spliced_true rows p.1 k.1)

  needed_true : (h : Head) (ts : Terms) → IsTaken (apply h ts) → (sign : Bool) → AllByRecursion (IsClauseTrue a) (needed_clauses number opened (apply h ts) sign)
  needed_true less ts k sign = tt
  needed_true at_most ts k sign = tt
  needed_true h ts k sign =
      let t = apply h ts in
      AllByRecursion-append (IsClauseTrue a) (own_clauses number opened t sign) (map (spliced number opened) (unit_rows number t)) (own_true h ts k sign)
      (spliced_true (unit_rows number t) (units_on Linear number h ts k.heads.0 (arguments_linear h ts k.linear))
      (results_true (unit_clauses number t) (units_are_true number a good t (taken_terms_are_in_order.arithmetic t k))))

  -- ---- What is asserted

  abbrev Stating : Need → Type 0
  Stating n = AllByRecursion (IsClauseTrue a) (stating_clauses number opened n.term n.sign)

  abbrev Asserts : Term → Type 0
  Asserts t = (sign : Bool) → Holds (term_literal t sign) → AllByRecursion Stating (conjuncts t sign)

  stated_true : (h : Head) (ts : Terms) → IsTaken (apply h ts) → (sign : Bool) → Holds (term_literal (apply h ts) sign)
      → AllByRecursion (IsClauseTrue a) (map (spliced number opened) (rows_of number (apply h ts) sign))
  stated_true h ts k sign so =
      mapped (IsClauseTrue a) (Own (apply h ts) sign) (spliced number opened)
      (λ row o. from_said (is_literal_true a) (spliced number opened row) (elim o [ inl e ↦ absurd (never_both sign (is_true (value_of a (apply h ts))) so e) | inr e ↦ e ]))
      (rows_of number (apply h ts) sign) (rows_true h ts k sign)

  each_asserts : (ts : Terms) → AllAre Asserts ts → list_all is_true (values_of a ts) ≡ true → AllByRecursion Stating (conjuncts_of ts true)
  each_asserts no_terms s e = tt
  each_asserts (terms t ts) s e =
      let both = and_parts (is_true (value_of a t)) (list_all is_true (values_of a ts)) e in
      AllByRecursion-append Stating (conjuncts t true) (conjuncts_of ts true) (s.0 true both.0) (each_asserts ts s.1 both.1)

  none_asserts : (ts : Terms) → AllAre Asserts ts → list_any is_true (values_of a ts) ≡ false → AllByRecursion Stating (conjuncts_of ts false)
  none_asserts no_terms s e = tt
  none_asserts (terms t ts) s e =
      let both = or_neither (is_true (value_of a t)) (list_any is_true (values_of a ts)) e in
      AllByRecursion-append Stating (conjuncts t false) (conjuncts_of ts false) (s.0 false (ap not both.0)) (none_asserts ts s.1 both.1)

  node_asserts : (h : Head) (ts : Terms) → IsTaken (apply h ts) → AllAre Asserts ts → Asserts (apply h ts)
  node_asserts (constant c) ts k s sign so = ((or-false (is_literal_true a (term_literal (apply (constant c) ts) sign)) ∙ so, tt), tt)
  node_asserts negation (terms t no_terms) k s sign so = s.0 (not sign) (sym (turned_sign sign (is_true (value_of a t))) ∙ so)
  node_asserts conjunction ts k s true so = each_asserts ts s (sym (all_is_all (values_of a ts)) ∙ so)
  node_asserts disjunction ts k s false so = none_asserts ts s (sym (some_is_any (values_of a ts)) ∙ not_true (is_true (some_true (values_of a ts))) so)
  node_asserts h ts k s sign so = (stated_true h ts k sign so, tt)

  mutual
    asserts : (t : Term) → IsTaken t → Asserts t
    asserts (apply h ts) k = node_asserts h ts k (all_assert ts (arguments_taken h ts k))

    all_assert : (ts : Terms) → AreTaken ts → AllAre Asserts ts
    all_assert no_terms k = tt
    all_assert (terms t ts) k = (asserts t (first_taken t ts k), all_assert ts (rest_taken t ts k))

  own_clauses_true : (t : Term) → IsTaken t → (sign : Bool) → AllByRecursion (IsClauseTrue a) (own_clauses number opened t sign)
  own_clauses_true (apply h ts) k sign = own_true h ts k sign

  needed_clauses_true : (t : Term) → IsTaken t → (sign : Bool) → AllByRecursion (IsClauseTrue a) (needed_clauses number opened t sign)
  needed_clauses_true (apply h ts) k sign = needed_true h ts k sign

pub needed_clauses_are_true : NeededClausesAreTrue
needed_clauses_are_true = record {
  needed = λ number opened a good t sign k. needed_clauses_true number opened a good t k sign;
  own = λ number opened a good t sign k. own_clauses_true number opened a good t k sign;
  asserted = λ number opened a good t sign k so. asserts number opened a good t k sign so;
}
