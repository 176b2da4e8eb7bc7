-- The clauses of a gate are true: by the truths of the arguments.
use Rattle.std.proofs.Common.{◌≡◌, Bool, true, false, not, ◌&&◌, ◌||◌, List, [], ◌∷◌, ◌++◌, map, refl, sym, ap, ◌∙◌, true≢false}
use Rattle.std.specs.Prelude.{if◌then◌else◌}
use Rattle.std.specs.List.{AllByRecursion, list_any, list_all}
use Rattle.std.proofs.Math.Bool.{or-false}
use Rattle.nz_spec.specs.terms.Term.{Sort, bool_sort, int_sort, real_sort, over_int, over_real, Head, constant, parameter, integer, decimal_number, verum, falsum, negation, conjunction, disjunction, implication, exclusion, equality, distinction, choice, less, at_most, greater, at_least, sum, difference, product, quotient, integer_quotient, modulus, magnitude, to_real, to_int, is_int, Term, apply, Terms, no_terms, terms, Assignment, Value, truth, number, is_true, value_of, values_of, head_value, sort_of, is_bool, IsOfSort, all_true, some_true, implied, excluded, combined, default_value, are_equal, is_numeric, holds_number, hold_number}
use Rattle.nz_spec.specs.terms.Model.{IsAssignment}
use Rattle.nz_spec.specs.clauses.Literal.{Clause, is_clause_true, IsClauseTrue}
use Rattle.nz_spec.specs.clauses.Gates.{holds, fails, list_of, is_boolean_term, conjunction_clauses, disjunction_clauses, clauses_over, IsBoolean, HasBooleanArguments, GatesAreTrue, PlainTermsAreBoolean}
use Rattle.nz_spec.proofs.Literals.{or_first, or_second}
use Rattle.std.proofs.lemmas.Bool.{and_parts}

-- whether the term is true
abbrev told : Assignment → Term → Bool
told a t = is_true (value_of a t)

abbrev AllTrue : List Bool → Type 0
AllTrue bs = AllByRecursion (λ (b : Bool). b ≡ true) bs

-- ---- Conjunctions and disjunctions

and-true : (b : Bool) → b ≡ (b && true)
and-true true = refl
and-true false = refl

all_told : (a : Assignment) (ts : Terms) → list_all is_true (values_of a ts) ≡ list_all (told a) (list_of ts)
all_told a no_terms = refl
all_told a (terms t ts) = ap (λ b. told a t && b) (all_told a ts)

some_told : (a : Assignment) (ts : Terms) → list_any is_true (values_of a ts) ≡ list_any (told a) (list_of ts)
some_told a no_terms = refl
some_told a (terms t ts) = ap (λ b. told a t || b) (some_told a ts)

conjunction_is : (a : Assignment) (ts : Terms) → is_true (all_true (values_of a ts)) ≡ list_all (told a) (list_of ts)
conjunction_is a no_terms = refl
conjunction_is a (terms t no_terms) = and-true (told a t)
conjunction_is a (terms t (terms u us)) = all_told a (terms t (terms u us))

disjunction_is : (a : Assignment) (ts : Terms) → is_true (some_true (values_of a ts)) ≡ list_any (told a) (list_of ts)
disjunction_is a no_terms = refl
disjunction_is a (terms t no_terms) = sym (or-false (told a t))
disjunction_is a (terms t (terms u us)) = some_told a (terms t (terms u us))

pub all-append : {X : Type 0} (P : X → Type 0) (xs : List X) (x : X) → AllByRecursion P xs → P x → AllByRecursion P (xs ++ x ∷ [])
all-append P [] x h k = (k, tt)
all-append P (y ∷ ys) x h k = (h.0, all-append P ys x h.1 k)

-- one follows from the other
pub implies : (b c : Bool) → (b ≡ true → c ≡ true) → (not b || (c || false)) ≡ true
implies true c h = or-false c ∙ h refl
implies false c h = refl

implied_by : (b c : Bool) → (c ≡ true → b ≡ true) → (b || (not c || false)) ≡ true
implied_by true c h = refl
implied_by false true h = absurd (true≢false (sym (h refl)))
implied_by false false h = refl

each_argument : (a : Assignment) (t : Term) (args : List Term) → (told a t ≡ true → list_all (told a) args ≡ true)
    → AllByRecursion (IsClauseTrue a) (map (λ u. fails t ∷ holds u ∷ []) args)
each_argument a t [] h = tt
each_argument a t (u ∷ us) h = (
  implies (told a t) (told a u) (λ e. (and_parts (told a u) (list_all (told a) us) (h e)).0),
  each_argument a t us (λ e. (and_parts (told a u) (list_all (told a) us) (h e)).1),
)

some_argument : (a : Assignment) (t : Term) (args : List Term) → (list_any (told a) args ≡ true → told a t ≡ true)
    → AllByRecursion (IsClauseTrue a) (map (λ u. holds t ∷ fails u ∷ []) args)
some_argument a t [] h = tt
some_argument a t (u ∷ us) h = (
  implied_by (told a t) (told a u) (λ e. h (or_first (told a u) (list_any (told a) us) e)),
  some_argument a t us (λ e. h (or_second (told a u) (list_any (told a) us) e)),
)

more_of_all : (v A B : Bool) → (A || B) ≡ true → ((v && A) || (not v || B)) ≡ true
more_of_all true A B e = e
more_of_all false A B e = refl

all_or_fails : (a : Assignment) (args : List Term) → (list_all (told a) args || is_clause_true a (map fails args)) ≡ true
all_or_fails a [] = refl
all_or_fails a (u ∷ us) = more_of_all (told a u) (list_all (told a) us) (is_clause_true a (map fails us)) (all_or_fails a us)

any_holds : (a : Assignment) (args : List Term) → is_clause_true a (map holds args) ≡ list_any (told a) args
any_holds a [] = refl
any_holds a (u ∷ us) = ap (λ b. told a u || b) (any_holds a us)

not_or : (b : Bool) → (not b || b) ≡ true
not_or true = refl
not_or false = refl

conjunctions : (a : Assignment) (t : Term) (args : List Term) → told a t ≡ list_all (told a) args
    → AllByRecursion (IsClauseTrue a) (conjunction_clauses holds fails is_boolean_term t args)
conjunctions a t args e =
    all-append (IsClauseTrue a) (map (λ u. fails t ∷ holds u ∷ []) args) (holds t ∷ map fails args)
    (each_argument a t args (λ f. sym e ∙ f))
    (ap (λ b. b || is_clause_true a (map fails args)) e ∙ all_or_fails a args)

disjunctions : (a : Assignment) (t : Term) (args : List Term) → told a t ≡ list_any (told a) args
    → AllByRecursion (IsClauseTrue a) (disjunction_clauses holds fails is_boolean_term t args)
disjunctions a t args e =
    all-append (IsClauseTrue a) (map (λ u. holds t ∷ fails u ∷ []) args) (fails t ∷ map holds args)
    (some_argument a t args (λ f. e ∙ f))
    (ap (λ b. not (told a t) || b) (any_holds a args ∙ sym e) ∙ not_or (told a t))

-- ---- Operators of a fixed number of arguments

negation_rows : (v : Bool) → AllTrue ((not (not v) || (not v || false)) ∷ (not v || (v || false)) ∷ [])
negation_rows true = (refl, (refl, tt))
negation_rows false = (refl, (refl, tt))

exclusion_rows : (v w : Value) → IsOfSort bool_sort v
    → (let t = not (are_equal v w) in AllTrue
    ((not t || (is_true v || (is_true w || false))) ∷ (not t || (not (is_true v) || (not (is_true w) || false)))
    ∷ (t || (not (is_true v) || (is_true w || false))) ∷ (t || (is_true v || (not (is_true w) || false))) ∷ []))
exclusion_rows (truth true) (truth true) s = (refl, (refl, (refl, (refl, tt))))
exclusion_rows (truth true) (truth false) s = (refl, (refl, (refl, (refl, tt))))
exclusion_rows (truth true) (number q) s = (refl, (refl, (refl, (refl, tt))))
exclusion_rows (truth false) (truth true) s = (refl, (refl, (refl, (refl, tt))))
exclusion_rows (truth false) (truth false) s = (refl, (refl, (refl, (refl, tt))))
exclusion_rows (truth false) (number q) s = (refl, (refl, (refl, (refl, tt))))
exclusion_rows (number q) w s = absurd s

equality_rows : (v w : Value) → IsOfSort bool_sort v
    → (let t = are_equal v w && true in AllTrue
    ((not t || (not (is_true v) || (is_true w || false))) ∷ (not t || (is_true v || (not (is_true w) || false)))
    ∷ (t || (is_true v || (is_true w || false))) ∷ (t || (not (is_true v) || (not (is_true w) || false))) ∷ []))
equality_rows (truth true) (truth true) s = (refl, (refl, (refl, (refl, tt))))
equality_rows (truth true) (truth false) s = (refl, (refl, (refl, (refl, tt))))
equality_rows (truth true) (number q) s = (refl, (refl, (refl, (refl, tt))))
equality_rows (truth false) (truth true) s = (refl, (refl, (refl, (refl, tt))))
equality_rows (truth false) (truth false) s = (refl, (refl, (refl, (refl, tt))))
equality_rows (truth false) (number q) s = (refl, (refl, (refl, (refl, tt))))
equality_rows (number q) w s = absurd s

on_test : (P : List Clause → Type 0) (b : Bool) (cs : List Clause) → P cs → P [] → P (if b then cs else [])
on_test P true cs h k = h
on_test P false cs h k = k

chosen_rows : (b : Bool) (v w : Value)
    → (let t = is_true (if b then v else w) in AllTrue
    ((not t || (not b || (is_true v || false))) ∷ (not t || (b || (is_true w || false)))
    ∷ (t || (not b || (not (is_true v) || false))) ∷ (t || (b || (not (is_true w) || false))) ∷ []))
chosen_rows true v w = (implies (is_true v) (is_true v) (λ e. e), (or_second (not (is_true v)) true refl, (implied_by (is_true v) (is_true v) (λ e. e), (or_second (is_true v) true refl, tt))))
chosen_rows false v w = (or_second (not (is_true w)) true refl, (implies (is_true w) (is_true w) (λ e. e), (or_second (is_true w) true refl, (implied_by (is_true w) (is_true w) (λ e. e), tt))))

choice_rows : (c v w : Value)
    → (let t = is_true (if is_true c then v else w) in AllTrue
    ((not t || (not (is_true c) || (is_true v || false))) ∷ (not t || (is_true c || (is_true w || false)))
    ∷ (t || (not (is_true c) || (not (is_true v) || false))) ∷ (t || (is_true c || (not (is_true w) || false))) ∷ []))
choice_rows c v w = chosen_rows (is_true c) v w

gates_over : (a : Assignment) → IsAssignment a → (h : Head) (ts : Terms) → AllByRecursion IsBoolean (list_of ts)
    → AllByRecursion (IsClauseTrue a) (clauses_over holds fails is_boolean_term (apply h ts) h (list_of ts))
gates_over a good verum no_terms s = (refl, tt)
gates_over a good falsum no_terms s = (refl, tt)
gates_over a good negation (terms u no_terms) s = negation_rows (told a u)
gates_over a good conjunction ts s = conjunctions a (apply conjunction ts) (list_of ts) (conjunction_is a ts)
gates_over a good disjunction ts s = disjunctions a (apply disjunction ts) (list_of ts) (disjunction_is a ts)
gates_over a good exclusion (terms u (terms v no_terms)) s = exclusion_rows (value_of a u) (value_of a v) (s.0 a good)
gates_over a good equality (terms u (terms v no_terms)) s =
    on_test (AllByRecursion (IsClauseTrue a)) (is_bool (sort_of u)) _ (equality_rows (value_of a u) (value_of a v) (s.0 a good)) tt
gates_over a good (choice bool_sort) (terms c (terms u (terms v no_terms))) s = choice_rows (value_of a c) (value_of a u) (value_of a v)
gates_over a good h ts s = tt

pub gates_are_true : GatesAreTrue
gates_are_true a good (apply h ts) s = gates_over a good h ts s

-- ---- Terms that hold no number

pub or_neither : (b c : Bool) → (b || c) ≡ false → (b ≡ false) × (c ≡ false)
or_neither true c e = absurd (true≢false e)
or_neither false c e = (refl, e)

either_is : (b : Bool) (v w : Value) → IsOfSort bool_sort v → IsOfSort bool_sort w → IsOfSort bool_sort (if b then v else w)
either_is true v w s t = s
either_is false v w s t = t

boolean_value : (s : Sort) (v : Value) → not (is_bool s) ≡ false → IsOfSort s v → IsOfSort bool_sort v
boolean_value bool_sort v e i = i
boolean_value int_sort v e i = absurd (true≢false e)
boolean_value real_sort v e i = absurd (true≢false e)

boolean_default : (s : Sort) → not (is_bool s) ≡ false → IsOfSort bool_sort (default_value s)
boolean_default bool_sort e = tt
boolean_default int_sort e = absurd (true≢false e)
boolean_default real_sort e = absurd (true≢false e)

all_is : (vs : List Value) → AllByRecursion (IsOfSort bool_sort) vs → IsOfSort bool_sort (all_true vs)
all_is [] i = tt
all_is (v ∷ []) i = i.0
all_is (v ∷ w ∷ vs) i = tt

some_is : (vs : List Value) → AllByRecursion (IsOfSort bool_sort) vs → IsOfSort bool_sort (some_true vs)
some_is [] i = tt
some_is (v ∷ []) i = i.0
some_is (v ∷ w ∷ vs) i = tt

implied_is : (vs : List Value) → AllByRecursion (IsOfSort bool_sort) vs → IsOfSort bool_sort (implied vs)
implied_is [] i = tt
implied_is (v ∷ []) i = i.0
implied_is (v ∷ w ∷ vs) i = tt

combined_is : (v : Value) (vs : List Value) → IsOfSort bool_sort v → IsOfSort bool_sort (combined excluded v vs)
combined_is v [] i = i
combined_is v (w ∷ ws) i = combined_is (excluded v w) ws tt

-- a head that is over no number gives a truth over truths
head_is : (a : Assignment) → IsAssignment a → (h : Head) (vs : List Value) → is_numeric h ≡ false
    → AllByRecursion (IsOfSort bool_sort) vs → IsOfSort bool_sort (head_value a h vs)
head_is a good (constant c) vs e i = boolean_value c.sort (a c) e (good c)
head_is a good (parameter n s) vs e i = boolean_default s e
head_is a good (integer n) vs e i = absurd (true≢false e)
head_is a good (decimal_number n places) vs e i = absurd (true≢false e)
head_is a good verum vs e i = tt
head_is a good falsum vs e i = tt
head_is a good negation [] e i = tt
head_is a good negation (v ∷ vs) e i = tt
head_is a good conjunction vs e i = all_is vs i
head_is a good disjunction vs e i = some_is vs i
head_is a good implication vs e i = implied_is vs i
head_is a good exclusion [] e i = tt
head_is a good exclusion (v ∷ vs) e i = combined_is v vs i.0
head_is a good equality vs e i = tt
head_is a good distinction vs e i = tt
head_is a good (choice s) (c ∷ v ∷ w ∷ []) e i = either_is (is_true c) v w i.1.0 i.1.1.0
head_is a good (choice s) vs e i = tt
head_is a good less vs e i = tt
head_is a good at_most vs e i = tt
head_is a good greater vs e i = tt
head_is a good at_least vs e i = tt
head_is a good (sum over_int) vs e i = absurd (true≢false e)
head_is a good (sum over_real) vs e i = absurd (true≢false e)
head_is a good (difference over_int) vs e i = absurd (true≢false e)
head_is a good (difference over_real) vs e i = absurd (true≢false e)
head_is a good (product over_int) vs e i = absurd (true≢false e)
head_is a good (product over_real) vs e i = absurd (true≢false e)
head_is a good quotient vs e i = absurd (true≢false e)
head_is a good integer_quotient vs e i = absurd (true≢false e)
head_is a good modulus vs e i = absurd (true≢false e)
head_is a good magnitude vs e i = absurd (true≢false e)
head_is a good to_real vs e i = absurd (true≢false e)
head_is a good to_int vs e i = absurd (true≢false e)
head_is a good is_int vs e i = absurd (true≢false e)

mutual
  term_is : (t : Term) → holds_number t ≡ false → IsBoolean t
  term_is (apply h ts) e =
      let parts = or_neither (is_numeric h) (hold_number ts) e in
      λ a good. head_is a good h (values_of a ts) parts.0 (terms_are ts parts.1 a good)

  terms_are : (ts : Terms) → hold_number ts ≡ false → (a : Assignment) → IsAssignment a → AllByRecursion (IsOfSort bool_sort) (values_of a ts)
  terms_are no_terms e a good = tt
  terms_are (terms t ts) e a good =
      let parts = or_neither (holds_number t) (hold_number ts) e in (term_is t parts.0 a good, terms_are ts parts.1 a good)

arguments_are : (ts : Terms) → hold_number ts ≡ false → AllByRecursion IsBoolean (list_of ts)
arguments_are no_terms e = tt
arguments_are (terms t ts) e =
    let parts = or_neither (holds_number t) (hold_number ts) e in (term_is t parts.0, arguments_are ts parts.1)

has_arguments : (t : Term) → holds_number t ≡ false → HasBooleanArguments t
has_arguments (apply h ts) e = arguments_are ts (or_neither (is_numeric h) (hold_number ts) e).1

pub plain_terms : PlainTermsAreBoolean
plain_terms = record { itself = term_is; arguments = has_arguments }
