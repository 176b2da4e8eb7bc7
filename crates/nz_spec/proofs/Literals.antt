-- Which literals are one, and clauses as sets.
use Rattle.std.proofs.Common.{◌≡◌, Bool, true, false, not, ◌||◌, List, [], ◌∷◌, ◌++◌, ◌⊎◌, inl, inr, map, refl, sym, ap, ap₂, ◌∙◌, true≢false}
use Rattle.std.specs.Prelude.{fold, if◌then◌else◌, ◌&&◌}
use Rattle.std.specs.List.{list_any}
use Rattle.std.proofs.Math.Bool.{or_assoc, or-false}
use Rattle.std.proofs.lemmas.Bool.{and_from, and_parts}
use Rattle.std.proofs.lemmas.List.Folds.{list_any-append}
use Rattle.nz_fractions.specs.Fraction.{Fraction}
use Rattle.nz_spec.specs.terms.Term.{Term, Assignment, is_true, value_of}
use Rattle.nz_spec.specs.terms.Same.{are_same_fraction, are_same_term}
use Rattle.nz_spec.specs.terms.Form.{Part, negated_part, parts_value}
use Rattle.nz_spec.specs.clauses.Literal.{Literal, term_literal, is_at_most, is_below, negation_of, are_same_sign, are_same_parts, are_same_literal, is_literal_true, with_one, once, without, Clause, is_clause_true, NegationIsOther, ResolventIsTrue, ClauseIsTrueTogether, TellsLiterals}
use Rattle.nz_spec.proofs.Same.{same_fraction, one_fraction, same_term, one_term}
use Rattle.nz_spec.proofs.FormValues.{parts-negated}
use Rattle.nz_spec.proofs.LinearLiterals.{at_most_turned, below_turned}

-- ---- Literals

same_sign : (p q : Bool) → are_same_sign p q ≡ true → p ≡ q
same_sign true true e = refl
same_sign true false e = absurd (true≢false (sym e))
same_sign false true e = absurd (true≢false (sym e))
same_sign false false e = refl

one_sign : (p : Bool) → are_same_sign p p ≡ true
one_sign true = refl
one_sign false = refl

same_part : (p q : Part) → are_same_fraction p.coefficient q.coefficient ≡ true → are_same_term p.unit q.unit ≡ true → p ≡ q
same_part p q e f =
    ap₂ (λ (c : Fraction) (u : Term). let r : Part = record { coefficient = c; unit = u } in r)
    (same_fraction p.coefficient q.coefficient e) (same_term p.unit q.unit f)

pub same_parts : (ps qs : List Part) → are_same_parts ps qs ≡ true → ps ≡ qs
same_parts [] [] e = refl
same_parts [] (q ∷ qs) e = absurd (true≢false (sym e))
same_parts (p ∷ ps) [] e = absurd (true≢false (sym e))
same_parts (p ∷ ps) (q ∷ qs) e =
    let first = are_same_fraction p.coefficient q.coefficient && are_same_term p.unit q.unit in
    let both = and_parts first (are_same_parts ps qs) e in
    let head = and_parts (are_same_fraction p.coefficient q.coefficient) (are_same_term p.unit q.unit) both.0 in
    ap₂ (λ (r : Part) (rs : List Part). r ∷ rs) (same_part p q head.0 head.1) (same_parts ps qs both.1)

pub one_parts : (ps : List Part) → are_same_parts ps ps ≡ true
one_parts [] = refl
one_parts (p ∷ ps) =
    and_from (are_same_fraction p.coefficient p.coefficient && are_same_term p.unit p.unit) (are_same_parts ps ps)
    (and_from (are_same_fraction p.coefficient p.coefficient) (are_same_term p.unit p.unit) (one_fraction p.coefficient) (one_term p.unit))
    (one_parts ps)

same_bound : (make : List Part → Fraction → Literal) (ps qs : List Part) (b c : Fraction) → (are_same_parts ps qs && are_same_fraction b c) ≡ true → make ps b ≡ make qs c
same_bound make ps qs b c e =
    let both = and_parts (are_same_parts ps qs) (are_same_fraction b c) e in
    ap₂ make (same_parts ps qs both.0) (same_fraction b c both.1)

pub same_literal : (l m : Literal) → are_same_literal l m ≡ true → l ≡ m
same_literal (term_literal t p) (term_literal u q) e =
    ap (λ v. term_literal v p) (same_term t u ((and_parts (are_same_term t u) (are_same_sign p q) e).0))
    ∙ ap (term_literal u) (same_sign p q ((and_parts (are_same_term t u) (are_same_sign p q) e).1))
same_literal (is_at_most ps b) (is_at_most qs c) e = same_bound is_at_most ps qs b c e
same_literal (is_below ps b) (is_below qs c) e = same_bound is_below ps qs b c e
same_literal (term_literal t p) (is_at_most qs c) e = absurd (true≢false (sym e))
same_literal (term_literal t p) (is_below qs c) e = absurd (true≢false (sym e))
same_literal (is_at_most ps b) (term_literal u q) e = absurd (true≢false (sym e))
same_literal (is_at_most ps b) (is_below qs c) e = absurd (true≢false (sym e))
same_literal (is_below ps b) (term_literal u q) e = absurd (true≢false (sym e))
same_literal (is_below ps b) (is_at_most qs c) e = absurd (true≢false (sym e))

pub one_literal : (l : Literal) → are_same_literal l l ≡ true
one_literal (term_literal t p) = and_from (are_same_term t t) (are_same_sign p p) (one_term t) (one_sign p)
one_literal (is_at_most ps b) = and_from (are_same_parts ps ps) (are_same_fraction b b) (one_parts ps) (one_fraction b)
one_literal (is_below ps b) = and_from (are_same_parts ps ps) (are_same_fraction b b) (one_parts ps) (one_fraction b)

-- of a literal and its negation just one is true
turned_sign : (p v : Bool) → are_same_sign (not p) v ≡ not (are_same_sign p v)
turned_sign true true = refl
turned_sign true false = refl
turned_sign false true = refl
turned_sign false false = refl

pub negation_is : NegationIsOther
negation_is a (term_literal t p) = turned_sign p (is_true (value_of a t))
negation_is a (is_at_most ps b) = at_most_turned (parts_value a (map negated_part ps)) (parts_value a ps) b (parts-negated (λ t. 0) a ps)
negation_is a (is_below ps b) = below_turned (parts_value a (map negated_part ps)) (parts_value a ps) b (parts-negated (λ t. 0) a ps)

-- ---- Sets as lists

pub or_either : (a b : Bool) → (a || b) ≡ true → (a ≡ true) ⊎ (b ≡ true)
or_either true b e = inl refl
or_either false b e = inr e

pub or_first : (a b : Bool) → a ≡ true → (a || b) ≡ true
or_first true b e = refl
or_first false b e = absurd (true≢false (sym e))

pub or_second : (a b : Bool) → b ≡ true → (a || b) ≡ true
or_second true b e = refl
or_second false b e = e

absorbed : (a b : Bool) → (b ≡ true → a ≡ true) → a ≡ (a || b)
absorbed true b h = refl
absorbed false true h = h refl
absorbed false false h = refl

module _ {A : Type 0} (same : A → A → Bool) (p : A → Bool) (alike : (x y : A) → same x y ≡ true → p x ≡ p y) where
  -- where one of a list is the same as one that passes, one of the list passes
  passes_with : (x : A) (xs : List A) → list_any (same x) xs ≡ true → p x ≡ true → list_any p xs ≡ true
  passes_with x [] e t = absurd (true≢false (sym e))
  passes_with x (y ∷ ys) e t =
      elim (or_either (same x y) (list_any (same x) ys) e)
      [ inl h ↦ or_first (p y) (list_any p ys) (sym (alike x y h) ∙ t) | inr k ↦ or_second (p y) (list_any p ys) (passes_with x ys k t) ]

  with_at : (xs : List A) (x : A) (b : Bool) → (b ≡ true → p x ≡ true → list_any p xs ≡ true)
      → list_any p (if b then xs else xs ++ x ∷ []) ≡ (list_any p xs || p x)
  with_at xs x true h = absorbed (list_any p xs) (p x) (h refl)
  with_at xs x false h = list_any-append p xs (x ∷ []) ∙ ap (λ b. list_any p xs || b) (or-false (p x))

  -- what is put to a list is one more that may pass
  any-fold : (xs ys : List A) → list_any p (fold (with_one same) ys xs) ≡ (list_any p ys || list_any p xs)
  any-fold [] ys = sym (or-false (list_any p ys))
  any-fold (x ∷ xs) ys =
      any-fold xs (with_one same ys x)
      ∙ ap (λ b. b || list_any p xs) (with_at ys x (list_any (same x) ys) (passes_with x ys))
      ∙ or_assoc (list_any p ys) (p x) (list_any p xs)

  pub any-once : (xs : List A) → list_any p (once same xs) ≡ list_any p xs
  any-once xs = any-fold xs []

  kept_at : (y : A) (b : Bool) (zs ys : List A) → (b ≡ true → p y ≡ false) → list_any p zs ≡ list_any p ys
      → list_any p (if not b then y ∷ zs else zs) ≡ (p y || list_any p ys)
  kept_at y true zs ys h e = e ∙ ap (λ b. b || list_any p ys) (sym (h refl))
  kept_at y false zs ys h e = ap (λ b. p y || b) e

  -- one that doesn't pass may go
  pub any-without : (x : A) (xs : List A) → p x ≡ false → list_any p (without same x xs) ≡ list_any p xs
  any-without x [] f = refl
  any-without x (y ∷ ys) f =
      kept_at y (same x y) (without same x ys) ys (λ e. sym (alike x y e) ∙ f) (any-without x ys f)

-- ---- Clauses

respects : (a : Assignment) (l m : Literal) → are_same_literal l m ≡ true → is_literal_true a l ≡ is_literal_true a m
respects a l m e = ap (is_literal_true a) (same_literal l m e)

pub together : ClauseIsTrueTogether
together a ls = any-once are_same_literal (is_literal_true a) (respects a) ls

remains : (a : Assignment) (l : Literal) (c d : Clause) (b : Bool) → is_literal_true a l ≡ b → is_clause_true a c ≡ true → is_clause_true a d ≡ true
    → (list_any (is_literal_true a) (without are_same_literal l c) || list_any (is_literal_true a) (without are_same_literal (negation_of l) d)) ≡ true
remains a l c d true e f g =
    or_second (list_any (is_literal_true a) (without are_same_literal l c)) _
    (any-without are_same_literal (is_literal_true a) (respects a) (negation_of l) d (negation_is a l ∙ ap not e) ∙ g)
remains a l c d false e f g =
    or_first _ (list_any (is_literal_true a) (without are_same_literal (negation_of l) d))
    (any-without are_same_literal (is_literal_true a) (respects a) l c e ∙ f)

pub resolvent_is_true : ResolventIsTrue
resolvent_is_true a l c d t u =
    together a (without are_same_literal l c ++ without are_same_literal (negation_of l) d)
    ∙ list_any-append (is_literal_true a) (without are_same_literal l c) (without are_same_literal (negation_of l) d)
    ∙ remains a l c d (is_literal_true a l) refl t u

pub tells_literals : TellsLiterals
tells_literals = record { same = same_literal; one = one_literal }
