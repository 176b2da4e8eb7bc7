-- Sets by names, and gates by the numbers of terms: what is made of names says what is made of what they stand for.
use Rattle.std.proofs.Common.{◌≡◌, ℕ, Bool, true, false, not, ◌||◌, List, [], ◌∷◌, ◌++◌, map, get_or, Some, None, refl, sym, ap, ◌∙◌}
use Rattle.std.proofs.lemmas.List.{map-append}
use Rattle.std.proofs.lemmas.Option.{slice_get-get_or}
use Rattle.std.specs.Prelude.{fold, slice_get, if◌then◌else◌}
use Rattle.std.specs.List.{AllByRecursion, list_any}
use Rattle.nz_lists.proofs.Elements.{AllByRecursion-put}
use Rattle.nz_spec.specs.terms.Term.{Head, verum, falsum, negation, conjunction, disjunction, exclusion, equality, choice, bool_sort, Term, apply}
use Rattle.nz_spec.specs.terms.Table.{Node, IsTable, term_in, terms_at, TermOfNode}
use Rattle.nz_spec.specs.clauses.Literal.{Literal, with_one, once, without}
use Rattle.nz_spec.specs.clauses.Gates.{holds, fails, list_of, is_boolean_term, clauses_over, gate_clauses}
use Rattle.nz_term.specs.declared.term_lits.TermLit.{TermLit}
use Rattle.nz_log.specs.Sound.{GatesAreNamed}
use Rattle.nz_rows.specs.GateRows.{is_boolean_at, gates_at}
use Rattle.nz_term.specs.TermLits.{yes, no, literal_of, clause_of_terms}

-- ---- Sets by names

module _ {A B : Type 0} (W : A → Type 0) (f : A → B) (same : A → A → Bool) (same' : B → B → Bool)
    (agree : (x y : A) → W x → W y → same' (f x) (f y) ≡ same x y) where
  any_named : (x : A) (xs : List A) → W x → AllByRecursion W xs → list_any (same' (f x)) (map f xs) ≡ list_any (same x) xs
  any_named x [] w h = refl
  any_named x (y ∷ ys) w h = λ i. agree x y w h.0 i || any_named x ys w h.1 i

  with_test : (xs : List A) (x : A) (b : Bool) → map f (if b then xs else xs ++ x ∷ []) ≡ (if b then map f xs else map f xs ++ f x ∷ [])
  with_test xs x true = refl
  with_test xs x false = map-append f xs (x ∷ [])

  with_named : (xs : List A) (x : A) → AllByRecursion W xs → W x → map f (with_one same xs x) ≡ with_one same' (map f xs) (f x)
  with_named xs x h w =
      with_test xs x (list_any (same x) xs) ∙ ap (λ b. if b then map f xs else map f xs ++ f x ∷ []) (sym (any_named x xs w h))

  put_named : (xs ys : List A) → AllByRecursion W ys → AllByRecursion W xs → map f (fold (with_one same) ys xs) ≡ fold (with_one same') (map f ys) (map f xs)
  put_named [] ys h k = refl
  put_named (x ∷ xs) ys h k =
      put_named xs (with_one same ys x) (AllByRecursion-put W same (x ∷ []) ys h (k.0, tt)) k.1
      ∙ ap (λ zs. fold (with_one same') zs (map f xs)) (with_named ys x h k.0)

  pub once_named : (xs : List A) → AllByRecursion W xs → map f (once same xs) ≡ once same' (map f xs)
  once_named xs h = put_named xs [] tt h

  without_test : (x : A) (xs : List A) (zs : List B) (b : Bool) → map f xs ≡ zs → map f (if not b then x ∷ xs else xs) ≡ (if not b then f x ∷ zs else zs)
  without_test x xs zs true e = e
  without_test x xs zs false e = ap (λ ys. f x ∷ ys) e

  pub without_named : (x : A) (xs : List A) → W x → AllByRecursion W xs → map f (without same x xs) ≡ without same' (f x) (map f xs)
  without_named x [] w h = refl
  without_named x (y ∷ ys) w h =
      without_test y (without same x ys) (without same' (f x) (map f ys)) (same x y) (without_named x ys w h.1)
      ∙ ap (λ b. if not b then f y ∷ without same' (f x) (map f ys) else without same' (f x) (map f ys)) (sym (agree x y w h.0))

-- ---- Gates by numbers

module _ (ns : List Node) where
  listed_named : (ks : List ℕ) → list_of (terms_at (term_in ns) ks) ≡ map (term_in ns) ks
  listed_named [] = refl
  listed_named (k ∷ ks) = ap (λ ts. term_in ns k ∷ ts) (listed_named ks)

  ones_named : (f : ℕ → TermLit) (g : Term → Literal) → ((k : ℕ) → literal_of ns (f k) ≡ g (term_in ns k)) → (ks : List ℕ)
      → clause_of_terms ns (map f ks) ≡ map g (map (term_in ns) ks)
  ones_named f g e [] = refl
  ones_named f g e (k ∷ ks) = λ i. e k i ∷ ones_named f g e ks i

  pairs_named : (first : TermLit) (f : ℕ → TermLit) (g : Term → Literal) → ((k : ℕ) → literal_of ns (f k) ≡ g (term_in ns k)) → (ks : List ℕ)
      → map (clause_of_terms ns) (map (λ k. first ∷ f k ∷ []) ks) ≡ map (λ t. literal_of ns first ∷ g t ∷ []) (map (term_in ns) ks)
  pairs_named first f g e [] = refl
  pairs_named first f g e (k ∷ ks) = λ i. (literal_of ns first ∷ e k i ∷ []) ∷ pairs_named first f g e ks i

  rows_named : (rows : List (List TermLit)) (last : List TermLit) (rows' : List (List Literal)) (last' : List Literal)
      → map (clause_of_terms ns) rows ≡ rows' → clause_of_terms ns last ≡ last' → map (clause_of_terms ns) (rows ++ last ∷ []) ≡ rows' ++ last' ∷ []
  rows_named rows last rows' last' e f = map-append (clause_of_terms ns) rows (last ∷ []) ∙ (λ i. e i ++ f i ∷ [])

  test_named : (b : Bool) (cs : List (List TermLit)) → map (clause_of_terms ns) (if b then cs else []) ≡ (if b then map (clause_of_terms ns) cs else [])
  test_named true cs = refl
  test_named false cs = refl

  over_named : (t : ℕ) (h : Head) (ks : List ℕ)
      → map (clause_of_terms ns) (clauses_over yes no (is_boolean_at ns) t h ks) ≡ clauses_over holds fails is_boolean_term (term_in ns t) h (map (term_in ns) ks)
  over_named t verum [] = refl
  over_named t falsum [] = refl
  over_named t negation (u ∷ []) = refl
  over_named t conjunction ks =
      rows_named (map (λ u. no t ∷ yes u ∷ []) ks) (yes t ∷ map no ks) _ _ (pairs_named (no t) yes holds (λ k. refl) ks)
      (ap (λ c. holds (term_in ns t) ∷ c) (ones_named no fails (λ k. refl) ks))
  over_named t disjunction ks =
      rows_named (map (λ u. yes t ∷ no u ∷ []) ks) (no t ∷ map yes ks) _ _ (pairs_named (yes t) no fails (λ k. refl) ks)
      (ap (λ c. fails (term_in ns t) ∷ c) (ones_named yes holds (λ k. refl) ks))
  over_named t exclusion (u ∷ v ∷ []) = refl
  over_named t equality (u ∷ v ∷ []) = test_named (is_boolean_at ns u) _
  over_named t (choice bool_sort) (c ∷ u ∷ v ∷ []) = refl
  over_named t h ks = refl

  pub gates_named : IsTable ns → TermOfNode → (t : ℕ) (n : Node) → slice_get ns t ≡ Some n → map (clause_of_terms ns) (gates_at ns t) ≡ gate_clauses (term_in ns t)
  gates_named table node t n at =
      let term : term_in ns t ≡ apply n.head (terms_at (term_in ns) n.kids) = node ns table t n at in
      ap (λ o. map (clause_of_terms ns) (elim o [ None ↦ [] | Some m ↦ clauses_over yes no (is_boolean_at ns) t m.head m.kids ])) at
      ∙ over_named t n.head n.kids
      ∙ ap (clauses_over holds fails is_boolean_term (term_in ns t) n.head) (sym (listed_named n.kids))
      ∙ ap (λ u. clauses_over holds fails is_boolean_term u n.head (list_of (terms_at (term_in ns) n.kids))) term
      ∙ ap gate_clauses (sym term)

pub gates_are_named : TermOfNode → GatesAreNamed
gates_are_named node ns table t within =
    let own : Node = get_or ns t (record { head = falsum; kids = [] }) in
    gates_named ns table node t own (slice_get-get_or ns t (record { head = falsum; kids = [] }) within)
