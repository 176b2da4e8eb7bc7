-- What holds of each literal of clauses holds of each of what is made of them.
use Rattle.std.proofs.Common.{◌≡◌, ℕ, ◌<◌, Bool, true, false, not, List, [], ◌∷◌, ◌++◌, length, map, get_or, None, Some, subst, sym}
use Rattle.std.specs.Bool.{⊤}
use Rattle.std.specs.Prelude.{Contains, slice_get, if◌then◌else◌}
use Rattle.std.specs.List.{AllByRecursion}
use Rattle.std.proofs.lemmas.List.Elements.{All-from_recursion, All-get_or}
use Rattle.std.proofs.lemmas.Option.{get_or_from_slice_get, slice_get_within}
use Rattle.nz_lists.proofs.Elements.{AllByRecursion-append, AllByRecursion-put}
use Rattle.nz_lists.proofs.Members.{by_each, each_of, has_first, has_more}
use Rattle.nz_spec.specs.terms.Term.{Head, verum, falsum, negation, conjunction, disjunction, exclusion, equality, choice, bool_sort}
use Rattle.nz_spec.specs.clauses.Literal.{without}
use Rattle.nz_spec.specs.clauses.Gates.{clauses_over}
use Rattle.nz_log.specs.declared.lits.Lit.{Lit}
use Rattle.nz_term.specs.declared.term_lits.TermLit.{TermLit}
use Rattle.nz_log.specs.Lits.{negated_lit, are_same_lit, lit_resolvent}
use Rattle.nz_log.specs.Sound.{GatesNameArguments}
use Rattle.nz_rows.specs.GateRows.{is_boolean_at, gates_at}
use Rattle.nz_term.specs.TermLits.{yes, no}

module _ {X : Type 0} (P : X → Type 0) where
  pub each-at : (xs : List X) (i : ℕ) (x : X) → AllByRecursion P xs → slice_get xs i ≡ Some x → P x
  each-at xs i x h at = subst P (get_or_from_slice_get xs i x x at) (All-get_or P xs i x (slice_get_within xs i x at) (All-from_recursion P xs h))

  pub each_read : (xs : List X) (i : ℕ) (x : X) → i < length xs → x ≡ get_or xs i x → AllByRecursion P xs → P x
  each_read xs i x within read h = subst P (sym read) (All-get_or P xs i x within (All-from_recursion P xs h))

  kept_at : (b : Bool) (x : X) (xs : List X) → P x → AllByRecursion P xs → AllByRecursion P (if not b then x ∷ xs else xs)
  kept_at true x xs p h = h
  kept_at false x xs p h = (p, h)

  pub each-without : (same : X → X → Bool) (x : X) (xs : List X) → AllByRecursion P xs → AllByRecursion P (without same x xs)
  each-without same x [] h = tt
  each-without same x (y ∷ ys) h = kept_at (same x y) y (without same x ys) h.0 (each-without same x ys h.1)

pub each-resolvent : (P : Lit → Type 0) (l : Lit) (c d : List Lit) → AllByRecursion P c → AllByRecursion P d → AllByRecursion P (lit_resolvent l c d)
each-resolvent P l c d h k =
    AllByRecursion-put P are_same_lit (without are_same_lit l c ++ without are_same_lit (negated_lit l) d) [] tt
    (AllByRecursion-append P (without are_same_lit l c) (without are_same_lit (negated_lit l) d) (each-without P are_same_lit l c h) (each-without P are_same_lit (negated_lit l) d k))

-- ---- Gates

module _ (P : ℕ → Type 0) where
  abbrev pub On : TermLit → Type 0
  On l = P l.term

  signs : (f : ℕ → TermLit) → ((t : ℕ) → P t → On (f t)) → (ts : List ℕ) → AllByRecursion P ts → AllByRecursion On (map f ts)
  signs f g [] h = tt
  signs f g (t ∷ ts) h = (g t h.0, signs f g ts h.1)

  pairs : (first : TermLit) (f : ℕ → TermLit) → On first → ((t : ℕ) → P t → On (f t)) → (ts : List ℕ) → AllByRecursion P ts
      → AllByRecursion (AllByRecursion On) (map (λ t. first ∷ f t ∷ []) ts)
  pairs first f p g [] h = tt
  pairs first f p g (t ∷ ts) h = ((p, (g t h.0, tt)), pairs first f p g ts h.1)

  on_test : (b : Bool) (cs : List (List TermLit)) → AllByRecursion (AllByRecursion On) cs → AllByRecursion (AllByRecursion On) (if b then cs else [])
  on_test true cs h = h
  on_test false cs h = tt

  -- the clauses of a gate are of the term and its arguments
  pub each-gate : (b : ℕ → Bool) (t : ℕ) (h : Head) (ks : List ℕ) → P t → AllByRecursion P ks → AllByRecursion (AllByRecursion On) (clauses_over yes no b t h ks)
  each-gate b t verum [] p q = ((p, tt), tt)
  each-gate b t falsum [] p q = ((p, tt), tt)
  each-gate b t negation (u ∷ []) p q = ((p, (q.0, tt)), ((p, (q.0, tt)), tt))
  each-gate b t conjunction ks p q =
      AllByRecursion-append (AllByRecursion On) (map (λ u. no t ∷ yes u ∷ []) ks) ((yes t ∷ map no ks) ∷ []) (pairs (no t) yes p (λ u r. r) ks q)
      ((p, signs no (λ u r. r) ks q), tt)
  each-gate b t disjunction ks p q =
      AllByRecursion-append (AllByRecursion On) (map (λ u. yes t ∷ no u ∷ []) ks) ((no t ∷ map yes ks) ∷ []) (pairs (yes t) no p (λ u r. r) ks q)
      ((p, signs yes (λ u r. r) ks q), tt)
  each-gate b t exclusion (u ∷ v ∷ []) p q =
      let row : P t × (P u × (P v × ⊤)) = (p, (q.0, (q.1.0, tt))) in (row, (row, (row, (row, tt))))
  each-gate b t equality (u ∷ v ∷ []) p q =
      let row : P t × (P u × (P v × ⊤)) = (p, (q.0, (q.1.0, tt))) in on_test (b u) _ (row, (row, (row, (row, tt))))
  each-gate b t (choice bool_sort) (c ∷ u ∷ v ∷ []) p q =
      let first : P t × (P c × (P u × ⊤)) = (p, (q.0, (q.1.0, tt))) in
      let second : P t × (P c × (P v × ⊤)) = (p, (q.0, (q.1.1.0, tt))) in
      (first, (second, (first, (second, tt))))
  each-gate b t h ks p q = tt

-- so each of their literals is
pub gates_name_arguments : GatesNameArguments
gates_name_arguments ns t n at c has l named =
    let P : ℕ → Type 0 = Contains (t ∷ n.kids) in
    let kids : AllByRecursion P n.kids = by_each P n.kids (λ k there. has_more t k n.kids there) in
    let all : AllByRecursion (AllByRecursion (On P)) (gates_at ns t) =
    subst (λ o. AllByRecursion (AllByRecursion (On P)) (elim o [ None ↦ [] | Some m ↦ clauses_over yes no (is_boolean_at ns) t m.head m.kids ])) (sym at)
    (each-gate P (is_boolean_at ns) t n.head n.kids (has_first t n.kids) kids) in
    each_of (On P) c (each_of (AllByRecursion (On P)) (gates_at ns t) all c has) l named
