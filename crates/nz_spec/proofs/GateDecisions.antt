-- Truths that meet the clauses of the gate table are those of the values.
use Rattle.std.proofs.Common.{◌≡◌, ◌⊎◌, inl, inr, Bool, true, false, not, ◌&&◌, ◌||◌, List, [], ◌∷◌, ◌++◌, map, refl, sym, ap, subst, ◌∙◌, true≢false}
use Rattle.std.specs.Prelude.{Contains, ⊤, if◌then◌else◌}
use Rattle.std.specs.List.{AllByRecursion}
use Rattle.std.proofs.lemmas.Option.{same_Some}
use Rattle.std.proofs.lemmas.List.Elements.{Contains-append_left, Contains-append_right, Contains-push}
use Rattle.nz_lists.proofs.Elements.{AllByRecursion-weaker}
use Rattle.nz_spec.specs.terms.Term.{Sort, bool_sort, Head, constant, verum, falsum, negation, conjunction, disjunction, exclusion, equality, choice, Term, apply, Terms, no_terms, terms, Value, truth, Assignment, is_true, are_equal, excluded, head_sort, sort_of, is_bool, is_numeric, holds_number, hold_number, value_of}
use Rattle.nz_spec.specs.terms.Order.{post_order, post_orders}
use Rattle.nz_spec.specs.terms.WellSorted.{AllAre}
use Rattle.nz_spec.specs.clauses.Literal.{Literal, term_literal, is_at_most, is_below, Clause}
use Rattle.nz_spec.specs.clauses.Gates.{list_of, holds, fails, is_boolean_term, gate_clauses, IsRow, IsGated, AreGated, HasTrueLiteral, MeetsGates, IsTruthBy, IsTruthAt, GatesDecide, NumberedGatesDecide}
use Rattle.nz_spec.proofs.ArgumentTruths.{alone, EachIs, OneIs, all_is, all_fails, some_fails, some_is}
use Rattle.nz_spec.proofs.SaidClauses.{OneSaid, said_from}

-- a term of the table is of sort Bool
row_boolean : (h : Head) (ts : Terms) → IsRow h ts → is_bool (head_sort h) ≡ true
row_boolean (constant c) no_terms r = ap is_bool r
row_boolean verum no_terms r = refl
row_boolean falsum no_terms r = refl
row_boolean negation (terms t no_terms) r = refl
row_boolean conjunction ts r = refl
row_boolean disjunction ts r = refl
row_boolean exclusion (terms t (terms u no_terms)) r = refl
row_boolean equality (terms t (terms u no_terms)) r = refl
row_boolean (choice bool_sort) (terms c (terms t (terms u no_terms))) r = refl
row_boolean h ts r = absurd r

pub gated_boolean : (t : Term) → IsGated t → is_boolean_term t ≡ true
gated_boolean (apply h ts) g = row_boolean h ts g.0

gated_arguments : (ts : Terms) → AreGated ts → AllAre true ts
gated_arguments no_terms g = tt
gated_arguments (terms t ts) g = (gated_boolean t g.0, gated_arguments ts g.1)

row_plain : (h : Head) (ts : Terms) → IsRow h ts → is_numeric h ≡ false
row_plain (constant c) no_terms r = ap (λ (s : Sort). not (is_bool s)) r
row_plain verum no_terms r = refl
row_plain falsum no_terms r = refl
row_plain negation (terms t no_terms) r = refl
row_plain conjunction ts r = refl
row_plain disjunction ts r = refl
row_plain exclusion (terms t (terms u no_terms)) r = refl
row_plain equality (terms t (terms u no_terms)) r = refl
row_plain (choice bool_sort) (terms c (terms t (terms u no_terms))) r = refl
row_plain h ts r = absurd r

-- where neither is so, nor is one of them
pub neither : (a b : Bool) → a ≡ false → b ≡ false → (a || b) ≡ false
neither true b e f = absurd (true≢false e)
neither false b e f = f

mutual
  pub gated_plain : (t : Term) → IsGated t → holds_number t ≡ false
  gated_plain (apply h ts) g = neither (is_numeric h) (hold_number ts) (row_plain h ts g.0) (all_plain ts g.1)

  all_plain : (ts : Terms) → AreGated ts → hold_number ts ≡ false
  all_plain no_terms g = refl
  all_plain (terms t ts) g = neither (holds_number t) (hold_number ts) (gated_plain t g.0) (all_plain ts g.1)

-- what holds where a test passes
passed : (P : List Clause → Type 0) (b : Bool) (cs : List Clause) → b ≡ true → P (if b then cs else []) → P cs
passed P true cs e h = h
passed P false cs e h = absurd (true≢false (sym e))

same_either_way : (b : Bool) (v w x : Value) → v ≡ x → w ≡ x → (if b then v else w) ≡ x
same_either_way true v w x e f = e
same_either_way false v w x e f = f

-- a literal on a term says that it has the truth, and a bound says nothing
abbrev TruthSaid : (Term → Bool → Type 0) → Literal → Type 0
TruthSaid HasTruth (term_literal t sign) = HasTruth t sign
TruthSaid HasTruth (is_at_most ps b) = ⊥
TruthSaid HasTruth (is_below ps b) = ⊥

module _ (a : Assignment) (Says : Literal → Type 0) (consistent : (t : Term) → Says (holds t) → Says (fails t) → ⊥) where
  -- ---- One of the literals is true

  abbrev HasTruth : Term → Bool → Type 0
  HasTruth t sign = Says (term_literal t sign)

  abbrev pub SaysOne : Clause → Type 0
  SaysOne c = OneSaid Says c

  pub says_one : (c : Clause) (l : Literal) → Contains c l → Says l → SaysOne c
  says_one c l at has = said_from Says c l at has

  -- no term has both truths
  never : (t : Term) (sign : Bool) → HasTruth t sign → HasTruth t (not sign) → ⊥
  never t true h k = consistent t h k
  never t false h k = consistent t k h

  -- a clause that denies a term's truth says one of the others
  pub others : (t : Term) (sign : Bool) (rest : Type 0) → HasTruth t sign → HasTruth t (not sign) ⊎ rest → rest
  others t sign rest h (inl k) = absurd (never t sign h k)
  others t sign rest h (inr r) = r

  -- ---- Values

  -- where the term has a truth, that is its value
  abbrev pub IsSettled : Term → Type 0
  IsSettled t = (sign : Bool) → HasTruth t sign → value_of a t ≡ truth sign

  abbrev pub AreSettled : Terms → Type 0
  AreSettled no_terms = ⊤
  AreSettled (terms t ts) = IsSettled t × AreSettled ts

  -- the clauses that say of each argument that it is as the term is
  abbrev Pairs : Term → Bool → Terms → List Clause
  Pairs t sign ts = map (λ u. term_literal t (not sign) ∷ term_literal u sign ∷ []) (list_of ts)

  each_is : (t : Term) (sign : Bool) → HasTruth t sign → (ts : Terms) (more : List Clause) → AllByRecursion SaysOne (Pairs t sign ts ++ more) → AreSettled ts → EachIs a sign ts
  each_is t sign has no_terms more h s = tt
  each_is t sign has (terms u us) more h s =
      (s.0 sign (alone (HasTruth u sign) (others t sign (HasTruth u sign ⊎ ⊥) has h.0)), each_is t sign has us more h.1 s.1)

  last_says : (t : Term) (sign : Bool) (ts : Terms) (c : Clause) → AllByRecursion SaysOne (Pairs t sign ts ++ c ∷ []) → SaysOne c
  last_says t sign no_terms c h = h.0
  last_says t sign (terms u us) c h = last_says t sign us c h.1

  one_is : (sign : Bool) (ts : Terms) → SaysOne (map (λ u. term_literal u sign) (list_of ts)) → AreSettled ts → OneIs a sign ts
  one_is sign no_terms h s = absurd h
  one_is sign (terms u us) (inl h) s = inl (s.0 sign h)
  one_is sign (terms u us) (inr h) s = inr (one_is sign us h s.1)

  -- ---- Conjunctions and disjunctions

  abbrev pub Met : Term → Type 0
  Met t = AllByRecursion SaysOne (gate_clauses t)

  conjunction_settled : (ts : Terms) → Met (apply conjunction ts) → AreSettled ts → IsSettled (apply conjunction ts)
  conjunction_settled ts h s true has = all_is a ts (each_is (apply conjunction ts) true has ts _ h s)
  conjunction_settled ts h s false has =
      let rest = map fails (list_of ts) in
      all_fails a ts (one_is false ts (others (apply conjunction ts) false (SaysOne rest) has (last_says (apply conjunction ts) true ts (holds (apply conjunction ts) ∷ rest) h)) s)

  disjunction_settled : (ts : Terms) → Met (apply disjunction ts) → AreSettled ts → IsSettled (apply disjunction ts)
  disjunction_settled ts h s false has = some_fails a ts (each_is (apply disjunction ts) false has ts _ h s)
  disjunction_settled ts h s true has =
      let rest = map holds (list_of ts) in
      some_is a ts (one_is true ts (others (apply disjunction ts) true (SaysOne rest) has (last_says (apply disjunction ts) false ts (fails (apply disjunction ts) ∷ rest) h)) s)

  -- ---- Operators of a fixed number of arguments

  negation_settled : (u : Term) → Met (apply negation (terms u no_terms)) → IsSettled u → IsSettled (apply negation (terms u no_terms))
  negation_settled u h s true has =
      ap (λ v. truth (not (is_true v))) (s false (alone (HasTruth u false) (others (apply negation (terms u no_terms)) true (HasTruth u false ⊎ ⊥) has h.0)))
  negation_settled u h s false has =
      ap (λ v. truth (not (is_true v))) (s true (alone (HasTruth u true) (others (apply negation (terms u no_terms)) false (HasTruth u true ⊎ ⊥) has h.1.0)))

  -- the arguments have these truths, or both the others
  abbrev AreBoth : (u v : Term) (p q : Bool) → Type 0
  AreBoth u v p q = (value_of a u ≡ truth p) × (value_of a v ≡ truth q)

  -- by a clause that says one of two things, and one that denies one of them
  crossed : (u v : Term) (p q : Bool) → IsSettled u → IsSettled v → HasTruth u p ⊎ (HasTruth v q ⊎ ⊥) → HasTruth u (not p) ⊎ (HasTruth v (not q) ⊎ ⊥)
      → AreBoth u v p (not q) ⊎ AreBoth u v (not p) q
  crossed u v p q s r (inl h) (inl k) = absurd (never u p h k)
  crossed u v p q s r (inl h) (inr k) = inl (s p h, r (not q) (alone (HasTruth v (not q)) k))
  crossed u v p q s r (inr h) (inl k) = inr (s (not p) k, r q (alone (HasTruth v q) h))
  crossed u v p q s r (inr h) (inr k) = absurd (never v q (alone (HasTruth v q) h) (alone (HasTruth v (not q)) k))

  -- what is made of both
  made_of : (f : Value → Value → Value) (u v : Term) (p q : Bool) → AreBoth u v p q → f (value_of a u) (value_of a v) ≡ f (truth p) (truth q)
  made_of f u v p q h = ap (λ x. f x (value_of a v)) h.0 ∙ ap (λ y. f (truth p) y) h.1

  by_either : (f : Value → Value → Value) (u v : Term) (p q sign : Bool) → AreBoth u v p (not q) ⊎ AreBoth u v (not p) q
      → f (truth p) (truth (not q)) ≡ truth sign → f (truth (not p)) (truth q) ≡ truth sign → f (value_of a u) (value_of a v) ≡ truth sign
  by_either f u v p q sign (inl h) e g = made_of f u v p (not q) h ∙ e
  by_either f u v p q sign (inr h) e g = made_of f u v (not p) q h ∙ g

  -- a clause on the term and both arguments
  abbrev Row : Type 0 → (u v : Term) (p q : Bool) → Type 0
  Row first u v p q = first ⊎ (HasTruth u p ⊎ (HasTruth v q ⊎ ⊥))

  paired_settled : (t : Term) (sign : Bool) → HasTruth t sign → (f : Value → Value → Value) (u v : Term) (p q : Bool) → IsSettled u → IsSettled v
      → Row (HasTruth t (not sign)) u v p q → Row (HasTruth t (not sign)) u v (not p) (not q)
      → f (truth p) (truth (not q)) ≡ truth sign → f (truth (not p)) (truth q) ≡ truth sign → f (value_of a u) (value_of a v) ≡ truth sign
  paired_settled t sign has f u v p q s r h k e g =
      by_either f u v p q sign (crossed u v p q s r (others t sign (HasTruth u p ⊎ (HasTruth v q ⊎ ⊥)) has h) (others t sign (HasTruth u (not p) ⊎ (HasTruth v (not q) ⊎ ⊥)) has k)) e g

  exclusion_settled : (u v : Term) → Met (apply exclusion (terms u (terms v no_terms))) → IsSettled u → IsSettled v → IsSettled (apply exclusion (terms u (terms v no_terms)))
  exclusion_settled u v h s r true has = paired_settled (apply exclusion (terms u (terms v no_terms))) true has excluded u v true true s r h.0 h.1.0 refl refl
  exclusion_settled u v h s r false has = paired_settled (apply exclusion (terms u (terms v no_terms))) false has excluded u v false true s r h.1.1.0 h.1.1.1.0 refl refl

  abbrev equated : Value → Value → Value
  equated v w = truth (are_equal v w && true)

  equality_settled : (u v : Term) → is_bool (sort_of u) ≡ true → Met (apply equality (terms u (terms v no_terms))) → IsSettled u → IsSettled v
      → IsSettled (apply equality (terms u (terms v no_terms)))
  equality_settled u v e k s r true has =
      let h = passed (AllByRecursion SaysOne) (is_bool (sort_of u)) _ e k in
      paired_settled (apply equality (terms u (terms v no_terms))) true has equated u v false true s r h.0 h.1.0 refl refl
  equality_settled u v e k s r false has =
      let h = passed (AllByRecursion SaysOne) (is_bool (sort_of u)) _ e k in
      paired_settled (apply equality (terms u (terms v no_terms))) false has equated u v true true s r h.1.1.0 h.1.1.1.0 refl refl

  -- by what the clauses say of the condition and the branches
  chosen : (c u v : Term) (sign : Bool) → IsSettled c → IsSettled u → IsSettled v → HasTruth c false ⊎ (HasTruth u sign ⊎ ⊥) → HasTruth c true ⊎ (HasTruth v sign ⊎ ⊥)
      → (if is_true (value_of a c) then value_of a u else value_of a v) ≡ truth sign
  chosen c u v sign s r q (inl h) (inl k) = absurd (never c false h k)
  chosen c u v sign s r q (inl h) (inr k) =
      ap (λ x. if is_true x then value_of a u else value_of a v) (s false h) ∙ q sign (alone (HasTruth v sign) k)
  chosen c u v sign s r q (inr h) (inl k) =
      ap (λ x. if is_true x then value_of a u else value_of a v) (s true k) ∙ r sign (alone (HasTruth u sign) h)
  chosen c u v sign s r q (inr h) (inr k) =
      same_either_way (is_true (value_of a c)) (value_of a u) (value_of a v) (truth sign) (r sign (alone (HasTruth u sign) h)) (q sign (alone (HasTruth v sign) k))

  choice_settled : (c u v : Term) → Met (apply (choice bool_sort) (terms c (terms u (terms v no_terms)))) → IsSettled c → IsSettled u → IsSettled v
      → IsSettled (apply (choice bool_sort) (terms c (terms u (terms v no_terms))))
  choice_settled c u v h s r q true has =
      let t = apply (choice bool_sort) (terms c (terms u (terms v no_terms))) in
      chosen c u v true s r q (others t true (HasTruth c false ⊎ (HasTruth u true ⊎ ⊥)) has h.0) (others t true (HasTruth c true ⊎ (HasTruth v true ⊎ ⊥)) has h.1.0)
  choice_settled c u v h s r q false has =
      let t = apply (choice bool_sort) (terms c (terms u (terms v no_terms))) in
      chosen c u v false s r q (others t false (HasTruth c false ⊎ (HasTruth u false ⊎ ⊥)) has h.1.1.0) (others t false (HasTruth c true ⊎ (HasTruth v false ⊎ ⊥)) has h.1.1.1.0)

  verum_settled : Met (apply verum no_terms) → IsSettled (apply verum no_terms)
  verum_settled h true has = refl
  verum_settled h false has = absurd (never (apply verum no_terms) false has (alone (HasTruth (apply verum no_terms) true) h.0))

  falsum_settled : Met (apply falsum no_terms) → IsSettled (apply falsum no_terms)
  falsum_settled h false has = refl
  falsum_settled h true has = absurd (never (apply falsum no_terms) true has (alone (HasTruth (apply falsum no_terms) false) h.0))

  -- ---- Terms

  pub node_settled : (h : Head) (ts : Terms) → IsRow h ts → AllAre true ts → Met (apply h ts) → AreSettled ts
      → ((c : _) (sign : Bool) → apply h ts ≡ apply (constant c) no_terms → HasTruth (apply (constant c) no_terms) sign → a c ≡ truth sign) → IsSettled (apply h ts)
  node_settled (constant c) no_terms r g m s k = λ sign has. k c sign refl has
  node_settled verum no_terms r g m s k = verum_settled m
  node_settled falsum no_terms r g m s k = falsum_settled m
  node_settled negation (terms u no_terms) r g m s k = negation_settled u m s.0
  node_settled conjunction ts r g m s k = conjunction_settled ts m s
  node_settled disjunction ts r g m s k = disjunction_settled ts m s
  node_settled exclusion (terms u (terms v no_terms)) r g m s k = exclusion_settled u v m s.0 s.1.0
  node_settled equality (terms u (terms v no_terms)) r g m s k = equality_settled u v g.0 m s.0 s.1.0
  node_settled (choice bool_sort) (terms c (terms u (terms v no_terms))) r g m s k = choice_settled c u v m s.0 s.1.0 s.1.1.0
  node_settled h ts r g m s k = absurd r

  -- fewer terms
  fewer : (parts more : List Term) → ((u : Term) → Contains parts u → Contains more u) → MeetsGates HasTruth a more → MeetsGates HasTruth a parts
  fewer parts more within m =
      record {
        clauses = λ u at. m.clauses u (within u at);
        constants = λ c sign at has. m.constants c sign (within (apply (constant c) no_terms) at) has;
      }

  mutual
    settled : (t : Term) → IsGated t → MeetsGates HasTruth a (post_order t) → IsSettled t
    settled (apply h ts) g m =
        let own = Contains-push (post_orders ts) (apply h ts) in
        node_settled h ts g.0 (gated_arguments ts g.1)
        (AllByRecursion-weaker (HasTrueLiteral HasTruth) SaysOne (λ c n. says_one c (term_literal n.0 n.1) n.2 n.3)
        (gate_clauses (apply h ts)) (m.clauses (apply h ts) own))
        (all_settled ts g.1 (fewer (post_orders ts) (post_order (apply h ts)) (Contains-append_left (post_orders ts) (apply h ts ∷ [])) m))
        (λ c sign e has. m.constants c sign (subst (Contains (post_order (apply h ts))) e own) has)

    all_settled : (ts : Terms) → AreGated ts → MeetsGates HasTruth a (post_orders ts) → AreSettled ts
    all_settled no_terms g m = tt
    all_settled (terms t ts) g m = (
      settled t g.0 (fewer (post_order t) (post_orders (terms t ts)) (Contains-append_left (post_order t) (post_orders ts)) m),
      all_settled ts g.1 (fewer (post_orders ts) (post_orders (terms t ts)) (Contains-append_right (post_order t) (post_orders ts)) m),
    )

pub gates_decide : GatesDecide
gates_decide a truths t g m = settled a (TruthSaid (IsTruthBy truths)) (λ u h k. true≢false (sym h ∙ k)) t g m (truths t) refl

pub numbered_gates_decide : NumberedGatesDecide
numbered_gates_decide ns one a truths t sign g m has =
    settled a (TruthSaid (IsTruthAt ns truths))
    (λ u h k.
    let same : h.0 ≡ k.0 = one h.0 k.0 h.1 k.1 (h.2 ∙ sym k.2) in
    true≢false (same_Some true false (sym h.3 ∙ ap truths same ∙ k.3)))
    t g m sign has
