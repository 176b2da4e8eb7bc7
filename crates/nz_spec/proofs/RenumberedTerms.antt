-- The forms of terms and their rows in the tables, where units are numbered anew.
use Rattle.std.proofs.Common.{◌≡◌, Bool, true, false, List, [], ◌∷◌, map, Option, Some, None, pos, inl, inr, refl, sym, ap, ap₂, subst}
use Rattle.std.specs.Prelude.{Contains, if◌then◌else◌}
use Rattle.std.specs.List.{AllByRecursion}
use Rattle.std.proofs.lemmas.List.Elements.{Contains-append_cases, Contains-append_left, Contains-append_right}
use Rattle.nz_fractions.specs.Fraction.{Fraction, whole, neg_ℚ, Arithmetic, Sum, Difference, Product, Quotient, outcome}
use Rattle.nz_spec.specs.numbers.Computation.{Computation, operated, at_once, turned_into, and_then, in_turn}
use Rattle.nz_spec.specs.terms.Term.{int_sort, real_sort, Head, equality, choice, less, at_most, sum, difference, product, quotient, integer_quotient, modulus, magnitude, to_real, to_int, is_int, Term, apply, Terms, no_terms, terms}
use Rattle.nz_spec.specs.terms.Linear.{head_constant, constant_value, constant_values}
use Rattle.nz_spec.specs.terms.Form.{Numbering, Part, Form, constant_form, unit_form, negated_form, parts_joined, parts_scaled, joined, all_joined, scaled}
use Rattle.nz_spec.specs.terms.FormOf.{is_opened, constants_product, open_form, divided_by, divided_by_each, head_form, form_of, forms_of}
use Rattle.nz_spec.specs.clauses.Literal.{Literal, term_literal, is_at_most, is_below}
use Rattle.nz_spec.specs.clauses.LinearLiteral.{is_at_most_zero, is_below_zero}
use Rattle.nz_spec.specs.clauses.Gates.{holds, fails, list_of, is_boolean_term}
use Rattle.nz_spec.specs.clauses.Links.{plus, minus, at_most_literal, below_literal, links_over, link_clauses}
use Rattle.nz_spec.specs.clauses.Units.{at_most_zero, at_most_number, below_number, times_unit, greatest_remainder, quotient_rows, remainder_rows, magnitude_rows, units_over, unit_clauses}
use Rattle.nz_spec.specs.laws.Renumbering.{IsRenumbered, GoTogether, AreEach, MayRenumber, FormsRenumber, LiteralsRenumber, ClausesRenumber, TablesRenumber, TermsRenumber}
use Rattle.nz_spec.proofs.RenumberedSums.{sums_renumber}

-- ---- Computations that go together

pub once_together : {A B : Type 0} (R : A → B → Type 0) (x : A) (y : B) → R x y → GoTogether R (at_once x) (at_once y)
once_together R x y h = record { result = h; operations = λ op has. has }

pub turned_together : {A B C D : Type 0} (R : A → B → Type 0) (S : C → D → Type 0) (f : A → C) (g : B → D) (c : Computation A) (d : Computation B)
    → GoTogether R c d → ((x : A) (y : B) → R x y → S (f x) (g y)) → GoTogether S (turned_into f c) (turned_into g d)
turned_together R S f g c d h k = record { result = k c.result d.result h.result; operations = h.operations }

pub then_together : {A B C D : Type 0} (R : A → B → Type 0) (S : C → D → Type 0) (f : A → Computation C) (g : B → Computation D) (c : Computation A) (d : Computation B)
    → GoTogether R c d → ((x : A) (y : B) → R x y → GoTogether S (f x) (g y)) → GoTogether S (and_then c f) (and_then d g)
then_together R S f g c d h k =
    let next = k c.result d.result h.result in
    record {
      result = next.result;
      operations = λ op has. elim (Contains-append_cases d.operations (g d.result).operations op has) [
        | inl first ↦ Contains-append_left c.operations (f c.result).operations op (h.operations op first)
        | inr later ↦ Contains-append_right c.operations (f c.result).operations op (next.operations op later)
      ];
    }

-- the same computation, and then two that go together
pub behind_together : {A C D : Type 0} (S : C → D → Type 0) (f : A → Computation C) (g : A → Computation D) (c : Computation A)
    → ((x : A) → GoTogether S (f x) (g x)) → GoTogether S (and_then c f) (and_then c g)
behind_together S f g c k =
    let next = k c.result in
    record {
      result = next.result;
      operations = λ op has. elim (Contains-append_cases c.operations (g c.result).operations op has) [
        | inl first ↦ Contains-append_left c.operations (f c.result).operations op first
        | inr later ↦ Contains-append_right c.operations (f c.result).operations op (next.operations op later)
      ];
    }

-- an operation on the same numbers
pub operated_together : (op : Arithmetic) {p q r s : Fraction} → p ≡ q → r ≡ s → GoTogether (λ (x y : Fraction). x ≡ y) (operated op p r) (operated op q s)
operated_together op {p} {q} {r} {s} e f =
    let same : operated op p r ≡ operated op q s = ap₂ (operated op) e f in
    record { result = ap₂ (outcome op) e f; operations = λ o has. subst (λ (c : Computation Fraction). Contains c.operations o) (sym same) has }

pub each_map : {A B C D : Type 0} (R : A → B → Type 0) (S : C → D → Type 0) (f : A → C) (g : B → D) → ((x : A) (y : B) → R x y → S (f x) (g y))
    → (xs : List A) (ys : List B) → AreEach R xs ys → AreEach S (map f xs) (map g ys)
each_map R S f g k [] [] h = tt
each_map R S f g k [] (y ∷ ys) h = absurd h
each_map R S f g k (x ∷ xs) [] h = absurd h
each_map R S f g k (x ∷ xs) (y ∷ ys) h = (k x y h.0, each_map R S f g k xs ys h.1)

in_turn_together : {A B : Type 0} (R : A → B → Type 0) (cs : List (Computation A)) (ds : List (Computation B)) → AreEach (GoTogether R) cs ds → GoTogether (AreEach R) (in_turn cs) (in_turn ds)
in_turn_together R [] [] h = once_together (AreEach R) [] [] tt
in_turn_together R [] (d ∷ ds) h = absurd h
in_turn_together R (c ∷ cs) [] h = absurd h
in_turn_together R (c ∷ cs) (d ∷ ds) h =
    then_together R (AreEach R) (λ x. turned_into (λ xs. x ∷ xs) (in_turn cs)) (λ y. turned_into (λ ys. y ∷ ys) (in_turn ds)) c d h.0
    (λ x y k. turned_together (AreEach R) (AreEach R) (λ xs. x ∷ xs) (λ ys. y ∷ ys) (in_turn cs) (in_turn ds) (in_turn_together R cs ds h.1) (λ xs ys rest. (k, rest)))

module _ (m n : Numbering) (us : List Term) (may : MayRenumber m n us) where
  abbrev Forms : Form → Form → Type 0
  Forms f g = FormsRenumber m n us f g

  abbrev Sums : List Part → List Part → Type 0
  Sums ps qs = IsRenumbered m n us ps qs

  -- ---- Forms

  none_renumbers : Sums [] []
  none_renumbers = record { before = tt; after = tt; alike = λ u. refl }

  pub constant_renumbers : (q : Fraction) → Forms (constant_form q) (constant_form q)
  constant_renumbers q = record { parts = none_renumbers; offset = refl }

  one_renumbers : (p : Part) → Contains us p.unit → Sums (p ∷ []) (p ∷ [])
  one_renumbers p has = record { before = (has, tt, tt); after = (has, tt, tt); alike = λ u. refl }

  pub unit_renumbers : (u : Term) → Contains us u → Forms (unit_form u) (unit_form u)
  unit_renumbers u has = record { parts = one_renumbers (record { coefficient = whole (pos 1); unit = u }) has; offset = refl }

  negated_renumbers : (f g : Form) → Forms f g → Forms (negated_form f) (negated_form g)
  negated_renumbers f g h = record { parts = sums_renumber.negated m n us f.parts g.parts h.parts; offset = ap neg_ℚ h.offset }

  with_offset : (ps qs : List Part) → Sums ps qs → (c d : Computation Fraction) → GoTogether (λ (x y : Fraction). x ≡ y) c d
      → GoTogether Forms (turned_into (λ x. let f : Form = record { parts = ps; offset = x } in f) c) (turned_into (λ x. let f : Form = record { parts = qs; offset = x } in f) d)
  with_offset ps qs h c d k = record { result = record { parts = h; offset = k.result }; operations = k.operations }

  pub joined_renumbers : (op : Arithmetic) (f g h k : Form) → Forms f h → Forms g k → GoTogether Forms (joined m op f g) (joined n op h k)
  joined_renumbers op f g h k a b =
      then_together Sums Forms (λ ps. turned_into (λ c. record { parts = ps; offset = c }) (operated op f.offset g.offset)) (λ ps. turned_into (λ c. record { parts = ps; offset = c }) (operated op h.offset k.offset))
      (parts_joined m op f.parts g.parts) (parts_joined n op h.parts k.parts)
      (sums_renumber.joined m n us op f.parts g.parts h.parts k.parts may.before may.after a.parts b.parts)
      (λ ps qs e. with_offset ps qs e (operated op f.offset g.offset) (operated op h.offset k.offset) (operated_together op a.offset b.offset))

  all_joined_renumber : (op : Arithmetic) (f h : Form) (gs ks : List Form) → Forms f h → AreEach Forms gs ks → GoTogether Forms (all_joined m op f gs) (all_joined n op h ks)
  all_joined_renumber op f h [] [] a b = once_together Forms f h a
  all_joined_renumber op f h [] (k ∷ ks) a b = absurd b
  all_joined_renumber op f h (g ∷ gs) [] a b = absurd b
  all_joined_renumber op f h (g ∷ gs) (k ∷ ks) a b =
      then_together Forms Forms (λ x. all_joined m op x gs) (λ y. all_joined n op y ks) (joined m op f g) (joined n op h k) (joined_renumbers op f g h k a b.0)
      (λ x y e. all_joined_renumber op x y gs ks e b.1)

  pub scaled_renumbers : (times : Fraction → Computation Fraction) (f g : Form) → Forms f g → GoTogether Forms (scaled times f) (scaled times g)
  scaled_renumbers times f g h =
      then_together Sums Forms (λ ps. turned_into (λ c. record { parts = ps; offset = c }) (times f.offset)) (λ ps. turned_into (λ c. record { parts = ps; offset = c }) (times g.offset))
      (parts_scaled times f.parts) (parts_scaled times g.parts) (sums_renumber.scaled m n us times f.parts g.parts h.parts)
      (λ ps qs e. with_offset ps qs e (times f.offset) (times g.offset) (record {
        result = ap (λ (x : Fraction). (times x).result) h.offset;
        operations = λ o has. subst (λ (x : Fraction). Contains (times x).operations o) (sym h.offset) has;
      }))

  open_renumbers : (cs : List (Option Fraction)) (fs gs : List Form) → AreEach Forms fs gs → Forms (open_form cs fs) (open_form cs gs)
  open_renumbers [] fs gs h = constant_renumbers (whole (pos 1))
  open_renumbers (None ∷ cs) [] [] h = constant_renumbers (whole (pos 1))
  open_renumbers (Some c ∷ cs) [] [] h = constant_renumbers (whole (pos 1))
  open_renumbers (c ∷ cs) [] (g ∷ gs) h = absurd h
  open_renumbers (c ∷ cs) (f ∷ fs) [] h = absurd h
  open_renumbers (None ∷ cs) (f ∷ fs) (g ∷ gs) h = h.0
  open_renumbers (Some c ∷ cs) (f ∷ fs) (g ∷ gs) h = open_renumbers cs fs gs h.1

  divided_renumbers : (ks : List (Option Fraction)) (f g : Form) → Forms f g → GoTogether Forms (divided_by_each f ks) (divided_by_each g ks)
  divided_renumbers [] f g h = once_together Forms f g h
  divided_renumbers (None ∷ ks) f g h = divided_renumbers ks f g h
  divided_renumbers (Some k ∷ ks) f g h =
      then_together Forms Forms (λ x. divided_by_each x ks) (λ y. divided_by_each y ks) (divided_by k f) (divided_by k g)
      (behind_together Forms (λ r. scaled (λ c. operated Product c r) f) (λ r. scaled (λ c. operated Product c r) g) (operated Quotient (whole (pos 1)) k)
      (λ r. scaled_renumbers (λ c. operated Product c r) f g h))
      (λ x y e. divided_renumbers ks x y e)

  head_renumbers : (h : Head) (cs : List (Option Fraction)) (fs gs : List Form) (u : Form) → AreEach Forms fs gs → Forms u u → GoTogether Forms (head_form m h cs fs u) (head_form n h cs gs u)
  head_renumbers (sum s) cs [] [] u hs k = once_together Forms _ _ (constant_renumbers (whole (pos 0)))
  head_renumbers (sum s) cs [] (g ∷ gs) u hs k = absurd hs
  head_renumbers (sum s) cs (f ∷ fs) [] u hs k = absurd hs
  head_renumbers (sum s) cs (f ∷ fs) (g ∷ gs) u hs k = all_joined_renumber Sum f g fs gs hs.0 hs.1
  head_renumbers (difference s) cs [] [] u hs k = once_together Forms _ _ (constant_renumbers (whole (pos 0)))
  head_renumbers (difference s) cs [] (g ∷ gs) u hs k = absurd hs
  head_renumbers (difference s) cs (f ∷ fs) [] u hs k = absurd hs
  head_renumbers (difference s) cs (f ∷ []) (g ∷ []) u hs k = once_together Forms _ _ (negated_renumbers f g hs.0)
  head_renumbers (difference s) cs (f ∷ []) (g ∷ h ∷ gs) u hs k = absurd hs.1
  head_renumbers (difference s) cs (f ∷ e ∷ fs) (g ∷ []) u hs k = absurd hs.1
  head_renumbers (difference s) cs (f ∷ e ∷ fs) (g ∷ h ∷ gs) u hs k = all_joined_renumber Difference f g (e ∷ fs) (h ∷ gs) hs.0 hs.1
  head_renumbers (product s) cs fs gs u hs k =
      behind_together Forms (λ p. scaled (λ c. operated Product p c) (open_form cs fs)) (λ p. scaled (λ c. operated Product p c) (open_form cs gs)) (constants_product cs)
      (λ p. scaled_renumbers (operated Product p) (open_form cs fs) (open_form cs gs) (open_renumbers cs fs gs hs))
  head_renumbers quotient [] fs gs u hs k = once_together Forms _ _ (constant_renumbers (whole (pos 1)))
  head_renumbers quotient (c ∷ cs) [] [] u hs k = once_together Forms _ _ (constant_renumbers (whole (pos 1)))
  head_renumbers quotient (c ∷ cs) [] (g ∷ gs) u hs k = absurd hs
  head_renumbers quotient (c ∷ cs) (f ∷ fs) [] u hs k = absurd hs
  head_renumbers quotient (c ∷ cs) (f ∷ fs) (g ∷ gs) u hs k = divided_renumbers cs f g hs.0
  head_renumbers to_real cs [] [] u hs k = once_together Forms _ _ k
  head_renumbers to_real cs [] (g ∷ gs) u hs k = absurd hs
  head_renumbers to_real cs (f ∷ fs) [] u hs k = absurd hs
  head_renumbers to_real cs (f ∷ []) (g ∷ []) u hs k = once_together Forms _ _ hs.0
  head_renumbers to_real cs (f ∷ []) (g ∷ h ∷ gs) u hs k = absurd hs.1
  head_renumbers to_real cs (f ∷ e ∷ fs) (g ∷ []) u hs k = absurd hs.1
  head_renumbers to_real cs (f ∷ e ∷ fs) (g ∷ h ∷ gs) u hs k = once_together Forms _ _ k
  head_renumbers h cs fs gs u hs k = once_together Forms _ _ k

  -- by whether the term is constant, and whether arithmetic opens it
  abbrev formed_by : Numbering → Head → Terms → Option Fraction → Bool → Computation Form
  formed_by number h ts c opened =
      elim c [
        | Some q ↦ at_once (constant_form q)
        | None ↦
            if opened then and_then (forms_of number ts) (λ fs. head_form number h (constant_values ts) fs (unit_form (apply h ts)))
            else at_once (unit_form (apply h ts))
      ]

  formed_renumbers : (h : Head) (ts : Terms) (c : Option Fraction) (opened : Bool) → Contains us (apply h ts) → GoTogether (AreEach Forms) (forms_of m ts) (forms_of n ts)
      → GoTogether Forms (formed_by m h ts c opened) (formed_by n h ts c opened)
  formed_renumbers h ts (Some q) opened has hs = once_together Forms _ _ (constant_renumbers q)
  formed_renumbers h ts None true has hs =
      then_together (AreEach Forms) Forms (λ fs. head_form m h (constant_values ts) fs (unit_form (apply h ts))) (λ fs. head_form n h (constant_values ts) fs (unit_form (apply h ts)))
      (forms_of m ts) (forms_of n ts) hs
      (λ fs gs e. head_renumbers h (constant_values ts) fs gs (unit_form (apply h ts)) e (unit_renumbers (apply h ts) has))
  formed_renumbers h ts None false has hs = once_together Forms _ _ (unit_renumbers (apply h ts) has)

  mutual
    form_renumbers : (t : Term) → Contains us t → GoTogether Forms (form_of m t) (form_of n t)
    form_renumbers (apply h ts) has = formed_renumbers h ts (head_constant h (constant_values ts)) (is_opened h) has (forms_renumber ts (may.arguments h ts has))

    forms_renumber : (ts : Terms) → AllByRecursion (Contains us) (list_of ts) → GoTogether (AreEach Forms) (forms_of m ts) (forms_of n ts)
    forms_renumber no_terms has = once_together (AreEach Forms) [] [] tt
    forms_renumber (terms t ts) has =
        then_together Forms (AreEach Forms) (λ f. turned_into (λ fs. f ∷ fs) (forms_of m ts)) (λ g. turned_into (λ gs. g ∷ gs) (forms_of n ts)) (form_of m t) (form_of n t)
        (form_renumbers t has.0)
        (λ f g e. turned_together (AreEach Forms) (AreEach Forms) (λ fs. f ∷ fs) (λ gs. g ∷ gs) (forms_of m ts) (forms_of n ts) (forms_renumber ts has.1) (λ fs gs rest. (e, rest)))

  -- ---- Literals on two terms

  abbrev Literals : Literal → Literal → Type 0
  Literals l k = LiteralsRenumber m n us l k

  pub pair_renumbers : (op : Arithmetic) (c d e f : Computation Form) → GoTogether Forms c e → GoTogether Forms d f
      → GoTogether Forms (and_then c (λ x. and_then d (λ y. joined m op x y))) (and_then e (λ x. and_then f (λ y. joined n op x y)))
  pair_renumbers op c d e f h k =
      then_together Forms Forms (λ x. and_then d (λ y. joined m op x y)) (λ x. and_then f (λ y. joined n op x y)) c e h
      (λ x z a. then_together Forms Forms (λ y. joined m op x y) (λ y. joined n op z y) d f k (λ y w b. joined_renumbers op x y z w a b))

  minus_renumbers : (c d e f : Computation Form) → GoTogether Forms c e → GoTogether Forms d f → GoTogether Forms (minus m c d) (minus n e f)
  minus_renumbers c d e f h k = pair_renumbers Difference c d e f h k

  plus_renumbers : (c d e f : Computation Form) → GoTogether Forms c e → GoTogether Forms d f → GoTogether Forms (plus m c d) (plus n e f)
  plus_renumbers c d e f h k = pair_renumbers Sum c d e f h k

  zero_renumbers : (c d : Computation Form) → GoTogether Forms c d → GoTogether Literals (at_most_zero c) (at_most_zero d)
  zero_renumbers c d h = turned_together Forms Literals is_at_most_zero is_at_most_zero c d h (λ f g e. (e.parts, ap neg_ℚ e.offset))

  below_zero_renumbers : (c d : Computation Form) → GoTogether Forms c d → GoTogether Literals (turned_into is_below_zero c) (turned_into is_below_zero d)
  below_zero_renumbers c d h = turned_together Forms Literals is_below_zero is_below_zero c d h (λ f g e. (e.parts, ap neg_ℚ e.offset))

  pub most_renumbers : (t u : Term) → Contains us t → Contains us u → GoTogether Literals (at_most_literal m t u) (at_most_literal n t u)
  most_renumbers t u h k =
      zero_renumbers (minus m (form_of m t) (form_of m u)) (minus n (form_of n t) (form_of n u))
      (minus_renumbers (form_of m t) (form_of m u) (form_of n t) (form_of n u) (form_renumbers t h) (form_renumbers u k))

  below_renumbers : (t u : Term) → Contains us t → Contains us u → GoTogether Literals (below_literal m t u) (below_literal n t u)
  below_renumbers t u h k =
      below_zero_renumbers (minus m (form_of m t) (form_of m u)) (minus n (form_of n t) (form_of n u))
      (minus_renumbers (form_of m t) (form_of m u) (form_of n t) (form_of n u) (form_renumbers t h) (form_renumbers u k))

  term_renumbers : (t : Term) (sign : Bool) → GoTogether Literals (at_once (term_literal t sign)) (at_once (term_literal t sign))
  term_renumbers t sign = once_together Literals _ _ (refl, refl)

  -- ---- Rows of links

  abbrev RowsRenumber : List (List (Computation Literal)) → List (List (Computation Literal)) → Type 0
  RowsRenumber rs ss = AreEach (AreEach (GoTogether Literals)) rs ss

  rows_renumber : (rs ss : List (List (Computation Literal))) → RowsRenumber rs ss → TablesRenumber m n us (map in_turn rs) (map in_turn ss)
  rows_renumber rs ss h =
      each_map (AreEach (GoTogether Literals)) (GoTogether (ClausesRenumber m n us)) in_turn in_turn (λ cs ds k. in_turn_together Literals cs ds k) rs ss h

  rows_where : (b : Bool) (rs ss : List (List (Computation Literal))) → RowsRenumber rs ss → RowsRenumber (if b then [] else rs) (if b then [] else ss)
  rows_where true rs ss h = tt
  rows_where false rs ss h = h

  links_renumber : (t : Term) (h : Head) (ts : List Term) → AllByRecursion (Contains us) ts → ((a : Term) → h ≡ is_int → ts ≡ a ∷ [] → Contains us (apply to_int (terms a no_terms)))
      → RowsRenumber (links_over m t h ts) (links_over n t h ts)
  links_renumber t less (a ∷ b ∷ []) has more =
      ((term_renumbers t false, (below_renumbers a b has.0 has.1.0, tt)), ((term_renumbers t true, (most_renumbers b a has.1.0 has.0, tt)), tt))
  links_renumber t at_most (a ∷ b ∷ []) has more =
      ((term_renumbers t false, (most_renumbers a b has.0 has.1.0, tt)), ((term_renumbers t true, (below_renumbers b a has.1.0 has.0, tt)), tt))
  links_renumber t equality (a ∷ b ∷ []) has more =
      let x = has.0 in
      let y = has.1.0 in
      rows_where (is_boolean_term a) _ _ (
        (term_renumbers t false, (most_renumbers a b x y, tt)),
        (
          (term_renumbers t false, (most_renumbers b a y x, tt)),
          ((term_renumbers t true, (below_renumbers a b x y, (below_renumbers b a y x, tt))), tt),
        ),
      )
  links_renumber t is_int (a ∷ []) has more =
      let u = apply to_int (terms a no_terms) in
      let there = more a refl refl in
      ((term_renumbers t false, (most_renumbers a u has.0 there, tt)), ((term_renumbers t true, (below_renumbers u a there has.0, tt)), tt))
  links_renumber t h ts has more = tt

  -- one term from its list
  alone_of : (ts : Terms) (a : Term) → list_of ts ≡ a ∷ [] → ts ≡ terms a no_terms
  alone_of no_terms a e = absurd (cc)
  alone_of (terms t no_terms) a e = let same : t ≡ a = cc in ap (λ (u : Term). terms u no_terms) same
  alone_of (terms t (terms u ts)) a e = absurd (cc)

  link_rows : (t : Term) → Contains us t → TablesRenumber m n us (link_clauses m t) (link_clauses n t)
  link_rows (apply h ts) has =
      rows_renumber (links_over m (apply h ts) h (list_of ts)) (links_over n (apply h ts) h (list_of ts))
      (links_renumber (apply h ts) h (list_of ts) (may.arguments h ts has) rounded)
    where
      rounded : (a : Term) → h ≡ is_int → list_of ts ≡ a ∷ [] → Contains us (apply to_int (terms a no_terms))
      rounded a e f =
          let whole : Contains us (apply is_int (terms a no_terms)) =
          subst (λ (g : Head). Contains us (apply g (terms a no_terms))) e (subst (λ (rs : Terms). Contains us (apply h rs)) (alone_of ts a f) has)
          in
          (may.companions (apply is_int (terms a no_terms)) whole).0

  -- ---- Rows of units

  most_number_renumbers : (b : Fraction) (c d : Computation Form) → GoTogether Forms c d → GoTogether Literals (at_most_number b c) (at_most_number b d)
  most_number_renumbers b c d h =
      then_together Forms Literals (λ f. turned_into (λ l. is_at_most f.parts l) (operated Difference b f.offset)) (λ f. turned_into (λ l. is_at_most f.parts l) (operated Difference b f.offset)) c d h
      (λ f g e. turned_together (λ (x y : Fraction). x ≡ y) Literals (λ l. is_at_most f.parts l) (λ l. is_at_most g.parts l) (operated Difference b f.offset) (operated Difference b g.offset)
      (operated_together Difference refl e.offset) (λ x y same. (e.parts, same)))

  below_number_renumbers : (b : Fraction) (c d : Computation Form) → GoTogether Forms c d → GoTogether Literals (below_number b c) (below_number b d)
  below_number_renumbers b c d h =
      then_together Forms Literals (λ f. turned_into (λ l. is_below f.parts l) (operated Difference b f.offset)) (λ f. turned_into (λ l. is_below f.parts l) (operated Difference b f.offset)) c d h
      (λ f g e. turned_together (λ (x y : Fraction). x ≡ y) Literals (λ l. is_below f.parts l) (λ l. is_below g.parts l) (operated Difference b f.offset) (operated Difference b g.offset)
      (operated_together Difference refl e.offset) (λ x y same. (e.parts, same)))

  times_renumbers : (k : Fraction) (u : Term) → Contains us u → GoTogether Forms (at_once (times_unit k u)) (at_once (times_unit k u))
  times_renumbers k u has = once_together Forms _ _ (record { parts = one_renumbers (record { coefficient = k; unit = u }) has; offset = refl })

  own_renumbers : (u : Term) → Contains us u → GoTogether Forms (at_once (unit_form u)) (at_once (unit_form u))
  own_renumbers u has = once_together Forms _ _ (unit_renumbers u has)

  turned_form_renumbers : (c d : Computation Form) → GoTogether Forms c d → GoTogether Forms (turned_into negated_form c) (turned_into negated_form d)
  turned_form_renumbers c d h = turned_together Forms Forms negated_form negated_form c d h negated_renumbers

  quotients_renumber : (u a : Term) (k : Option Fraction) → Contains us u → Contains us a → RowsRenumber (quotient_rows m u a k) (quotient_rows n u a k)
  quotients_renumber u a None h i = tt
  quotients_renumber u a (Some k) h i =
      let f = form_renumbers a i in
      let multiple = times_renumbers k u h in (
        (zero_renumbers _ _ (minus_renumbers _ _ _ _ multiple f), tt),
        ((most_number_renumbers (greatest_remainder k) _ _ (minus_renumbers _ _ _ _ f multiple), tt), tt),
      )

  remainders_renumber : (u q a : Term) (k : Option Fraction) → Contains us u → Contains us q → Contains us a → RowsRenumber (remainder_rows m u q a k) (remainder_rows n u q a k)
  remainders_renumber u q a None h j i = tt
  remainders_renumber u q a (Some k) h j i =
      let f = form_renumbers a i in
      let own = own_renumbers u h in
      let multiple = times_renumbers k q j in (
        (zero_renumbers _ _ (minus_renumbers _ _ _ _ (minus_renumbers _ _ _ _ f multiple) own), tt),
        (
          (zero_renumbers _ _ (minus_renumbers _ _ _ _ (plus_renumbers _ _ _ _ own multiple) f), tt),
          (
            (zero_renumbers _ _ (turned_form_renumbers _ _ own), tt),
            ((once_together Literals _ _ ((unit_renumbers u h).parts, refl), tt), tt),
          ),
        ),
      )

  magnitudes_renumber : (u a : Term) → Contains us u → Contains us a → RowsRenumber (magnitude_rows m u a) (magnitude_rows n u a)
  magnitudes_renumber u a h i =
      let f = form_renumbers a i in
      let own = own_renumbers u h in (
        (most_renumbers a u i h, tt),
        (
          (zero_renumbers _ _ (minus_renumbers _ _ _ _ (turned_form_renumbers _ _ f) own), tt),
          ((most_renumbers u a h i, (zero_renumbers _ _ (plus_renumbers _ _ _ _ own f), tt)), tt),
        ),
      )

  abbrev chosen_rows : Numbering → (u c a b : Term) → List (List (Computation Literal))
  chosen_rows number u c a b =
      (at_once (fails c) ∷ at_most_literal number u a ∷ []) ∷ (at_once (fails c) ∷ at_most_literal number a u ∷ [])
      ∷ (at_once (holds c) ∷ at_most_literal number u b ∷ []) ∷ (at_once (holds c) ∷ at_most_literal number b u ∷ []) ∷ []

  choices_renumber : (u c a b : Term) → Contains us u → Contains us a → Contains us b → RowsRenumber (chosen_rows m u c a b) (chosen_rows n u c a b)
  choices_renumber u c a b h i j = (
    (term_renumbers c false, (most_renumbers u a h i, tt)),
    (
      (term_renumbers c false, (most_renumbers a u i h, tt)),
      ((term_renumbers c true, (most_renumbers u b h j, tt)), ((term_renumbers c true, (most_renumbers b u j h, tt)), tt)),
    ),
  )

  units_renumber : (u : Term) (h : Head) (ts : List Term) → Contains us u → AllByRecursion (Contains us) ts
      → ((a k : Term) → h ≡ modulus → ts ≡ a ∷ k ∷ [] → Contains us (apply integer_quotient (terms a (terms k no_terms)))) → RowsRenumber (units_over m u h ts) (units_over n u h ts)
  units_renumber u (choice int_sort) (c ∷ a ∷ b ∷ []) own has more = choices_renumber u c a b own has.1.0 has.1.1.0
  units_renumber u (choice real_sort) (c ∷ a ∷ b ∷ []) own has more = choices_renumber u c a b own has.1.0 has.1.1.0
  units_renumber u integer_quotient (a ∷ k ∷ []) own has more = quotients_renumber u a (constant_value k) own has.0
  units_renumber u modulus (a ∷ k ∷ []) own has more =
      remainders_renumber u (apply integer_quotient (terms a (terms k no_terms))) a (constant_value k) own (more a k refl refl) has.0
  units_renumber u magnitude (a ∷ []) own has more = magnitudes_renumber u a own has.0
  units_renumber u to_int (a ∷ []) own has more =
      ((most_renumbers u a own has.0, tt), ((below_number_renumbers (whole (pos 1)) _ _ (minus_renumbers _ _ _ _ (form_renumbers a has.0) (own_renumbers u own)), tt), tt))
  units_renumber u h ts own has more = tt

  two_of : (ts : Terms) (a k : Term) → list_of ts ≡ a ∷ k ∷ [] → ts ≡ terms a (terms k no_terms)
  two_of no_terms a k e = absurd (cc)
  two_of (terms t no_terms) a k e = absurd (cc)
  two_of (terms t (terms u no_terms)) a k e =
      let first : t ≡ a = cc in
      let second : u ≡ k = cc in
      ap₂ (λ (x y : Term). terms x (terms y no_terms)) first second
  two_of (terms t (terms u (terms v ts))) a k e = absurd (cc)

  unit_rows : (t : Term) → Contains us t → TablesRenumber m n us (unit_clauses m t) (unit_clauses n t)
  unit_rows (apply h ts) has =
      rows_renumber (units_over m (apply h ts) h (list_of ts)) (units_over n (apply h ts) h (list_of ts))
      (units_renumber (apply h ts) h (list_of ts) has (may.arguments h ts has) divided)
    where
      divided : (a k : Term) → h ≡ modulus → list_of ts ≡ a ∷ k ∷ [] → Contains us (apply integer_quotient (terms a (terms k no_terms)))
      divided a k e f =
          let remainder : Contains us (apply modulus (terms a (terms k no_terms))) =
          subst (λ (g : Head). Contains us (apply g (terms a (terms k no_terms)))) e (subst (λ (rs : Terms). Contains us (apply h rs)) (two_of ts a k f) has)
          in
          (may.companions (apply modulus (terms a (terms k no_terms))) remainder).0

pub terms_renumber : TermsRenumber
terms_renumber = record { forms = form_renumbers; links = link_rows; units = unit_rows }
