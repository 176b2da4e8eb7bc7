-- The numbers of units among forms.
use Rattle.std.proofs.Common.{◌≡◌, ℕ, zero, suc, ◌<◌, Bool, true, false, List, [], ◌∷◌, ◌++◌, length, get_or, Option, Some, None, pos, refl, sym, ap, ◌∙◌, true≢false, arith}
use Rattle.std.specs.Prelude.{if◌then◌else◌, cond, nat_eq, ◌==◌, ◌&&◌, Contains, option_map, is_some}
use Rattle.std.specs.Ordering.{int_eq}
use Rattle.std.specs.List.{AllByRecursion}
use Rattle.std.proofs.lemmas.Bool.{and_parts}
use Rattle.std.proofs.lemmas.Bool.Decides.{Decides-int_eq, nat_tests}
use Rattle.std.proofs.lemmas.List.{get_or-map, get_or_default, length-map}
use Rattle.std.proofs.lemmas.List.Elements.{All-from_recursion}
use Rattle.nz_lists.proofs.Numbers.{equal-number, same-number}
use Rattle.nz_fractions.specs.Fraction.{Fraction, whole}
use Rattle.nz_spec.specs.terms.Form as spec
use Rattle.nz_spec.specs.terms.FormOf.{TermHasItsNumber, number_in}
use Rattle.nz_spec.specs.terms.Table.{Node, term_in}
use Rattle.nz_spec.specs.terms.Term as spec_terms
use Rattle.nz_spec.specs.simplex.Basis.{form_at}
use Rattle.nz_term.specs.declared.heads.Sort as code
use Rattle.nz_term.specs.declared.heads.Sort.TheVariants.{Bool as Boolean, Int, Real}
use Rattle.nz_term.specs.Constants as sorts
use Rattle.nz_lin.specs.declared.form.Part.{Part}
use Rattle.nz_lin.specs.Forms.{AreUnits, part_over, parts_over}
use Rattle.nz_tab.specs.Laws.{UnitsAreForms, unit_parts}
use Rattle.nz_tab.specs.Tables.{forms_over}
use Rattle.nz_tab.specs.Units.{AreNumbers, is_form_of, is_one, is_unit_form, unit_number}

-- ---- One form

pub one_is : (q : Fraction) → is_one q ≡ true → q ≡ whole (pos 1)
one_is q e =
    let both = and_parts (int_eq q.numerator (pos 1)) (q.below == 0) e in
    ap (λ z. let x : Fraction = record { numerator = z; below = q.below } in x) ((Decides-int_eq q.numerator (pos 1)).0 both.0)
    ∙ ap (λ n. let x : Fraction = record { numerator = pos 1; below = n } in x) (same-number q.below 0 both.1)

abbrev alone : Fraction → List Node → ℕ → List spec.Part
alone q ns u = record { coefficient = q; unit = term_in ns u } ∷ []

pub form_of_unit : (ns : List Node) (u : ℕ) (f : List Part) → is_form_of u f ≡ true → parts_over ns f ≡ unit_parts ns u
form_of_unit ns u [] e = absurd (true≢false (sym e))
form_of_unit ns u (p ∷ []) e =
    let both = and_parts (p.unit == u) (is_one p.coefficient) e in
    ap (λ (q : Fraction). alone q ns p.unit) (one_is p.coefficient both.1) ∙ ap (alone (whole (pos 1)) ns) (same-number p.unit u both.0)
form_of_unit ns u (p ∷ q ∷ ps) e = absurd (true≢false (sym e))

-- only the form of a unit has its parts
pub unit_of_form : (ns : List Node) → ((i : ℕ) → i < length ns → number_in ns (term_in ns i) ≡ i) → (u : ℕ) → u < length ns → (f : List Part) → AreUnits ns f → parts_over ns f ≡ unit_parts ns u → is_form_of u f ≡ true
unit_of_form ns number u inside [] units e = absurd (omega (arith, ap length e))
unit_of_form ns number u inside (p ∷ []) units e = by_parts units.names.0.0 e
  where
    by_parts : p.unit < length ns → parts_over ns (p ∷ []) ≡ unit_parts ns u → ((p.unit == u) && is_one p.coefficient) ≡ true
    by_parts within same =
        let terms : term_in ns p.unit ≡ term_in ns u = ap (λ (l : List spec.Part). (get_or l 0 (part_over ns p)).unit) same in
        let one : p.coefficient ≡ whole (pos 1) = ap (λ (l : List spec.Part). (get_or l 0 (part_over ns p)).coefficient) same in
        let number_is : p.unit ≡ u = sym (number p.unit within) ∙ ap (number_in ns) terms ∙ number u inside in
        ap (λ (b : Bool). b && is_one p.coefficient) (equal-number p.unit u number_is) ∙ ap is_one one
unit_of_form ns number u inside (p ∷ q ∷ ps) units e = absurd (omega (arith, ap length e))

-- two sorts are one where the definitions have one for them
same_sort : (a b : code.Sort) → sorts.sort_of a ≡ sorts.sort_of b → a ≡ b
same_sort Boolean Boolean e = refl
same_sort Int Int e = refl
same_sort Real Real e = refl
same_sort a b e = cc

-- two forms of one unit are one
one_form : (ns : List Node) (u : ℕ) (f g : List Part) → AreUnits ns f → AreUnits ns g → is_form_of u f ≡ true → is_form_of u g ≡ true → f ≡ g
one_form ns u [] g h k e d = absurd (true≢false (sym e))
one_form ns u (p ∷ []) [] h k e d = absurd (true≢false (sym d))
one_form ns u (p ∷ []) (q ∷ []) h k e d =
    let a = and_parts (p.unit == u) (is_one p.coefficient) e in
    let b = and_parts (q.unit == u) (is_one q.coefficient) d in
    let unit : p.unit ≡ q.unit = same-number p.unit u a.0 ∙ sym (same-number q.unit u b.0) in
    let coefficient : p.coefficient ≡ q.coefficient = one_is p.coefficient a.1 ∙ sym (one_is q.coefficient b.1) in
    let sort : p.sort ≡ q.sort = same_sort p.sort q.sort (h.names.0.1 ∙ ap (λ (n : ℕ). spec_terms.sort_of (term_in ns n)) unit ∙ sym k.names.0.1) in
    λ i. record { unit = unit i; sort = sort i; coefficient = coefficient i } ∷ []
one_form ns u (p ∷ []) (q ∷ r ∷ qs) h k e d = absurd (true≢false (sym d))
one_form ns u (p ∷ q ∷ ps) g h k e d = absurd (true≢false (sym e))

-- ---- Numbers

-- the form of its number is that of the unit
pub number_found : (ns : List Node) (fs : List (List Part)) (u k : ℕ) → unit_number fs u ≡ Some k → (k < length fs) × (form_at (forms_over ns fs) k ≡ unit_parts ns u)
number_found ns [] u k e = absurd (cc)
number_found ns (f ∷ fs) u k e = by_test (number_found ns fs u) (is_form_of u f) refl (unit_number fs u) refl
  where
    by_test : ((m : ℕ) → unit_number fs u ≡ Some m → (m < length fs) × (form_at (forms_over ns fs) m ≡ unit_parts ns u)) → (b : Bool) → is_form_of u f ≡ b → (o : Option ℕ) → unit_number fs u ≡ o → (k < suc (length fs)) × (form_at (parts_over ns f ∷ forms_over ns fs) k ≡ unit_parts ns u)
    by_test rest true h o g =
        let first : Some 0 ≡ Some k = sym (ap (λ (b : Bool). if b then Some 0 else option_map suc (unit_number fs u)) h) ∙ e in
        let zero_is : 0 ≡ k = cc in
        (omega (arith, zero_is), ap (form_at (parts_over ns f ∷ forms_over ns fs)) (sym zero_is) ∙ form_of_unit ns u f h)
    by_test rest false h None g =
        let none : None ≡ Some k = sym (ap (λ (o : Option ℕ). option_map suc o) g) ∙ sym (ap (λ (b : Bool). if b then Some 0 else option_map suc (unit_number fs u)) h) ∙ e in
        absurd (cc)
    by_test rest false h (Some m) g =
        let later : Some (suc m) ≡ Some k = sym (ap (λ (o : Option ℕ). option_map suc o) g) ∙ sym (ap (λ (b : Bool). if b then Some 0 else option_map suc (unit_number fs u)) h) ∙ e in
        let next : suc m ≡ k = cc in
        let found = rest m g in
        (omega (arith, found.0, next), ap (form_at (parts_over ns f ∷ forms_over ns fs)) (sym next) ∙ found.1)

pub unit_listed : (ns : List Node) (fs : List (List Part)) (u k : ℕ) → unit_number fs u ≡ Some k → Contains (forms_over ns fs) (unit_parts ns u)
unit_listed ns fs u k e =
    let found = number_found ns fs u k e in
    let inside : k < length (forms_over ns fs) = omega (arith, found.0, length-map fs (parts_over ns)) in
    (k, inside, get_or_default (forms_over ns fs) k (unit_parts ns u) [] inside ∙ found.1)

no_number : (o : Option ℕ) (k : ℕ) → o ≡ None → o ≡ Some k → ⊥
no_number o k e g = cc

-- where a unit's form is, it has a number
never_none : (fs : List (List Part)) (u k : ℕ) → k < length fs → is_form_of u (get_or fs k []) ≡ true → unit_number fs u ≡ None → ⊥
never_none [] u k h e n = omega (arith, h)
never_none (f ∷ fs) u zero h e n =
    no_number (unit_number (f ∷ fs) u) 0 n (ap (λ (b : Bool). if b then Some 0 else option_map suc (unit_number fs u)) e)
never_none (f ∷ fs) u (suc k) h e n = by_test (never_none fs u k (omega (arith, h)) e) (is_form_of u f) refl (unit_number fs u) refl
  where
    by_test : (unit_number fs u ≡ None → ⊥) → (b : Bool) → is_form_of u f ≡ b → (o : Option ℕ) → unit_number fs u ≡ o → ⊥
    by_test rest true g o q = no_number (unit_number (f ∷ fs) u) 0 n (ap (λ (b : Bool). if b then Some 0 else option_map suc (unit_number fs u)) g)
    by_test rest false g None q = rest q
    by_test rest false g (Some m) q =
        no_number (unit_number (f ∷ fs) u) (suc m) n (ap (λ (b : Bool). if b then Some 0 else option_map suc (unit_number fs u)) g ∙ ap (λ (o : Option ℕ). option_map suc o) q)

pub unit_unlisted : (ns : List Node) → ((i : ℕ) → i < length ns → number_in ns (term_in ns i) ≡ i) → (fs : List (List Part)) → AllByRecursion (AreUnits ns) fs → (u : ℕ) → u < length ns → unit_number fs u ≡ None → Contains (forms_over ns fs) (unit_parts ns u) → ⊥
unit_unlisted ns number fs all u inside none there =
    let k = there.0 in
    let within : k < length fs = omega (arith, there.1, length-map fs (parts_over ns)) in
    never_none fs u k within
    (unit_of_form ns number u inside (get_or fs k []) (All-from_recursion (AreUnits ns) fs all k [] within)
    (sym (get_or-map (parts_over ns) fs k [] (unit_parts ns u) within) ∙ there.2))
    none

pub units_are_forms : TermHasItsNumber → UnitsAreForms
units_are_forms numbers = record {
  form = form_of_unit;
  told = λ ns u f table inside. unit_of_form ns (numbers ns table) u inside f;
  one = one_form;
  numbered = number_found;
  missing = λ ns fs u table all. unit_unlisted ns (numbers ns table) fs all u;
}

-- ---- One unit more

-- a unit that has a number keeps it
pub number_stays : (fs gs : List (List Part)) (u k : ℕ) → unit_number fs u ≡ Some k → unit_number (fs ++ gs) u ≡ Some k
number_stays [] gs u k e = absurd (cc)
number_stays (f ∷ fs) gs u k e = by_test (number_stays fs gs u) (is_form_of u f) refl (unit_number fs u) refl
  where
    by_test : ((m : ℕ) → unit_number fs u ≡ Some m → unit_number (fs ++ gs) u ≡ Some m) → (b : Bool) → is_form_of u f ≡ b → (o : Option ℕ) → unit_number fs u ≡ o → (if is_form_of u f then Some 0 else option_map suc (unit_number (fs ++ gs) u)) ≡ Some k
    by_test rest true h o g =
        ap (λ (b : Bool). if b then Some 0 else option_map suc (unit_number (fs ++ gs) u)) h
        ∙ sym (ap (λ (b : Bool). if b then Some 0 else option_map suc (unit_number fs u)) h)
        ∙ e
    by_test rest false h None g =
        let none : None ≡ Some k = sym (ap (λ (o : Option ℕ). option_map suc o) g) ∙ sym (ap (λ (b : Bool). if b then Some 0 else option_map suc (unit_number fs u)) h) ∙ e in
        absurd (cc)
    by_test rest false h (Some m) g =
        ap (λ (b : Bool). if b then Some 0 else option_map suc (unit_number (fs ++ gs) u)) h
        ∙ ap (λ (o : Option ℕ). option_map suc o) (rest m g)
        ∙ sym (ap (λ (o : Option ℕ). option_map suc o) g)
        ∙ sym (ap (λ (b : Bool). if b then Some 0 else option_map suc (unit_number fs u)) h)
        ∙ e

-- one that has none gets the last one, where it is the unit that joins
pub number_behind : (fs : List (List Part)) (f : List Part) (u : ℕ) → unit_number fs u ≡ None → unit_number (fs ++ f ∷ []) u ≡ (if is_form_of u f then Some (length fs) else None)
number_behind [] f u e = by_test (is_form_of u f)
  where
    by_test : (b : Bool) → (if b then Some 0 else option_map suc None) ≡ (if b then Some 0 else None)
    by_test true = refl
    by_test false = refl
number_behind (g ∷ fs) f u e = by_test (number_behind fs f u) (is_form_of u g) refl (unit_number fs u) refl
  where
    out : (b : Bool) → option_map suc (if b then Some (length fs) else None) ≡ (if b then Some (suc (length fs)) else None)
    out true = refl
    out false = refl

    by_test : (unit_number fs u ≡ None → unit_number (fs ++ f ∷ []) u ≡ (if is_form_of u f then Some (length fs) else None)) → (b : Bool) → is_form_of u g ≡ b → (o : Option ℕ) → unit_number fs u ≡ o → (if is_form_of u g then Some 0 else option_map suc (unit_number (fs ++ f ∷ []) u)) ≡ (if is_form_of u f then Some (suc (length fs)) else None)
    by_test rest true h o q = absurd (no_number (unit_number (g ∷ fs) u) 0 e (ap (λ (b : Bool). if b then Some 0 else option_map suc (unit_number fs u)) h))
    by_test rest false h (Some m) q =
        absurd
        (no_number (unit_number (g ∷ fs) u) (suc m) e
        (ap (λ (b : Bool). if b then Some 0 else option_map suc (unit_number fs u)) h ∙ ap (λ (o : Option ℕ). option_map suc o) q))
    by_test rest false h None q =
        ap (λ (b : Bool). if b then Some 0 else option_map suc (unit_number (fs ++ f ∷ []) u)) h
        ∙ ap (λ (o : Option ℕ). option_map suc o) (rest q)
        ∙ out (is_form_of u f)

-- ---- Numbers that are stored

-- the unit of a part has the next number, where it had none
pub number_joins : (fs : List (List Part)) (f : List Part) (p : Part) (old new : ℕ → Option ℕ) → is_unit_form f ≡ true → p ≡ get_or f 0 p → AreNumbers old fs → is_some (old p.unit) ≡ false
    → ((u : ℕ) → new u ≡ cond (nat_eq p.unit u) (Some (length fs)) (old u)) → AreNumbers new (fs ++ f ∷ [])
number_joins fs [] p old new is first agree none put u = absurd (true≢false (sym is))
number_joins fs (q ∷ r ∷ ps) p old new is first agree none put u = absurd (true≢false (sym is))
number_joins fs (q ∷ []) p old new is first agree none put u = by_number (old u) refl
  where
    apart : (k : ℕ) → old u ≡ Some k → (b : Bool) → nat_eq p.unit u ≡ b → cond b (Some (length fs)) (Some k) ≡ Some k
    apart k e true h =
        let same : p.unit ≡ u = grind (arith, nat_tests, h) in
        absurd (true≢false (sym (ap (λ (m : ℕ). is_some (old m)) same ∙ ap is_some e) ∙ none))
    apart k e false h = refl

    tests : (b : Bool) → cond b (Some (length fs)) None ≡ (if b && true then Some (length fs) else None)
    tests true = refl
    tests false = refl

    by_number : (o : Option ℕ) → old u ≡ o → new u ≡ unit_number (fs ++ (q ∷ []) ∷ []) u
    by_number (Some k) e = put u ∙ ap (cond (nat_eq p.unit u) (Some (length fs))) e ∙ apart k e (nat_eq p.unit u) refl ∙ sym (number_stays fs ((q ∷ []) ∷ []) u k (sym (agree u) ∙ e))
    by_number None e =
        put u
        ∙ ap (cond (nat_eq p.unit u) (Some (length fs))) e
        ∙ ap (λ (x : Part). cond (nat_eq x.unit u) (Some (length fs)) None) first
        ∙ tests (q.unit == u)
        ∙ ap (λ (b : Bool). if (q.unit == u) && b then Some (length fs) else None) (sym is)
        ∙ sym (number_behind fs (q ∷ []) u (sym (agree u) ∙ e))

-- one that has its number keeps it
pub number_known : (fs : List (List Part)) (f : List Part) (p : Part) (old : ℕ → Option ℕ) → is_unit_form f ≡ true → p ≡ get_or f 0 p → AreNumbers old fs → is_some (old p.unit) ≡ true → AreNumbers old (fs ++ f ∷ [])
number_known fs [] p old is first agree some u = absurd (true≢false (sym is))
number_known fs (q ∷ r ∷ ps) p old is first agree some u = absurd (true≢false (sym is))
number_known fs (q ∷ []) p old is first agree some u = by_number (old u) refl
  where
    apart : old u ≡ None → (b : Bool) → (q.unit == u) ≡ b → (if b && is_one q.coefficient then Some (length fs) else None) ≡ None
    apart e true h =
        let same : p.unit ≡ u = ap (λ (x : Part). x.unit) first ∙ same-number q.unit u h in
        absurd (true≢false (sym some ∙ ap (λ (m : ℕ). is_some (old m)) same ∙ ap is_some e))
    apart e false h = refl

    by_number : (o : Option ℕ) → old u ≡ o → old u ≡ unit_number (fs ++ (q ∷ []) ∷ []) u
    by_number (Some k) e = e ∙ sym (number_stays fs ((q ∷ []) ∷ []) u k (sym (agree u) ∙ e))
    by_number None e = e ∙ sym (apart e (q.unit == u) refl) ∙ sym (number_behind fs (q ∷ []) u (sym (agree u) ∙ e))
