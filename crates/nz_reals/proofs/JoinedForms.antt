-- Forms when a sum has joined: each stands once, and is found.
use Rattle.std.proofs.Common.{◌≡◌, ℕ, zero, suc, ◌<◌, ◌⊎◌, inl, inr, Bool, true, false, List, [], ◌∷◌, ◌++◌, map, length, Option, Some, None, refl, sym, ap, ◌∙◌, subst, true≢false, arith, append-nil, append_assoc, pos}
use Rattle.std.specs.Prelude.{◌==◌, ◌&&◌, Contains, is_some, option_map, slice_get, slice_index_or, if◌then◌else◌}
use Rattle.std.specs.List.{AllByRecursion}
use Rattle.std.specs.Ordering.{int_eq}
use Rattle.std.specs.Cmp.{first_so, second_so, signed_Decides}
use Rattle.std.proofs.lemmas.List.Elements.{Contains-append_cases, Contains-push_cases}
use Rattle.std.proofs.lemmas.Option.{slice_get-get_or, slice_get_within}
use Rattle.nz_lists.proofs.Elements.{AllByRecursion-append, AllByRecursion-weaker}
use Rattle.nz_lists.proofs.Members.{at_of, each_of, has_cases, has_first, has_found, has_more, has_none}
use Rattle.nz_lists.proofs.Places.{slice_get_kept, slice_get-push_cases}
use Rattle.nz_lists.proofs.Tests.{same_tests}
use Rattle.nz_lists.proofs.Numbers.{equal-number, same-number}
use Rattle.nz_fractions.specs.Fraction.{Fraction, IsNumber, whole, denominator, fraction_eq, fraction_lt}
use Rattle.nz_fractions.proofs.Laws.{lowest-same, =ℚ-from_same}
use Rattle.nz_fractions.proofs.Order.{fraction_eq-same, same-fraction_eq}
use Rattle.nz_spec.specs.clauses.Literal.{StandOnce}
use Rattle.nz_spec.specs.terms.Table.{Node, HasOneNumberEach, OneNumber, term_in}
use Rattle.nz_spec.specs.terms.Term.{is_zero}
use Rattle.nz_lin.specs.declared.bound.Bound.{Bound}
use Rattle.nz_lin.specs.declared.form.Part.{Part}
use Rattle.nz_lin.specs.Forms.{AreInOrder, AreUnits, NamesUnit, parts_over}
use Rattle.nz_tab.specs.Units.{is_form_of, is_one, is_unit_form, new_units, unit_number, unit_of, with_units}
use Rattle.nz_log.specs.declared.atoms.Atom.{Atom}
use Rattle.nz_log.specs.declared.atoms.Atom.TheVariants.{AtMost}
use Rattle.nz_log.specs.Keys.{are_same_atom}
use Rattle.nz_log.specs.Same.{atom_decides}
use Rattle.nz_simplex.specs.Moves.{IsJoined}
use Rattle.nz_simplex.specs.Standing.{Held}
use Rattle.nz_simplex.specs.State.{State, IsOver}
use Rattle.nz_reals.specs.Joins.{AddsForm, IsFree, MayAddSum}
use Rattle.nz_reals.specs.declared.reals.MarkedLiteral.{MarkedLiteral}
use Rattle.nz_reals.specs.Known.{Known}
use Rattle.nz_reals.specs.State.{KnownAtom, Theory, known_among, known_at, told_lits}
use Rattle.nz_reals.specs.Stored.{AreForms, AreTolds, FindsForms, IsBacked, IsMark}
use Rattle.nz_reals.specs.Sums.{IsFormSum, zero_bound}
use Rattle.nz_lists.proofs.Once.{push_once}
use Rattle.nz_reals.proofs.Sums.{one_sum}
use Rattle.nz_reals.proofs.Tolds.{slice_get_last}

-- ---- Units among forms

unit_alone : (p : Part) → is_form_of p.unit (unit_of p) ≡ true
unit_alone p = ap (λ (b : Bool). b && is_one (whole (pos 1))) (equal-number p.unit p.unit refl)

pub some_suc : (o : Option ℕ) → is_some (option_map suc o) ≡ is_some o
some_suc None = refl
some_suc (Some n) = refl

pub number_has : (fs : List (List Part)) (u : ℕ) (g : List Part) → Contains fs g → is_form_of u g ≡ true → is_some (unit_number fs u) ≡ true
number_has [] u g h e = absurd (has_none g h)
number_has (f ∷ fs) u g h e = by_case (λ more. number_has fs u g more e) (has_cases f g fs h)
  where
    by_test : (b : Bool) → (b ≡ true) ⊎ (is_some (unit_number fs u) ≡ true) → is_some (if b then Some 0 else option_map suc (unit_number fs u)) ≡ true
    by_test true k = refl
    by_test false (inl k) = absurd (true≢false (sym k))
    by_test false (inr k) = some_suc (unit_number fs u) ∙ k

    by_case : (Contains fs g → is_some (unit_number fs u) ≡ true) → (f ≡ g) ⊎ Contains fs g → is_some (if is_form_of u f then Some 0 else option_map suc (unit_number fs u)) ≡ true
    by_case rest (inl same) = by_test (is_form_of u f) (inl (ap (is_form_of u) same ∙ e))
    by_case rest (inr more) = by_test (is_form_of u f) (inr (rest more))

pub number_at : (fs : List (List Part)) (u v : ℕ) → unit_number fs u ≡ Some v → (g : List Part) × (slice_get fs v ≡ Some g) × (is_form_of u g ≡ true)
number_at [] u v e = absurd cc
number_at (f ∷ fs) u v e = by_test (is_form_of u f) refl (unit_number fs u) (λ w h. number_at fs u w h) e
  where
    here : (n : ℕ) → ◌≡◌ {A = Option ℕ} (Some 0) (Some n) → is_form_of u f ≡ true → (g : List Part) × (slice_get (f ∷ fs) n ≡ Some g) × (is_form_of u g ≡ true)
    here zero h t = (f, refl, t)
    here (suc n) h t = absurd cc

    later : (n w : ℕ) → ◌≡◌ {A = Option ℕ} (Some (suc w)) (Some n) → ((g : List Part) × (slice_get fs w ≡ Some g) × (is_form_of u g ≡ true)) → (g : List Part) × (slice_get (f ∷ fs) n ≡ Some g) × (is_form_of u g ≡ true)
    later n w h k = let same : suc w ≡ n = cc in subst (λ (m : ℕ). (g : List Part) × (slice_get (f ∷ fs) m ≡ Some g) × (is_form_of u g ≡ true)) same k

    by_test : (b : Bool) → is_form_of u f ≡ b → (o : Option ℕ) → ((w : ℕ) → o ≡ Some w → (g : List Part) × (slice_get fs w ≡ Some g) × (is_form_of u g ≡ true)) → (if b then Some 0 else option_map suc o) ≡ Some v
        → (g : List Part) × (slice_get (f ∷ fs) v ≡ Some g) × (is_form_of u g ≡ true)
    by_test true t o rest h = here v h t
    by_test false t None rest h = absurd cc
    by_test false t (Some w) rest h = later v w h (rest w refl)

-- what new units are
pub record IsNewUnit (fs : List (List Part)) (f : List Part) (x : List Part) : Type 0 where
  pub part : Part
  pub of : Contains f part
  pub is : x ≡ unit_of part
  pub new : is_some (unit_number fs part.unit) ≡ false

pub units_from : (fs : List (List Part)) (f : List Part) (x : List Part) → Contains (new_units fs f) x → IsNewUnit fs f x
units_from fs [] x h = absurd (has_none x h)
units_from fs (p ∷ ps) x h = by_test (is_some (unit_number fs p.unit)) refl (λ k. longer (units_from fs ps x k)) h
  where
    longer : IsNewUnit fs ps x → IsNewUnit fs (p ∷ ps) x
    longer k = record { part = k.part; of = has_more p k.part ps k.of; is = k.is; new = k.new }

    by_test : (b : Bool) → is_some (unit_number fs p.unit) ≡ b → (Contains (new_units fs ps) x → IsNewUnit fs (p ∷ ps) x) → Contains (if b then new_units fs ps else unit_of p ∷ new_units fs ps) x → IsNewUnit fs (p ∷ ps) x
    by_test true e rest k = rest k
    by_test false e rest k =
        elim (has_cases (unit_of p) x (new_units fs ps) k) [
          | inl same ↦ record { part = p; of = has_first p ps; is = sym same; new = e }
          | inr more ↦ rest more
        ]

unit_name : List Part → ℕ
unit_name [] = 0
unit_name (p ∷ ps) = p.unit

same_unit : (p q : Part) → unit_of p ≡ unit_of q → p.unit ≡ q.unit
unfolding unit_name
same_unit p q e = ap unit_name e

units_once : (fs gs : List (List Part)) (ps : List Part) → StandOnce gs → ((p : Part) → Contains ps p → is_some (unit_number fs p.unit) ≡ false → Contains gs (unit_of p) → ⊥) → AreInOrder ps
    → StandOnce (gs ++ new_units fs ps)
units_once fs gs [] once fresh order = subst StandOnce (sym (append-nil gs)) once
units_once fs gs (p ∷ ps) once fresh order =
    by_test (is_some (unit_number fs p.unit)) refl (λ hs h k. units_once fs hs ps h k order.1)
  where
    by_test : (b : Bool) → is_some (unit_number fs p.unit) ≡ b
        → ((hs : List (List Part)) → StandOnce hs → ((q : Part) → Contains ps q → is_some (unit_number fs q.unit) ≡ false → Contains hs (unit_of q) → ⊥) → StandOnce (hs ++ new_units fs ps))
        → StandOnce (gs ++ (if b then new_units fs ps else unit_of p ∷ new_units fs ps))
    by_test true e rest = rest gs once (λ q has new. fresh q (has_more p q ps has) new)
    by_test false e rest =
        subst StandOnce (append_assoc gs (unit_of p ∷ []) (new_units fs ps))
        (rest (gs ++ unit_of p ∷ []) (push_once gs (unit_of p) (fresh p (has_first p ps) e) once) (λ q has new there.
        elim (Contains-push_cases gs (unit_of p) (unit_of q) there) [
          | inl was ↦ fresh q (has_more p q ps has) new was
          | inr same ↦
              let less = each_of (λ (r : Part). p.unit < r.unit) ps order.0 q has in
              let equal = same_unit p q same in
              omega (arith, less, equal)
        ]))

unit_is_form : (p : Part) → is_unit_form (unit_of p) ≡ true
unit_is_form p = refl

-- ---- The forms then

module _ (old new : State) (f : List Part) (v : ℕ) (joined : IsJoined old new f v) where
  abbrev ws : List (List Part)
  ws = with_units old.forms f

  pub then_all : (P : List Part → Type 0) → AllByRecursion P old.forms → ((p : Part) → Contains f p → P (unit_of p)) → P f → AllByRecursion P new.forms
  then_all P olds units this = subst (AllByRecursion P) (sym joined.forms) (by_test (is_unit_form f))
    where
      each : (xs : List (List Part)) → ((x : List Part) → Contains xs x → P x) → AllByRecursion P xs
      each [] h = tt
      each (x ∷ xs) h = (h x (has_first x xs), each xs (λ y k. h y (has_more x y xs k)))

      news : AllByRecursion P (new_units old.forms f)
      news = each (new_units old.forms f) (λ x has. let u = units_from old.forms f x has in subst P (sym u.is) (units u.part u.of))

      all : AllByRecursion P ws
      all = AllByRecursion-append P old.forms (new_units old.forms f) olds news

      by_test : (b : Bool) → AllByRecursion P (if b then ws else ws ++ f ∷ [])
      by_test true = all
      by_test false = AllByRecursion-append P ws (f ∷ []) all (this, tt)

  pub then_kept : (i : ℕ) (g : List Part) → slice_get old.forms i ≡ Some g → slice_get new.forms i ≡ Some g
  then_kept i g at = subst (λ (fs : List (List Part)). slice_get fs i ≡ Some g) (sym joined.forms) (by_test (is_unit_form f))
    where
      there : slice_get ws i ≡ Some g
      there = slice_get_kept old.forms (new_units old.forms f) i g at

      by_test : (b : Bool) → slice_get (if b then ws else ws ++ f ∷ []) i ≡ Some g
      by_test true = there
      by_test false = slice_get_kept ws (f ∷ []) i g there

  pub then_once : StandOnce old.forms → AreInOrder f → (is_unit_form f ≡ false → (i : ℕ) → slice_get old.forms i ≡ Some f → ⊥) → StandOnce new.forms
  then_once once order free = subst StandOnce (sym joined.forms) (by_test (is_unit_form f) refl)
    where
      units : StandOnce ws
      units = units_once old.forms old.forms f once (λ p has fresh there. true≢false (sym (number_has old.forms p.unit (unit_of p) there (unit_alone p)) ∙ fresh)) order

      by_test : (b : Bool) → is_unit_form f ≡ b → StandOnce (if b then ws else ws ++ f ∷ [])
      by_test true e = units
      by_test false e = push_once ws f (λ has. elim (Contains-append_cases old.forms (new_units old.forms f) f has) [
        | inl was ↦ free e was.0 (slice_get-get_or old.forms was.0 f was.1 ∙ ap Some was.2)
        | inr fresh ↦ let u = units_from old.forms f f fresh in true≢false (sym (ap is_unit_form u.is ∙ unit_is_form u.part) ∙ e)
      ]) units

  -- a form is one that was there, or a unit alone, or this sum, which then is the last
  pub then_cases : (i : ℕ) (g : List Part) → slice_get new.forms i ≡ Some g → is_unit_form g ≡ false → (slice_get old.forms i ≡ Some g) ⊎ ((i ≡ v) × (g ≡ f) × (is_unit_form f ≡ false))
  then_cases i g at other = by_test (is_unit_form f) refl (subst (λ (fs : List (List Part)). slice_get fs i ≡ Some g) joined.forms at)
    where
      of_units : slice_get ws i ≡ Some g → slice_get old.forms i ≡ Some g
      of_units there = by_case (Contains-append_cases old.forms (new_units old.forms f) g (has_found ws i g there)) (below old.forms (new_units old.forms f) i g there)
        where
          below : (xs ys : List (List Part)) (k : ℕ) (x : List Part) → slice_get (xs ++ ys) k ≡ Some x → (slice_get xs k ≡ Some x) ⊎ Contains ys x
          below [] ys k x h = inr (has_found ys k x h)
          below (y ∷ xs) ys zero x h = inl h
          below (y ∷ xs) ys (suc k) x h = below xs ys k x h

          by_case : Contains old.forms g ⊎ Contains (new_units old.forms f) g → (slice_get old.forms i ≡ Some g) ⊎ Contains (new_units old.forms f) g → slice_get old.forms i ≡ Some g
          by_case h (inl was) = was
          by_case h (inr fresh) = let u = units_from old.forms f g fresh in absurd (true≢false (sym (ap is_unit_form u.is ∙ unit_is_form u.part) ∙ other))

      by_test : (b : Bool) → is_unit_form f ≡ b → slice_get (if b then ws else ws ++ f ∷ []) i ≡ Some g → (slice_get old.forms i ≡ Some g) ⊎ ((i ≡ v) × (g ≡ f) × (is_unit_form f ≡ false))
      by_test true e there = inl (of_units there)
      by_test false e there =
          elim (slice_get-push_cases ws f i g there) [
            | inl was ↦ inl (of_units was)
            | inr last ↦ inr (last.0 ∙ sym (joined.number e), sym last.1, e)
          ]

-- ---- A unit alone

pub one_is : (q : Fraction) → is_one q ≡ true → q ≡ whole (pos 1)
one_is q e =
    let numerator = (signed_Decides q.numerator (pos 1)).0 (first_so (int_eq q.numerator (pos 1)) (q.below == 0) e) in
    let below = same-number q.below 0 (second_so (int_eq q.numerator (pos 1)) (q.below == 0) e) in
    λ i. record { numerator = numerator i; below = below i }

-- numbers are the same where they are equal
pub one_test : (q : Fraction) → IsNumber q → IsNumber (whole (pos 1)) → fraction_eq q (whole (pos 1)) ≡ is_one q
one_test q number one =
    same_tests (fraction_eq q (whole (pos 1))) (is_one q)
    (λ e. ap is_one (lowest-same (same-fraction_eq q (whole (pos 1)) e) (record { lowest = number.lowest }) (record { lowest = one.lowest })))
    (λ e. fraction_eq-same q (whole (pos 1)) (=ℚ-from_same (one_is q e)))

-- over a table, what is the form of the unit is the unit alone
pub alone_is : (ns : List Node) → HasOneNumberEach ns → (f g : List Part) (p : Part) → f ≡ p ∷ [] → is_unit_form f ≡ true → is_form_of p.unit g ≡ true → AreUnits ns f → AreUnits ns g → g ≡ f
alone_is ns one f [] p is unit e fs gs = absurd (true≢false (sym e))
alone_is ns one f (q ∷ r ∷ rs) p is unit e fs gs = absurd (true≢false (sym e))
alone_is ns one f (q ∷ []) p is unit e fs gs =
    let name : q.unit ≡ p.unit = same-number q.unit p.unit (first_so (q.unit == p.unit) (is_one q.coefficient) e) in
    let mine : q.coefficient ≡ whole (pos 1) = one_is q.coefficient (second_so (q.unit == p.unit) (is_one q.coefficient) e) in
    let theirs : p.coefficient ≡ whole (pos 1) = one_is p.coefficient (sym (ap is_unit_form is) ∙ unit) in
    let over : parts_over ns (q ∷ []) ≡ parts_over ns (p ∷ []) = λ i. record { coefficient = (mine ∙ sym theirs) i; unit = term_in ns (name i) } ∷ [] in
    one_sum ns one (q ∷ []) (p ∷ []) gs.names (subst (AreUnits ns) is fs).names over ∙ sym is

pub unit_shape : (f : List Part) → is_unit_form f ≡ true → (p : Part) × (f ≡ p ∷ [])
unit_shape [] e = absurd (true≢false (sym e))
unit_shape (p ∷ []) e = (p, refl)
unit_shape (p ∷ q ∷ qs) e = absurd (true≢false (sym e))

-- ---- A theory

one_straight : fraction_lt (whole (pos 1)) (whole (pos 0)) ≡ false
unfolding fraction_lt denominator
one_straight = refl

one_nonzero : is_zero (whole (pos 1)) ≡ false
unfolding fraction_eq denominator
one_nonzero = refl

pub unit_sum : (p : Part) → IsFormSum (unit_of p)
unit_sum p = record { nonzero = (one_nonzero, tt); straight = one_straight }

pub unit_units : (ns : List Node) (p : Part) → NamesUnit ns p → AreUnits ns (unit_of p)
unit_units ns p names = record { names = (names, tt); in_order = (tt, tt) }

module _ (old new : Theory) (f : List Part) (v : ℕ) (may : MayAddSum old f) (joined : IsJoined old.simplex new.simplex f v) where
  pub over_then : (ns : List Node) → AreUnits ns f → IsOver ns old.simplex → IsOver ns new.simplex
  over_then ns units over = record {
    table = over.table;
    units = then_all old.simplex new.simplex f v joined (AreUnits ns) over.units (λ p has. unit_units ns p (each_of (NamesUnit ns) f units.names p has)) units;
  }

  pub adds_form : new.known ≡ old.known → new.told ≡ old.told → AddsForm old new f
  adds_form known told = record { known = known; told = told; asserted = joined.asserted; kept = then_kept old.simplex new.simplex f v joined; over = over_then }

  pub forms_then : AreForms old.simplex → IsFree old f → AreForms new.simplex
  forms_then forms free = record {
    table = may.table;
    over = over_then may.table may.units may.over;
    sums = then_all old.simplex new.simplex f v joined IsFormSum forms.sums (λ p has. unit_sum p) may.sum;
    once = then_once old.simplex new.simplex f v joined forms.once may.units.in_order free;
  }

  pub form_then : OneNumber → slice_get new.simplex.forms v ≡ Some f
  form_then one = by_test (is_unit_form f) refl
    where
      over : IsOver may.table new.simplex
      over = over_then may.table may.units may.over

      by_test : (b : Bool) → is_unit_form f ≡ b → slice_get new.simplex.forms v ≡ Some f
      by_test false e =
          subst (λ (n : ℕ). slice_get new.simplex.forms n ≡ Some f) (sym (joined.number e))
          (subst (λ (fs : List (List Part)). slice_get fs (length (with_units old.simplex.forms f)) ≡ Some f)
          (sym (joined.forms ∙ ap (λ (b : Bool). if b then with_units old.simplex.forms f else with_units old.simplex.forms f ++ f ∷ []) e))
          (slice_get_last (with_units old.simplex.forms f) f))
      by_test true e =
          let p = unit_shape f e in
          let g = number_at new.simplex.forms p.0.unit v (joined.unit p.0 e p.1) in
          g.1 ∙ ap Some (alone_is may.table (one may.table may.over.table) f g.0 p.0 p.1 e g.2 may.units (at_of (AreUnits may.table) new.simplex.forms over.units v g.0 g.1))

  -- what is looked up
  pub finds_then : (find later : Atom → Option ℕ) → FindsForms find old.simplex.forms → IsFree old f → OneNumber
      → later (AtMost (zero_bound f)) ≡ Some v → ((a : Atom) → (a ≡ AtMost (zero_bound f) → ⊥) → later a ≡ find a) → ((a : Atom) → (a ≡ AtMost (zero_bound f)) ⊎ (a ≡ AtMost (zero_bound f) → ⊥))
      → FindsForms later new.simplex.forms
  finds_then find later finds free one mine others decide = record {
    found = λ b w at. elim (decide (AtMost b)) [
      | inl same ↦
          let bound : b ≡ zero_bound f = cc in
          let number : v ≡ w = let both : Some v ≡ Some w = sym mine ∙ ap later (sym same) ∙ at in cc in
          subst (λ (n : ℕ). slice_get new.simplex.forms n ≡ Some b.sides.parts) number (form_then one ∙ ap (λ (x : Bound). Some x.sides.parts) (sym bound))
      | inr other ↦ then_kept old.simplex new.simplex f v joined w b.sides.parts (finds.found b w (sym (others (AtMost b) other) ∙ at))
    ];
    all = λ w g at other. elim (then_cases old.simplex new.simplex f v joined w g at other) [
      | inl was ↦
          others (AtMost (zero_bound g)) (λ same.
          let bound : zero_bound g ≡ zero_bound f = cc in
          let equal : g ≡ f = ap (λ (x : Bound). x.sides.parts) bound in
          free (sym (ap is_unit_form equal) ∙ other) w (was ∙ ap Some equal))
          ∙ finds.all w g was other
      | inr last ↦ ap (λ (x : List Part). later (AtMost (zero_bound x))) last.1 ∙ mine ∙ ap Some (sym last.0)
    ];
  }

  -- what was told stays so
  pub tolds_then : new.known ≡ old.known → new.told ≡ old.told → AreTolds old → AreTolds new
  tolds_then known told tolds = record {
    listed = λ i k knows.
        let less = tolds.listed i k (sym (same i) ∙ knows) in
        slice_get_within new.simplex.forms k.form (slice_index_or old.simplex.forms k.form [])
        (then_kept old.simplex new.simplex f v joined k.form (slice_index_or old.simplex.forms k.form []) (slice_get-get_or old.simplex.forms k.form [] less));
    backed = subst (AllByRecursion (IsBacked new)) (sym joined.asserted) (AllByRecursion-weaker (IsBacked old) (IsBacked new) backed old.simplex.asserted tolds.backed);
    knows = λ r x at. let k = tolds.knows r x (subst (λ (ts : List MarkedLiteral). slice_get ts r ≡ Some x) told at) in (k.0, same x.literal.atom ∙ k.1);
    marks = λ r x at. subst (λ (bs : List Held). IsMark bs r x.mark) (sym joined.asserted) (tolds.marks r x (subst (λ (ts : List MarkedLiteral). slice_get ts r ≡ Some x) told at));
  }
    where
      same : (i : ℕ) → known_at new i ≡ known_at old i
      same i = ap (λ (ks : List KnownAtom). known_among ks i) known

      backed : (h : Held) → IsBacked old h → IsBacked new h
      backed h k = record {
        told = k.told;
        at = subst (λ (ts : List MarkedLiteral). slice_get ts h.reason ≡ Some k.told) (sym told) k.at;
        known = k.known;
        knows = same k.told.literal.atom ∙ k.knows;
        form = k.form;
        side = k.side;
        value = k.value;
      }

-- ---- What is known when an atom is kept, before anything is told

pub kept_tolds : (old new : Theory) → new.simplex ≡ old.simplex → new.told ≡ old.told → told_lits old ≡ [] → AreTolds old
    → ((i : ℕ) (k : Known) → known_at new i ≡ Some k → (known_at old i ≡ Some k) ⊎ (k.form < length old.simplex.forms)) → AreTolds new
kept_tolds old new simplex told none tolds known = record {
  listed = λ i k knows.
      let same = ap (λ (s : State). length s.forms) simplex in
      elim (known i k knows) [ inl was ↦ let less = tolds.listed i k was in omega (arith, less, same) | inr less ↦ omega (arith, less, same) ];
  backed = subst (λ (s : State). AllByRecursion (IsBacked new) s.asserted) (sym simplex) (AllByRecursion-weaker (IsBacked old) (IsBacked new) (λ h k. absurd (untold h.reason k.told k.at)) old.simplex.asserted tolds.backed);
  knows = λ r x at. absurd (untold r x (subst (λ (ts : List MarkedLiteral). slice_get ts r ≡ Some x) told at));
  marks = λ r x at. absurd (untold r x (subst (λ (ts : List MarkedLiteral). slice_get ts r ≡ Some x) told at));
}
  where
    empty : (ts : List MarkedLiteral) → map (λ (x : MarkedLiteral). x.literal) ts ≡ [] → ts ≡ []
    empty [] e = refl
    empty (t ∷ ts) e = absurd cc

    untold : (r : ℕ) (x : MarkedLiteral) → slice_get old.told r ≡ Some x → ⊥
    untold r x at = let no = subst (λ (ts : List MarkedLiteral). slice_get ts r ≡ Some x) (empty old.told none) at in cc

-- ---- Keys

pub key_apart : (a b : Atom) → (a ≡ b → ⊥) → are_same_atom a b ≡ false
key_apart a b other = by_test (are_same_atom a b) refl
  where
    by_test : (t : Bool) → are_same_atom a b ≡ t → t ≡ false
    by_test true e = absurd (other ((atom_decides a b).0 e))
    by_test false e = refl

pub key_decided : (b a : Atom) → (a ≡ b) ⊎ (a ≡ b → ⊥)
key_decided b a = by_test (are_same_atom a b) refl
  where
    by_test : (t : Bool) → are_same_atom a b ≡ t → (a ≡ b) ⊎ (a ≡ b → ⊥)
    by_test true e = inl ((atom_decides a b).0 e)
    by_test false e = inr (λ same. true≢false (sym ((atom_decides a b).1 same) ∙ e))
