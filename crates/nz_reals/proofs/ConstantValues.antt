-- The values of forms that are constants alone, one after another.
use Rattle.std.proofs.Common.{◌≡◌, ℕ, ◌+◌, ◌<◌, inl, inr, Bool, true, List, [], ◌∷◌, ◌++◌, map, length, Option, Some, None, refl, sym, ap, ◌∙◌, subst, true≢false, arith, append_assoc}
use Rattle.std.specs.Prelude.{◌==◌, Contains, option_map, slice_get}
use Rattle.std.specs.Cmp.{first_so}
use Rattle.std.proofs.lemmas.List.{length-map, map-append}
use Rattle.std.proofs.lemmas.List.Elements.{Contains-append_left, Contains-push, Contains-push_cases}
use Rattle.std.proofs.lemmas.Option.{slice_get-get_or}
use Rattle.nz_lists.proofs.Members.{at_of, map_from}
use Rattle.nz_lists.proofs.Numbers.{same-number}
use Rattle.nz_fractions.specs.Fraction.{Fraction}
use Rattle.nz_spec.specs.numbers.Infinitesimal.{IsLeastLimit, at}
use Rattle.nz_spec.specs.simplex.Bland.{PositionsHaveValues}
use Rattle.nz_spec.specs.clauses.Literal.{StandOnce}
use Rattle.nz_spec.specs.terms.Table.{Node}
use Rattle.nz_spec.specs.terms.Term as spec
use Rattle.nz_spec.specs.terms.Term.{real_sort}
use Rattle.nz_spec.specs.laws.ToldBounds.{AreNumbers}
use Rattle.nz_term.specs.declared.heads.Constant.{Constant}
use Rattle.nz_term.specs.declared.heads.Head.{Head}
use Rattle.nz_term.specs.Constants.{constant_of, sort_of}
use Rattle.nz_term.specs.Heads.{head_of}
use Rattle.nz_lin.specs.declared.form.Part.{Part}
use Rattle.nz_lin.specs.Forms.{AreUnits, parts_over}
use Rattle.nz_tab.specs.Laws.{UnitsAreForms}
use Rattle.nz_tab.specs.Units.{is_form_of, is_one}
use Rattle.nz_simplex.specs.State.{IsOver, IsSound, position_over}
use Rattle.nz_reals.specs.Chosen.{AddsValues, Puts, PutsFirst, PutsNone, PutsValue}
use Rattle.nz_reals.specs.Constants.{IsAlone, IsRealConstant}
use Rattle.nz_reals.specs.Limits.{HasValues, pairs_below, value_of}
use Rattle.nz_reals.specs.State.{Theory, sum_at}
use Rattle.nz_reals.specs.Stored.{AreForms}
use Rattle.nz_lists.proofs.Once.{push_once}
use Rattle.nz_reals.proofs.InfinitesimalLimits.{chosen, known_values, below_or_last}

-- ---- One form for a unit

module _ (t : Theory) (ns : List Node) (over : IsOver ns t.simplex) (forms : AreForms t.simplex) (units : UnitsAreForms) where
  form_found : (k : ℕ) → k < length t.simplex.forms → slice_get t.simplex.forms k ≡ Some (sum_at t k)
  form_found k less = slice_get-get_or t.simplex.forms k [] less

  pub one_form : (j k u : ℕ) → j < length t.simplex.forms → k < length t.simplex.forms → is_form_of u (sum_at t j) ≡ true → is_form_of u (sum_at t k) ≡ true → j ≡ k
  one_form j k u h i e f =
      let first = at_of (AreUnits ns) t.simplex.forms over.units j (sum_at t j) (form_found j h) in
      let second = at_of (AreUnits ns) t.simplex.forms over.units k (sum_at t k) (form_found k i) in
      let same : sum_at t k ≡ sum_at t j = units.one ns u (sum_at t k) (sum_at t j) second first f e in
      forms.once j k (sum_at t j) (form_found j h) (form_found k i ∙ ap Some same)

  -- ---- One form after another

  module _ (marks : List Bool) (e : Fraction) (old : List (ℕ × spec.Value)) where
    module _ (n : ℕ) (mid new : List (ℕ × spec.Value)) (less : n < length t.simplex.forms) (h : PutsFirst t ns marks e n old mid) where
      puts_none : PutsNone t ns marks n mid new → PutsFirst t ns marks e (n + 1) old new
      puts_none x = record {
        added = h.added;
        joined = x.same ∙ h.joined;
        once = h.once;
        right = λ u v has. let r = h.right u v has in (r.0, let k = r.1 in omega (arith, k), r.2, r.3);
        all = λ k u i alone. elim (below_or_last n k i) [
          | inl before ↦ h.all k u before alone
          | inr last ↦ absurd (x.none u (subst (λ (m : ℕ). IsAlone ns marks (sum_at t m) u) last alone))
        ];
      }

      puts_value : PutsValue t ns marks e n mid new → PutsFirst t ns marks e (n + 1) old new
      puts_value x = record {
        added = more;
        joined = x.joined ∙ ap (λ l. l ++ pair ∷ []) h.joined ∙ append_assoc old h.added (pair ∷ []);
        once =
            subst StandOnce (sym (map-append (λ (v : ℕ × spec.Value). v.0) h.added (pair ∷ [])))
            (push_once (map (λ (v : ℕ × spec.Value). v.0) h.added) x.unit fresh h.once);
        right = λ u v has. elim (Contains-push_cases h.added pair (u, v) has) [
          | inl was ↦ let r = h.right u v was in (r.0, let k = r.1 in omega (arith, k), r.2, r.3)
          | inr same ↦
              let unit : x.unit ≡ u = ap (λ (y : ℕ × spec.Value). y.0) same in
              let value : spec.number x.value ≡ v = ap (λ (y : ℕ × spec.Value). y.1) same in
              (n, omega arith, subst (IsAlone ns marks (sum_at t n)) unit x.alone, (x.value, sym value, x.right, x.number))
        ];
        all = λ k u i alone. elim (below_or_last n k i) [
          | inl before ↦ let v = h.all k u before alone in (v.0, Contains-append_left h.added (pair ∷ []) (u, v.0) v.1)
          | inr last ↦
              let unit : u ≡ x.unit = one_unit (sum_at t n) u x.unit (subst (λ (m : ℕ). is_form_of u (sum_at t m) ≡ true) last alone.0) x.alone.0 in
              (spec.number x.value, subst (λ (m : ℕ). Contains more (m, spec.number x.value)) (sym unit) (Contains-push h.added pair))
        ];
      }
        where
          pair : ℕ × spec.Value
          pair = (x.unit, spec.number x.value)

          more : List (ℕ × spec.Value)
          more = h.added ++ pair ∷ []

          one_unit : (f : List Part) (u v : ℕ) → is_form_of u f ≡ true → is_form_of v f ≡ true → u ≡ v
          one_unit [] u v a b = absurd (true≢false (sym a))
          one_unit (p ∷ []) u v a b = sym (same-number p.unit u (first_so (p.unit == u) (is_one p.coefficient) a)) ∙ same-number p.unit v (first_so (p.unit == v) (is_one p.coefficient) b)
          one_unit (p ∷ q ∷ qs) u v a b = absurd (true≢false (sym a))

          fresh : Contains (map (λ (v : ℕ × spec.Value). v.0) h.added) x.unit → ⊥
          fresh has =
              let y = map_from (λ (v : ℕ × spec.Value). v.0) h.added x.unit has in
              let r = h.right y.0.0 y.0.1 y.1 in
              let k = r.1 in
              let same = one_form r.0 n x.unit (omega (arith, k, less)) less (subst (λ (m : ℕ). is_form_of m (sum_at t r.0) ≡ true) y.2 r.2.0) x.alone.0 in
              omega (arith, k, same)

      pub puts_more : Puts t ns marks e n mid new → PutsFirst t ns marks e (n + 1) old new
      puts_more (inl x) = puts_value x
      puts_more (inr x) = puts_none x

    -- ---- All forms

    module _ (sound : IsSound t.simplex) (values : PositionsHaveValues) (has : HasValues t) (numbers : AreNumbers (length t.simplex.forms) (value_of t)) (least : IsLeastLimit (pairs_below t (length t.simplex.forms)) e) where
      pub adds_values : (n : ℕ) (new : List (ℕ × spec.Value)) → n ≡ length t.simplex.forms → PutsFirst t ns marks e n old new → AddsValues t ns marks (position_over ns t.simplex) old new
      adds_values n new end h = record {
        added = h.added;
        joined = h.joined;
        values = value_of t;
        has = λ k less. known_values t ns over sound has.known k (omega (arith, less, length-map t.simplex.forms (parts_over ns)));
        numbers = subst (λ (m : ℕ). AreNumbers m (value_of t)) (sym (length-map t.simplex.forms (parts_over ns))) numbers;
        fraction = e;
        chosen = chosen t ns over sound values has numbers e least;
        right = record {
          once = h.once;
          right = λ u v there.
              let r = h.right u v there in
              let k = r.1 in (
                r.0,
                record { listed = omega (arith, k, end); alone = r.2.0; of = r.2.1; marked = r.2.2 },
                r.3,
              );
          all = λ u k is.
              h.all k u (let inside = is.listed in omega (arith, inside, end))
              (is.alone, is.of, is.marked);
        };
      }

-- ---- Constants

pub real_constant : (ns : List Node) (u : ℕ) (h : Head) (c : Constant) → option_map (λ (n : Node). n.head) (slice_get ns u) ≡ Some (head_of h) → head_of h ≡ spec.constant (constant_of c) → sort_of c.sort ≡ real_sort → IsRealConstant ns u
real_constant ns u h c found is real = by_case (slice_get ns u) refl found
  where
    by_case : (o : Option Node) → slice_get ns u ≡ o → option_map (λ (n : Node). n.head) o ≡ Some (head_of h) → IsRealConstant ns u
    by_case None at e = absurd cc
    by_case (Some n) at e = let same : n.head ≡ head_of h = cc in record { name = constant_of c; node = n; at = at; head = same ∙ is; real = real }
