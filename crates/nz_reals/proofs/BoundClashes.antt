-- What bounds are worth: literals that clash contradict, those that were told, and two whose bounds leave a form no value.
use Rattle.std.proofs.Common.{◌≡◌, ℕ, zero, suc, List, [], ◌∷◌, ◌++◌, map, length, Some, Ordering, Less, Equal, Greater, refl, sym, ap, ◌∙◌, subst, pos, false}
use Rattle.std.specs.Prelude.{slice_get, slice_index_or}
use Rattle.std.specs.Ordering.{ordering_reverse, ordering_then}
use Rattle.std.proofs.lemmas.List.Elements.{All-cons, All-nil}
use Rattle.std.proofs.lemmas.Option.{get_or_from_slice_get}
use Rattle.nz_lists.proofs.Elements.{AllByRecursion-weaker}
use Rattle.nz_lists.proofs.Places.{slice_get_kept, slice_index_or-map}
use Rattle.nz_fractions.specs.Fraction.{Fraction, fraction_cmp, whole}
use Rattle.nz_fractions.proofs.Arithmetic.{*ℚ-one}
use Rattle.nz_fractions.proofs.Order.{fraction_cmp_total}
use Rattle.nz_spec.specs.simplex.Basis.{form_at}
use Rattle.nz_spec.specs.terms.Form as spec
use Rattle.nz_spec.specs.terms.FormOf.{TermHasItsNumber, number_in}
use Rattle.nz_spec.specs.numbers.Infinitesimal.{Infinitesimal, infinitesimal_cmp}
use Rattle.nz_spec.specs.clauses.Literal.{Literal, TellsLiterals}
use Rattle.nz_spec.specs.terms.Table.{Node}
use Rattle.nz_lin.specs.Forms.{parts_over}
use Rattle.nz_trail.specs.Bounds.{AreApart, ClashesWith, IsOn, IsTighter, IsTightest, asserted, other_side}
use Rattle.nz_trail.specs.declared.limits.Side.{Side}
use Rattle.nz_trail.specs.declared.limits.Side.TheVariants.{Upper}
use Rattle.nz_log.specs.declared.atoms.Atom.{Atom}
use Rattle.nz_log.specs.declared.lits.Lit.{Lit}
use Rattle.nz_simplex.specs.Checks.{IsRefuted}
use Rattle.nz_simplex.specs.Contradictions.{AreMultiplesFor, AreSaid, ClashesContradict, IsSaid, SaysBound}
use Rattle.nz_simplex.specs.SaidBounds.{LiteralsSayBounds, SumsStay}
use Rattle.nz_simplex.specs.Standing.{Held}
use Rattle.nz_simplex.specs.State.{State, position_over}
use Rattle.nz_reals.specs.declared.reals.MarkedLiteral.{MarkedLiteral}
use Rattle.nz_reals.specs.Exclusions.{AreOpposed}
use Rattle.nz_reals.specs.Known.{Known, said_by}
use Rattle.nz_reals.specs.Stands.{IsOf, IsOver}
use Rattle.nz_reals.specs.State.{Theory, known_at, literal_over}
use Rattle.nz_reals.specs.Stored.{AreTolds, IsBacked}
use Rattle.nz_reals.specs.Sums.{turned_sum}
use Rattle.nz_reals.specs.Tells.{AreKnown, Clashes, Refutes, both, held_by, multiple_at, multiples_over, told_now}
use Rattle.nz_reals.proofs.RefutationClauses.{known_units}
use Rattle.nz_reals.proofs.AtomBounds.{form_is, known_says, literal_of_known, sum_over}
use Rattle.nz_reals.proofs.Tolds.{clash_known, slice_get_last}

-- a literal of a list of those that were told
abbrev lit_in : List MarkedLiteral → ℕ → Lit
lit_in ts r = (slice_index_or ts r (record { literal = record { atom = 0; sign = false }; mark = 0 })).literal

abbrev once : ℕ → Fraction
once r = whole (pos 1)

lit_found : (ts : List MarkedLiteral) (r : ℕ) (x : MarkedLiteral) → slice_get ts r ≡ Some x → lit_in ts r ≡ x.literal
lit_found ts r x at = ap (λ (y : MarkedLiteral). y.literal) (get_or_from_slice_get ts r x (record { literal = record { atom = 0; sign = false }; mark = 0 }) at)

-- ---- One bound alone

never_less : (x : Infinitesimal) → infinitesimal_cmp x x ≡ Less → ⊥
unfolding infinitesimal_cmp
never_less x e =
    by_cases (fraction_cmp x.standard x.standard) (fraction_cmp x.coefficient x.coefficient) (fraction_cmp_total.antisymm x.standard x.standard)
    (fraction_cmp_total.antisymm x.coefficient x.coefficient) e
  where
    by_cases : (o p : Ordering) → o ≡ ordering_reverse o → p ≡ ordering_reverse p → ordering_then o p ≡ Less → ⊥
    by_cases Less p h k e = cc
    by_cases Equal Less h k e = cc
    by_cases Equal Equal h k e = cc
    by_cases Equal Greater h k e = cc
    by_cases Greater p h k e = cc

-- an upper bound alone is the tightest
alone : (v r : ℕ) (x : Infinitesimal) → IsTightest infinitesimal_cmp (asserted v Upper x r ∷ []) (asserted v Upper x r)
alone v r x =
    let b : Held = asserted v Upper x r in
    record {
      before = [];
      after = [];
      parts = refl;
      tightest = All-cons (λ (e : Held). IsOn v Upper e → ¬ IsTighter infinitesimal_cmp Upper e.value x) b [] (λ on. never_less x) (All-nil (λ (e : Held). IsOn v Upper e → ¬ IsTighter infinitesimal_cmp Upper e.value x));
      first = All-nil (λ (e : Held). IsOn v Upper e → IsTighter infinitesimal_cmp Upper x e.value);
    }

-- the one of two
abbrev one_of : {X : Type 0} → X → X → ℕ → X
one_of x y zero = x
one_of x y (suc n) = y

-- ---- Two literals, or those of a check

module _ (t : Theory) (atoms : List Atom) (ids : List ℕ) (of : IsOf t atoms ids) (say : LiteralsSayBounds) (sums : SumsStay) (numbers : TermHasItsNumber) (tells : TellsLiterals) where
  module _ (ns : List Node) (over : IsOver t ns) where
    literal_says : (l : Lit) (k : Known) → known_at t l.atom ≡ Some k
        → SaysBound (number_in ns) (form_at (position_over ns t.simplex).forms k.form) (said_by k l.sign).side (said_by k l.sign).value (whole (pos 1)) (literal_over ns t l)
    literal_says l k knows =
        let b = of.right l.atom k knows in
        let ps = b.0.sides.parts in
        let side = (said_by k l.sign).side in
        let value = (said_by k l.sign).value in
        let sum = sum_over ns over.table numbers tells ps (known_units ns t b.0 k over b.2) b.2.sum in
        let form : form_at (position_over ns t.simplex).forms k.form ≡ parts_over ns (turned_sum ps) =
        slice_index_or-map (parts_over ns) t.simplex.forms k.form [] ∙ ap (parts_over ns) (form_is t b.0 k b.2) in
        subst (λ (f : List spec.Part). SaysBound (number_in ns) f side value (whole (pos 1)) (literal_over ns t l)) (sym form)
        (subst (λ (x : Literal). SaysBound (number_in ns) (parts_over ns (turned_sum ps)) side value (whole (pos 1)) x) (sym (literal_of_known ns t l b.0 k knows b.2))
        (known_says say sums (number_in ns) ns ps b.0.sides.offset k l.sign b.2.says sum))

    abbrev literal_for : List MarkedLiteral → ℕ → Literal
    literal_for ts r = literal_over ns t (lit_in ts r)

    one_said : (ts : List MarkedLiteral) → ((r : ℕ) (x : MarkedLiteral) → slice_get t.told r ≡ Some x → slice_get ts r ≡ Some x) → (b : Held) → IsBacked t b → IsSaid (number_in ns) (literal_for ts) once ns t.simplex b
    one_said ts more b k =
        let says = literal_says k.told.literal k.known k.knows in
        let l : literal_for ts b.reason ≡ literal_over ns t k.told.literal = ap (literal_over ns t) (lit_found ts b.reason k.told (more b.reason k.told k.at)) in
        let N = number_in ns in
        subst (λ (v : ℕ). SaysBound N (form_at (position_over ns t.simplex).forms v) b.side b.value (whole (pos 1)) (literal_for ts b.reason)) (sym k.form)
        (subst (λ (s : Side). SaysBound N (form_at (position_over ns t.simplex).forms k.known.form) s b.value (whole (pos 1)) (literal_for ts b.reason)) (sym k.side)
        (subst (λ (x : Infinitesimal). SaysBound N (form_at (position_over ns t.simplex).forms k.known.form) (said_by k.known k.told.literal.sign).side x (whole (pos 1)) (literal_for ts b.reason)) (sym k.value)
        (subst (λ (x : Literal). SaysBound N (form_at (position_over ns t.simplex).forms k.known.form) (said_by k.known k.told.literal.sign).side (said_by k.known k.told.literal.sign).value (whole (pos 1)) x) (sym l)
        says)))

    all_said : (ts : List MarkedLiteral) → ((r : ℕ) (x : MarkedLiteral) → slice_get t.told r ≡ Some x → slice_get ts r ≡ Some x) → AreTolds t → AreSaid (number_in ns) (literal_for ts) once ns t.simplex
    all_said ts more tolds =
        AllByRecursion-weaker (IsBacked t) (IsSaid (number_in ns) (literal_for ts) once ns t.simplex) (one_said ts more) t.simplex.asserted tolds.backed

    for_each : (ws : List (ℕ × Fraction)) → AreMultiplesFor (literal_for t.told) once ws (multiples_over ns t (map (multiple_at t) ws))
    for_each [] = tt
    for_each (w ∷ ws) = (refl, *ℚ-one w.1, for_each ws)

  -- two literals whose bounds leave a form no value
  pub opposed_refute : ClashesContradict → (l o : Lit) → AreOpposed t l o → Refutes t (both l o)
  opposed_refute contradict l o a = λ ns over.
      let N = number_in ns in
      let low = held_by a.first l 0 in
      let high = held_by a.second o 1 in
      let upper : Held = asserted a.first.form Upper high.value 1 in
      let same : upper ≡ high = λ i. record { var = sym a.form i; side = sym a.above.upper i; value = high.value; reason = 1 } in
      let s : State = record t.simplex { asserted = high ∷ [] } in
      let literal : ℕ → Literal = one_of (literal_over ns t l) (literal_over ns t o) in
      let tightest : IsTightest infinitesimal_cmp (high ∷ []) upper = subst (λ (b : Held). IsTightest infinitesimal_cmp (b ∷ []) upper) same (alone a.first.form 1 high.value) in
      let clash : ClashesWith infinitesimal_cmp (high ∷ []) low 1 = record {
        value = high.value;
        tightest = subst (λ (side : Side). IsTightest infinitesimal_cmp (high ∷ []) (asserted a.first.form (other_side side) high.value 1)) (sym a.above.lower) tightest;
        apart = subst (λ (side : Side). AreApart infinitesimal_cmp side low.value high.value) (sym a.above.lower) a.above.greater;
      } in
      contradict.assert N literal once ns s low 1 (multiples_over ns t (both l o)) clash (literal_says ns over o a.second a.knows_other, tt) (literal_says ns over l a.first a.knows)
      (refl, *ℚ-one (whole (pos 1)), (refl, *ℚ-one (whole (pos 1)), tt))

  -- two bounds that leave a form no value
  pub clash_refutes : ClashesContradict → AreTolds t → (l : Lit) (k : Known) (other : ℕ) (o : MarkedLiteral) → known_at t l.atom ≡ Some k
      → ClashesWith infinitesimal_cmp t.simplex.asserted (held_by k l (length t.told)) other → slice_get t.told other ≡ Some o → Refutes t (both l o.literal)
  clash_refutes contradict tolds l k other o knows clash at = λ ns over.
      let ts = t.told ++ told_now t l ∷ [] in
      let more : (r : ℕ) (x : MarkedLiteral) → slice_get t.told r ≡ Some x → slice_get ts r ≡ Some x = λ r x there. slice_get_kept t.told (told_now t l ∷ []) r x there in
      let last : lit_in ts (length t.told) ≡ l = lit_found ts (length t.told) (told_now t l) (slice_get_last t.told (told_now t l)) in
      let that : lit_in ts other ≡ o.literal = lit_found ts other o (more other o at) in
      let b = held_by k l (length t.told) in
      let said : IsSaid (number_in ns) (literal_for ns over ts) once ns t.simplex b =
      subst (λ (m : Lit). SaysBound (number_in ns) (form_at (position_over ns t.simplex).forms k.form) (said_by k l.sign).side (said_by k l.sign).value (whole (pos 1)) (literal_over ns t m)) (sym last)
      (literal_says ns over l k knows) in
      contradict.assert (number_in ns) (literal_for ns over ts) once ns t.simplex b other (multiples_over ns t (both l o.literal)) clash (all_said ns over ts more tolds) said
      (ap (literal_over ns t) (sym last), *ℚ-one (whole (pos 1)), (ap (literal_over ns t) (sym that), *ℚ-one (whole (pos 1)), tt))

  -- the bounds that a check clashes on
  pub check_refutes : ClashesContradict → AreTolds t → ((ns : List Node) → IsOver t ns → IsRefuted ns t.simplex) → Refutes t (map (multiple_at t) t.simplex.why)
  check_refutes contradict tolds refuted = λ ns over.
      contradict.check (number_in ns) (literal_for ns over t.told) once ns t.simplex (multiples_over ns t (map (multiple_at t) t.simplex.why)) (refuted ns over)
      (all_said ns over t.told (λ r x at. at) tolds) (for_each ns over t.simplex.why)

  pub clash_told : ClashesContradict → AreTolds t → (l : Lit) (k : Known) → known_at t l.atom ≡ Some k → (o : Lit) → Clashes t l k o → AreKnown t (both l o) × Refutes t (both l o)
  clash_told contradict tolds l k knows o c = (
    clash_known t l k o tolds knows c,
    subst (λ (x : Lit). Refutes t (both l x)) c.literal (clash_refutes contradict tolds l k c.place c.told knows c.clash c.at),
  )
