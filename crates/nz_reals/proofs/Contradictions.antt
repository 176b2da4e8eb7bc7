-- Multiples that contradict over one table do so over each that has the terms of their literals.
use Rattle.std.proofs.Common.{◌≡◌, ℕ, Bool, true, false, List, [], ◌∷◌, map, Option, Some, None, refl, sym, ap, ◌∙◌, subst, true≢false}
use Rattle.std.specs.Prelude.{IsSome, slice_get, if◌then◌else◌}
use Rattle.std.specs.List.{AllByRecursion}
use Rattle.nz_lists.proofs.Members.{at_of}
use Rattle.nz_fractions.specs.Fraction.{Fraction, neg_ℚ}
use Rattle.nz_spec.specs.clauses.Farkas as farkas
use Rattle.nz_spec.specs.clauses.Farkas.{bound_of}
use Rattle.nz_spec.specs.terms.Form as spec
use Rattle.nz_spec.specs.terms.Form.{negated_part}
use Rattle.nz_spec.specs.terms.FormOf.{TermHasItsNumber, number_in}
use Rattle.nz_spec.specs.clauses.Literal.{Literal, is_at_most, is_below, TellsLiterals}
use Rattle.nz_spec.specs.terms.Table.{Node, IsTable, term_in}
use Rattle.nz_spec.specs.terms.Term.{Term}
use Rattle.nz_lin.specs.declared.bound.Bound.{Bound}
use Rattle.nz_lin.specs.declared.form.Part.{Part}
use Rattle.nz_lin.specs.Forms.{AreUnits, NamesUnit, negated, parts_over}
use Rattle.nz_log.specs.declared.atoms.Atom.{Atom}
use Rattle.nz_log.specs.declared.atoms.Atom.TheVariants.{AtMost}
use Rattle.nz_log.specs.declared.multiples.LitMultiple.{LitMultiple}
use Rattle.nz_log.specs.Atoms.{IsAtomIn, IsLitIn, literal_in, with_sign}
use Rattle.nz_log.specs.Axioms.{AreMultiplesIn, multiples_in}
use Rattle.nz_simplex.specs.Contradictions.{AreSum, Contradicts}
use Rattle.nz_simplex.specs.OtherUnits.{ContradictionsStay, other_literal, other_multiple, other_part}
use Rattle.nz_simplex.specs.SaidBounds.{SumsStay}
use Rattle.nz_reals.specs.Known.{Known}
use Rattle.nz_reals.specs.Stands.{IsKnown, IsOf, IsOver}
use Rattle.nz_reals.specs.State.{Theory, known_at, literal_over}
use Rattle.nz_reals.specs.Stored.{AreForms}
use Rattle.nz_reals.specs.Sums.{is_turned, turned_sum}
use Rattle.nz_reals.specs.Tells.{AreKnown, Refutes, multiples_over}
use Rattle.nz_reals.proofs.AtomBounds.{bound_in_log, literal_of_known, signed_sum}

-- something is known
pub some_known : (t : Theory) (i : ℕ) → IsSome (known_at t i) → (k : Known) × (known_at t i ≡ Some k)
some_known t i has = by_case (known_at t i) refl has
  where
    by_case : (o : Option Known) → known_at t i ≡ o → IsSome o → (k : Known) × (known_at t i ≡ Some k)
    by_case None e h = absurd (true≢false (sym h))
    by_case (Some k) e h = (k, e)

-- the terms of a sum that is turned
pub turned_names : (ns : List Node) (ps : List Part) → AllByRecursion (NamesUnit ns) (turned_sum ps) → AllByRecursion (NamesUnit ns) ps
turned_names ns ps h = by_test (is_turned ps) h
  where
    back : (qs : List Part) → AllByRecursion (NamesUnit ns) (map negated qs) → AllByRecursion (NamesUnit ns) qs
    back [] k = tt
    back (q ∷ qs) k = (k.0, back qs k.1)

    by_test : (b : Bool) → AllByRecursion (NamesUnit ns) (if b then map negated ps else ps) → AllByRecursion (NamesUnit ns) ps
    by_test true k = back ps k
    by_test false k = k

module _ (from to : List Node) (table : IsTable from) (later : IsTable to) (numbers : TermHasItsNumber) where
  -- the term of the same number in the other table
  abbrev other : Term → Term
  other u = term_in to (number_in from u)

  others : (ps : List Part) → AllByRecursion (NamesUnit from) ps → map (other_part other) (parts_over from ps) ≡ parts_over to ps
  others [] h = refl
  others (p ∷ ps) h =
      λ i. record { coefficient = p.coefficient; unit = ap (term_in to) (numbers from table p.unit h.0.0) i } ∷ others ps h.1 i

  negated_others : (qs : List spec.Part) → map (other_part other) (map negated_part qs) ≡ map negated_part (map (other_part other) qs)
  negated_others [] = refl
  negated_others (q ∷ qs) = ap (λ (l : List spec.Part). other_part other (negated_part q) ∷ l) (negated_others qs)

  other_signed : (sign : Bool) (qs : List spec.Part) (b : Fraction) → other_literal other (with_sign sign (is_at_most qs b)) ≡ with_sign sign (is_at_most (map (other_part other) qs) b)
  other_signed true qs b = refl
  other_signed false qs b = ap (λ (l : List spec.Part). is_below l (neg_ℚ b)) (negated_others qs)

  module _ (t : Theory) (atoms : List Atom) (ids : List ℕ) (of : IsOf t atoms ids) (over : IsOver t from) (tells : TellsLiterals) (sums : SumsStay) where
    bound_names : (b : Bound) (k : Known) → IsKnown t b k → AllByRecursion (NamesUnit from) b.sides.parts
    bound_names b k is = turned_names from b.sides.parts (at_of (AreUnits from) t.simplex.forms over.units k.form (turned_sum b.sides.parts) is.form).names

    one_other : (m : LitMultiple) → IsSome (known_at t m.literal.atom) → other_literal other (literal_over from t m.literal) ≡ literal_in to atoms m.literal
    one_other m has =
        let k = some_known t m.literal.atom has in
        let b = of.right m.literal.atom k.0 k.1 in
        ap (other_literal other) (literal_of_known from t m.literal b.0 k.0 k.1 b.2)
        ∙ other_signed m.literal.sign (parts_over from b.0.sides.parts) b.0.sides.offset
        ∙ ap (λ (qs : List spec.Part). with_sign m.literal.sign (is_at_most qs b.0.sides.offset)) (others b.0.sides.parts (bound_names b.0 k.0 b.2))
        ∙ sym (bound_in_log to atoms m.literal b.0 b.1 b.2.normal)

    all_other : (ms : List LitMultiple) → AreKnown t ms → map (other_multiple other) (multiples_over from t ms) ≡ multiples_in to atoms ms
    all_other [] known = refl
    all_other (m ∷ ms) known =
        let first = one_other m known.0 in
        let rest = all_other ms known.1 in
        λ i. record { literal = first i; multiplier = m.multiplier } ∷ rest i

    one_units : (m : LitMultiple) (b : Bound) → slice_get atoms m.literal.atom ≡ Some (AtMost b) → IsLitIn to atoms m.literal → AreUnits to b.sides.parts
    one_units m b at is =
        let same : is.atom ≡ AtMost b = cc in
        subst (IsAtomIn to) same is.within

    one_sum_in : (m : LitMultiple) → IsSome (known_at t m.literal.atom) → IsLitIn to atoms m.literal → AreSum (number_in to) (bound_of (other_literal other (literal_over from t m.literal))).parts
    one_sum_in m has is =
        let k = some_known t m.literal.atom has in
        let b = of.right m.literal.atom k.0 k.1 in
        subst (λ (l : Literal). AreSum (number_in to) (bound_of l).parts) (sym (one_other m has ∙ bound_in_log to atoms m.literal b.0 b.1 b.2.normal))
        (signed_sum to later numbers tells sums b.0.sides.parts b.0.sides.offset m.literal.sign (one_units m b.0 b.1 is) b.2.sum)

    all_sums : (ms : List LitMultiple) → AreKnown t ms → AreMultiplesIn to atoms ms
        → AllByRecursion (λ (m : farkas.Multiple). AreSum (number_in to) (bound_of (other_literal other m.literal)).parts) (multiples_over from t ms)
    all_sums [] known is = tt
    all_sums (m ∷ ms) known is = (one_sum_in m known.0 is.0, all_sums ms known.1 is.1)

-- the multiples contradict over each table that has the terms of their literals
pub contradict_in : (t : Theory) (atoms : List Atom) (ids : List ℕ) (ms : List LitMultiple) → AreForms t.simplex → IsOf t atoms ids → AreKnown t ms → Refutes t ms
    → ContradictionsStay → SumsStay → TermHasItsNumber → TellsLiterals
    → (ns : List Node) → IsTable ns → AreMultiplesIn ns atoms ms → Contradicts (number_in ns) (multiples_in ns atoms ms)
contradict_in t atoms ids ms forms of known refutes stay sums numbers tells ns table is =
    let from = forms.table in
    let had = forms.over in
    subst (Contradicts (number_in ns)) (all_other from ns had.table table numbers t atoms ids of had tells sums ms known)
    (stay (number_in from) (number_in ns) (other from ns had.table table numbers) (multiples_over from t ms) (refutes from had)
    (all_sums from ns had.table table numbers t atoms ids of had tells sums ms known is))
