-- What is known of an atom, its literal in a log, and the bound that a literal says.
use Rattle.std.proofs.Common.{◌≡◌, ℕ, ◌<◌, ◌≤◌, Bool, true, false, List, [], ◌∷◌, map, length, Option, Some, None, refl, sym, ap, ◌∙◌, subst, arith, pos}
use Rattle.std.specs.Prelude.{◌&&◌, slice_get, if◌then◌else◌}
use Rattle.std.specs.List.{AllByRecursion}
use Rattle.std.proofs.lemmas.Option.{get_or_from_slice_get}
use Rattle.std.proofs.lemmas.Int.{ints}
use Rattle.nz_fractions.specs.Fraction.{Fraction, whole, neg_ℚ, ◌=ℚ◌, ◌*ℚ◌, ◌<ℚ◌, denominator}
use Rattle.nz_fractions.proofs.Laws.{=ℚ_sym, =ℚ_trans, =ℚ-from_same}
use Rattle.nz_fractions.proofs.Arithmetic.{*ℚ_comm, *ℚ-one, neg_ℚ-same}
use Rattle.nz_fractions.proofs.Identities.{neg-back}
use Rattle.nz_spec.specs.simplex.Basis.{worth}
use Rattle.nz_spec.specs.simplex.Bland.{at_least_bound, at_most_bound}
use Rattle.nz_spec.specs.clauses.Farkas as farkas
use Rattle.nz_spec.specs.terms.Form as spec
use Rattle.nz_spec.specs.terms.Form.{MayPrecede, Numbering, AreRising, negated_part}
use Rattle.nz_spec.specs.terms.FormOf.{TermHasItsNumber, number_in}
use Rattle.nz_spec.specs.clauses.Literal.{term_literal, is_at_most, negation_of, are_same_literal, TellsLiterals}
use Rattle.nz_spec.specs.terms.Same.{are_same_term}
use Rattle.nz_spec.specs.terms.Table.{Node, IsTable, term_in}
use Rattle.nz_spec.specs.terms.Term.{is_zero}
use Rattle.nz_lin.specs.declared.bound.Bound.{Bound}
use Rattle.nz_lin.specs.declared.form.Part.{Part}
use Rattle.nz_lin.specs.Bounds.{bounded}
use Rattle.nz_lin.specs.Forms.{AreInOrder, AreUnits, NamesUnit, negated, parts_over}
use Rattle.nz_trail.specs.declared.limits.Side.TheVariants.{Lower, Upper}
use Rattle.nz_log.specs.declared.atoms.Atom.{Atom}
use Rattle.nz_log.specs.declared.atoms.Atom.TheVariants.{AtMost}
use Rattle.nz_log.specs.declared.lits.Lit.{Lit}
use Rattle.nz_log.specs.Atoms.{atom_in, literal_in, with_sign}
use Rattle.nz_simplex.specs.Contradictions.{AreSum, SaysBound}
use Rattle.nz_simplex.specs.SaidBounds.{LiteralsSayBounds, SumsStay}
use Rattle.nz_reals.specs.Known.{IsSaidOf, Known, SideBound, literal_by, literal_on, no_of, said_by, said_on, yes_of}
use Rattle.nz_reals.specs.Stands.{IsKnown, IsOf}
use Rattle.nz_reals.specs.State.{Theory, known_at, literal_over, sum_at}
use Rattle.nz_reals.specs.Sums.{AreNonzero, is_turned, turned_sum}
use Rattle.nz_reals.proofs.Sums.{over_negated, parts_back}

-- ---- The literal of what is known

-- of the form that the sum is, what is known has the literal of the sum
pub literal_back : (ns : List Node) (ps : List Part) (b : Fraction) (k : Known) (sign : Bool) → IsSaidOf ps b k
    → literal_by (parts_over ns (turned_sum ps)) k sign ≡ with_sign sign (is_at_most (parts_over ns ps) b)
literal_back ns ps b k sign says = ap (with_sign sign) (ap (λ (s : SideBound). literal_on (parts_over ns (turned_sum ps)) s.side s.value.standard) says.yes ∙ by_test (is_turned ps))
  where
    yes_by : Bool → SideBound
    yes_by t = if t then said_on Lower (at_least_bound false (neg_ℚ b)) else said_on Upper (at_most_bound false b)

    by_test : (t : Bool) → literal_on (parts_over ns (if t then map negated ps else ps)) (yes_by t).side (yes_by t).value.standard ≡ is_at_most (parts_over ns ps) b
    by_test true =
        ap (λ (qs : List spec.Part). is_at_most (map negated_part qs) (neg_ℚ (neg_ℚ b))) (over_negated ns ps)
        ∙ ap (λ (qs : List spec.Part). is_at_most qs (neg_ℚ (neg_ℚ b))) (parts_back (parts_over ns ps))
        ∙ ap (is_at_most (parts_over ns ps)) (neg-back b)
    by_test false = refl

-- the literal of a bound in a log
pub bound_in_log : (ns : List Node) (atoms : List Atom) (l : Lit) (b : Bound) → slice_get atoms l.atom ≡ Some (AtMost b) → b.strict ≡ false
    → literal_in ns atoms l ≡ with_sign l.sign (is_at_most (parts_over ns b.sides.parts) b.sides.offset)
bound_in_log ns atoms l b at normal =
    ap (λ (o : Option Atom). elim o [ None ↦ term_literal (term_in ns 0) l.sign | Some a ↦ with_sign l.sign (atom_in ns a) ]) at
    ∙ ap (λ (s : Bool). with_sign l.sign (bounded s (parts_over ns b.sides.parts) b.sides.offset)) normal

pub known_literal : (ns : List Node) (t : Theory) (l : Lit) (k : Known) → known_at t l.atom ≡ Some k → literal_over ns t l ≡ literal_by (parts_over ns (sum_at t k.form)) k l.sign
known_literal ns t l k knows =
    ap (λ (o : Option Known). elim o [ None ↦ term_literal (term_in ns 0) l.sign | Some j ↦ literal_by (parts_over ns (sum_at t j.form)) j l.sign ]) knows

pub form_is : (t : Theory) (b : Bound) (k : Known) → IsKnown t b k → sum_at t k.form ≡ turned_sum b.sides.parts
form_is t b k is = get_or_from_slice_get t.simplex.forms k.form (turned_sum b.sides.parts) [] is.form

-- over a table, a literal on what is known of a bound
pub literal_of_known : (ns : List Node) (t : Theory) (l : Lit) (b : Bound) (k : Known) → known_at t l.atom ≡ Some k → IsKnown t b k
    → literal_over ns t l ≡ with_sign l.sign (is_at_most (parts_over ns b.sides.parts) b.sides.offset)
literal_of_known ns t l b k knows is =
    known_literal ns t l k knows
    ∙ ap (λ (f : List Part). literal_by (parts_over ns f) k l.sign) (form_is t b k is)
    ∙ literal_back ns b.sides.parts b.sides.offset k l.sign is.says

-- it is the literal of the log
pub literal_is : (ns : List Node) (t : Theory) (atoms : List Atom) (ids : List ℕ) (l : Lit) (k : Known) → IsOf t atoms ids → known_at t l.atom ≡ Some k
    → literal_over ns t l ≡ literal_in ns atoms l
literal_is ns t atoms ids l k of knows =
    let b = of.right l.atom k knows in
    literal_of_known ns t l b.0 k knows b.2 ∙ sym (bound_in_log ns atoms l b.0 b.1 b.2.normal)

-- ---- Sums in order

module _ (ns : List Node) (table : IsTable ns) (numbers : TermHasItsNumber) (tells : TellsLiterals) where
  apart : (p q : Part) → p.unit < length ns → q.unit < length ns → p.unit < q.unit → are_same_term (term_in ns p.unit) (term_in ns q.unit) ≡ false
  apart p q h k less = by_test (are_same_term (term_in ns p.unit) (term_in ns q.unit)) refl
    where
      by_test : (b : Bool) → are_same_term (term_in ns p.unit) (term_in ns q.unit) ≡ b → b ≡ false
      by_test false e = refl
      by_test true e =
          let both : are_same_literal (term_literal (term_in ns p.unit) true) (term_literal (term_in ns q.unit) true) ≡ true = ap (λ (b : Bool). b && true) e in
          let same : term_literal (term_in ns p.unit) true ≡ term_literal (term_in ns q.unit) true = tells.same (term_literal (term_in ns p.unit) true) (term_literal (term_in ns q.unit) true) both in
          let term : term_in ns p.unit ≡ term_in ns q.unit = cc in
          let unit : p.unit ≡ q.unit = sym (numbers ns table p.unit h) ∙ ap (number_in ns) term ∙ numbers ns table q.unit k in
          absurd (omega (arith, less, unit))

  precede : (p : Part) (ps : List Part) → p.unit < length ns → AllByRecursion (NamesUnit ns) ps → AllByRecursion (λ (q : Part). p.unit < q.unit) ps
      → AllByRecursion (MayPrecede (number_in ns) (record { coefficient = p.coefficient; unit = term_in ns p.unit })) (parts_over ns ps)
  precede p [] h names above = tt
  precede p (q ∷ qs) h names above =
      let first : number_in ns (term_in ns p.unit) ≤ number_in ns (term_in ns q.unit) =
      omega (arith, numbers ns table p.unit h, numbers ns table q.unit names.0.0, above.0) in
      ((first, apart p q h names.0.0 above.0), precede p qs h names.1 above.1)

  rising : (ps : List Part) → AllByRecursion (NamesUnit ns) ps → AreInOrder ps → AreRising (number_in ns) (parts_over ns ps)
  rising [] names order = tt
  rising (p ∷ ps) names order = (precede p ps names.0.0 names.1 order.0, rising ps names.1 order.1)

  over_nonzero : (ps : List Part) → AreNonzero ps → AllByRecursion (λ (p : spec.Part). is_zero p.coefficient ≡ false) (parts_over ns ps)
  over_nonzero [] h = tt
  over_nonzero (p ∷ ps) h = (h.0, over_nonzero ps h.1)

  pub sum_over : (ps : List Part) → AreUnits ns ps → AreNonzero ps → AreSum (number_in ns) (parts_over ns ps)
  sum_over ps units nonzero = record { rising = rising ps units.names units.in_order; nonzero = over_nonzero ps nonzero }

  -- the parts of a literal with a sign
  pub signed_sum : (sums : SumsStay) (ps : List Part) (b : Fraction) (sign : Bool) → AreUnits ns ps → AreNonzero ps
      → AreSum (number_in ns) (farkas.bound_of (with_sign sign (is_at_most (parts_over ns ps) b))).parts
  signed_sum sums ps b true units nonzero = sum_over ps units nonzero
  signed_sum sums ps b false units nonzero = sums.negated (number_in ns) (parts_over ns ps) (sum_over ps units nonzero)

-- ---- The bound that a literal says

one_above : whole (pos 0) <ℚ whole (pos 1)
unfolding denominator
one_above = record { cross = omega (arith, ints) }

pub one_time : (q : Fraction) → q =ℚ (whole (pos 1) *ℚ q)
one_time q = =ℚ_sym (=ℚ_trans (*ℚ_comm (whole (pos 1)) q) (*ℚ-one q))

module _ (say : LiteralsSayBounds) (sums : SumsStay) (number : Numbering) where
  -- of a sum that is the form
  straight_says : (qs : List spec.Part) (b : Fraction) → AreSum number qs
      → SaysBound number qs Upper (at_most_bound false b) (whole (pos 1)) (is_at_most qs b) × SaysBound number qs Lower (at_least_bound true b) (whole (pos 1)) (negation_of (is_at_most qs b))
  straight_says qs b sum = say.upper number qs qs (whole (pos 1)) b b sum one_above (λ v. one_time (worth v qs)) (one_time b)

  -- of a sum that is the form with the other signs
  turned_says : (qs : List spec.Part) (b : Fraction) → AreSum number qs
      → SaysBound number (map negated_part qs) Lower (at_least_bound false (neg_ℚ b)) (whole (pos 1)) (is_at_most qs b)
      × SaysBound number (map negated_part qs) Upper (at_most_bound true (neg_ℚ b)) (whole (pos 1)) (negation_of (is_at_most qs b))
  turned_says qs b sum =
      say.lower number (map negated_part qs) qs (whole (pos 1)) (neg_ℚ b) b sum one_above
      (λ v. =ℚ_trans (=ℚ_trans (=ℚ-from_same (sym (neg-back (worth v qs)))) (neg_ℚ-same (=ℚ_sym (sums.negated_worth v qs)))) (one_time (neg_ℚ (worth v (map negated_part qs)))))
      (=ℚ_trans (=ℚ-from_same (sym (neg-back b))) (one_time (neg_ℚ (neg_ℚ b))))

  says_yes : (ns : List Node) (ps : List Part) (b : Fraction) → AreSum number (parts_over ns ps)
      → SaysBound number (parts_over ns (turned_sum ps)) (yes_of ps b).side (yes_of ps b).value (whole (pos 1)) (is_at_most (parts_over ns ps) b)
  says_yes ns ps b sum = by_test (is_turned ps)
    where
      yes_by : Bool → SideBound
      yes_by t = if t then said_on Lower (at_least_bound false (neg_ℚ b)) else said_on Upper (at_most_bound false b)

      by_test : (t : Bool) → SaysBound number (parts_over ns (if t then map negated ps else ps)) (yes_by t).side (yes_by t).value (whole (pos 1)) (is_at_most (parts_over ns ps) b)
      by_test true =
          subst (λ (f : List spec.Part). SaysBound number f Lower (at_least_bound false (neg_ℚ b)) (whole (pos 1)) (is_at_most (parts_over ns ps) b)) (sym (over_negated ns ps))
          (turned_says (parts_over ns ps) b sum).0
      by_test false = (straight_says (parts_over ns ps) b sum).0

  says_no : (ns : List Node) (ps : List Part) (b : Fraction) → AreSum number (parts_over ns ps)
      → SaysBound number (parts_over ns (turned_sum ps)) (no_of ps b).side (no_of ps b).value (whole (pos 1)) (negation_of (is_at_most (parts_over ns ps) b))
  says_no ns [] b sum = (turned_says [] b sum).1
  says_no ns (p ∷ ps) b sum = by_test (is_turned (p ∷ ps))
    where
      no_by : Bool → SideBound
      no_by t = if t then said_on Upper (at_most_bound true (neg_ℚ b)) else said_on Lower (at_least_bound true b)

      by_test : (t : Bool) → SaysBound number (parts_over ns (if t then map negated (p ∷ ps) else p ∷ ps)) (no_by t).side (no_by t).value (whole (pos 1)) (negation_of (is_at_most (parts_over ns (p ∷ ps)) b))
      by_test true =
          subst (λ (f : List spec.Part). SaysBound number f Upper (at_most_bound true (neg_ℚ b)) (whole (pos 1)) (negation_of (is_at_most (parts_over ns (p ∷ ps)) b))) (sym (over_negated ns (p ∷ ps)))
          (turned_says (parts_over ns (p ∷ ps)) b sum).1
      by_test false = (straight_says (parts_over ns (p ∷ ps)) b sum).1

  -- what is known of a form, by a literal with a sign
  pub known_says : (ns : List Node) (ps : List Part) (b : Fraction) (k : Known) (sign : Bool) → IsSaidOf ps b k → AreSum number (parts_over ns ps)
      → SaysBound number (parts_over ns (turned_sum ps)) (said_by k sign).side (said_by k sign).value (whole (pos 1)) (with_sign sign (is_at_most (parts_over ns ps) b))
  known_says ns ps b k true says sum =
      subst (λ (s : SideBound). SaysBound number (parts_over ns (turned_sum ps)) s.side s.value (whole (pos 1)) (is_at_most (parts_over ns ps) b)) (sym says.yes) (says_yes ns ps b sum)
  known_says ns ps b k false says sum =
      subst (λ (s : SideBound). SaysBound number (parts_over ns (turned_sum ps)) s.side s.value (whole (pos 1)) (negation_of (is_at_most (parts_over ns ps) b))) (sym says.no) (says_no ns ps b sum)
