-- Sums of multiples, one after another.
use Rattle.std.proofs.Common.{◌≡◌, ℕ, ◌<◌, ◌+◌, Bool, true, false, List, [], ◌∷◌, ◌++◌, length, drop, get_or, Some, Result, Ok, Err, refl, sym, ap, subst, ◌∙◌, append_assoc}
use Rattle.std.specs.Prelude.{OnOk, slice_get}
use Rattle.nz_lists.proofs.Places.{drop_read}
use Rattle.nz_spec.specs.numbers.Computation.{Computation, and_then, IsSame}
use Rattle.nz_spec.specs.clauses.Farkas as farkas
use Rattle.nz_spec.specs.clauses.Farkas.{bound_of, bound_scaled, bounds_joined, empty_bound, multiples_onto}
use Rattle.nz_spec.specs.terms.Form as form
use Rattle.nz_spec.specs.terms.Form.{Numbering}
use Rattle.nz_spec.specs.terms.FormOf.{number_in}
use Rattle.nz_fractions.specs.Fraction.{Fraction, first_wide}
use Rattle.nz_spec.specs.clauses.Literal.{negation_of, term_literal}
use Rattle.nz_spec.specs.terms.Table.{Node, term_in}
use Rattle.nz_spec.specs.terms.Term.{Term}
use Rattle.nz_lin.specs.declared.bound.Bound.{Bound}
use Rattle.nz_term.specs.declared.stops.ArithmeticStop.{ArithmeticStop}
use Rattle.nz_lin.specs.Bounds.{HasUnits, bound_over, bounded, literal_over}
use Rattle.nz_lin.specs.Comes.{Comes, IsDone}
use Rattle.nz_lin.specs.Forms.{parts_over}
use Rattle.nz_term.specs.Stops.{IsStopAt}
use Rattle.nz_log.specs.declared.atoms.Atom.{Atom}
use Rattle.nz_log.specs.declared.atoms.Atom.TheVariants.{AtMost, Term as TermAtom}
use Rattle.nz_log.specs.declared.lits.Lit.{Lit}
use Rattle.nz_log.specs.declared.multiples.LitMultiple.{LitMultiple}
use Rattle.nz_log.specs.Atoms.{IsAtomIn, IsLitIn, literal_in, with_sign}
use Rattle.nz_log.specs.Axioms.{multiple_in, multiples_in, sum_in}
use Rattle.nz_log.proofs.LiteralPreservation.{literal_at}
use Rattle.nz_fractions.proofs.FirstOperations.{first_wide-none, no_operation}
use Rattle.nz_log.proofs.Operations.{stop_before}

-- one multiple is added, and the others are left
onto_next : (number : Numbering) (x z : farkas.Bound) (m : farkas.Multiple) (ms : List farkas.Multiple)
    → IsDone (and_then (bound_scaled m.multiplier (bound_of m.literal)) (λ y. bounds_joined number x y)) z → IsSame (multiples_onto number z ms) (multiples_onto number x (m ∷ ms))
onto_next number x z m ms done =
    let y = bound_scaled m.multiplier (bound_of m.literal) in
    let sum = bounds_joined number x y.result in
    let rest = multiples_onto number sum.result ms in
    subst (λ (w : farkas.Bound). IsSame (multiples_onto number w ms) (multiples_onto number x (m ∷ ms))) (sym done.result)
    (record {
      result = refl;
      stop = sym (ap first_wide (sym (append_assoc y.operations sum.operations rest.operations)) ∙ first_wide-none (y.operations ++ sum.operations) rest.operations done.fits);
    })

-- one isn't
onto_stops : (number : Numbering) (x : farkas.Bound) (m : farkas.Multiple) (ms : List farkas.Multiple) (s : ArithmeticStop)
    → IsStopAt (first_wide (and_then (bound_scaled m.multiplier (bound_of m.literal)) (λ y. bounds_joined number x y)).operations) s
    → IsStopAt (first_wide (multiples_onto number x (m ∷ ms)).operations) s
onto_stops number x m ms s h =
    let y = bound_scaled m.multiplier (bound_of m.literal) in
    let sum = bounds_joined number x y.result in
    let rest = multiples_onto number sum.result ms in
    subst (λ o. IsStopAt (first_wide o) s) (append_assoc y.operations sum.operations rest.operations) (stop_before (y.operations ++ sum.operations) rest.operations s h)

-- ---- Over a table

module _ (ns : List Node) (atoms : List Atom) (ms : List LitMultiple) (i : ℕ) (x : farkas.Bound)
    (left : IsSame (multiples_onto (number_in ns) x (multiples_in ns atoms (drop i ms))) (sum_in ns atoms ms)) where
  module _ (m : LitMultiple) (within : i < length ms) (read : m ≡ get_or ms i m) where
    front : multiples_in ns atoms (drop i ms) ≡ multiple_in ns atoms m ∷ multiples_in ns atoms (drop (i + 1) ms)
    front = ap (multiples_in ns atoms) (drop_read ms i m within read)

    here : IsSame (multiples_onto (number_in ns) x (multiple_in ns atoms m ∷ multiples_in ns atoms (drop (i + 1) ms))) (sum_in ns atoms ms)
    here = subst (λ (ks : List farkas.Multiple). IsSame (multiples_onto (number_in ns) x ks) (sum_in ns atoms ms)) front left

    abbrev added : Computation farkas.Bound
    added = and_then (bound_scaled m.multiplier (bound_of (multiple_in ns atoms m).literal)) (λ y. bounds_joined (number_in ns) x y)

    pub sum_next : (z : farkas.Bound) → IsDone added z → IsSame (multiples_onto (number_in ns) z (multiples_in ns atoms (drop (i + 1) ms))) (sum_in ns atoms ms)
    sum_next z done =
        let step = onto_next (number_in ns) x z (multiple_in ns atoms m) (multiples_in ns atoms (drop (i + 1) ms)) done in
        record { result = step.result ∙ here.result; stop = step.stop ∙ here.stop }

    pub sum_stops : (s : ArithmeticStop) → IsStopAt (first_wide added.operations) s → IsStopAt (first_wide (sum_in ns atoms ms).operations) s
    sum_stops s h =
        subst (λ o. IsStopAt o s) here.stop (onto_stops (number_in ns) x (multiple_in ns atoms m) (multiples_in ns atoms (drop (i + 1) ms)) s h)

  pub sum_done : drop i ms ≡ [] → IsDone (sum_in ns atoms ms) x
  sum_done none =
      let all = subst (λ (ks : List LitMultiple). IsSame (multiples_onto (number_in ns) x (multiples_in ns atoms ks)) (sum_in ns atoms ms)) none left in
      record { result = all.result; fits = sym all.stop ∙ no_operation }

-- before the first multiple
pub sum_starts : (ns : List Node) (atoms : List Atom) (ms : List LitMultiple) (x : farkas.Bound) → x ≡ empty_bound
    → IsSame (multiples_onto (number_in ns) x (multiples_in ns atoms ms)) (sum_in ns atoms ms)
sum_starts ns atoms ms x is =
    subst (λ (y : farkas.Bound). IsSame (multiples_onto (number_in ns) y (multiples_in ns atoms ms)) (sum_in ns atoms ms)) (sym is) (record { result = refl; stop = refl })

-- ---- One multiple

said_by : (s : Bool) (ps : List form.Part) (q : Fraction) → bound_of (bounded s ps q) ≡ record { parts = ps; limit = q; is_strict = s }
said_by true ps q = refl
said_by false ps q = refl

-- what a bound of the code says of a sum
pub bound_said : (ns : List Node) (b : Bound) → bound_of (literal_over ns b) ≡ bound_over ns b
bound_said ns b = said_by b.strict (parts_over ns b.sides.parts) b.sides.offset

term_by : (s : Bool) (t : Term) → bound_of (with_sign s (term_literal t true)) ≡ empty_bound
term_by true t = refl
term_by false t = refl

-- what a literal says of one, by its atom
module _ (ns : List Node) (atoms : List Atom) (l : Lit) where
  pub no_bound : (t : ℕ) → slice_get atoms l.atom ≡ Some (TermAtom t) → bound_of (literal_in ns atoms l) ≡ empty_bound
  no_bound t at = ap bound_of (literal_at ns atoms l (TermAtom t) at) ∙ term_by l.sign (term_in ns t)

  module _ (b : Bound) (at : slice_get atoms l.atom ≡ Some (AtMost b)) where
    pub other_bound : (o : Bound) → l.sign ≡ false → literal_over ns o ≡ negation_of (literal_over ns b) → bound_of (literal_in ns atoms l) ≡ bound_over ns o
    other_bound o sign is =
        ap bound_of (literal_at ns atoms l (AtMost b) at ∙ ap (λ (s : Bool). with_sign s (literal_over ns b)) sign ∙ sym is) ∙ bound_said ns o

    pub units_at : IsLitIn ns atoms l → HasUnits ns b
    units_at h =
        let both : Some h.atom ≡ Some (AtMost b) = sym h.at ∙ at in
        let same : h.atom ≡ AtMost b = cc in
        subst (IsAtomIn ns) same h.within

-- the multiple that is added is the same
pub multiple_added : {X : Type 0} (number : Numbering) (x now : farkas.Bound) (m : Fraction) (b c : farkas.Bound) (r : Result X ArithmeticStop) → b ≡ c
    → Comes (and_then (bound_scaled m c) (λ y. bounds_joined number x y)) now r → Comes (and_then (bound_scaled m b) (λ y. bounds_joined number x y)) now r
multiple_added number x now m b c r e h = subst (λ (d : farkas.Bound). Comes (and_then (bound_scaled m d) (λ y. bounds_joined number x y)) now r) (sym e) h

-- what is asked follows from what is known
pub units_added : {X E : Type 0} (r : Result X E) (P Q R S : List Node → Type 0) → ((ns : List Node) → S ns → Q ns) → OnOk r ((ns : List Node) → P ns → Q ns → R ns)
    → OnOk r ((ns : List Node) → P ns → S ns → R ns)
units_added (Ok x) P Q R S f h = λ ns p s. h ns p (f ns s)
units_added (Err e) P Q R S f h = h
