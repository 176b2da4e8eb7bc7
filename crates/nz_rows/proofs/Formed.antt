-- Forms and bounds that are made of others, some of which may have stopped.
use Rattle.std.proofs.Common.{◌≡◌, List, None, Result, Ok, Err, ap, sym, subst, ◌∙◌}
use Rattle.nz_fractions.specs.Fraction.{Arithmetic, Difference, Fraction, first_wide}
use Rattle.nz_spec.specs.numbers.Computation.{Computation, at_once, operated, turned_into, and_then}
use Rattle.nz_spec.specs.terms.Form.{Form, joined, negated_form}
use Rattle.nz_spec.specs.terms.FormOf.{number_in}
use Rattle.nz_spec.specs.clauses.Literal.{Literal, is_at_most, is_below}
use Rattle.nz_spec.specs.clauses.Units.{at_most_number, below_number}
use Rattle.nz_spec.specs.terms.Table.{IsTable, Node}
use Rattle.nz_lin.specs.declared.form.Part.{Part}
use Rattle.nz_lin.specs.declared.bound.Bound.{Bound}
use Rattle.nz_term.specs.declared.stops.ArithmeticStop.{ArithmeticStop}
use Rattle.nz_lin.specs.Bounds.{HasUnits, IsLiteral, literal_over}
use Rattle.nz_lin.specs.Comes.{IsDone, IsFormed}
use Rattle.nz_lin.specs.Differences.{DifferencesAreOpposite}
use Rattle.nz_lin.specs.Forms.{AreUnits, Numbered, form_over, parts_over}
use Rattle.nz_rows.specs.declared.bounds.Opposites.{Opposites}
use Rattle.nz_rows.specs.Opposites.{AreOpposites}
use Rattle.nz_fractions.proofs.FirstOperations.{first_wide-none, no_operation}
use Rattle.nz_rows.proofs.Operations.{stop_before, stop_behind}

-- ---- One form

-- what needs no operation
pub made_at_once : {A : Type 0} (x y : A) → y ≡ x → IsDone (at_once x) y
made_at_once x y e = record { result = e; fits = no_operation }

-- a form with the other sign
pub negated_formed : (ns : List Node) (c : Computation Form) (f g : Numbered) → form_over ns g ≡ negated_form (form_over ns f) → (AreUnits ns f.parts → AreUnits ns g.parts)
    → IsFormed ns c (Ok f) → IsFormed ns (turned_into negated_form c) (Ok g)
negated_formed ns c f g is units h = (record { result = is ∙ ap negated_form h.0.result; fits = h.0.fits }, units h.1)

-- ---- Two forms

module _ (ns : List Node) (op : Arithmetic) (c d : Computation Form) where
  abbrev both : Computation Form
  both = and_then c (λ f. and_then d (λ g. joined (number_in ns) op f g))

  pub both_first : (s : ArithmeticStop) → IsFormed ns c (Err s) → IsFormed ns both (Err s)
  both_first s h = stop_before c.operations (and_then d (λ g. joined (number_in ns) op c.result g)).operations s h

  pub both_second : (f : Numbered) (s : ArithmeticStop) → IsFormed ns c (Ok f) → IsFormed ns d (Err s) → IsFormed ns both (Err s)
  both_second f s p h =
      stop_behind c.operations (and_then d (λ g. joined (number_in ns) op c.result g)).operations s p.0.fits (stop_before d.operations (joined (number_in ns) op c.result d.result).operations s h)

  abbrev last : Computation Form
  last = joined (number_in ns) op c.result d.result

  both_last : (r : Result Numbered ArithmeticStop) → first_wide c.operations ≡ None → first_wide d.operations ≡ None → IsFormed ns last r → IsFormed ns both r
  both_last (Ok h) p q is = (
    record {
      result = is.0.result;
      fits = first_wide-none c.operations (and_then d (λ g. joined (number_in ns) op c.result g)).operations p ∙ first_wide-none d.operations last.operations q ∙ is.0.fits;
    },
    is.1,
  )
  both_last (Err s) p q is =
      stop_behind c.operations (and_then d (λ g. joined (number_in ns) op c.result g)).operations s p (stop_behind d.operations last.operations s q is)

  pub both_formed : (f g : Numbered) (r : Result Numbered ArithmeticStop) → IsFormed ns c (Ok f) → IsFormed ns d (Ok g) → IsFormed ns (joined (number_in ns) op (form_over ns f) (form_over ns g)) r
      → IsFormed ns both r
  both_formed f g r p q is =
      both_last r p.0.fits q.0.fits (subst (λ (k : Computation Form). IsFormed ns k r) (λ i. joined (number_in ns) op (p.0.result i) (q.0.result i)) is)

  pub both_stop : (f g : Numbered) (s : ArithmeticStop) → IsFormed ns c (Ok f) → IsFormed ns d (Ok g) → IsFormed ns (joined (number_in ns) op (form_over ns f) (form_over ns g)) (Err s)
      → IsFormed ns both (Err s)
  both_stop f g s = both_formed f g (Err s)

-- a difference, and its negation, which is the one from the other side
pub turned_round : DifferencesAreOpposite → (ns : List Node) → IsTable ns → (c d : Computation Form) (f g : Numbered) (x : Opposites) → IsFormed ns c (Ok f) → IsFormed ns d (Ok g)
    → IsFormed ns (joined (number_in ns) Difference (form_over ns f) (form_over ns g)) (Ok x.forward) → form_over ns x.backward ≡ negated_form (form_over ns x.forward)
    → (AreUnits ns x.forward.parts → AreUnits ns x.backward.parts) → AreOpposites ns c d (Ok x)
turned_round law ns table c d f g x first second made is units =
    let turned = law ns table f g first.1 second.1 made.0.fits in (
      both_formed ns Difference c d f g (Ok x.forward) first second made,
      both_formed ns Difference d c g f (Ok x.backward) second first (record { result = is ∙ ap negated_form made.0.result ∙ turned.result; fits = turned.fits }, units made.1),
    )

-- ---- Bounds on a form

-- with no operation more: a bound on the units alone, which were those of another bound on the form
pub units_limited : (ns : List Node) (k : Fraction) (c : Computation Form) (f : Numbered) (a b : Bound) → a.sides.parts ≡ f.parts → literal_over ns b ≡ is_at_most (parts_over ns a.sides.parts) k
    → (HasUnits ns a → HasUnits ns b) → IsFormed ns c (Ok f) → IsLiteral ns (turned_into (λ f. is_at_most f.parts k) c) (Ok b)
units_limited ns k c f a b same is units h = (
  record { result = is ∙ ap (λ (ps : List Part). is_at_most (parts_over ns ps) k) same ∙ ap (λ (g : Form). is_at_most g.parts k) h.0.result; fits = h.0.fits },
  units (subst (AreUnits ns) (sym same) h.1),
)

-- with operations of its own
last_literal : (ns : List Node) (turn : Form → Computation Literal) (c : Computation Form) (r : Result Bound ArithmeticStop) → first_wide c.operations ≡ None → IsLiteral ns (turn c.result) r
    → IsLiteral ns (and_then c turn) r
last_literal ns turn c (Ok b) none is = (record { result = is.0.result; fits = first_wide-none c.operations (turn c.result).operations none ∙ is.0.fits }, is.1)
last_literal ns turn c (Err s) none is = stop_behind c.operations (turn c.result).operations s none is

then_literal : (ns : List Node) (turn : Form → Computation Literal) (c : Computation Form) (f : Numbered) (r : Result Bound ArithmeticStop) → IsFormed ns c (Ok f)
    → IsLiteral ns (and_then (at_once (form_over ns f)) turn) r → IsLiteral ns (and_then c turn) r
then_literal ns turn c f r h is = last_literal ns turn c r h.0.fits (subst (λ (x : Form). IsLiteral ns (and_then (at_once x) turn) r) h.0.result is)

pub at_most_made : (ns : List Node) (k : Fraction) (c : Computation Form) (f : Numbered) (r : Result Bound ArithmeticStop) → IsFormed ns c (Ok f)
    → IsLiteral ns (at_most_number k (at_once (form_over ns f))) r → IsLiteral ns (at_most_number k c) r
at_most_made ns k c f r = then_literal ns (λ g. turned_into (λ l. is_at_most g.parts l) (operated Difference k g.offset)) c f r

pub below_made : (ns : List Node) (k : Fraction) (c : Computation Form) (f : Numbered) (r : Result Bound ArithmeticStop) → IsFormed ns c (Ok f)
    → IsLiteral ns (below_number k (at_once (form_over ns f))) r → IsLiteral ns (below_number k c) r
below_made ns k c f r = then_literal ns (λ g. turned_into (λ l. is_below g.parts l) (operated Difference k g.offset)) c f r
