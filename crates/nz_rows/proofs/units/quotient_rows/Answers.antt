-- The two rows, over the difference from either side; without a constant there is none.
use Rattle.std.proofs.Common.{◌∷◌, [], subst, rules}
use Rattle.nz_fractions.specs.Fraction.{Fraction}
use Rattle.nz_spec.specs.numbers.Computation.{Computation, at_once}
use Rattle.nz_spec.specs.terms.Form.{Form}
use Rattle.nz_spec.specs.terms.FormOf.{form_of, number_in}
use Rattle.nz_spec.specs.clauses.Links.{minus}
use Rattle.nz_spec.specs.terms.Table.{term_in}
use Rattle.nz_spec.specs.clauses.Units.{at_most_number, at_most_zero, greatest_remainder, quotient_rows, times_unit}
use Rattle.nz_lin.specs.Bounds.{IsLiteral}
use Rattle.nz_rows.specs.Rows.{ComeOfRows}
use Rattle.nz_rows.proofs.RowLists.{literal_stops}
use Rattle.nz_rows.proofs.units.quotient_rows.Goals as goal

pub returns-in_default : goal.returns-in_default
returns-in_default c =
    let ns = c.args.terms.now in
    let number = number_in ns in
    let u = term_in ns c.args.unit in
    let a = term_in ns c.args.dividend in
    record { rows = subst (λ o. ComeOfRows ns (quotient_rows number u a o) c.no_rows.result) c.in_default.ensures.constant (c.no_rows.ensures.rows ns) }

pub returns-in_err-forward : goal.returns-in_err-forward
returns-in_err-forward c =
    let ns = c.args.terms.now in
    let number = number_in ns in
    let u = term_in ns c.args.unit in
    let a = term_in ns c.args.dividend in
    let k = c.in-Some.factor in
    let f = form_of number a in
    let multiple : Computation Form = at_once (times_unit k u) in
    let rest = at_most_number (greatest_remainder k) (minus number f multiple) in
    let stop = c.in_err-forward.ensures.differ ns multiple f c.known_table.ensures.table c.times-multiple.ensures.formed c.form_of.ensures.formed in
    record {
      rows = subst (λ o. ComeOfRows ns (quotient_rows number u a o) c.from_residual.result) c.in-Some.ensures.constant
          (search (rules, literal_stops ns (at_most_zero (minus number multiple f)) [] ((rest ∷ []) ∷ []) c.in_err-forward.field-0.0 stop));
    }

pub returns : goal.returns
returns c =
    let ns = c.args.terms.now in
    let number = number_in ns in
    let u = term_in ns c.args.unit in
    let a = term_in ns c.args.dividend in
    let k = c.in-Some.factor in
    let f = form_of number a in
    let multiple : Computation Form = at_once (times_unit k u) in
    let forward = minus number multiple f in
    let backward = minus number f multiple in
    let first = at_most_zero forward in
    let second = at_most_number (greatest_remainder k) backward in
    let differ = c.in_ok-forward.ensures.differ ns multiple f c.known_table.ensures.table c.times-multiple.ensures.formed c.form_of.ensures.formed in
    let limited = subst (λ (n : Fraction). IsLiteral ns (at_most_number n backward) c.at_most_number-rest.result) c.greatest_remainder.ensures.remainder
    (c.at_most_number-rest.ensures.literal ns backward differ.1) in
    record {
      rows = subst (λ o. ComeOfRows ns (quotient_rows number u a o) c.two_rows.result) c.in-Some.ensures.constant
          (c.two_rows.ensures.rows ns (first ∷ []) (second ∷ [])
          (c.alone.ensures.row ns first (c.at_most_zero-within.ensures.literal ns forward differ.0)) (c.alone-2.ensures.row ns second limited));
    }
