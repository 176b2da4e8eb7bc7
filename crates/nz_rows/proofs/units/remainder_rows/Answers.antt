-- The four rows; without a constant there is none.
use Rattle.std.proofs.Common.{◌∷◌, [], subst}
use Rattle.nz_fractions.specs.Fraction.{Fraction}
use Rattle.nz_spec.specs.numbers.Computation.{Computation, at_once, turned_into}
use Rattle.nz_spec.specs.terms.Form.{Form, negated_form, unit_form}
use Rattle.nz_spec.specs.terms.FormOf.{form_of, number_in}
use Rattle.nz_spec.specs.clauses.Links.{minus, plus}
use Rattle.nz_spec.specs.clauses.Literal.{Literal, is_at_most}
use Rattle.nz_spec.specs.terms.Table.{term_in}
use Rattle.nz_spec.specs.clauses.Units.{at_most_zero, greatest_remainder, remainder_rows, times_unit}
use Rattle.nz_lin.specs.Bounds.{IsLiteral}
use Rattle.nz_rows.specs.Rows.{ComeOfRows}
use Rattle.nz_rows.proofs.units.remainder_rows.Goals as goal

pub returns-in_default : goal.returns-in_default
returns-in_default c =
    let ns = c.args.terms.now in
    let number = number_in ns in
    let u = term_in ns c.args.unit in
    let q = term_in ns c.args.quotient in
    let a = term_in ns c.args.dividend in
    record { rows = subst (λ o. ComeOfRows ns (remainder_rows number u q a o) c.no_rows.result) c.in_default.ensures.constant (c.no_rows.ensures.rows ns) }

pub returns : goal.returns
returns c =
    let ns = c.args.terms.now in
    let table = c.known_table.ensures.table in
    let number = number_in ns in
    let u = term_in ns c.args.unit in
    let q = term_in ns c.args.quotient in
    let a = term_in ns c.args.dividend in
    let k = c.in-Some.factor in
    let f = form_of number a in
    let m : Computation Form = at_once (times_unit k q) in
    let own : Computation Form = at_once (unit_form u) in
    let form = c.form_of-form.ensures.formed in
    let multiple = c.times-multiple.ensures.formed in
    let alone = c.unit_alone-own.ensures.formed in
    let rest = c.minus-rest.ensures.formed ns f m table (c.copied.ensures.formed ns f form) (c.copied-2.ensures.formed ns m multiple) in
    let less = minus number (minus number f m) own in
    let least = c.minus.ensures.formed ns (minus number f m) own table rest (c.copied-3.ensures.formed ns own alone) in
    let sum = c.plus-sum.ensures.formed ns own m table (c.copied-4.ensures.formed ns own alone) multiple in
    let more = minus number (plus number own m) f in
    let most = c.minus-2.ensures.formed ns (plus number own m) f table sum form in
    let other = turned_into negated_form own in
    let negated = c.opposite.ensures.formed ns own (c.copied-5.ensures.formed ns own alone) in
    let within : Fraction → Computation Literal = λ n. at_once (is_at_most (unit_form u).parts n) in
    let limited = subst (λ (n : Fraction). IsLiteral ns (within n) c.units_at_most-limited.result) c.greatest_remainder.ensures.remainder (c.units_at_most-limited.ensures.literal ns own alone) in
    let first = at_most_zero less in
    let second = at_most_zero more in
    let third = at_most_zero other in
    let fourth = within (greatest_remainder k) in
    record {
      rows = subst (λ o. ComeOfRows ns (remainder_rows number u q a o) c.joined.result) c.in-Some.ensures.constant
          (c.joined.ensures.rows ns ((first ∷ []) ∷ (second ∷ []) ∷ []) ((third ∷ []) ∷ (fourth ∷ []) ∷ [])
          (c.two_rows-equal.ensures.rows ns (first ∷ []) (second ∷ [])
          (c.alone.ensures.row ns first (c.at_most_zero-least.ensures.literal ns less least)) (c.alone-2.ensures.row ns second (c.at_most_zero-most.ensures.literal ns more most)))
          (c.two_rows.ensures.rows ns (third ∷ []) (fourth ∷ [])
          (c.alone-3.ensures.row ns third (c.at_most_zero-signed.ensures.literal ns other negated)) (c.alone-4.ensures.row ns fourth limited)));
    }
