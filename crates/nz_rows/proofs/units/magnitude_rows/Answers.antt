-- The three rows, of which two are over the difference from either side.
use Rattle.std.proofs.Common.{◌∷◌, [], rules}
use Rattle.nz_spec.specs.numbers.Computation.{Computation, at_once, turned_into}
use Rattle.nz_spec.specs.terms.Form.{Form, negated_form, unit_form}
use Rattle.nz_spec.specs.terms.FormOf.{form_of, number_in}
use Rattle.nz_spec.specs.clauses.Links.{at_most_literal, minus, plus}
use Rattle.nz_spec.specs.terms.Table.{term_in}
use Rattle.nz_spec.specs.clauses.Units.{at_most_zero}
use Rattle.nz_rows.proofs.RowLists.{literal_stops}
use Rattle.nz_rows.proofs.units.magnitude_rows.Goals as goal

pub returns-in_err-forward : goal.returns-in_err-forward
returns-in_err-forward c =
    let ns = c.args.terms.now in
    let number = number_in ns in
    let u = term_in ns c.args.unit in
    let a = term_in ns c.args.argument in
    let f = form_of number a in
    let g = form_of number u in
    let own : Computation Form = at_once (unit_form u) in
    let stop = c.in_err-forward.ensures.differ ns f g c.known_table.ensures.table (c.copied.ensures.formed ns f c.form_of-form.ensures.formed) c.form_of.ensures.formed in
    let negated = at_most_zero (minus number (turned_into negated_form f) own) in
    let last = at_most_literal number u a ∷ at_most_zero (plus number own f) ∷ [] in
    record { rows = search (rules, literal_stops ns (at_most_literal number a u) [] ((negated ∷ []) ∷ last ∷ []) c.in_err-forward.field-0.0 stop) }

pub returns : goal.returns
returns c =
    let ns = c.args.terms.now in
    let table = c.known_table.ensures.table in
    let number = number_in ns in
    let u = term_in ns c.args.unit in
    let a = term_in ns c.args.argument in
    let f = form_of number a in
    let g = form_of number u in
    let own : Computation Form = at_once (unit_form u) in
    let form = c.form_of-form.ensures.formed in
    let alone = c.unit_alone-own.ensures.formed in
    let differ = c.in_ok-forward.ensures.differ ns f g table (c.copied.ensures.formed ns f form) c.form_of.ensures.formed in
    let other = turned_into negated_form f in
    let below = minus number other own in
    let negated = c.minus-negated.ensures.formed ns other own table (c.opposite.ensures.formed ns f (c.copied-2.ensures.formed ns f form)) (c.copied-3.ensures.formed ns own alone) in
    let above = plus number own f in
    let sum = c.plus.ensures.formed ns own f table alone form in
    let first = at_most_literal number a u in
    let second = at_most_zero below in
    let third = at_most_literal number u a in
    let fourth = at_most_zero above in
    record {
      rows = c.then_row.ensures.rows ns ((first ∷ []) ∷ (second ∷ []) ∷ []) (third ∷ fourth ∷ [])
          (c.two_rows.ensures.rows ns (first ∷ []) (second ∷ [])
          (c.alone-first.ensures.row ns first (c.at_most_zero.ensures.literal ns (minus number f g) differ.0))
          (c.alone-second.ensures.row ns second (c.at_most_zero-2.ensures.literal ns below negated)))
          (c.both-third.ensures.row ns third fourth (c.at_most_zero-within.ensures.literal ns (minus number g f) differ.1) (c.at_most_zero-3.ensures.literal ns above sum));
    }
