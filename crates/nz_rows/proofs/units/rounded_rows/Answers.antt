-- The two rows.
use Rattle.std.proofs.Common.{◌∷◌, [], pos, subst}
use Rattle.nz_fractions.specs.Fraction.{Fraction, whole}
use Rattle.nz_spec.specs.numbers.Computation.{Computation, at_once}
use Rattle.nz_spec.specs.terms.Form.{Form, unit_form}
use Rattle.nz_spec.specs.terms.FormOf.{form_of, number_in}
use Rattle.nz_spec.specs.clauses.Links.{at_most_literal, minus}
use Rattle.nz_spec.specs.terms.Table.{term_in}
use Rattle.nz_spec.specs.clauses.Units.{below_number}
use Rattle.nz_lin.specs.Bounds.{IsLiteral}
use Rattle.nz_rows.proofs.units.rounded_rows.Goals as goal

pub returns : goal.returns
returns c =
    let ns = c.args.terms.now in
    let table = c.known_table.ensures.table in
    let number = number_in ns in
    let u = term_in ns c.args.unit in
    let a = term_in ns c.args.argument in
    let f = form_of number a in
    let g = form_of number u in
    let own : Computation Form = at_once (unit_form u) in
    let form = c.form_of-form.ensures.formed in
    let within = c.minus-within.ensures.formed ns g f table c.form_of.ensures.formed (c.copied.ensures.formed ns f form) in
    let rest = minus number f own in
    let formed = c.minus-rest.ensures.formed ns f own table form c.unit_alone.ensures.formed in
    let first = at_most_literal number u a in
    let second = below_number (whole (pos 1)) rest in
    let made = subst (λ (n : Fraction). IsLiteral ns (below_number n rest) c.below_number.result) c.whole.ensures (c.below_number.ensures.literal ns rest formed) in
    record {
      rows = c.two_rows.ensures.rows ns (first ∷ []) (second ∷ [])
          (c.alone-first.ensures.row ns first (c.at_most_zero.ensures.literal ns (minus number g f) within)) (c.alone-second.ensures.row ns second made);
    }
