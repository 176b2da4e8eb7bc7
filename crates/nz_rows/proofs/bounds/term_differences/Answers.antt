-- The forms of both.
use Rattle.nz_spec.specs.terms.FormOf.{form_of, number_in}
use Rattle.nz_spec.specs.terms.Table.{term_in}
use Rattle.nz_rows.proofs.bounds.term_differences.Goals as goal

pub returns : goal.returns
returns c =
    let ns = c.args.terms.now in
    let f = form_of (number_in ns) (term_in ns c.args.left) in
    let g = form_of (number_in ns) (term_in ns c.args.right) in
    record { differ = c.differences.ensures.differ ns f g c.known_table.ensures.table c.form_of.ensures.formed c.form_of-2.ensures.formed }
