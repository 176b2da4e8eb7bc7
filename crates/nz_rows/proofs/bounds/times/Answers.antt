-- The unit has the sort of its term.
use Rattle.std.proofs.Common.{sym, ap, ◌∙◌}
use Rattle.nz_spec.specs.terms.Table.{term_in}
use Rattle.nz_spec.specs.terms.Term.{sort_of}
use Rattle.nz_spec.specs.clauses.Units.{times_unit}
use Rattle.nz_lin.specs.declared.form.Part.{Part}
use Rattle.nz_lin.specs.Forms.{NamesUnit, form_over}
use Rattle.nz_rows.proofs.Formed.{made_at_once}
use Rattle.nz_rows.proofs.bounds.times.Goals as goal

pub returns : goal.returns
returns c =
    let ns = c.args.terms.now in
    let f = c.in_ok-times_unit.field-0 in
    let p : Part = record { unit = c.args.unit; sort = c.sort-sort.result; coefficient = c.args.factor } in
    let named : NamesUnit ns p = (c.requires.within, c.sort-sort.ensures.sort ∙ ap sort_of (sym c.node.ensures.term)) in
    record { formed = (made_at_once (times_unit c.args.factor (term_in ns c.args.unit)) (form_over ns f) (c.in_ok-times_unit.ensures.form ns), c.in_ok-times_unit.ensures.units ns named) }
