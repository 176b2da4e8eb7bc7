use Rattle.std.proofs.Common.{◌≡◌, None, false, ◌∙◌, rules}
use Rattle.std.specs.Prelude.{is_some}
use Rattle.nz_spec.specs.terms.Linear.{constant_value}
use Rattle.nz_spec.specs.terms.Table.{term_in}
use Rattle.nz_term.specs.Heads.{head_of}
use Rattle.nz_lin.proofs.TermForms.{none_from, opening_is}
use Rattle.nz_lin.proofs.linear.opening_in.Goals as goal

pub returns : goal.returns
returns c =
    let ns = c.args.terms.now in
    let some : is_some (constant_value (term_in ns c.args.id)) ≡ false = search rules in
    let none : constant_value (term_in ns c.args.id) ≡ None = none_from (constant_value (term_in ns c.args.id)) some in
    record {
      opening = c.opening_of.ensures.opening
          ∙ opening_is c.term_of_node.ensures.node ns c.known_table.ensures.table c.args.id (head_of c.head.result) c.head.ensures.head none;
    }
