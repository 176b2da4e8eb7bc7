-- A number, a unit, or a term that is opened.
use Rattle.std.proofs.Common.{◌∙◌, sym}
use Rattle.std.specs.Prelude.{nat_eq}
use Rattle.std.specs.HashMap.{get}
use Rattle.nz_lin.proofs.TermForms.{constant_formed, inside_some, open_divisors, open_formed, open_units}
use Rattle.nz_lin.proofs.linear.form_over.Goals as goal

pub returns-in-Some : goal.returns-in-Some
returns-in-Some c =
    let ns = c.args.terms.now in
    record {
      formed = constant_formed c.term_of_node.ensures.node ns c.known_table.ensures.table c.args.id (inside_some ns c.args.id c.requires.within) c.in-Some.number
          (sym c.constant.ensures.constant ∙ c.in-Some.is) c.number.result c.number.ensures.form;
    }

pub opened-requires-clause-units : goal.opened-requires-clause-units
opened-requires-clause-units c =
    open_units c.term_of_node.ensures.node c.args.terms.now c.known_table.ensures.table c.args.id c.kids.result.now c.kids.ensures.kids c.in-Some-opening_in.opening
    (sym c.opening_in.ensures.opening ∙ c.in-Some-opening_in.is) (get nat_eq c.args.forms.now) c.requires.made c.requires.forms

pub opened-requires-clause-divisors : goal.opened-requires-clause-divisors
opened-requires-clause-divisors c e =
    open_divisors c.term_of_node.ensures.node c.args.terms.now c.known_table.ensures.table c.args.id c.kids.result.now c.kids.ensures.kids c.in-Some-opening_in.opening
    (sym c.opening_in.ensures.opening ∙ c.in-Some-opening_in.is) e c.requires.linear

pub returns-in-Some-opening_in : goal.returns-in-Some-opening_in
returns-in-Some-opening_in c = record {
  formed = open_formed c.term_of_node.ensures.node c.args.terms.now c.known_table.ensures.table c.args.id c.kids.result.now c.kids.ensures.kids c.in-Some-opening_in.opening
      (sym c.opening_in.ensures.opening ∙ c.in-Some-opening_in.is) (get nat_eq c.args.forms.now) c.requires.made c.requires.forms c.opened.result c.opened.ensures.formed;
}
