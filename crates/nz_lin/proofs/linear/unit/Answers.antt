use Rattle.std.proofs.Common.{◌∙◌}
use Rattle.nz_term.specs.Heads.{head_of}
use Rattle.nz_fractions.proofs.FirstOperations.{no_operation}
use Rattle.nz_lin.proofs.TermForms.{sort_is}
use Rattle.nz_lin.proofs.linear.unit.Goals as goal

pub returns : goal.returns
returns c =
    let ns = c.args.terms.now in
    let sort = c.sort.ensures.sort ∙ sort_is c.term_of_node.ensures.node ns c.known_table.ensures.table c.args.id (head_of c.head.result) c.head.ensures.head in
    record { formed = (record { result = c.in_ok-unit.ensures.unit ns; fits = no_operation }, c.in_ok-unit.ensures.names ns (λ q. (c.requires.within, sort))) }
