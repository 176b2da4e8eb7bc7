-- A comparison over other numbers of arguments has no rows.
use Rattle.std.proofs.Common.{ap, ◌∙◌}
use Rattle.nz_spec.specs.terms.FormOf.{number_in}
use Rattle.nz_spec.specs.terms.Table.{term_in}
use Rattle.nz_term.specs.declared.heads.Head.TheVariants.{Operator}
use Rattle.nz_term.specs.Heads.{head_of}
use Rattle.nz_rows.proofs.Arities.{links_of_many, links_of_two, no_links}
use Rattle.nz_rows.proofs.links.comparison_over.Goals as goal

pub returns-in_default-kids-5 : goal.returns-in_default-kids-5
returns-in_default-kids-5 c = record { compares = no_links c.args.terms.now c.args.kids.now _ _ (ap head_of (c.in-Operator.is ∙ ap Operator c.in-Less.is)) (λ t. (links_of_many (number_in c.args.terms.now) (term_in c.args.terms.now) t c.args.kids.now c.in_default-kids.len_at_least).0) }

pub returns-in_default-kids-2-2 : goal.returns-in_default-kids-2-2
returns-in_default-kids-2-2 c = record { compares = no_links c.args.terms.now c.args.kids.now _ _ (ap head_of (c.in-Operator.is ∙ ap Operator c.in-AtMost.is)) (λ t. (links_of_many (number_in c.args.terms.now) (term_in c.args.terms.now) t c.args.kids.now c.in_default-kids-2.len_at_least).1) }

pub returns-in_default-kids-3-2 : goal.returns-in_default-kids-3-2
returns-in_default-kids-3-2 c = record { compares = no_links c.args.terms.now c.args.kids.now _ _ (ap head_of (c.in-Operator.is ∙ ap Operator c.in-Equal.is)) (λ t. (links_of_many (number_in c.args.terms.now) (term_in c.args.terms.now) t c.args.kids.now c.in_default-kids-3.len_at_least).2) }

pub returns-in_default-kids-4-2 : goal.returns-in_default-kids-4-2
returns-in_default-kids-4-2 c = record { compares = no_links c.args.terms.now c.args.kids.now _ _ (ap head_of (c.in-Operator.is ∙ ap Operator c.in-IsInt.is)) (λ t. links_of_two (number_in c.args.terms.now) (term_in c.args.terms.now) t c.args.kids.now c.in_default-kids-4.len_at_least) }
