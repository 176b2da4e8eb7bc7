-- A unit over other numbers of arguments has no rows.
use Rattle.std.proofs.Common.{ap, arith, ◌∙◌}
use Rattle.nz_spec.specs.terms.FormOf.{number_in}
use Rattle.nz_spec.specs.terms.Table.{term_in}
use Rattle.nz_term.specs.declared.heads.Head.TheVariants.{Operator}
use Rattle.nz_term.specs.Constants.{sort_of}
use Rattle.nz_term.specs.Heads.{head_of}
use Rattle.nz_rows.proofs.Arities.{choice_of_three, no_units, units_of_one, units_of_two}
use Rattle.nz_rows.proofs.units.meaning_over.Goals as goal

pub returns-in_default-kids : goal.returns-in_default-kids
returns-in_default-kids c = record { meaning = no_units c.args.terms.now c.args.kids.now _ _ (ap head_of (c.in-Operator.is ∙ ap Operator c.in-Ite.is)) (λ t. choice_of_three (number_in c.args.terms.now) (term_in c.args.terms.now) t (sort_of c.in-Ite.field-0) c.args.kids.now (λ e. omega arith)) }

pub returns-in_default-kids-6 : goal.returns-in_default-kids-6
returns-in_default-kids-6 c = record { meaning = no_units c.args.terms.now c.args.kids.now _ _ (ap head_of (c.in-Operator.is ∙ ap Operator c.in-Ite.is)) (λ t. choice_of_three (number_in c.args.terms.now) (term_in c.args.terms.now) t (sort_of c.in-Ite.field-0) c.args.kids.now (λ e. omega arith)) }

pub returns-in_default-kids-2-2 : goal.returns-in_default-kids-2-2
returns-in_default-kids-2-2 c = record { meaning = no_units c.args.terms.now c.args.kids.now _ _ (ap head_of (c.in-Operator.is ∙ ap Operator c.in-Div.is)) (λ t. (units_of_two (number_in c.args.terms.now) (term_in c.args.terms.now) t c.args.kids.now (λ e. omega arith)).0) }

pub returns-in_default-kids-3 : goal.returns-in_default-kids-3
returns-in_default-kids-3 c = record { meaning = no_units c.args.terms.now c.args.kids.now _ _ (ap head_of (c.in-Operator.is ∙ ap Operator c.in-Mod.is)) (λ t. (units_of_two (number_in c.args.terms.now) (term_in c.args.terms.now) t c.args.kids.now (λ e. omega arith)).1) }

pub returns-in_default-kids-3-2 : goal.returns-in_default-kids-3-2
returns-in_default-kids-3-2 c = record { meaning = no_units c.args.terms.now c.args.kids.now _ _ (ap head_of (c.in-Operator.is ∙ ap Operator c.in-Mod.is)) (λ t. (units_of_two (number_in c.args.terms.now) (term_in c.args.terms.now) t c.args.kids.now (λ e. omega arith)).1) }

pub returns-in_default-kids-4-2 : goal.returns-in_default-kids-4-2
returns-in_default-kids-4-2 c = record { meaning = no_units c.args.terms.now c.args.kids.now _ _ (ap head_of (c.in-Operator.is ∙ ap Operator c.in-Abs.is)) (λ t. (units_of_one (number_in c.args.terms.now) (term_in c.args.terms.now) t c.args.kids.now (λ e. omega arith)).0) }

pub returns-in_default-kids-5-2 : goal.returns-in_default-kids-5-2
returns-in_default-kids-5-2 c = record { meaning = no_units c.args.terms.now c.args.kids.now _ _ (ap head_of (c.in-Operator.is ∙ ap Operator c.in-ToInt.is)) (λ t. (units_of_one (number_in c.args.terms.now) (term_in c.args.terms.now) t c.args.kids.now (λ e. omega arith)).1) }
