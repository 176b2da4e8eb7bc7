use Rattle.std.proofs.Common.{◌≡◌, ◌∙◌, true, sym, subst}
use Rattle.std.specs.List.{list_all}
use Rattle.std.proofs.lemmas.List.{take_all}
use Rattle.std.proofs.lemmas.List.Folds.{list_all_at}
use Rattle.nz_spec.specs.terms.Linear.{is_linear}
use Rattle.nz_spec.specs.terms.Table.{term_in}
use Rattle.nz_elaborate.specs.declared.typed.Typed.{Typed}
use Rattle.nz_sort.proofs.AskedValues.{linear_each}
use Rattle.nz_sort.proofs.live.questions.are_linear.Goals as goal

pub returns-then-not-is_linear : goal.returns-then-not-is_linear
returns-then-not-is_linear c =
    record {
      linear = λ ts typed.
          sym (list_all_at (λ (x : Typed). is_linear (term_in c.args.terms.now x.id)) c.args.values.now c.loop-value.value-index _ c.loop-value-test.true
          (sym c.is_linear.ensures.linear ∙ c.if-not-is_linear.true))
          ∙ linear_each c.args.terms.now c.args.values.now ts typed;
    }

pub returns : goal.returns
returns c =
    record {
      linear = λ ts typed.
          sym (subst (λ l. list_all (λ (x : Typed). is_linear (term_in c.args.terms.now x.id)) l ≡ true)
          (take_all c.loop-value.value-index c.args.values.now c.loop-value-test.false) c.loop-value.invariant)
          ∙ linear_each c.args.terms.now c.args.values.now ts typed;
    }
