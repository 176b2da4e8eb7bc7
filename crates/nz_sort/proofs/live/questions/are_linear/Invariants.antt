use Rattle.std.proofs.Common.{◌≡◌, true, take}
use Rattle.std.specs.List.{list_all}
use Rattle.nz_spec.specs.terms.Linear.{is_linear}
use Rattle.nz_spec.specs.terms.Table.{term_in}
use Rattle.nz_elaborate.specs.declared.typed.Typed.{Typed}
use Rattle.nz_sort.proofs.live.questions.are_linear.Given as goal

-- those so far are linear
abbrev pub invariant-loop-value : goal.invariant-loop-value
invariant-loop-value l = list_all (λ (x : Typed). is_linear (term_in l.terms x.id)) (take l.value-index l.values) ≡ true
