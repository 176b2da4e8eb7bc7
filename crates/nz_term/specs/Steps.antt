-- What is left to do of terms, when they are put into their order.
use Rattle.std.specs.Prelude.{◌≡◌, ℕ, ◌<◌, List, ◌++◌, map, reverse, All}
use Rattle.nz_spec.specs.terms.Term.{Head, apply}
use Rattle.nz_spec.specs.terms.Table.{Node, term_in, terms_at}
use Rattle.nz_term.specs.declared.order.Step.{Step}
use Rattle.nz_term.specs.declared.order.Step.TheVariants.{Enter}

-- to enter each of these, the first one last, since the last step is the next
abbrev pub entries : List ℕ → List Step
entries ids = map Enter (reverse ids)

-- The arguments of a term are to be entered before all else.
pub record EntersArguments (ns : List Node) (id : ℕ) (before after : List Step) : Type 0 where
  pub head : Head
  pub kids : List ℕ
  pub term : term_in ns id ≡ apply head (terms_at (term_in ns) kids)
  pub below : All (λ k. k < id) kids
  pub steps : after ≡ before ++ entries kids
