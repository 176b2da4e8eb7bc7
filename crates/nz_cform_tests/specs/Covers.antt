-- What is covered of a table.
use Rattle.std.specs.Prelude.{ℕ, ◌≤◌, Bool, List}
use Rattle.std.specs.Bool.{OnTrue}
use Rattle.nz_spec.specs.terms.Order.{HasCompanions}
use Rattle.nz_spec.specs.terms.Table.{Node}
use Rattle.nz_log.specs.Logs.{LogState, told_level}
use Rattle.nz_cform.specs.Covering as covering
use Rattle.nz_cform.specs.Forms.{FormState}

pub record CoverState : Type 0 where
  pub terms : List Node
  pub log : LogState
  pub form : FormState

-- The table has the companions, no level above this one was told, and where it is known what is covered, that has its clauses.
pub record IsCover (ns : List Node) (log : LogState) (form : FormState) (level : ℕ) (known : Bool) : Type 0 where
  pub companions : HasCompanions ns
  pub told : (t : ℕ) → told_level log t ≤ level
  pub covers : OnTrue known (covering.Covers ns log form)
