-- Laws of checks that list more terms.
use Rattle.std.specs.Prelude.{List, Contains}
use Rattle.nz_spec.specs.terms.Term.{Term}
use Rattle.nz_spec.specs.clauses.Goals.{Goal}
use Rattle.nz_spec.specs.search.Work.{WorkList}
use Rattle.nz_spec.specs.search.Notes.{Note, Place}
use Rattle.nz_spec.specs.search.Search.{Task}
use Rattle.nz_spec.specs.search.Legal.{IsSpentLegally}
use Rattle.nz_spec.specs.search.Places.{IsStoppedLegally}

-- What ends a check legally ends one so that lists more terms, and came after more terms and goals.
pub record MoreTermsEndLegally : Type 0 where
  pub spent : (q : Task) (listed earlier : List Term) (earlier_goals : List Goal) (work : WorkList Note) → ((t : Term) → Contains q.listed t → Contains listed t)
      → ((t : Term) → Contains q.earlier t → Contains earlier t) → ((g : Goal) → Contains q.earlier_goals g → Contains earlier_goals g)
      → IsSpentLegally q work → IsSpentLegally (record q { listed = listed; earlier = earlier; earlier_goals = earlier_goals }) work
  pub stopped : (q : Task) (listed earlier : List Term) (earlier_goals : List Goal) (work : WorkList Note) (place : Place) → ((t : Term) → Contains q.listed t → Contains listed t)
      → ((t : Term) → Contains q.earlier t → Contains earlier t) → ((g : Goal) → Contains q.earlier_goals g → Contains earlier_goals g)
      → IsStoppedLegally q work place → IsStoppedLegally (record q { listed = listed; earlier = earlier; earlier_goals = earlier_goals }) work place
