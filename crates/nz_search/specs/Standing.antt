-- Where a work list leads: to a search, and to a point at which a theory stands.
use Rattle.std.specs.Prelude.{List, Result, Ok, Err}
use Rattle.nz_spec.specs.simplex.Bland.{Point}
use Rattle.nz_spec.specs.terms.Form.{Part}
use Rattle.nz_spec.specs.search.Search.{Task, Search, at_first, no_point, told_literals}
use Rattle.nz_spec.specs.search.Legal.{after_lines, MayFollow, Lead}
use Rattle.nz_spec.specs.clauses.Literal as spec
use Rattle.nz_spec.specs.terms.Table.{Node}
use Rattle.nz_spec.specs.search.Work.{WorkEntry, UnitLine, WorkList}
use Rattle.nz_search.specs.declared.note.Note.{Note}
use Rattle.nz_place.specs.declared.place.Place.{Place}
use Rattle.nz_search.specs.declared.stop.Stop.{Stop}
use Rattle.nz_search.specs.declared.stop.Stop.TheVariants.{Wide, Spent, Memory}
use Rattle.nz_search.specs.Notes.{noted_list}
use Rattle.nz_search.specs.Theories.{IsPlaceOfStep}

-- where the search stands that the lines of a list tell
abbrev pub search_after : List Node → WorkList Note → Search
search_after ns work = after_lines at_first (noted_list ns work).lines

-- where a theory is said to stand: at these forms, told these literals, at a point
abbrev pub Standing : Type 1
Standing = List (List Part) → List spec.Literal → Point → Type 0

-- The lines are legal and lead to a point, at which a theory stands that was told what they tell.
pub record Stands (IsAt : Standing) (ns : List Node) (q : Task) (work : WorkList Note) : Type 0 where
  pub point : Point
  pub legal : Lead q at_first no_point (noted_list ns work).lines point
  pub at : IsAt (search_after ns work).forms (told_literals (search_after ns work)) point

-- The lines are legal and lead to a point, at which an operation of the simplex leaves the numbers.
pub record IsStoppedAt (ns : List Node) (q : Task) (work : WorkList Note) (place : Place) : Type 0 where
  pub point : Point
  pub legal : Lead q at_first no_point (noted_list ns work).lines point
  pub at : IsPlaceOfStep ns (search_after ns work).forms (told_literals (search_after ns work)) point place

-- The lines are legal and lead to a point, at which one more unit may follow.
pub record IsWanting (ns : List Node) (q : Task) (work : WorkList Note) : Type 0 where
  pub point : Point
  pub legal : Lead q at_first no_point (noted_list ns work).lines point
  pub wanted : WorkEntry
  pub after : Point
  pub may : MayFollow q (search_after ns work) point (UnitLine wanted) after

-- what is known of a list where a call of a search ended so
abbrev pub Ends : {A : Type 0} → Standing → List Node → Task → WorkList Note → Result A Stop → Type 0
Ends IsAt ns q work (Ok answer) = Stands IsAt ns q work
Ends IsAt ns q work (Err (Wide place)) = IsStoppedAt ns q work place
Ends IsAt ns q work (Err Spent) = IsWanting ns q work
Ends IsAt ns q work (Err Memory) = (point : Point) × Lead q at_first no_point (noted_list ns work).lines point
