-- What lines and families of the code are: over a table, whose numbers name their constants.
use Rattle.std.specs.Prelude.{ℕ, List, [], map, flat_map, Option, Some, None, slice_get}
use Rattle.nz_spec.specs.simplex.Climb as spec
use Rattle.nz_spec.specs.simplex.Climb.{steady, along, up_to, naturals}
use Rattle.nz_spec.specs.search.Decide.{constants_of_head}
use Rattle.nz_spec.specs.terms.Table.{Node}
use Rattle.nz_spec.specs.terms.Term.{Constant}
use Rattle.nz_lin.specs.declared.line.Course.{Course}
use Rattle.nz_lin.specs.declared.line.Course.TheVariants.{Truth, Number}
use Rattle.nz_lin.specs.declared.line.Line.{Line}
use Rattle.nz_lin.specs.declared.line.Range.{Range}
use Rattle.nz_lin.specs.declared.line.Range.TheVariants.{UpTo, Naturals}

abbrev pub line_of : Line → spec.Line
line_of l = record { start = l.start; slope = l.slope }

abbrev pub course_of : Course → spec.Course
course_of (Truth b) = steady b
course_of (Number l) = along (line_of l)

abbrev pub range_of : Range → spec.Range
range_of (UpTo limit) = up_to limit
range_of Naturals = naturals

-- courses by the numbers of their constants, over a range
pub record NumberedFamily : Type 0 where
  pub courses : List (ℕ × spec.Course)
  pub range : spec.Range

-- a number with its course
abbrev pub numbered_course : ℕ × Course → ℕ × spec.Course
numbered_course p = (p.0, course_of p.1)

-- the constant of a node, with a course; a node of no constant has none
abbrev pub courses_by : Option Node → spec.Course → List (Constant × spec.Course)
courses_by None course = []
courses_by (Some n) course = map (λ (c : Constant). (c, course)) (constants_of_head n.head)

abbrev pub courses_at : List Node → ℕ × spec.Course → List (Constant × spec.Course)
courses_at ns p = courses_by (slice_get ns p.0) p.1

abbrev pub family_in : List Node → NumberedFamily → spec.Family
family_in ns f = record { courses = flat_map (courses_at ns) f.courses; range = f.range }
