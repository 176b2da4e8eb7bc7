-- What a climb is asked and what it answers, over a table of terms.
use Rattle.std.specs.Prelude.{ℕ, List, map}
use Rattle.nz_spec.specs.simplex.Climb as spec
use Rattle.nz_spec.specs.simplex.Climb.{IsVertex, IsRay}
use Rattle.nz_spec.specs.search.Decide.{asserted_terms}
use Rattle.nz_spec.specs.terms.FormOf.{number_in}
use Rattle.nz_spec.specs.terms.Table.{Node, assignment_by}
use Rattle.nz_lin.specs.Forms.{form_over}
use Rattle.nz_lin.specs.Lines.{family_in}
use Rattle.nz_search.specs.declared.climb.Peak.{Peak}
use Rattle.nz_search.specs.declared.climb.Peak.TheVariants.{Vertex, Ray}
use Rattle.nz_search.specs.declared.climb.Route.{Route}
use Rattle.nz_term.specs.TermLits.{literal_of}

-- the route, where these are the numbers of the asserted terms by level
abbrev pub route_in : List Node → List (List ℕ) → Route → spec.Route
route_in ns levels r = record {
  numbering = number_in ns;
  asserted = asserted_terms ns levels;
  assumed = map (literal_of ns) r.assumed.now;
  model = assignment_by ns r.model.now;
  goal = form_over ns r.goal.now;
  up = r.up;
  hold_ints = r.hold_ints;
}

-- a vertex or a ray of the route
abbrev pub IsPeak : List Node → spec.Route → Peak → Type 0
IsPeak ns r (Vertex family) = IsVertex r (family_in ns family)
IsPeak ns r (Ray family) = IsRay r (family_in ns family)
