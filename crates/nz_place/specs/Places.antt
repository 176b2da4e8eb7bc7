-- Where an operation left the numbers, as the definitions have it: by the terms that a table has under their numbers.
use Rattle.std.specs.Prelude.{ℕ, ◌<◌, List, [], length, map, flat_map, Option, Some, None, slice_get, ⊤}
use Rattle.std.specs.List.{AllByRecursion}
use Rattle.nz_spec.specs.simplex.Bland.{Point, lower_side, upper_side}
use Rattle.nz_spec.specs.simplex.Bland as bland
use Rattle.nz_spec.specs.terms.Form.{Part}
use Rattle.nz_spec.specs.clauses.Literal.{Literal}
use Rattle.nz_spec.specs.simplex.LiteralBounds.{position_under}
use Rattle.nz_spec.specs.search.Notes as spec
use Rattle.nz_spec.specs.search.Notes.{term_site, goal_site, joining_site, exchange_site, value_site, sum_site, cut_site, tight_site, split_site, move_site, limit_site, model_site, worth_site, line_site, goal_line_site, scaling_site}
use Rattle.nz_spec.specs.search.Decide.{constants_of_head}
use Rattle.nz_spec.specs.search.Places.{IsOperationIn, LeavesNumbers}
use Rattle.nz_spec.specs.terms.Model.{Binding}
use Rattle.nz_spec.specs.terms.Table.{Node, term_in}
use Rattle.nz_spec.specs.terms.Term as spec_term
use Rattle.nz_spec.specs.terms.Term.{Constant}
use Rattle.nz_frac.specs.Operations.{operation_of}
use Rattle.nz_lin.specs.declared.bound.BoundMultiple as lin
use Rattle.nz_lin.specs.Bounds.{HasUnits, literal_over, multiples_over}
use Rattle.nz_lin.specs.Lines.{family_in}
use Rattle.nz_trail.specs.declared.limits.Side as trail
use Rattle.nz_trail.specs.declared.limits.Side.TheVariants.{Lower, Upper}
use Rattle.nz_place.specs.declared.place.Place.{Place}
use Rattle.nz_place.specs.declared.place.Site.{Site}
use Rattle.nz_place.specs.declared.place.Site.TheVariants.{Term, Goal, Joining, Exchange, Value, Sum, Cut, Tight, Split, Move, Limit, Model, Worth, Line, GoalLine, Scaling}

-- the side, as the definitions have it
abbrev pub half : trail.Side → bland.Side
half Lower = lower_side
half Upper = upper_side

-- the constant of a node, with a value; a node of no constant has none
abbrev pub bindings_by : Option Node → spec_term.Value → List Binding
bindings_by None v = []
bindings_by (Some n) v = map (λ (c : Constant). let b : Binding = record { constant = c; value = v } in b) (constants_of_head n.head)

abbrev pub bindings_at : List Node → ℕ × spec_term.Value → List Binding
bindings_at ns p = bindings_by (slice_get ns p.0) p.1

abbrev pub bindings_in : List Node → List (ℕ × spec_term.Value) → List Binding
bindings_in ns ps = flat_map (bindings_at ns) ps

abbrev pub site_of : List Node → Site → spec.Site
site_of ns (Term term) = term_site (term_in ns term)
site_of ns (Goal goal) = goal_site goal
site_of ns Joining = joining_site
site_of ns (Exchange leaves enters) = exchange_site leaves enters
site_of ns (Value form) = value_site form
site_of ns (Sum multiples) = sum_site (multiples_over ns multiples.items)
site_of ns (Cut multiples) = cut_site (multiples_over ns multiples.items)
site_of ns (Tight bound) = tight_site (literal_over ns bound)
site_of ns (Split unit) = split_site (term_in ns unit)
site_of ns (Move form moves side) = move_site form moves (half side)
site_of ns (Limit form side) = limit_site form (half side)
site_of ns (Model form) = model_site form
site_of ns (Worth term model) = worth_site (term_in ns term) (bindings_in ns model)
site_of ns (Line term family) = line_site (term_in ns term) (family_in ns family)
site_of ns (GoalLine goal family) = goal_line_site goal (family_in ns family)
site_of ns (Scaling forms moves) = scaling_site forms.items moves

abbrev pub place_of : List Node → Place → spec.Place
place_of ns p = record { operation = operation_of p.wide; site = site_of ns p.site }

-- the bounds of these multiples are over the table
abbrev pub AreMultiplesWithin : List Node → List lin.BoundMultiple → Type 0
AreMultiplesWithin ns ms = AllByRecursion (λ (m : lin.BoundMultiple). HasUnits ns m.bound) ms

-- each of these numbers is one of the table
abbrev pub AreNumbersWithin : {A : Type 0} → List Node → List (ℕ × A) → Type 0
AreNumbersWithin {A} ns ps = AllByRecursion (λ (p : ℕ × A). p.0 < length ns) ps

-- what a place names is in the table
abbrev pub IsSiteWithin : List Node → Site → Type 0
IsSiteWithin ns (Term term) = term < length ns
IsSiteWithin ns (Goal goal) = ⊤
IsSiteWithin ns Joining = ⊤
IsSiteWithin ns (Exchange leaves enters) = ⊤
IsSiteWithin ns (Value form) = ⊤
IsSiteWithin ns (Sum multiples) = AreMultiplesWithin ns multiples.items
IsSiteWithin ns (Cut multiples) = AreMultiplesWithin ns multiples.items
IsSiteWithin ns (Tight bound) = HasUnits ns bound
IsSiteWithin ns (Split unit) = unit < length ns
IsSiteWithin ns (Move form moves side) = ⊤
IsSiteWithin ns (Limit form side) = ⊤
IsSiteWithin ns (Model form) = ⊤
IsSiteWithin ns (Worth term model) = (term < length ns) × AreNumbersWithin ns model
IsSiteWithin ns (Line term family) = (term < length ns) × AreNumbersWithin ns family.courses
IsSiteWithin ns (GoalLine goal family) = AreNumbersWithin ns family.courses
IsSiteWithin ns (Scaling forms moves) = ⊤

-- The operation is of the computation at the place, of a simplex with these forms that was told these literals, at this point; and it leaves the numbers.
pub record IsPlaceIn (ns : List Node) (fs : List (List Part)) (ls : List Literal) (x : Point) (place : Place) : Type 0 where
  pub at : IsOperationIn ls (position_under fs x ls) (site_of ns place.site) (operation_of place.wide)
  pub leaves : LeavesNumbers (operation_of place.wide)
  pub within : IsSiteWithin ns place.site
