-- Where an operation may leave the numbers in a check: the computations of terms, rows, values, sums and bounds that are made there.
-- Sources: Dutertre and de Moura, A Fast Linear-Arithmetic Solver for DPLL(T), CAV 2006, sections 3 to 5; Gomory, Outline of an algorithm for integer
-- solutions to linear programs, 1958. The order of the operations is this solver's own.
use Rattle.std.specs.Prelude.{◌≡◌, ℕ, suc, ◌<◌, ◌≤◌, Bool, true, false, ◌⊎◌, List, [], ◌∷◌, ◌++◌, length, map, flat_map, take, All, Contains, Option, Some, None, IsTrue, slice_get, ⊤, ℤ, pos, ◌+ℤ◌}
use Rattle.std.specs.List.{list_all}
use Rattle.nz_fractions.specs.Fraction.{Fraction, whole, ◌=ℚ◌, ◌≤ℚ◌, neg_ℚ, ◌*ℚ◌, reduce, Sum, Difference, Product, Quotient, outcome, Operation, is_wide, IsNumber, first_wide}
use Rattle.nz_spec.specs.numbers.Infinitesimal.{Infinitesimal, Pair, at, is_limiting, limit_operations, IsLeastLimit}
use Rattle.nz_spec.specs.numbers.Computation.{Computation}
use Rattle.nz_spec.specs.terms.Term.{Term, Constant, int_sort, is_bool, sort_of, truth, number, Assignment, is_true, value_of, default_value}
use Rattle.nz_spec.specs.terms.Model.{Binding, assignment_of, ValuesFit, IsModel}
use Rattle.nz_spec.specs.terms.Operations.{operations_of}
use Rattle.nz_spec.specs.terms.Order.{listing_order}
use Rattle.nz_spec.specs.terms.Form.{Numbering, Part, IsOrderOf, unit_form}
use Rattle.nz_spec.specs.terms.FormOf.{form_of}
use Rattle.nz_spec.specs.clauses.Literal.{Literal, Clause, StandOnce}
use Rattle.nz_spec.specs.clauses.LinearLiteral.{is_whole, are_integral, tight_form}
use Rattle.nz_spec.specs.clauses.Links.{link_clauses}
use Rattle.nz_spec.specs.clauses.Units.{unit_clauses}
use Rattle.nz_spec.specs.clauses.Farkas.{Multiple, is_multiple, is_linear_literal, sums_of, sum_of_multiples, is_contradiction}
use Rattle.nz_spec.specs.clauses.Cuts.{cut_clause}
use Rattle.nz_spec.specs.clauses.Met.{IsMet, MeetsClauses}
use Rattle.nz_spec.specs.simplex.Basis.{Coefficients, IsRow, IsCoefficient, Valuation}
use Rattle.nz_spec.specs.simplex.BasisMoves.{Rows, AreRows, AreNumbered, exchange, joining_row}
use Rattle.nz_spec.specs.simplex.Bland.{Point, is_nonbasic, row_value, Position, HasValue, Side, lower_side, upper_side, bound_on, IsWithinBounds}
use Rattle.nz_spec.specs.simplex.Climb.{IsInRange, Course, steady, along, Family, member, units_in, terms_in, unit_of}
use Rattle.nz_spec.specs.simplex.Families.{line_of, IsSteady, operations_along, form_line_operations, scaled_to_integers}
use Rattle.nz_spec.specs.clauses.Goals.{Goal}
use Rattle.nz_spec.specs.clauses.Wishes.{Wish, Group, cost_of, wish_joined, wishes_form, wishes_goal, penalty}
use Rattle.nz_spec.specs.search.Work.{WorkLine, NoteLine, WorkList, unit_count}
use Rattle.nz_spec.specs.search.Notes.{Note, form_note, goal_note, Site, term_site, goal_site, joining_site, exchange_site, value_site, sum_site, cut_site, tight_site, split_site, move_site, limit_site, model_site, worth_site, line_site, goal_line_site, scaling_site, Place}
use Rattle.nz_spec.specs.search.Search.{Task, Found, Search, at_first, no_point, literals_by, literals_held, told_literals, position_of, HasWorth, IsHeld}
use Rattle.nz_spec.specs.search.Atoms.{AreOfRow, HasUnit, WasTold}
use Rattle.nz_spec.specs.search.Beginnings.{IsComparison}
use Rattle.nz_spec.specs.search.Legal.{after_lines, Lead, IsExchange, AreLegal}

-- ---- Groups of wishes

-- A wish of a group, which has these before it. The group's goal is the sum of the group, by some numbering.
pub record IsWishOf (q : Task) (before : List Wish) (w : Wish) : Type 0 where
  pub group : Group
  pub listed : Contains q.groups group
  pub behind : List Wish
  pub wishes : group.wishes ≡ before ++ w ∷ behind
  pub number : Numbering
  pub goal : slice_get q.goals group.goal ≡ Some (wishes_goal number group.wishes)

-- The term is the cost of a wish, whose weight times it joins the sum of those before.
pub record IsOfWish (q : Task) (t : Term) (op : Operation) : Type 0 where
  pub before : List Wish
  pub wish : Wish
  pub is_wish : IsWishOf q before wish
  pub cost : cost_of wish ≡ t
  pub of : Contains (wish_joined is_wish.number (wishes_form is_wish.number before).result wish).operations op

-- The term is the cost of a wish that is false, whose weight is added to those of the false ones before; these had a sum among the numbers.
pub record IsOfPenalty (q : Task) (a : Assignment) (t : Term) (op : Operation) : Type 0 where
  pub before : List Wish
  pub wish : Wish
  pub is_wish : IsWishOf q before wish
  pub cost : cost_of wish ≡ t
  pub unmet : is_true (value_of a wish.term) ≡ false
  pub fits : first_wide (penalty a before).operations ≡ None
  pub of : op ≡ record { operator = Sum; left = (penalty a before).result; right = wish.weight }

-- ---- Terms

-- the operations of a term's form and of its rows in the link table and in the unit table
abbrev pub term_operations : Numbering → Term → List Operation
term_operations numbering t =
    (form_of numbering t).operations ++ flat_map (λ (c : Computation Clause). c.operations) (link_clauses numbering t ++ unit_clauses numbering t)

-- a listed term: an operation of its own, which are the same by any numbering that tells the listed terms apart, or of a group's sum at it
pub record IsOfTerm (q : Task) (t : Term) (op : Operation) : Type 0 where
  pub listed : Contains q.listed t
  pub of : Contains (term_operations q.numbering t) op ⊎ IsOfWish q t op

-- a goal compared with a number with which a search may go: the number less what the goal adds
pub record IsOfGoal (q : Task) (s : Search) (x : Point) (goal : ℕ) (op : Operation) : Type 0 where
  pub literal : Literal
  pub comparison : IsComparison q s x literal
  pub of_goal : comparison.goal ≡ goal
  pub of : op ≡ record { operator = Difference; left = comparison.value; right = comparison.which.form.offset }

-- ---- Rows and values

-- the row of the last form, over the forms before it
pub record IsOfJoining (p : Position) (op : Operation) : Type 0 where
  pub front : List (List Part)
  pub last : List Part
  pub joins : p.forms ≡ front ++ last ∷ []
  pub rows : Rows
  pub are_rows : AreRows front (is_nonbasic p.point) rows
  pub number : Term → ℕ
  pub numbered : AreNumbered front number last
  pub of : Contains (joining_row (length front) (is_nonbasic p.point) rows number last).operations op

-- the rows after an exchange that may be next
pub record IsOfExchange (p : Position) (leaves enters : ℕ) (op : Operation) : Type 0 where
  pub rows : Rows
  pub are_rows : AreRows p.forms (is_nonbasic p.point) rows
  pub of : Contains (exchange (length p.forms) (is_nonbasic p.point) rows leaves enters).operations op

-- the value of a basic form
pub record IsOfValue (p : Position) (form : ℕ) (op : Operation) : Type 0 where
  pub listed : form < length p.forms
  pub basic : is_nonbasic p.point form ≡ false
  pub rows : Rows
  pub are_rows : AreRows p.forms (is_nonbasic p.point) rows
  pub of : Contains (row_value (length p.forms) (rows form) p.point).operations op

-- ---- Sums

-- 1, or the size of a coefficient
abbrev pub IsSizeIn : ℕ → Coefficients → Fraction → Type 0
IsSizeIn n row m = (m =ℚ whole (pos 1)) ⊎ ((k : ℕ) × (k < n) × ((m =ℚ row k) ⊎ (m =ℚ neg_ℚ (row k))))

-- the literals are told ones that differ, and the multipliers are above 0
pub record AreMultiplesOf (literals : List Literal) (ms : List Multiple) : Type 0 where
  pub told : All (λ (m : Multiple). Contains literals m.literal) ms
  pub apart : StandOnce (map (λ (m : Multiple). m.literal) ms)
  pub multiplied : IsTrue (list_all is_multiple ms)

-- Such multiples, by the sizes of the coefficients of a row, sum to a contradiction; the first operation of the sum that leaves the numbers. The sums of
-- the literals are in one order.
pub record IsOfSum (literals : List Literal) (p : Position) (ms : List Multiple) (op : Operation) : Type 0 where
  pub multiples : AreMultiplesOf literals ms
  pub number : Numbering
  pub ordered : IsOrderOf number (sums_of ms)
  pub form : ℕ
  pub listed : form < length p.forms
  pub row : Coefficients
  pub is_row : IsRow p.forms (is_nonbasic p.point) form row
  pub sizes : All (λ (m : Multiple). IsSizeIn (length p.forms) row m.multiplier) ms
  pub contradicts : IsTrue (is_contradiction (sum_of_multiples number ms).result)
  pub first : first_wide (sum_of_multiples number ms).operations ≡ Some op

-- Such multiples, by a row, sum to a sum of integers, whose bound is rounded.
pub record IsOfCut (literals : List Literal) (p : Position) (ms : List Multiple) (op : Operation) : Type 0 where
  pub multiples : AreMultiplesOf literals ms
  pub number : Numbering
  pub ordered : IsOrderOf number (sums_of ms)
  pub multipliers : AreOfRow p ms (sum_of_multiples number ms).result.parts
  pub integral : IsTrue (are_integral (sum_of_multiples number ms).result.parts)
  pub first : first_wide (cut_clause number ms).operations ≡ Some op

-- an atom, or a literal under which the search goes, that is made tight
pub record IsOfTightening (s : Search) (l : Literal) (op : Operation) : Type 0 where
  pub named : Contains s.atoms l ⊎ Contains s.under l
  pub first : first_wide (tight_form l).operations ≡ Some op

-- an integer unit that is worth between k and k + 1: its other bound is -k - 1
pub record IsOfSplit (q : Task) (p : Position) (u : Term) (op : Operation) : Type 0 where
  pub listed : Contains q.listed u
  pub integer : sort_of u ≡ int_sort
  pub value : Infinitesimal
  pub has : HasWorth p (unit_form u).parts value
  pub above : ℤ
  pub low : whole above ≤ℚ value.standard
  pub high : value.standard ≤ℚ whole (above +ℤ pos 1)
  pub of : op ≡ record { operator = Difference; left = neg_ℚ (whole above); right = whole (pos 1) }

-- how far a form may move until another one comes to its bound: each part of the way there, and its quotient by a coefficient
pub record IsOfMove (p : Position) (form moves : ℕ) (side : Side) (op : Operation) : Type 0 where
  pub within : IsWithinBounds p
  pub bound : Infinitesimal
  pub bounded : bound_on side p form ≡ Some bound
  pub value : Infinitesimal
  pub has : HasValue p form value
  pub coefficient : Fraction
  pub at : IsCoefficient p.forms (is_nonbasic p.point) form moves coefficient
  pub way : Fraction
  pub of : (op ≡ record { operator = Difference; left = bound.standard; right = value.standard })
      ⊎ (op ≡ record { operator = Difference; left = bound.coefficient; right = value.coefficient })
      ⊎ (op ≡ record { operator = Quotient; left = way; right = coefficient })
  pub of_way : (way =ℚ outcome Difference bound.standard value.standard) ⊎ (way =ℚ outcome Difference bound.coefficient value.coefficient)

-- ---- A fraction for δ

-- the value of a form and its bound of a side, in their order
abbrev pub in_order : Side → Infinitesimal → Infinitesimal → Pair
in_order lower_side bound x = (bound, x)
in_order upper_side bound x = (x, bound)

pub record IsPairOf (p : Position) (form : ℕ) (side : Side) (pair : Pair) : Type 0 where
  pub listed : form < length p.forms
  pub bound : Infinitesimal
  pub bounded : bound_on side p form ≡ Some bound
  pub value : Infinitesimal
  pub has : HasValue p form value
  pub numbers : IsNumber value.standard × IsNumber value.coefficient
  pub is : pair ≡ in_order side bound value

-- the fraction for δ is the least of 1 and the limits of all values with their bounds
pub record IsChosen (p : Position) (e : Fraction) : Type 0 where
  pub pairs : List Pair
  pub each : All (λ (pair : Pair). (form : ℕ) × (side : Side) × IsPairOf p form side pair) pairs
  pub all : (form : ℕ) (side : Side) (pair : Pair) → IsPairOf p form side pair → Contains pairs pair
  pub least : IsLeastLimit pairs e

-- the operations of a value where a fraction stands for δ
abbrev pub value_operations : Infinitesimal → Fraction → List Operation
value_operations v e =
    record { operator = Product; left = v.coefficient; right = e }
    ∷ record { operator = Sum; left = v.standard; right = outcome Product v.coefficient e }
    ∷ []

-- the limit that a value and a bound set, where they set one
pub record IsOfLimit (p : Position) (form : ℕ) (side : Side) (op : Operation) : Type 0 where
  pub within : IsWithinBounds p
  pub pair : Pair
  pub is_pair : IsPairOf p form side pair
  pub limits : is_limiting pair ≡ true
  pub first : first_wide (limit_operations pair) ≡ Some op

-- a form is a constant alone
abbrev pub IsConstantAt : Position → ℕ → Constant → Type 0
IsConstantAt p form c = slice_get p.forms form ≡ Some (unit_form (unit_of c)).parts

abbrev pub IsNoForm : Position → Constant → Type 0
IsNoForm p c = (form : ℕ) → IsConstantAt p form c → ⊥

-- the value of a form that is a constant alone, where the chosen fraction stands for δ
pub record IsOfModel (listed : List Term) (p : Position) (form : ℕ) (op : Operation) : Type 0 where
  pub within : IsWithinBounds p
  pub constant : Constant
  pub is_listed : Contains listed (unit_of constant)
  pub is : IsConstantAt p form constant
  pub value : Infinitesimal
  pub has : HasValue p form value
  pub delta : Fraction
  pub chosen : IsChosen p delta
  pub first : first_wide (value_operations value delta) ≡ Some op

-- ---- Values of terms at a model

-- A constant that is a form has the form's value where this fraction stands for δ, and any other number its default.
pub record GivesPoint (p : Position) (delta : Fraction) (a : Assignment) : Type 0 where
  pub forms : (c : Constant) (form : ℕ) (value : Infinitesimal) → IsConstantAt p form c → HasValue p form value → a c ≡ number (reduce (at value delta))
  pub others : (c : Constant) → is_bool c.sort ≡ false → IsNoForm p c → a c ≡ default_value c.sort

-- The bindings make a model of what is asked, which the point gives where the chosen fraction stands for δ.
pub record IsModelAt (q : Task) (p : Position) (bs : List Binding) : Type 0 where
  pub within : IsWithinBounds p
  pub delta : Fraction
  pub chosen : IsChosen p delta
  pub gives : GivesPoint p delta (assignment_of bs)
  pub fits : ValuesFit bs
  pub makes : IsModel q.asserted q.assumed (assignment_of bs)

-- the first operation of a listed term's value at that model, or that of a group's value at the term
pub record IsOfWorth (q : Task) (p : Position) (t : Term) (bs : List Binding) (op : Operation) : Type 0 where
  pub listed : Contains q.listed t
  pub model : IsModelAt q p bs
  pub of : (first_wide (operations_of (assignment_of bs) t) ≡ Some op) ⊎ IsOfPenalty q (assignment_of bs) t op

-- ---- Lines of terms along a family

-- all that what is asserted, what is assumed and the goals up to one of them are made of
abbrev pub terms_up_to : Task → ℕ → List Term
terms_up_to q goal = flat_map listing_order (q.asserted ++ flat_map terms_in q.assumed ++ flat_map (λ (g : Goal). units_in g.form.parts) (take (suc goal) q.goals))

-- The family is steady for the goal of the value that was found last, over models at which the goals before have their last values.
pub record IsSteadyFor (q : Task) (s : Search) (f : Family) : Type 0 where
  pub before : List Found
  pub last : Found
  pub found : s.found ≡ before ++ last ∷ []
  pub steady : IsSteady (IsHeld q s.found last.goal) (terms_up_to q last.goal) f

-- A course begins as an assignment has its constant.
abbrev pub BeginsAs : Assignment → Constant → Course → Type 0
BeginsAs a c (steady b) = a c ≡ truth b
BeginsAs a c (along l) = a c ≡ number l.start

-- The line of a constant that is a form begins at the standard part of the form's value; any other course begins as an assignment has it.
abbrev pub BeginsAtPoint : Position → Assignment → Constant → Course → Type 0
BeginsAtPoint p a c (steady b) = a c ≡ truth b
BeginsAtPoint p a c (along l) =
    ((form : ℕ) (value : Infinitesimal) → IsConstantAt p form c → HasValue p form value → l.start =ℚ value.standard) × (IsNoForm p c → a c ≡ number l.start)

-- The lines begin at a model of a front of the list; or at the standard parts of the point, and what is no form as that model has it.
pub record Begins (q : Task) (lines : List (WorkLine Note)) (s : Search) (x : Point) (f : Family) : Type 0 where
  pub front : List (WorkLine Note)
  pub more : List (WorkLine Note)
  pub list : lines ≡ front ++ more
  pub there : Point
  pub before : Lead q at_first no_point front there
  pub behind : Lead q (after_lines at_first front) there more x
  pub model : List Binding
  pub is_model : IsModelAt q (position_of (after_lines at_first front) there) model
  pub starts : All (λ (c : Constant × Course). BeginsAs (assignment_of model) c.0 c.1) f.courses
      ⊎ All (λ (c : Constant × Course). BeginsAtPoint (position_of s x) (assignment_of model) c.0 c.1) f.courses

-- The slope of a constant that is a form is so by the form's number, and any other line stays.
abbrev pub Goes : (ℕ → Fraction → Type 0) → Position → Constant → Course → Type 0
Goes So p c (steady b) = ⊤
Goes So p c (along l) = ((form : ℕ) → IsConstantAt p form c → So form l.slope) × (IsNoForm p c → l.slope =ℚ whole (pos 0))

abbrev pub IsInfinitesimalPart : Position → ℕ → Fraction → Type 0
IsInfinitesimalPart p form slope = (value : Infinitesimal) × HasValue p form value × (slope =ℚ value.coefficient)

-- an integer, which is the form's coefficient at another form times a number
abbrev pub IsScaledCoefficient : Position → (moves : ℕ) (scale : Fraction) → ℕ → Fraction → Type 0
IsScaledCoefficient p moves scale form slope =
    (is_whole slope ≡ true) × ((c : Fraction) × IsCoefficient p.forms (is_nonbasic p.point) form moves c × (slope =ℚ (c *ℚ scale)))

-- The lines go by the infinitesimal parts of the point; or by a column of the basis, scaled to integers.
pub data GoesFrom (p : Position) (f : Family) : Type 0 where
  by_infinitesimals : All (λ (c : Constant × Course). Goes (IsInfinitesimalPart p) p c.0 c.1) f.courses → GoesFrom p f
  by_column : (moves : ℕ) (scale : Fraction) → All (λ (c : Constant × Course). Goes (IsScaledCoefficient p moves scale) p c.0 c.1) f.courses → GoesFrom p f

-- the first operation of a listed term's line along a steady family, or that of a group's value at the term, at a member of the family
pub record IsOfLine (q : Task) (s : Search) (p : Position) (t : Term) (f : Family) (op : Operation) : Type 0 where
  pub listed : Contains q.listed t
  pub steady : IsSteadyFor q s f
  pub goes : GoesFrom p f
  pub of : (first_wide (operations_along f t) ≡ Some op) ⊎ ((at : Fraction) × IsInRange f.range at × IsOfPenalty q (member f at) t op)

-- that of the line of a goal's form
pub record IsOfGoalLine (q : Task) (s : Search) (p : Position) (goal : ℕ) (f : Family) (op : Operation) : Type 0 where
  pub which : Goal
  pub listed : slice_get q.goals goal ≡ Some which
  pub steady : IsSteadyFor q s f
  pub goes : GoesFrom p f
  pub first : first_wide (form_line_operations (line_of f) which.form) ≡ Some op

-- These forms are constants alone, and these numbers are their coefficients at one form, or all turned.
pub record AreOfColumn (p : Position) (moves : ℕ) (forms : List ℕ) (qs : List Fraction) : Type 0 where
  pub constants : All (λ form. (c : Constant) × IsConstantAt p form c) forms
  pub numbers : All IsNumber qs
  pub column : List Fraction
  pub coefficients : (k form : ℕ) (q : Fraction) → slice_get forms k ≡ Some form → slice_get column k ≡ Some q → IsCoefficient p.forms (is_nonbasic p.point) form moves q
  pub as_many : length column ≡ length forms
  pub turned : (qs ≡ column) ⊎ (qs ≡ map neg_ℚ column)

-- the first operation by which a column is scaled
pub record IsOfScaling (p : Position) (forms : List ℕ) (moves : ℕ) (op : Operation) : Type 0 where
  pub within : IsWithinBounds p
  pub numbers : List Fraction
  pub of_column : AreOfColumn p moves forms numbers
  pub first : first_wide (scaled_to_integers numbers).operations ≡ Some op

-- ---- Places

-- an operation of the computation at a site, of a simplex that was told these literals, at a position
abbrev pub IsOperationIn : List Literal → Position → Site → Operation → Type 0
IsOperationIn told p joining_site op = IsOfJoining p op
IsOperationIn told p (exchange_site leaves enters) op = IsOfExchange p leaves enters op
IsOperationIn told p (value_site form) op = IsOfValue p form op
IsOperationIn told p (sum_site ms) op = IsOfSum told p ms op
IsOperationIn told p (cut_site ms) op = IsOfCut told p ms op
IsOperationIn told p (move_site form moves side) op = IsOfMove p form moves side op
IsOperationIn told p (limit_site form side) op = IsOfLimit p form side op
IsOperationIn told p (scaling_site forms moves) op = IsOfScaling p forms moves op
IsOperationIn told p site op = ⊥

-- and where a check stands
abbrev pub IsOperationAt : Task → Search → Point → Site → Operation → Type 0
IsOperationAt q s x (term_site t) op = IsOfTerm q t op
IsOperationAt q s x (goal_site goal) op = IsOfGoal q s x goal op
IsOperationAt q s x (tight_site l) op = IsOfTightening s l op
IsOperationAt q s x (split_site unit) op = IsOfSplit q (position_of s x) unit op
IsOperationAt q s x (model_site form) op = IsOfModel q.listed (position_of s x) form op
IsOperationAt q s x (worth_site t bs) op = IsOfWorth q (position_of s x) t bs op
IsOperationAt q s x (line_site t f) op = IsOfLine q s (position_of s x) t f op
IsOperationAt q s x (goal_line_site goal f) op = IsOfGoalLine q s (position_of s x) goal f op
IsOperationAt q s x site op = IsOperationIn (told_literals s) (position_of s x) site op

-- the last of these lines is that of a form that joins
abbrev pub EndWithForm : List (WorkLine Note) → Type 0
EndWithForm lines = (front : List (WorkLine Note)) × (((atom : ℕ) × (lines ≡ front ++ NoteLine (form_note atom) ∷ [])) ⊎ ((sum : List Part) × (lines ≡ front ++ NoteLine (goal_note sum) ∷ [])))

-- those of these literals that bound a sum were told
abbrev pub AreToldOf : Search → List Literal → Type 0
AreToldOf s ls = All (λ (l : Literal). IsTrue (is_linear_literal l) → HasUnit l → WasTold s l) ls

-- Each literal is met that is asserted, gone under or decided, and so are the clauses of the tables of all that what is asserted is made of.
pub record IsAllMet (q : Task) (s : Search) (truths : Term → Option Bool) (v : Valuation) : Type 0 where
  pub held : All (IsMet truths v) (literals_held q s)
  pub decided : All (IsMet truths v) (literals_by s.atoms s.decided)
  pub clauses : MeetsClauses truths v q.numbering (flat_map listing_order q.asserted)

-- What the simplex was told is enough: with some truths of terms, all is met wherever the told literals are.
abbrev pub IsToldEnough : Task → Search → Type 0
IsToldEnough q s = (truths : Term → Option Bool) × ((v : Valuation) → All (IsMet truths v) (told_literals s) → IsAllMet q s truths v)

-- When a computation is made: the row of a form just after the form's line, an exchange where it may be the next line, a model's fraction and values once what
-- was told is enough (bounds that are left open bound nothing), and lines that begin in this list once every bound was told under which a climb goes.
abbrev pub IsDue : Task → List (WorkLine Note) → Search → Point → Site → Type 0
IsDue q lines s x joining_site = EndWithForm lines
IsDue q lines s x (exchange_site leaves enters) = (y : Point) × IsExchange q s x y leaves enters
IsDue q lines s x (limit_site form side) = IsToldEnough q s
IsDue q lines s x (model_site form) = IsToldEnough q s
IsDue q lines s x (worth_site t bs) = IsToldEnough q s
IsDue q lines s x (line_site t f) = AreToldOf s s.under × Begins q lines s x f
IsDue q lines s x (goal_line_site goal f) = AreToldOf s s.under × Begins q lines s x f
IsDue q lines s x (scaling_site forms moves) = AreToldOf s s.under
IsDue q lines s x site = ⊤

-- An operation on numbers that leaves them.
pub record LeavesNumbers (op : Operation) : Type 0 where
  pub left : IsNumber op.left
  pub right : IsNumber op.right
  pub wide : is_wide op.operator op.left op.right ≡ true

-- The list of a check that ended at a place: its lines are legal, within its units, and the operation at the place leaves the numbers.
pub record IsStoppedLegally (q : Task) (work : WorkList Note) (place : Place) : Type 0 where
  pub within : unit_count work.lines ≤ work.limit
  pub legal : AreLegal q work.lines
  pub leaves : LeavesNumbers place.operation
  pub due : IsDue q work.lines (after_lines at_first work.lines) legal.point place.site
  pub at : IsOperationAt q (after_lines at_first work.lines) legal.point place.site place.operation
