-- Groups of wishes: terms that are to be true, each with a weight. A group is one goal, which minimizes the sum of the weights of the wishes that are false.
-- Source: Bjørner, Phan and Fleckenstein, νZ - An Optimizing SMT Solver, TACAS 2015, section 2 (soft constraints). The order of the operations is this solver's own.
use Rattle.std.specs.Prelude.{ℕ, false, List, [], ◌∷◌, pos, if◌then◌else◌}
use Rattle.nz_fractions.specs.Fraction.{Fraction, whole, ◌=ℚ◌, Sum, Product}
use Rattle.nz_spec.specs.numbers.Computation.{Computation, operated, at_once, and_then}
use Rattle.nz_spec.specs.terms.Term.{int_sort, integer, choice, Term, apply, no_terms, terms, Assignment, is_true, value_of}
use Rattle.nz_spec.specs.terms.Form.{Numbering, Form, constant_form, unit_form, scaled, joined}
use Rattle.nz_spec.specs.clauses.Goals.{Goal, goal_value}

-- a term that is to be true, and what it costs where it is false
pub record Wish : Type 0 where
  pub term : Term
  pub weight : Fraction

-- the wishes with one name, in their order, and the number of their goal
pub record Group : Type 0 where
  pub goal : ℕ
  pub wishes : List Wish

-- ---- The form of a group

-- `(ite F 0 1)`, where F is the wish: the unit of its cost
abbrev pub cost_of : Wish → Term
cost_of w = apply (choice int_sort) (terms w.term (terms (apply (integer 0) no_terms) (terms (apply (integer 1) no_terms) no_terms)))

-- the weight times that unit
abbrev pub weighted_cost : Wish → Computation Form
weighted_cost w = scaled (λ c. operated Product w.weight c) (unit_form (cost_of w))

-- A wish joins a sum: first its product is made.
abbrev pub wish_joined : Numbering → Form → Wish → Computation Form
wish_joined number f w = and_then (weighted_cost w) (λ g. joined number Sum f g)

-- one wish after another
abbrev pub wishes_joined : Numbering → Form → List Wish → Computation Form
wishes_joined number f [] = at_once f
wishes_joined number f (w ∷ ws) = and_then (wish_joined number f w) (λ g. wishes_joined number g ws)

-- the sum of them all, from 0
abbrev pub wishes_form : Numbering → List Wish → Computation Form
wishes_form number ws = wishes_joined number (constant_form (whole (pos 0))) ws

-- the goal of a group is to become small
abbrev pub wishes_goal : Numbering → List Wish → Goal
wishes_goal number ws = record { form = (wishes_form number ws).result; up = false }

-- ---- Its value

-- a number, to which the weights of the wishes that are false are added one after another
abbrev pub penalty_onto : Assignment → Fraction → List Wish → Computation Fraction
penalty_onto a c [] = at_once c
penalty_onto a c (w ∷ ws) = if is_true (value_of a w.term) then penalty_onto a c ws else and_then (operated Sum c w.weight) (λ d. penalty_onto a d ws)

-- the sum of these weights, from 0
abbrev pub penalty : Assignment → List Wish → Computation Fraction
penalty a ws = penalty_onto a (whole (pos 0)) ws

-- ---- Laws

-- The goal of a group has, under each assignment, the sum of the weights of the wishes that are false.
abbrev pub GroupsHaveValues : Type 0
GroupsHaveValues = (number : Numbering) (a : Assignment) (ws : List Wish) → goal_value a (wishes_goal number ws) =ℚ (penalty a ws).result
