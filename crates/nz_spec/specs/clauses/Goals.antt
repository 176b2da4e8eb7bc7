-- Goals: sums of units that are to become as great, or as small, as they can, and which value of a goal is its best.
-- Source: Bjørner, Phan and Fleckenstein, νZ - An Optimizing SMT Solver, TACAS 2015, section 2.
use Rattle.std.specs.Prelude.{Bool, true, false, List, map, if◌then◌else◌}
use Rattle.nz_fractions.specs.Fraction.{Fraction, ◌=ℚ◌, ◌≤ℚ◌, ◌<ℚ◌, neg_ℚ, Difference}
use Rattle.nz_spec.specs.numbers.Computation.{Computation, operated, turned_into}
use Rattle.nz_spec.specs.terms.Term.{Assignment}
use Rattle.nz_spec.specs.terms.Form.{Part, Form, form_value, negated_part}
use Rattle.nz_spec.specs.clauses.Literal.{Literal, is_at_most, is_below}

-- A sum with a number that is added, and whether it is to become great.
pub record Goal : Type 0 where
  pub form : Form
  pub up : Bool

abbrev pub goal_value : Assignment → Goal → Fraction
goal_value a g = form_value a g.form

-- ---- What is better

abbrev pub IsBetter : (up : Bool) → Fraction → Fraction → Type 0
IsBetter true p q = q <ℚ p
IsBetter false p q = p <ℚ q

abbrev pub IsAsGood : (up : Bool) → Fraction → Fraction → Type 0
IsAsGood true p q = q ≤ℚ p
IsAsGood false p q = p ≤ℚ q

-- Of the assignments that count, one gives the goal this value, and none a better one.
pub record IsBest (Counts : Assignment → Type 0) (g : Goal) (v : Fraction) : Type 0 where
  pub best : Assignment
  pub counts : Counts best
  pub has : goal_value best g =ℚ v
  pub unbeaten : (a : Assignment) → Counts a → IsBetter g.up (goal_value a g) v → ⊥

-- ---- Goals compared with numbers

-- a sum is at most a number, or below it
abbrev pub limited : List Part → Bool → Fraction → Literal
limited ps strict b = if strict then is_below ps b else is_at_most ps b

-- A goal is at most a number, or below it, or at least the number, or above it: what the goal adds goes to the other side.
abbrev pub compared : Goal → (from_above strict : Bool) → Fraction → Computation Literal
compared g from_above strict v =
    turned_into (λ b. if from_above then limited g.form.parts strict b else limited (map negated_part g.form.parts) strict (neg_ℚ b))
    (operated Difference v g.form.offset)

-- A goal is better than a number, or as good: what that says of its sum.
abbrev pub beats : Goal → (strict : Bool) → Fraction → Computation Literal
beats g strict v = compared g (if g.up then false else true) strict v

abbrev pub Beats : (up strict : Bool) → Fraction → Fraction → Type 0
Beats up true p q = IsBetter up p q
Beats up false p q = IsAsGood up p q
