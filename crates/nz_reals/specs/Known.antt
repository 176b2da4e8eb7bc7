-- What an atom says of a form of a simplex, and what its negation says.
use Rattle.std.specs.Prelude.{◌≡◌, ℕ, Bool, true, false, List, [], ◌∷◌, map, if◌then◌else◌}
use Rattle.nz_fractions.specs.Fraction.{Fraction, neg_ℚ}
use Rattle.nz_spec.specs.numbers.Infinitesimal.{Infinitesimal}
use Rattle.nz_spec.specs.simplex.Bland.{at_least_bound, at_most_bound}
use Rattle.nz_spec.specs.terms.Form as spec
use Rattle.nz_spec.specs.terms.Form.{negated_part}
use Rattle.nz_spec.specs.clauses.Literal.{Literal, is_at_most}
use Rattle.nz_spec.specs.simplex.LiteralBounds.{FormBound}
use Rattle.nz_lin.specs.declared.form.Part.{Part}
use Rattle.nz_trail.specs.declared.limits.Side.{Side}
use Rattle.nz_trail.specs.declared.limits.Side.TheVariants.{Lower, Upper}
use Rattle.nz_delta.specs.DeltaSpace.{infinitesimal_of}
use Rattle.nz_log.specs.Atoms.{with_sign}
use Rattle.nz_simplex.specs.Standing.{half}
use Rattle.nz_reals.specs.declared.forms.Bounded.{Bounded}
use Rattle.nz_reals.specs.declared.forms.SideBound as code
use Rattle.nz_reals.specs.Sums.{is_turned}

-- a bound on a side
pub record SideBound : Type 0 where
  pub side : Side
  pub value : Infinitesimal

-- What an atom says of a form, and what its negation says.
pub record Known : Type 0 where
  pub form : ℕ
  pub yes : SideBound
  pub no : SideBound

-- what the code keeps of it
abbrev pub said_of : code.SideBound → SideBound
said_of s = record { side = s.side; value = infinitesimal_of s.value }

abbrev pub known_of : Bounded → Known
known_of b = record { form = b.var; yes = said_of b.yes; no = said_of b.no }

abbrev pub said_by : Known → Bool → SideBound
said_by k true = k.yes
said_by k false = k.no

abbrev pub said_on : Side → Infinitesimal → SideBound
said_on side x = record { side = side; value = x }

-- ---- What a sum says

-- that a sum is at most a number, of the form that it is, or that it is with the other signs
abbrev pub yes_of : List Part → Fraction → SideBound
yes_of ps b = if is_turned ps then said_on Lower (at_least_bound false (neg_ℚ b)) else said_on Upper (at_most_bound false b)

-- the negation; a sum without units is the form that it is with the other signs
abbrev pub no_of : List Part → Fraction → SideBound
no_of [] b = said_on Upper (at_most_bound true (neg_ℚ b))
no_of (p ∷ ps) b = if is_turned (p ∷ ps) then said_on Upper (at_most_bound true (neg_ℚ b)) else said_on Lower (at_least_bound true b)

-- the one or the other
abbrev pub said_at : List Part → Fraction → Bool → SideBound
said_at ps b true = yes_of ps b
said_at ps b false = no_of ps b

-- what is known of a form is what this sum says, at most this number
pub record IsSaidOf (ps : List Part) (b : Fraction) (k : Known) : Type 0 where
  pub yes : k.yes ≡ yes_of ps b
  pub no : k.no ≡ no_of ps b

-- ---- The literals that say it

-- the literal of an atom that says this of a form
abbrev pub literal_on : List spec.Part → Side → Fraction → Literal
literal_on f Upper q = is_at_most f q
literal_on f Lower q = is_at_most (map negated_part f) (neg_ℚ q)

-- and with a sign
abbrev pub literal_by : List spec.Part → Known → Bool → Literal
literal_by f k sign = with_sign sign (literal_on f k.yes.side k.yes.value.standard)

-- as the definitions have it
abbrev pub form_bound : Known → Bool → FormBound
form_bound k sign = let s = said_by k sign in record { form = k.form; side = half s.side; bound = s.value }
