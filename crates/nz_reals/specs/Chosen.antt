-- Values of units, where the simplex is feasible.
use Rattle.std.specs.Prelude.{◌≡◌, ℕ, ◌<◌, ◌⊎◌, Bool, List, [], ◌∷◌, ◌++◌, length, map, Contains, Option, Some, slice_get, true, unwrap_or}
use Rattle.std.specs.List.{AllByRecursion}
use Rattle.nz_fractions.specs.Fraction.{Fraction, ◌=ℚ◌, IsNumber}
use Rattle.nz_spec.specs.simplex.Basis.{Valuation}
use Rattle.nz_spec.specs.simplex.Bland.{Point, Position, HasValue}
use Rattle.nz_spec.specs.search.Decide.{IsValueOf}
use Rattle.nz_spec.specs.clauses.Met.{IsMet}
use Rattle.nz_spec.specs.terms.Form as form
use Rattle.nz_spec.specs.numbers.Infinitesimal.{Infinitesimal, at}
use Rattle.nz_spec.specs.clauses.Literal.{Literal, StandOnce}
use Rattle.nz_spec.specs.search.Places.{IsChosen}
use Rattle.nz_spec.specs.terms.Table.{Node, listed_value, term_in}
use Rattle.nz_spec.specs.terms.Term as spec
use Rattle.nz_spec.specs.terms.Term.{Constant, constant, default_value, number_of, real_sort}
use Rattle.nz_spec.specs.laws.ToldBounds.{AreNumbers}
use Rattle.nz_lin.specs.declared.bound.Bound.{Bound}
use Rattle.nz_log.specs.declared.atoms.Atom.{Atom}
use Rattle.nz_log.specs.declared.atoms.Atom.TheVariants.{AtMost}
use Rattle.nz_log.specs.declared.lits.Lit.{Lit}
use Rattle.nz_log.specs.Atoms.{literal_in}
use Rattle.nz_reals.specs.Constants.{IsAlone, IsConstant, is_marked}
use Rattle.nz_reals.specs.Limits.{value_of}
use Rattle.nz_reals.specs.Stands.{IsAt, IsOf}
use Rattle.nz_reals.specs.State.{Theory, sum_at, told_lits}

-- Just the marked units that are constants have values, each once: that of the form that the unit is alone, where a fraction stands for the infinitesimal.
pub record AreValues (t : Theory) (ns : List Node) (marks : List Bool) (y : ℕ → Infinitesimal) (e : Fraction) (values : List (ℕ × spec.Value)) : Type 0 where
  pub once : StandOnce (map (λ (v : ℕ × spec.Value). v.0) values)
  pub right : (u : ℕ) (v : spec.Value) → Contains values (u, v) → (k : ℕ) × IsConstant t ns marks u k × ((q : Fraction) × (v ≡ spec.number q) × (q =ℚ at (y k) e) × IsNumber q)
  pub all : (u k : ℕ) → IsConstant t ns marks u k → (v : spec.Value) × Contains values (u, v)

-- Behind the old values stand those of the marked units, at a position.
pub record AddsValues (t : Theory) (ns : List Node) (marks : List Bool) (p : Position) (old new : List (ℕ × spec.Value)) : Type 0 where
  pub added : List (ℕ × spec.Value)
  pub joined : new ≡ old ++ added
  pub values : ℕ → Infinitesimal
  pub has : (k : ℕ) → k < length p.forms → HasValue p k (values k)
  pub numbers : AreNumbers (length p.forms) values
  pub fraction : Fraction
  pub chosen : IsChosen p fraction
  pub right : AreValues t ns marks values fraction added

-- Behind the old values stand values of constants, and the units are worth something: under it each bound that was told is met, and a marked constant of sort
-- Real is worth what it is given, or else the default.
pub record HasWorths (t : Theory) (ns : List Node) (marks : List Bool) (old new : List (ℕ × spec.Value)) : Type 0 where
  pub added : List (ℕ × spec.Value)
  pub joined : new ≡ old ++ added
  pub values : AllByRecursion (IsValueOf ns) added
  pub worths : Valuation
  pub met : (truths : spec.Term → Option Bool) (atoms : List Atom) (ids : List ℕ) (fs : List (List form.Part)) (ls : List Literal) (x : Point) → IsOf t atoms ids → IsAt t ns fs ls x
      → (l : Lit) → Contains (told_lits t) l → Contains ids l.atom → (b : Bound) → slice_get atoms l.atom ≡ Some (AtMost b) → IsMet truths worths (literal_in ns atoms l)
  pub constants : (i : ℕ) (node : Node) (c : Constant) → is_marked marks i ≡ true → slice_get ns i ≡ Some node → node.head ≡ constant c → c.sort ≡ real_sort
      → number_of (unwrap_or (listed_value added i) (default_value c.sort)) =ℚ worths (term_in ns i)

-- ---- One form after another

-- the value of a form that is a marked constant alone comes behind others, where a fraction stands for the infinitesimal
pub record PutsValue (t : Theory) (ns : List Node) (marks : List Bool) (e : Fraction) (k : ℕ) (old new : List (ℕ × spec.Value)) : Type 0 where
  pub unit : ℕ
  pub alone : IsAlone ns marks (sum_at t k) unit
  pub value : Fraction
  pub joined : new ≡ old ++ (unit, spec.number value) ∷ []
  pub right : value =ℚ at (value_of t k) e
  pub number : IsNumber value

-- no value comes of a form that is no marked constant alone
pub record PutsNone (t : Theory) (ns : List Node) (marks : List Bool) (k : ℕ) (old new : List (ℕ × spec.Value)) : Type 0 where
  pub none : (u : ℕ) → IsAlone ns marks (sum_at t k) u → ⊥
  pub same : new ≡ old

abbrev pub Puts : Theory → List Node → List Bool → Fraction → ℕ → List (ℕ × spec.Value) → List (ℕ × spec.Value) → Type 0
Puts t ns marks e k old new = PutsValue t ns marks e k old new ⊎ PutsNone t ns marks k old new

-- Behind the old values stand those of the first forms that are marked constants alone, each once.
pub record PutsFirst (t : Theory) (ns : List Node) (marks : List Bool) (e : Fraction) (n : ℕ) (old new : List (ℕ × spec.Value)) : Type 0 where
  pub added : List (ℕ × spec.Value)
  pub joined : new ≡ old ++ added
  pub once : StandOnce (map (λ (v : ℕ × spec.Value). v.0) added)
  pub right : (u : ℕ) (v : spec.Value) → Contains added (u, v) → (k : ℕ) × (k < n) × IsAlone ns marks (sum_at t k) u × ((q : Fraction) × (v ≡ spec.number q) × (q =ℚ at (value_of t k) e) × IsNumber q)
  pub all : (k u : ℕ) → k < n → IsAlone ns marks (sum_at t k) u → (v : spec.Value) × Contains added (u, v)
