-- Which forms are constants alone, of the terms that are marked.
use Rattle.std.specs.Prelude.{◌≡◌, ℕ, ◌<◌, Bool, List, Contains, Some, length, slice_get, slice_index_or, false, true}
use Rattle.nz_spec.specs.terms.Table.{Node, term_in}
use Rattle.nz_spec.specs.terms.Term.{Constant, Term, constant, real_sort}
use Rattle.nz_lin.specs.declared.form.Part.{Part}
use Rattle.nz_tab.specs.Units.{is_form_of}
use Rattle.nz_reals.specs.State.{Theory, sum_at}

-- ---- Marks

-- the term of this number is marked
abbrev pub is_marked : List Bool → ℕ → Bool
is_marked marks u = slice_index_or marks u false

-- the marked terms are among these
abbrev pub AreMarkedAmong : List Node → List Bool → List Term → Type 0
AreMarkedAmong ns marks ts = (u : ℕ) → is_marked marks u ≡ true → Contains ts (term_in ns u)

-- ---- Constants

-- the term is a constant of sort Real
pub record IsRealConstant (ns : List Node) (u : ℕ) : Type 0 where
  pub name : Constant
  pub node : Node
  pub at : slice_get ns u ≡ Some node
  pub head : node.head ≡ constant name
  pub real : name.sort ≡ real_sort

-- the form is this constant alone, which is marked
abbrev pub IsAlone : List Node → List Bool → List Part → ℕ → Type 0
IsAlone ns marks f u = (is_form_of u f ≡ true) × IsRealConstant ns u × (is_marked marks u ≡ true)

-- the form of this number is this unit alone, which is a constant of the table, of sort Real, and marked
pub record IsConstant (t : Theory) (ns : List Node) (marks : List Bool) (u k : ℕ) : Type 0 where
  pub listed : k < length t.simplex.forms
  pub alone : is_form_of u (sum_at t k) ≡ true
  pub of : IsRealConstant ns u
  pub marked : is_marked marks u ≡ true
