-- Defined names, and their uses with terms for the parameters (SMT-LIB 2.6, section 4.2.3).
use Rattle.std.specs.Prelude.{◌≡◌, ℕ, zero, suc, List, [], ◌∷◌, Option, Some, None, option_map, unwrap_or, slice_get, ⊤}
use Rattle.nz_spec.specs.terms.Term.{Sort, sort_of, Head, parameter, Term, apply, Terms, no_terms, terms, Value, Assignment, default_value, head_value, value_of, values_of}
use Rattle.nz_spec.specs.terms.Normal.{normal_of, normals_of}
use Rattle.nz_spec.specs.terms.Operators.{placed}

-- A defined name: the sorts of its parameters, and its body, in which they stand by their places.
pub record Definition : Type 0 where
  pub name : List ℕ
  pub parameters : List Sort
  pub body : Term

abbrev pub term_at : Terms → ℕ → Option Term
term_at no_terms i = None
term_at (terms t ts) zero = Some t
term_at (terms t ts) (suc i) = term_at ts i

abbrev pub instance_node : Terms → Head → Terms → Term
instance_node us (parameter i s) ts = elim (term_at us i) [ Some t ↦ t | None ↦ apply (parameter i s) ts ]
instance_node us h ts = apply h ts

-- a body with these terms for its parameters
abbrev mutual
  pub instance_of : Terms → Term → Term
  instance_of us (apply h ts) = instance_node us h (instances_of us ts)

  pub instances_of : Terms → Terms → Terms
  instances_of us no_terms = no_terms
  instances_of us (terms t ts) = terms (instance_of us t) (instances_of us ts)

-- The normal term of a body with terms for its parameters is the normal body with their normal terms.
abbrev pub InstanceKeepsNormal : Type 0
InstanceKeepsNormal = (us : Terms) (t : Term) → normal_of (instance_of us t) ≡ instance_of (normals_of us) (normal_of t)

abbrev pub terms_onto : Option Term → Option Terms → Option Terms
terms_onto (Some t) (Some ts) = Some (terms t ts)
terms_onto (Some t) None = None
terms_onto None r = None

-- terms where these sorts are wanted, as many of them
abbrev pub all_placed : List Sort → Terms → Option Terms
all_placed [] no_terms = Some no_terms
all_placed [] (terms t ts) = None
all_placed (s ∷ ss) no_terms = None
all_placed (s ∷ ss) (terms t ts) = terms_onto (placed s t) (all_placed ss ts)

-- The term is no parameter, or it is one of these sorts, at its place.
abbrev pub RootFits : List Sort → Term → Type 0
RootFits ss (apply h ts) = elim h [ parameter i s ↦ slice_get ss i ≡ Some s | _ ↦ ⊤ ]

-- A use of a definition: its body, with the arguments for its parameters.
abbrev pub expansion : Definition → Terms → Option Term
expansion d ts = option_map (λ us. instance_of us d.body) (all_placed d.parameters ts)

-- ---- Laws

-- A use of a definition has the sort of its body.
abbrev pub ExpansionKeepsSort : Type 0
ExpansionKeepsSort = (d : Definition) → RootFits d.parameters d.body → (ts : Terms) (u : Term) → expansion d ts ≡ Some u → sort_of u ≡ sort_of d.body

-- what a head makes of the values of its arguments, where the parameters have these values
abbrev pub head_value_under : Assignment → List Value → Head → List Value → Value
head_value_under a us (parameter i s) vs = unwrap_or (slice_get us i) (default_value s)
head_value_under a us h vs = head_value a h vs

-- the value of a body whose parameters have these values
abbrev mutual
  pub body_value : Assignment → List Value → Term → Value
  body_value a us (apply h ts) = head_value_under a us h (body_values a us ts)

  pub body_values : Assignment → List Value → Terms → List Value
  body_values a us no_terms = []
  body_values a us (terms t ts) = body_value a us t ∷ body_values a us ts

-- A use of a definition has the value of its body under the values of the arguments.
abbrev pub UseHasBodyValue : Type 0
UseHasBodyValue = (a : Assignment) (d : Definition) (ts : Terms) (u : Term) → expansion d ts ≡ Some u → value_of a u ≡ body_value a (values_of a ts) d.body
