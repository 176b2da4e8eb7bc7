-- Lemmas of the names in scope.
use Rattle.std.proofs.Common.{[], ◌≡◌, ℕ, List, ◌∷◌, ◌++◌, Option, None, Some, true, false, bytes_eq, cond, refl, sym, ap, ◌∙◌, subst}
use Rattle.std.specs.List.{AllByRecursion}
use Rattle.nz_spec.specs.terms.Term.{Constant, constant, Term, apply, no_terms}
use Rattle.nz_spec.specs.terms.Table.{Node}
use Rattle.nz_spec.specs.terms.Operators.{Operator}
use Rattle.nz_script.specs.commands.Elaboration.{operator_named, listed, constant_named, definition_named, Scope, binding}
use Rattle.nz_spec.specs.terms.Definitions.{Definition, RootFits}
use Rattle.nz_elaborate.specs.declared.typed.Typed.{Typed}
use Rattle.nz_elaborate.specs.declared.operators.Operator as operators
use Rattle.nz_elaborate.specs.declared.names.Definition as code
use Rattle.nz_elaborate.specs.declared.names.Named as named
use Rattle.nz_elaborate.specs.declared.names.Named.TheVariants as kinds
use Rattle.nz_elaborate.specs.Operators.{operator_meaning}
use Rattle.nz_elaborate.specs.Typed.{Grows}
use Rattle.nz_elaborate.specs.Names.{named_by, bound_in, first_of, bound_by, IsDefined, SameTerm, SameNamed, IsScope}
use Rattle.nz_elaborate.proofs.TypedPreservation.{typed_kept}

-- ---- In a table that has grown

pub same_kept : (old new : List Node) → Grows old new → (x : Option (Option Typed)) (t : Option Term) → SameTerm old x t → SameTerm new x t
same_kept old new g None None s = tt
same_kept old new g None (Some t) s = absurd s
same_kept old new g (Some None) t s = absurd s
same_kept old new g (Some (Some x)) None s = absurd s
same_kept old new g (Some (Some x)) (Some t) s = typed_kept old new g x t s

named_kept : (old new : List Node) → Grows old new → (n : Option named.Named) (o : Option Operator) (c : Option Constant) (d : Option Definition) → SameNamed old n o c d → SameNamed new n o c d
named_kept old new g (Some (kinds.Operator o)) (Some p) c d s = s
named_kept old new g (Some (kinds.Operator o)) None c d s = absurd s
named_kept old new g (Some (kinds.Constant x)) None (Some c) d s = typed_kept old new g x (apply (constant c) no_terms) s
named_kept old new g (Some (kinds.Constant x)) None None d s = absurd s
named_kept old new g (Some (kinds.Constant x)) (Some p) c d s = absurd s
named_kept old new g (Some (kinds.Definition e)) None None (Some d) s =
    record { parameters = s.parameters; body = typed_kept old new g e.body d.body s.body }
named_kept old new g (Some (kinds.Definition e)) None None None s = absurd s
named_kept old new g (Some (kinds.Definition e)) None (Some c) d s = absurd s
named_kept old new g (Some (kinds.Definition e)) (Some p) c d s = absurd s
named_kept old new g None None None None s = tt
named_kept old new g None None None (Some d) s = absurd s
named_kept old new g None None (Some c) d s = absurd s
named_kept old new g None (Some p) c d s = absurd s

pub scope_kept : (old new : List Node) → Grows old new → (names : List (List ℕ × named.Named)) (frames : List (List (List ℕ × Option Typed))) (sc : Scope)
    → IsScope old names frames sc → IsScope new names frames sc
scope_kept old new g names frames sc s =
    record {
      bound = λ name. same_kept old new g (bound_by frames name) (listed sc.bound name) (s.bound name);
      live = λ name. named_kept old new g (named_by names name) (operator_named name) (constant_named sc.constants name) (definition_named sc.definitions name) (s.live name);
      fits = s.fits;
    }

-- ---- What a name stands for

pub same_none : (ns : List Node) (o : Option Term) → SameTerm ns None o → o ≡ None
same_none ns None s = refl
same_none ns (Some t) s = absurd s

pub bound_none : (ns : List Node) (names : List (List ℕ × named.Named)) (frames : List (List (List ℕ × Option Typed))) (sc : Scope) (name : List ℕ)
    → IsScope ns names frames sc → bound_by frames name ≡ None → listed sc.bound name ≡ None
bound_none ns names frames sc name s e = same_none ns (listed sc.bound name) (subst (λ o. SameTerm ns o (listed sc.bound name)) e (s.bound name))

-- a live name is that of an operator
pub same_operator : (ns : List Node) (o : operators.Operator) (p : Option Operator) (c : Option Constant) (d : Option Definition) → SameNamed ns (Some (kinds.Operator o)) p c d
    → p ≡ Some (operator_meaning o)
same_operator ns o None c d s = absurd s
same_operator ns o (Some p) c d s = ap Some (sym s)

-- a live name is that of a definition
pub record IsDefinition (ns : List Node) (o : Option Operator) (c : Option Constant) (d : Option Definition) (e : code.Definition) : Type 0 where
  pub found : Definition
  pub is : d ≡ Some found
  pub unnamed : o ≡ None
  pub other : c ≡ None
  pub defined : IsDefined ns e found

pub same_definition : (ns : List Node) (e : code.Definition) (o : Option Operator) (c : Option Constant) (d : Option Definition) → SameNamed ns (Some (kinds.Definition e)) o c d
    → IsDefinition ns o c d e
same_definition ns e None None (Some d) s = record { found = d; is = refl; unnamed = refl; other = refl; defined = s }
same_definition ns e None None None s = absurd s
same_definition ns e None (Some c) d s = absurd s
same_definition ns e (Some p) c d s = absurd s

-- what holds of each definition holds of the one of a name
pub named_fits : (ds : List Definition) (name : List ℕ) (d : Definition) → AllByRecursion (λ (e : Definition). RootFits e.parameters e.body) ds
    → definition_named ds name ≡ Some d → RootFits d.parameters d.body
named_fits [] name d a e = cc
named_fits (f ∷ fs) name d a e =
    (elim (bytes_eq f.name name) as (λ b. cond b (Some f) (definition_named fs name) ≡ Some d → RootFits d.parameters d.body) [
      | true ↦ λ h. (let same : f ≡ d = cc in subst (λ (x : Definition). RootFits x.parameters x.body) same a.0)
      | false ↦ λ h. named_fits fs name d a.1 h
    ]) e

-- ---- Frames, one within another

first_none : (x : Option (Option Typed)) → first_of x None ≡ x
first_none None = refl
first_none (Some x) = refl

first_assoc : (x y z : Option (Option Typed)) → first_of (first_of x y) z ≡ first_of x (first_of y z)
first_assoc None y z = refl
first_assoc (Some x) y z = refl

-- the innermost frame is looked at first
pub bound_inner : (frames : List (List (List ℕ × Option Typed))) (frame : List (List ℕ × Option Typed)) (name : List ℕ)
    → bound_by (frames ++ frame ∷ []) name ≡ first_of (bound_in frame name) (bound_by frames name)
bound_inner [] frame name = sym (first_none (bound_in frame name))
bound_inner (f ∷ fs) frame name =
    ap (λ o. first_of o (bound_in f name)) (bound_inner fs frame name) ∙ first_assoc (bound_in frame name) (bound_by fs name) (bound_in f name)

-- the first of two, where it is there
abbrev pub first_term : Option Term → Option Term → Option Term
first_term (Some t) u = Some t
first_term None u = u

pub listed_append : (ps qs : List (List ℕ × Term)) (name : List ℕ) → listed (ps ++ qs) name ≡ first_term (listed ps name) (listed qs name)
listed_append [] qs name = refl
listed_append (p ∷ ps) qs name =
    elim (bytes_eq name p.0) as (λ b. cond b (Some p.1) (listed (ps ++ qs) name) ≡ first_term (cond b (Some p.1) (listed ps name)) (listed qs name)) [
      | true ↦ refl
      | false ↦ listed_append ps qs name
    ]

pub same_first : (ns : List Node) (x y : Option (Option Typed)) (t u : Option Term) → SameTerm ns x t → SameTerm ns y u → SameTerm ns (first_of x y) (first_term t u)
same_first ns None y None u s r = r
same_first ns None y (Some t) u s r = absurd s
same_first ns (Some None) y t u s r = absurd s
same_first ns (Some (Some x)) y None u s r = absurd s
same_first ns (Some (Some x)) y (Some t) u s r = s

-- the scope of what a frame binds
pub scope_within : (ns : List Node) (names : List (List ℕ × named.Named)) (frames : List (List (List ℕ × Option Typed))) (sc : Scope) (frame : List (List ℕ × Option Typed))
    (ps : List (List ℕ × Term)) → IsScope ns names frames sc → ((name : List ℕ) → SameTerm ns (bound_in frame name) (listed ps name))
    → IsScope ns names (frames ++ frame ∷ []) (binding sc ps)
scope_within ns names frames sc frame ps s same =
    record {
      bound = λ name.
          subst (λ o. SameTerm ns o (listed (ps ++ sc.bound) name)) (sym (bound_inner frames frame name))
          (subst (λ o. SameTerm ns (first_of (bound_in frame name) (bound_by frames name)) o) (sym (listed_append ps sc.bound name))
          (same_first ns (bound_in frame name) (bound_by frames name) (listed ps name) (listed sc.bound name) (same name) (s.bound name)));
      live = s.live;
      fits = s.fits;
    }
