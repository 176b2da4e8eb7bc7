-- Names in scope, as the code keeps them: live names with what they stand for, and frames of bound names, the outermost first.
use Rattle.std.specs.Prelude.{◌≡◌, ℕ, ◌<◌, Bool, true, false, List, [], ◌∷◌, length, map, Option, Some, None, IfSome, is_some, ⊤}
use Rattle.std.specs.Borrow.{Bor}
use Rattle.std.specs.List.{AllByRecursion}
use Rattle.nz_spec.specs.terms.Term.{Constant, constant, Term, apply, no_terms}
use Rattle.nz_spec.specs.terms.Table.{Node}
use Rattle.nz_script.specs.commands.Parse.{is_one_of}
use Rattle.nz_spec.specs.terms.Operators.{Operator}
use Rattle.nz_script.specs.commands.Elaboration.{is_operator, operator_named, listed, constant_named, definition_named, Scope}
use Rattle.nz_spec.specs.terms.Definitions.{RootFits}
use Rattle.nz_spec.specs.terms.Definitions as terms
use Rattle.nz_term.specs.Constants.{sort_of}
use Rattle.nz_elaborate.specs.declared.typed.Typed.{Typed}
use Rattle.nz_elaborate.specs.declared.operators.Operator as operators
use Rattle.nz_elaborate.specs.declared.names.Definition.{Definition}
use Rattle.nz_elaborate.specs.declared.names.Named as code
use Rattle.nz_elaborate.specs.declared.names.Named.TheVariants as kinds
use Rattle.nz_elaborate.specs.Operators.{operator_meaning}
use Rattle.nz_elaborate.specs.Typed.{IsTyped}

-- ---- What the code looks up

-- what is listed first with a name
abbrev pub named_by : List (List ℕ × code.Named) → List ℕ → Option code.Named
named_by entries name = listed entries name

-- a bound name with its term, or with none where its own term has a fault
abbrev pub bound_in : List (List ℕ × Option Typed) → List ℕ → Option (Option Typed)
bound_in entries name = listed entries name

-- an entry of a frame, whose name is borrowed
abbrev pub frame_entry : Bor (List ℕ) × Option Typed → List ℕ × Option Typed
frame_entry e = (e.0.now, e.1)

-- the first of two, where it is there
abbrev pub first_of : Option (Option Typed) → Option (Option Typed) → Option (Option Typed)
first_of (Some x) y = Some x
first_of None y = y

-- what a name is bound to, by the innermost of the frames that has it
abbrev pub bound_by : List (List (List ℕ × Option Typed)) → List ℕ → Option (Option Typed)
bound_by [] name = None
bound_by (frame ∷ frames) name = first_of (bound_by frames name) (bound_in frame name)

abbrev pub is_operator_entry : Option code.Named → Bool
is_operator_entry (Some (kinds.Operator o)) = true
is_operator_entry (Some (kinds.Constant x)) = false
is_operator_entry (Some (kinds.Definition d)) = false
is_operator_entry None = false

-- the entry of an operator of the table
abbrev pub operator_entry : Bor (List ℕ) × operators.Operator → List ℕ × code.Named
operator_entry e = (e.0.now, kinds.Operator e.1)

-- ---- What that is in a scope

-- a definition of the code is this one
pub record IsDefined (ns : List Node) (d : Definition) (e : terms.Definition) : Type 0 where
  pub parameters : map sort_of d.parameters.items ≡ e.parameters
  pub body : IsTyped ns d.body e.body

-- A bound name stands for the same term; one without a term is in no scope.
abbrev pub SameTerm : List Node → Option (Option Typed) → Option Term → Type 0
SameTerm ns (Some (Some x)) (Some t) = IsTyped ns x t
SameTerm ns (Some (Some x)) None = ⊥
SameTerm ns (Some None) t = ⊥
SameTerm ns None None = ⊤
SameTerm ns None (Some t) = ⊥

-- a frame gives each name the term that these pairs give it
abbrev pub AreBoundAs : List Node → List (List ℕ × Option Typed) → List (List ℕ × Term) → Type 0
AreBoundAs ns frame pairs = (name : List ℕ) → SameTerm ns (bound_in frame name) (listed pairs name)

-- a live name stands for the same operator, the same constant or the same definition
abbrev pub SameNamed : List Node → Option code.Named → Option Operator → Option Constant → Option terms.Definition → Type 0
SameNamed ns (Some (kinds.Operator o)) (Some p) c e = operator_meaning o ≡ p
SameNamed ns (Some (kinds.Constant x)) None (Some c) e = IsTyped ns x (apply (constant c) no_terms)
SameNamed ns (Some (kinds.Definition d)) None None (Some e) = IsDefined ns d e
SameNamed ns None None None None = ⊤
SameNamed ns n o c e = ⊥

-- What the names stand for in the table is what they stand for in the scope, whose definitions are no parameters, or ones that fit.
pub record IsScope (ns : List Node) (entries : List (List ℕ × code.Named)) (frames : List (List (List ℕ × Option Typed))) (sc : Scope) : Type 0 where
  pub bound : (name : List ℕ) → SameTerm ns (bound_by frames name) (listed sc.bound name)
  pub live : (name : List ℕ) → SameNamed ns (named_by entries name) (operator_named name) (constant_named sc.constants name) (definition_named sc.definitions name)
  pub fits : AllByRecursion (λ (d : terms.Definition). RootFits d.parameters d.body) sc.definitions

-- the scope of the operators alone
abbrev pub nothing_declared : Scope
nothing_declared = record { constants = []; definitions = []; bound = [] }

-- ---- What is asked of names and frames that may be no scope's

-- what the name stands for is in the table
abbrev pub IsNamedWithin : List Node → code.Named → Type 0
IsNamedWithin ns (kinds.Operator o) = ⊤
IsNamedWithin ns (kinds.Constant x) = x.id < length ns
IsNamedWithin ns (kinds.Definition d) = d.body.id < length ns

abbrev pub IsBoundWithin : List Node → Option Typed → Type 0
IsBoundWithin ns x = IfSome x (λ y. y.id < length ns)

-- All that the names and the frames hold is in the table.
pub record AreWithin (ns : List Node) (entries : List (List ℕ × code.Named)) (frames : List (List (List ℕ × Option Typed))) : Type 0 where
  pub live : (name : List ℕ) → IfSome (named_by entries name) (IsNamedWithin ns)
  pub bound : (name : List ℕ) → IfSome (bound_by frames name) (IsBoundWithin ns)

-- the names of operators stand among the live names for operators, and no others do
abbrev pub HasOperators : List (List ℕ × code.Named) → Type 0
HasOperators entries = (name : List ℕ) → is_operator_entry (named_by entries name) ≡ is_operator name

-- The live names are these, those of operators among them; and the frames bind these names.
pub record AreNames (entries : List (List ℕ × code.Named)) (frames : List (List (List ℕ × Option Typed))) (is_live : List ℕ → Bool) (bound : List (List ℕ)) : Type 0 where
  pub live : (name : List ℕ) → is_some (named_by entries name) ≡ is_live name
  pub operators : HasOperators entries
  pub framed : (name : List ℕ) → is_some (bound_by frames name) ≡ is_one_of bound name
