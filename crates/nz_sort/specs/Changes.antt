-- What is added to what stands, and what comes of a command.
use Rattle.std.specs.Prelude.{◌≡◌, ℕ, zero, suc, ◌||◌, ◌+◌, Bool, false, List, [], ◌∷◌, ◌++◌, length, take, Option, Some, None, slice_get, ◌⊎◌, Result, OnErr, IfOk, IfErr, IfSome}
use Rattle.nz_script.specs.text.Tree.{Tree}
use Rattle.nz_spec.specs.terms.Term.{Sort, is_int_sort, Constant, constant, Term, Terms, apply, no_terms}
use Rattle.nz_spec.specs.terms.Normal.{normal_of}
use Rattle.nz_spec.specs.terms.Table.{Node, term_in, IsTable}
use Rattle.nz_spec.specs.terms.Definitions.{Definition as SpecDefinition, RootFits}
use Rattle.nz_script.specs.commands.Request.{Question, Request, other_request}
use Rattle.nz_script.specs.live.Live.{State}
use Rattle.nz_script.specs.commands.Command.{define, assert_term, get_value, Outcome, accepted, refused}
use Rattle.nz_script.specs.commands.Script.{asked_of, outcome_requested}
use Rattle.nz_spec.specs.outside.Error.{bad_syntax}
use Rattle.nz_base.specs.declared.reply_errors.Error.{Error}
use Rattle.nz_term.specs.Constants.{sort_of}
use Rattle.nz_elaborate.specs.declared.typed.Typed.{Typed}
use Rattle.nz_elaborate.specs.declared.names.Definition.{Definition}
use Rattle.nz_elaborate.specs.declared.names.Named.TheVariants as kinds
use Rattle.nz_elaborate.specs.Names.{IsDefined}
use Rattle.nz_elaborate.specs.Typed.{StandsFor, AreTyped}
use Rattle.nz_sort.specs.declared.acts.Act.{Act}
use Rattle.nz_sort.specs.Acts.{asked, rule_of}
use Rattle.nz_sort.specs.Layers.{Layer, empty_layer}
use Rattle.nz_sort.specs.Live.{Standing, IsLive, Leaves, IfSkipped, Moves, asserted_by}

-- ---- What comes of a command

-- What comes of a command that is written so, over what stood before, where this becomes of it: what it leaves and asks, or the
-- rule that it breaks; and what stays.
pub record Comes (old new : List Node) (before after : Standing) (r : Request) (becomes : State → Outcome) (result : Result Act Error) : Type 0 where
  pub accepted : IfOk result (λ act. (s : State) → IsLive old before s → Leaves s r (becomes s) (asked act) new after)
  pub refused : IfErr result (λ refusal. IfSome (rule_of refusal) (λ e. (s : State) → IsLive old before s → becomes s ≡ refused e))
  pub kept : take (length old) new ≡ old
  pub unchanged : OnErr result (after ≡ before)
  pub skipped_terms : IfOk result (λ act. IfSkipped (asked act) (new ≡ old))
  pub skipped : IfOk result (λ act. IfSkipped (asked act) (after ≡ before))
  pub moves : IfOk result (λ act. Moves (asked act) (asserted_by before) (asserted_by after))

-- What comes of a tree that is this command, or none.
abbrev pub ComesBy : List Node → List Node → Standing → Standing → Tree → Option Request → Result Act Error → Type 0
ComesBy old new before after t (Some r) result = Comes old new before after r (λ s. outcome_requested s t r) result
ComesBy old new before after t None result = Comes old new before after other_request (λ s. refused bad_syntax) result

-- ---- Definitions, assertions and values

-- A definition of this name is accepted, and this is it; its body is no parameter, or one that fits.
pub record Defines (name : List ℕ) (outcome : Outcome) (ns : List Node) (d : Definition) : Type 0 where
  pub definition : SpecDefinition
  pub is : outcome ≡ accepted (define definition)
  pub named : definition.name ≡ name
  pub defined : IsDefined ns d definition
  pub fits : RootFits definition.parameters definition.body

-- The assertion of a term is accepted, and this is the number of its normal one.
pub record Asserts (outcome : Outcome) (ns : List Node) (id : ℕ) : Type 0 where
  pub term : Term
  pub is : outcome ≡ accepted (assert_term term)
  pub stands : StandsFor ns id (normal_of term)

-- To ask for the values of these terms is accepted, and these are they.
pub record Shows (qs : List Question) (outcome : Outcome) (ns : List Node) (xs : List Typed) : Type 0 where
  pub terms : Terms
  pub is : outcome ≡ accepted (get_value (asked_of qs terms))
  pub typed : AreTyped ns xs terms

-- ---- What is added

abbrev pub constant_of : List ℕ → Sort → Constant
constant_of name sort = record { name = name; sort = sort }

-- a level with a constant more, of this number in the order of acceptance
abbrev pub layer_with_constant : Layer → ℕ → Typed → Layer
layer_with_constant layer number term =
    record layer {
      constants = layer.constants ++ record { number = number; term = term.id } ∷ [];
      accepted = layer.accepted ++ term.id ∷ [];
      constant_count = layer.constant_count + 1;
      holds_integers = layer.holds_integers || is_int_sort (sort_of term.sort);
    }

-- a level with an assertion more
abbrev pub layer_with_assertion : Layer → ℕ → ℕ → Bool → Layer
layer_with_assertion layer number id holds =
    record layer {
      assertions = layer.assertions ++ record { number = number; term = id } ∷ [];
      accepted = layer.accepted ++ id ∷ [];
      holds_integers = layer.holds_integers || holds;
    }

-- what stands with a constant more
abbrev pub with_constant : Standing → List ℕ → Typed → Standing
with_constant before name term =
    record before {
      names = before.names ++ (name, kinds.Constant term) ∷ [];
      top = layer_with_constant before.top before.next term;
      next = before.next + 1;
    }

-- what stands with a definition more
abbrev pub with_definition : Standing → List ℕ → Definition → Standing
with_definition before name definition =
    record before {
      names = before.names ++ (name, kinds.Definition definition) ∷ [];
      next = before.next + 1;
    }

-- what stands with an assertion more
abbrev pub with_assertion : Standing → ℕ → Bool → Standing
with_assertion before id holds =
    record before {
      top = layer_with_assertion before.top before.next id holds;
      next = before.next + 1;
    }

-- the level that is begun above what stands
abbrev pub fresh_layer : Standing → Layer
fresh_layer before = empty_layer (length before.names) before.top.constant_count before.top.holds_integers

-- what stands with a level more, in which nothing is accepted yet
abbrev pub with_level : Standing → Standing
with_level before = record before { below = before.below ++ before.top ∷ []; top = fresh_layer before }

abbrev pub with_levels : ℕ → Standing → Standing
with_levels zero before = before
with_levels (suc n) before = with_level (with_levels n before)

-- what stands without the newest level, where another is below it; here that is this one, and these are below
abbrev pub Drops : Standing → Standing → Type 0
Drops before after = (before.below ≡ after.below ++ after.top ∷ []) × (after.names ≡ take before.top.names_before before.names) × (after.next ≡ before.next)

-- so, one level after another, so many
abbrev pub DropsMany : ℕ → Standing → Standing → Type 0
DropsMany zero before after = after ≡ before
DropsMany (suc n) before after = (mid : Standing) × Drops before mid × DropsMany n mid after

-- No level is left but one, in which nothing is accepted, and no name but those below the first level; the items are numbered anew.
pub record IsCleared (before after : Standing) : Type 0 where
  pub last : Standing
  pub dropped : DropsMany (length before.below) before last
  pub names : after.names ≡ take last.top.names_before last.names
  pub top : after.top ≡ empty_layer (length after.names) 0 false
  pub below : after.below ≡ []
  pub next : after.next ≡ 0

-- The table and what stands have this constant more.
pub record HasAdded (name : List ℕ) (sort : Sort) (old new : List Node) (before after : Standing) : Type 0 where
  pub added : Typed
  pub stands : after ≡ with_constant before name added
  pub sorted : sort_of added.sort ≡ sort
  pub node : slice_get new added.id ≡ Some (record { head = constant (constant_of name sort); kids = [] })
  pub grown : (new ≡ old) ⊎ (new ≡ old ++ record { head = constant (constant_of name sort); kids = [] } ∷ [])
  pub term : term_in new added.id ≡ apply (constant (constant_of name sort)) no_terms
  pub table : IsTable new
