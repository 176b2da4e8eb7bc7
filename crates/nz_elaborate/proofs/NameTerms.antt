-- Lemmas of what names stand for, alone and over arguments.
use Rattle.std.proofs.Common.{[], ◌≡◌, ℕ, true, false, List, Option, None, Some, Result, Ok, Err, IfOk, option_and_then, is_some, refl, sym, ap, ◌∙◌, subst}
use Rattle.std.specs.Prelude.{IsErrOf}
use Rattle.nz_spec.specs.terms.Term.{Constant, constant, Term, apply, Terms, no_terms}
use Rattle.nz_spec.specs.terms.Table.{Node}
use Rattle.nz_spec.specs.terms.Operators.{Operator, applied}
use Rattle.nz_script.specs.commands.Elaboration.{operator_named, listed, constant_named, definition_named, Scope, name_term, application}
use Rattle.nz_spec.specs.terms.Definitions.{Definition, RootFits, expansion}
use Rattle.nz_elaborate.specs.declared.typed.Typed.{Typed}
use Rattle.nz_elaborate.specs.declared.typed.ApplyError.{ApplyError}
use Rattle.nz_elaborate.specs.declared.typed.ApplyError.TheVariants as errors
use Rattle.nz_elaborate.specs.declared.operators.Operator as operators
use Rattle.nz_elaborate.specs.declared.faults.Found.{Found}
use Rattle.nz_elaborate.specs.declared.names.Definition as code
use Rattle.nz_elaborate.specs.declared.names.Named as named
use Rattle.nz_elaborate.specs.declared.names.Named.TheVariants as kinds
use Rattle.nz_elaborate.specs.Operators.{operator_meaning}
use Rattle.nz_elaborate.specs.Typed.{AreTyped, HasApplied}
use Rattle.nz_elaborate.specs.Names.{named_by, bound_by, SameNamed, IsDefined, IsScope}
use Rattle.nz_elaborate.specs.Elaborate.{StandsAs}
use Rattle.nz_elaborate.specs.Faults.{IsAppliedAs, IsFound}
use Rattle.nz_elaborate.proofs.ScopeTerms.{bound_none, named_fits, same_operator, IsDefinition, same_definition}

-- ---- What is found where arguments are taken, or aren't

-- an operator over arguments
pub operator_found : (old new : List Node) (r : Result Typed ApplyError) (f : Found) (o : Operator) (xs : List Typed) (ts : Terms)
    → IfOk r (λ x. (us : Terms) → AreTyped old xs us → HasApplied o us new x) → (IsErrOf r errors.Sort → (us : Terms) → AreTyped old xs us → applied o us ≡ None)
    → IsAppliedAs r f → AreTyped old xs ts → IsFound f (applied o ts) new
operator_found old new (Ok x) f o xs ts h none a p =
    (let made : HasApplied o ts new x = h ts p in
    subst (λ g. IsFound g (applied o ts) new) (sym a) (record { term = made.term; is = made.is; typed = made.typed }))
operator_found old new (Err errors.Sort) f o xs ts h none a p = subst (λ g. IsFound g (applied o ts) new) (sym a) (none refl ts p)
operator_found old new (Err errors.Memory) f o xs ts h none a p = absurd a

-- a use of a definition
pub use_found : (old new : List Node) (r : Result Typed ApplyError) (f : Found) (d : code.Definition) (e : Definition) (xs : List Typed) (ts : Terms)
    → IfOk r (λ x. (e : Definition) → IsDefined old d e → RootFits e.parameters e.body → (us : Terms) → AreTyped old xs us → StandsAs (expansion e us) new x)
    → (IsErrOf r errors.Sort → (e : Definition) → IsDefined old d e → (us : Terms) → AreTyped old xs us → expansion e us ≡ None)
    → IsAppliedAs r f → IsDefined old d e → RootFits e.parameters e.body → AreTyped old xs ts → IsFound f (expansion e ts) new
use_found old new (Ok x) f d e xs ts h none a is fits p = subst (λ g. IsFound g (expansion e ts) new) (sym a) (h e is fits ts p)
use_found old new (Err errors.Sort) f d e xs ts h none a is fits p = subst (λ g. IsFound g (expansion e ts) new) (sym a) (none refl e is ts p)
use_found old new (Err errors.Memory) f d e xs ts h none a is fits p = absurd a

-- ---- A name alone

-- the term of a name by what it is bound to, and by the operator, the constant and the definition of that name
abbrev name_by : Option Term → Option Operator → Option Constant → Option Definition → Option Term
name_by b o c d =
    elim b [
      | Some t ↦ Some t
      | None ↦ (elim o [
        | Some p ↦ applied p no_terms
        | None ↦ (elim c [
          | Some k ↦ Some (apply (constant k) no_terms)
          | None ↦ option_and_then (λ e. expansion e no_terms) d
        ])
      ])
    ]

name_parts : (sc : Scope) (name : List ℕ) (b : Option Term) (o : Option Operator) (c : Option Constant) (d : Option Definition)
    → listed sc.bound name ≡ b → operator_named name ≡ o → constant_named sc.constants name ≡ c → definition_named sc.definitions name ≡ d
    → name_term sc name ≡ name_by b o c d
name_parts sc name b o c d is_bound is_operator is_constant is_definition =
    ap (λ x. name_by x (operator_named name) (constant_named sc.constants name) (definition_named sc.definitions name)) is_bound
    ∙ ap (λ x. name_by b x (constant_named sc.constants name) (definition_named sc.definitions name)) is_operator
    ∙ ap (λ x. name_by b o x (definition_named sc.definitions name)) is_constant
    ∙ ap (name_by b o c) is_definition

-- what is found of a name in a table that has grown
abbrev pub FindsName : List Node → List (List ℕ × named.Named) → List (List (List ℕ × Option Typed)) → List ℕ → List Node → Found → Type 0
FindsName old entries frames name new f = (sc : Scope) → IsScope old entries frames sc → IsFound f (name_term sc name) new

-- the live name in a scope
live_is : (ns : List Node) (entries : List (List ℕ × named.Named)) (frames : List (List (List ℕ × Option Typed))) (sc : Scope) (name : List ℕ) (n : named.Named) → IsScope ns entries frames sc
    → named_by entries name ≡ Some n → SameNamed ns (Some n) (operator_named name) (constant_named sc.constants name) (definition_named sc.definitions name)
live_is ns entries frames sc name n s e =
    subst (λ o. SameNamed ns o (operator_named name) (constant_named sc.constants name) (definition_named sc.definitions name)) e (s.live name)

pub finds_operator : (old new : List Node) (entries : List (List ℕ × named.Named)) (frames : List (List (List ℕ × Option Typed))) (name : List ℕ) (o : operators.Operator) (r : Result Typed ApplyError)
    → bound_by frames name ≡ None → named_by entries name ≡ Some (kinds.Operator o)
    → IfOk r (λ x. (us : Terms) → AreTyped old [] us → HasApplied (operator_meaning o) us new x)
    → (IsErrOf r errors.Sort → (us : Terms) → AreTyped old [] us → applied (operator_meaning o) us ≡ None)
    → (f : Found) → IsAppliedAs r f → FindsName old entries frames name new f
finds_operator old new entries frames name o r free e h none f a sc s =
    (let named = same_operator old o _ _ _ (live_is old entries frames sc name (kinds.Operator o) s e) in
    subst (λ p. IsFound f p new) (sym (name_parts sc name None (Some (operator_meaning o)) _ _ (bound_none old entries frames sc name s free) named refl refl))
    (operator_found old new r f (operator_meaning o) [] no_terms h none a tt))

pub finds_definition : (old new : List Node) (entries : List (List ℕ × named.Named)) (frames : List (List (List ℕ × Option Typed))) (name : List ℕ) (d : code.Definition) (r : Result Typed ApplyError)
    → bound_by frames name ≡ None → named_by entries name ≡ Some (kinds.Definition d)
    → IfOk r (λ x. (e : Definition) → IsDefined old d e → RootFits e.parameters e.body → (us : Terms) → AreTyped old [] us → StandsAs (expansion e us) new x)
    → (IsErrOf r errors.Sort → (e : Definition) → IsDefined old d e → (us : Terms) → AreTyped old [] us → expansion e us ≡ None)
    → (f : Found) → IsAppliedAs r f → FindsName old entries frames name new f
finds_definition old new entries frames name d r free e h none f a sc s =
    (let here : IsDefinition old (operator_named name) (constant_named sc.constants name) (definition_named sc.definitions name) d =
    same_definition old d _ _ _ (live_is old entries frames sc name (kinds.Definition d) s e) in
    subst (λ p. IsFound f p new) (sym (name_parts sc name None None None (Some here.found) (bound_none old entries frames sc name s free) here.unnamed here.other here.is))
    (use_found old new r f d here.found [] no_terms h none a here.defined (named_fits sc.definitions name here.found s.fits here.is) tt))

-- ---- A name over arguments

pub not_bound : (o : Option (Option Typed)) → is_some o ≡ false → o ≡ None
not_bound None e = refl
not_bound (Some x) e = cc

-- what is found of a name over arguments in a table that has grown
abbrev pub FindsUse : List Node → List (List ℕ × named.Named) → List (List (List ℕ × Option Typed)) → List ℕ → List Typed → List Node → Found → Type 0
FindsUse old entries frames name xs new f = (sc : Scope) → IsScope old entries frames sc → (ts : Terms) → AreTyped old xs ts → IsFound f (application sc name ts) new

application_free : (sc : Scope) (name : List ℕ) (o : Option Operator) (c : Option Constant) (ts : Terms) → listed sc.bound name ≡ None → operator_named name ≡ o → constant_named sc.constants name ≡ c
    → application sc name ts ≡ elim o [ Some p ↦ applied p ts | None ↦ (elim (is_some c) [ true ↦ None | false ↦ option_and_then (λ d. expansion d ts) (definition_named sc.definitions name) ]) ]
application_free sc name None None ts free e f = rw (free, e, f) refl
application_free sc name None (Some c) ts free e f = rw (free, e, f) refl
application_free sc name (Some p) c ts free e f = rw (free, e) refl

pub uses_operator : (old new : List Node) (entries : List (List ℕ × named.Named)) (frames : List (List (List ℕ × Option Typed))) (name : List ℕ) (xs : List Typed) (o : operators.Operator) (r : Result Typed ApplyError)
    → bound_by frames name ≡ None → named_by entries name ≡ Some (kinds.Operator o)
    → IfOk r (λ x. (us : Terms) → AreTyped old xs us → HasApplied (operator_meaning o) us new x)
    → (IsErrOf r errors.Sort → (us : Terms) → AreTyped old xs us → applied (operator_meaning o) us ≡ None)
    → (f : Found) → IsAppliedAs r f → FindsUse old entries frames name xs new f
uses_operator old new entries frames name xs o r free e h none f a sc s ts p =
    (let named = same_operator old o _ _ _ (live_is old entries frames sc name (kinds.Operator o) s e) in
    subst (λ q. IsFound f q new) (sym (application_free sc name (Some (operator_meaning o)) _ ts (bound_none old entries frames sc name s free) named refl))
    (operator_found old new r f (operator_meaning o) xs ts h none a p))

pub uses_definition : (old new : List Node) (entries : List (List ℕ × named.Named)) (frames : List (List (List ℕ × Option Typed))) (name : List ℕ) (xs : List Typed) (d : code.Definition) (r : Result Typed ApplyError)
    → bound_by frames name ≡ None → named_by entries name ≡ Some (kinds.Definition d)
    → IfOk r (λ x. (e : Definition) → IsDefined old d e → RootFits e.parameters e.body → (us : Terms) → AreTyped old xs us → StandsAs (expansion e us) new x)
    → (IsErrOf r errors.Sort → (e : Definition) → IsDefined old d e → (us : Terms) → AreTyped old xs us → expansion e us ≡ None)
    → (f : Found) → IsAppliedAs r f → FindsUse old entries frames name xs new f
uses_definition old new entries frames name xs d r free e h none f a sc s ts p =
    (let here : IsDefinition old (operator_named name) (constant_named sc.constants name) (definition_named sc.definitions name) d =
    same_definition old d _ _ _ (live_is old entries frames sc name (kinds.Definition d) s e) in
    let shape : application sc name ts ≡ expansion here.found ts =
    application_free sc name None None ts (bound_none old entries frames sc name s free) here.unnamed here.other ∙ ap (option_and_then (λ d. expansion d ts)) here.is in
    subst (λ q. IsFound f q new) (sym shape) (use_found old new r f d here.found xs ts h none a here.defined (named_fits sc.definitions name here.found s.fits here.is) p))
