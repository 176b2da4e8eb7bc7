-- Names and what they stand for, one of them more.
use Rattle.std.proofs.Common.{◌||◌, ◌≡◌, ℕ, List, [], ◌∷◌, ◌++◌, Option, None, Some, is_some, Bool, true, false, cond, bytes_eq, refl, sym, ap, ◌∙◌, length-append, subst, arith}
use Rattle.std.specs.Cmp.Lexicographic.{nat_list_eq_equiv}
use Rattle.std.specs.List.{AllByRecursion}
use Rattle.nz_spec.specs.terms.Term.{Constant, constant, Term, no_terms, apply}
use Rattle.nz_spec.specs.terms.Table.{Node, TermStays}
use Rattle.nz_spec.specs.terms.Operators.{Operator}
use Rattle.nz_spec.specs.terms.Definitions.{Definition, RootFits}
use Rattle.nz_script.specs.commands.Elaboration.{Scope, operator_named, constant_named, definition_named, is_declared, listed}
use Rattle.nz_elaborate.specs.declared.typed.Typed.{Typed}
use Rattle.nz_elaborate.specs.declared.names.Definition as code
use Rattle.nz_elaborate.specs.declared.names.Named as naming
use Rattle.nz_elaborate.specs.declared.names.Named.TheVariants as kinds
use Rattle.nz_elaborate.specs.Names.{named_by, SameNamed, IsDefined, IsScope}
use Rattle.nz_elaborate.specs.Typed.{IsTyped}

-- ---- Live names

named_together : (ns : List Node) (n : Option naming.Named) (o : Option Operator) (c : Option Constant) (d : Option Definition) → SameNamed ns n o c d
    → is_some n ≡ (is_some o || is_some c || is_some d)
named_together ns (Some (kinds.Operator x)) (Some o) c d h = refl
named_together ns (Some (kinds.Operator x)) None c d h = absurd h
named_together ns (Some (kinds.Constant x)) (Some o) c d h = absurd h
named_together ns (Some (kinds.Constant x)) None (Some c) d h = refl
named_together ns (Some (kinds.Constant x)) None None d h = absurd h
named_together ns (Some (kinds.Definition e)) (Some o) c d h = absurd h
named_together ns (Some (kinds.Definition e)) None (Some c) d h = absurd h
named_together ns (Some (kinds.Definition e)) None None (Some d) h = refl
named_together ns (Some (kinds.Definition e)) None None None h = absurd h
named_together ns None (Some o) c d h = absurd h
named_together ns None None (Some c) d h = absurd h
named_together ns None None None (Some d) h = absurd h
named_together ns None None None None h = refl

-- the names that are listed are the live ones
pub are_live : (ns : List Node) (names : List (List ℕ × naming.Named)) (sc : Scope) (name : List ℕ) → IsScope ns names [] sc
    → is_some (named_by names name) ≡ is_declared sc.constants sc.definitions name
are_live ns names sc name h =
    named_together ns (named_by names name) (operator_named name) (constant_named sc.constants name) (definition_named sc.definitions name) (h.live name)

-- ---- Names, where the table grows

typed_stays : TermStays → (ns more : List Node) (x : Typed) (t : Term) → IsTyped ns x t → IsTyped (ns ++ more) x t
typed_stays stays ns more x t h =
    record { within = omega (arith, h.within, length-append ns more); normal = stays ns more x.id h.within ∙ h.normal; sort = h.sort }

same_stays : TermStays → (ns more : List Node) (n : Option naming.Named) (o : Option Operator) (c : Option Constant) (d : Option Definition) → SameNamed ns n o c d
    → SameNamed (ns ++ more) n o c d
same_stays stays ns more (Some (kinds.Operator x)) (Some o) c d h = h
same_stays stays ns more (Some (kinds.Operator x)) None c d h = absurd h
same_stays stays ns more (Some (kinds.Constant x)) (Some o) c d h = absurd h
same_stays stays ns more (Some (kinds.Constant x)) None (Some c) d h = typed_stays stays ns more x (apply (constant c) no_terms) h
same_stays stays ns more (Some (kinds.Constant x)) None None d h = absurd h
same_stays stays ns more (Some (kinds.Definition e)) (Some o) c d h = absurd h
same_stays stays ns more (Some (kinds.Definition e)) None (Some c) d h = absurd h
same_stays stays ns more (Some (kinds.Definition e)) None None (Some d) h = record { parameters = h.parameters; body = typed_stays stays ns more e.body d.body h.body }
same_stays stays ns more (Some (kinds.Definition e)) None None None h = absurd h
same_stays stays ns more None (Some o) c d h = absurd h
same_stays stays ns more None None (Some c) d h = absurd h
same_stays stays ns more None None None (Some d) h = absurd h
same_stays stays ns more None None None None h = tt

pub scope_stays : TermStays → (old new more : List Node) (names : List (List ℕ × naming.Named)) (sc : Scope) → new ≡ old ++ more → IsScope old names [] sc → IsScope new names [] sc
scope_stays stays old new more names sc e h =
    subst (λ ns. IsScope ns names [] sc) (sym e)
    (record {
      bound = h.bound;
      live = λ name. same_stays stays old more (named_by names name) (operator_named name) (constant_named sc.constants name) (definition_named sc.definitions name) (h.live name);
      fits = h.fits;
    })

-- ---- One name more

-- what is listed in a list with one more at the end
abbrev pub or_last : {A : Type 0} → Option A → Bool → A → Option A
or_last (Some x) b y = Some x
or_last None b y = cond b (Some y) None

pub listed_last : {A : Type 0} (ps : List (List ℕ × A)) (name other : List ℕ) (x : A) → listed (ps ++ (name, x) ∷ []) other ≡ or_last (listed ps other) (bytes_eq other name) x
listed_last [] name other x = refl
listed_last (p ∷ ps) name other x =
    elim (bytes_eq other p.0) as (λ b. cond b (Some p.1) (listed (ps ++ (name, x) ∷ []) other) ≡ or_last (cond b (Some p.1) (listed ps other)) (bytes_eq other name) x) [
      | true ↦ refl
      | false ↦ listed_last ps name other x
    ]

constant_last : (cs : List Constant) (c : Constant) (other : List ℕ) → constant_named (cs ++ c ∷ []) other ≡ or_last (constant_named cs other) (bytes_eq c.name other) c
constant_last [] c other = refl
constant_last (e ∷ cs) c other =
    elim (bytes_eq e.name other) as (λ b. cond b (Some e) (constant_named (cs ++ c ∷ []) other) ≡ or_last (cond b (Some e) (constant_named cs other)) (bytes_eq c.name other) c) [
      | true ↦ refl
      | false ↦ constant_last cs c other
    ]

definition_last : (ds : List Definition) (d : Definition) (other : List ℕ) → definition_named (ds ++ d ∷ []) other ≡ or_last (definition_named ds other) (bytes_eq d.name other) d
definition_last [] d other = refl
definition_last (e ∷ ds) d other =
    elim (bytes_eq e.name other) as (λ b. cond b (Some e) (definition_named (ds ++ d ∷ []) other) ≡ or_last (cond b (Some e) (definition_named ds other)) (bytes_eq d.name other) d) [
      | true ↦ refl
      | false ↦ definition_last ds d other
    ]

one_constant_more : (ns : List Node) (n : Option naming.Named) (o : Option Operator) (c : Option Constant) (d : Option Definition) (b : Bool) (x : Typed) (k : Constant) → SameNamed ns n o c d
    → (b ≡ true → n ≡ None) → IsTyped ns x (apply (constant k) no_terms) → SameNamed ns (or_last n b (kinds.Constant x)) o (or_last c b k) d
one_constant_more ns (Some (kinds.Operator y)) (Some o) c d b x k h fresh typed = h
one_constant_more ns (Some (kinds.Operator y)) None c d b x k h fresh typed = absurd h
one_constant_more ns (Some (kinds.Constant y)) (Some o) c d b x k h fresh typed = absurd h
one_constant_more ns (Some (kinds.Constant y)) None (Some c) d b x k h fresh typed = h
one_constant_more ns (Some (kinds.Constant y)) None None d b x k h fresh typed = absurd h
one_constant_more ns (Some (kinds.Definition e)) (Some o) c d b x k h fresh typed = absurd h
one_constant_more ns (Some (kinds.Definition e)) None (Some c) d b x k h fresh typed = absurd h
one_constant_more ns (Some (kinds.Definition e)) None None (Some d) true x k h fresh typed = let no : Some (kinds.Definition e) ≡ None = fresh refl in cc
one_constant_more ns (Some (kinds.Definition e)) None None (Some d) false x k h fresh typed = h
one_constant_more ns (Some (kinds.Definition e)) None None None b x k h fresh typed = absurd h
one_constant_more ns None (Some o) c d b x k h fresh typed = absurd h
one_constant_more ns None None (Some c) d b x k h fresh typed = absurd h
one_constant_more ns None None None (Some d) b x k h fresh typed = absurd h
one_constant_more ns None None None None true x k h fresh typed = typed
one_constant_more ns None None None None false x k h fresh typed = tt

one_definition_more : (ns : List Node) (n : Option naming.Named) (o : Option Operator) (c : Option Constant) (d : Option Definition) (b : Bool) (e : code.Definition) (k : Definition) → SameNamed ns n o c d
    → IsDefined ns e k → SameNamed ns (or_last n b (kinds.Definition e)) o c (or_last d b k)
one_definition_more ns (Some (kinds.Operator x)) (Some o) c d b e k h is = h
one_definition_more ns (Some (kinds.Operator x)) None c d b e k h is = absurd h
one_definition_more ns (Some (kinds.Constant x)) (Some o) c d b e k h is = absurd h
one_definition_more ns (Some (kinds.Constant x)) None (Some c) d b e k h is = h
one_definition_more ns (Some (kinds.Constant x)) None None d b e k h is = absurd h
one_definition_more ns (Some (kinds.Definition f)) (Some o) c d b e k h is = absurd h
one_definition_more ns (Some (kinds.Definition f)) None (Some c) d b e k h is = absurd h
one_definition_more ns (Some (kinds.Definition f)) None None (Some d) b e k h is = h
one_definition_more ns (Some (kinds.Definition f)) None None None b e k h is = absurd h
one_definition_more ns None (Some o) c d b e k h is = absurd h
one_definition_more ns None None (Some c) d b e k h is = absurd h
one_definition_more ns None None None (Some d) b e k h is = absurd h
one_definition_more ns None None None None true e k h is = is
one_definition_more ns None None None None false e k h is = tt

-- a name that is this one has what is listed with this one
same_name : (names : List (List ℕ × naming.Named)) (name other : List ℕ) → named_by names name ≡ None → bytes_eq other name ≡ true → named_by names other ≡ None
same_name [] name other fresh e = refl
same_name (p ∷ ps) name other fresh e =
    let equal : bytes_eq other p.0 ≡ bytes_eq name p.0 = nat_list_eq_equiv.congr other name p.0 e in
    (elim (bytes_eq name p.0) as (λ b. cond b (Some p.1) (named_by ps name) ≡ None → bytes_eq other p.0 ≡ b → cond (bytes_eq other p.0) (Some p.1) (named_by ps other) ≡ None) [
      | true ↦ λ none f. cc
      | false ↦ λ none f. ap (λ b. cond b (Some p.1) (named_by ps other)) f ∙ same_name ps name other none e
    ]) fresh equal

-- the live names alone, none bound
abbrev pub scope_by : List Constant → List Definition → Scope
scope_by cs ds = record { constants = cs; definitions = ds; bound = [] }

-- the scope of other lists that are these
pub scope_as : (ns : List Node) (names : List (List ℕ × naming.Named)) {cs es : List Constant} {ds fs : List Definition} → es ≡ cs → fs ≡ ds → IsScope ns names [] (scope_by cs ds) → IsScope ns names [] (scope_by es fs)
scope_as ns names {cs = cs} {es = es} {ds = ds} {fs = fs} c d h =
    subst (λ l. IsScope ns names [] (scope_by l fs)) (sym c) (subst (λ l. IsScope ns names [] (scope_by cs l)) (sym d) h)

pub scope_with_constant : (ns : List Node) (names : List (List ℕ × naming.Named)) (cs : List Constant) (ds : List Definition) (k : Constant) (x : Typed) → IsScope ns names [] (scope_by cs ds)
    → named_by names k.name ≡ None → IsTyped ns x (apply (constant k) no_terms) → IsScope ns (names ++ (k.name, kinds.Constant x) ∷ []) [] (scope_by (cs ++ k ∷ []) ds)
scope_with_constant ns names cs ds k x h fresh typed =
    record {
      bound = λ other. tt;
      live = λ other.
          let swap : bytes_eq k.name other ≡ bytes_eq other k.name = nat_list_eq_equiv.symm k.name other in
          subst (λ n. SameNamed ns n (operator_named other) (constant_named (cs ++ k ∷ []) other) (definition_named ds other)) (sym (listed_last names k.name other (kinds.Constant x)))
          (subst (λ c. SameNamed ns (or_last (named_by names other) (bytes_eq other k.name) (kinds.Constant x)) (operator_named other) c (definition_named ds other))
          (sym (constant_last cs k other ∙ ap (λ b. or_last (constant_named cs other) b k) swap))
          (one_constant_more ns (named_by names other) (operator_named other) (constant_named cs other) (definition_named ds other) (bytes_eq other k.name) x k (h.live other)
          (λ e. same_name names k.name other fresh e) typed));
      fits = h.fits;
    }

fits_more : (ds : List Definition) (d : Definition) → AllByRecursion (λ (e : Definition). RootFits e.parameters e.body) ds → RootFits d.parameters d.body
    → AllByRecursion (λ (e : Definition). RootFits e.parameters e.body) (ds ++ d ∷ [])
fits_more [] d h f = (f, tt)
fits_more (e ∷ ds) d h f = (h.0, fits_more ds d h.1 f)

pub scope_with_definition : (ns : List Node) (names : List (List ℕ × naming.Named)) (cs : List Constant) (ds : List Definition) (k : Definition) (e : code.Definition)
    → IsScope ns names [] (scope_by cs ds) → IsDefined ns e k → RootFits k.parameters k.body → IsScope ns (names ++ (k.name, kinds.Definition e) ∷ []) [] (scope_by cs (ds ++ k ∷ []))
scope_with_definition ns names cs ds k e h is fits =
    record {
      bound = λ other. tt;
      live = λ other.
          let swap : bytes_eq k.name other ≡ bytes_eq other k.name = nat_list_eq_equiv.symm k.name other in
          subst (λ n. SameNamed ns n (operator_named other) (constant_named cs other) (definition_named (ds ++ k ∷ []) other)) (sym (listed_last names k.name other (kinds.Definition e)))
          (subst (λ d. SameNamed ns (or_last (named_by names other) (bytes_eq other k.name) (kinds.Definition e)) (operator_named other) (constant_named cs other) d)
          (sym (definition_last ds k other ∙ ap (λ b. or_last (definition_named ds other) b k) swap))
          (one_definition_more ns (named_by names other) (operator_named other) (constant_named cs other) (definition_named ds other) (bytes_eq other k.name) e k (h.live other) is));
      fits = fits_more ds k h.fits fits;
    }
