-- Lemmas of the names that are live and bound, and of names that clash.
use Rattle.std.proofs.Common.{[], ◌≡◌, ℕ, ◌||◌, Bool, true, false, List, ◌∷◌, ◌++◌, Option, Some, None, IfSome, bytes_eq, cond, is_some, refl, subst, sym, ap, ◌∙◌, arith}
use Rattle.std.proofs.lemmas.List.Folds.{list_any-append}
use Rattle.std.specs.Cmp.Lexicographic.{nat_list_eq_equiv}
use Rattle.nz_script.specs.commands.Parse.{is_one_of}
use Rattle.nz_script.specs.commands.Scoping.{clash}
use Rattle.nz_spec.specs.terms.Term.{Constant}
use Rattle.nz_spec.specs.terms.Table.{Node}
use Rattle.nz_spec.specs.terms.Operators.{Operator}
use Rattle.nz_script.specs.commands.Elaboration.{is_operator, operator_named, is_declared, constant_named, definition_named, Scope}
use Rattle.nz_spec.specs.terms.Definitions.{Definition}
use Rattle.nz_elaborate.specs.declared.typed.Typed.{Typed}
use Rattle.nz_elaborate.specs.declared.names.Named as named
use Rattle.nz_elaborate.specs.declared.names.Named.TheVariants as kinds
use Rattle.nz_elaborate.specs.declared.faults.Fault.{Fault}
use Rattle.nz_elaborate.specs.declared.faults.Found.{Found}
use Rattle.nz_elaborate.specs.declared.faults.Found.TheVariants as found
use Rattle.nz_elaborate.specs.Typed.{Grows}
use Rattle.nz_elaborate.specs.Names.{named_by, bound_in, bound_by, first_of, is_operator_entry, SameNamed, IsScope, AreWithin, IsNamedWithin, IsBoundWithin, HasOperators, AreNames}
use Rattle.nz_elaborate.specs.Faults.{joined, first_fault, clash_fault, term_in_found, IsFoundWithin, TellsNames}
use Rattle.nz_elaborate.proofs.TableGrowth.{longer}
use Rattle.nz_elaborate.proofs.ScopeTerms.{bound_inner}
use Rattle.nz_elaborate.proofs.FaultOrder.{Leads, leads_next, clash_names}

or_none : (a : Bool) → (a || false) ≡ a
or_none true = refl
or_none false = refl

or_grouped : (a b c : Bool) → ((a || b) || c) ≡ (a || (b || c))
or_grouped true b c = refl
or_grouped false b c = refl

-- ---- Frames

first_some : (x y : Option (Option Typed)) → is_some (first_of x y) ≡ (is_some x || is_some y)
first_some None y = refl
first_some (Some x) y = refl

-- a frame on frames that are as they were
pub pushed : (between frames inner : List (List (List ℕ × Option Typed))) (frame : List (List ℕ × Option Typed)) → between ≡ frames → inner ≡ between ++ frame ∷ [] → inner ≡ frames ++ frame ∷ []
pushed between frames inner frame same e = e ∙ ap (λ l. l ++ frame ∷ []) same

-- the names of a frame more
names_more : (entries : List (List ℕ × named.Named)) (frames : List (List (List ℕ × Option Typed))) (frame : List (List ℕ × Option Typed)) (is_live : List ℕ → Bool) (bound names : List (List ℕ))
    → AreNames entries frames is_live bound → ((name : List ℕ) → is_some (bound_in frame name) ≡ is_one_of names name) → AreNames entries (frames ++ frame ∷ []) is_live (names ++ bound)
names_more entries frames frame is_live bound names k same =
    record {
      live = k.live;
      operators = k.operators;
      framed = λ name.
          ap is_some (bound_inner frames frame name) ∙ first_some (bound_in frame name) (bound_by frames name) ∙ ap (λ b. b || is_some (bound_by frames name)) (same name)
          ∙ ap (λ b. is_one_of names name || b) (k.framed name) ∙ sym (list_any-append (bytes_eq name) names bound);
    }

pub names_push : (entries : List (List ℕ × named.Named)) (frames inner : List (List (List ℕ × Option Typed))) (frame : List (List ℕ × Option Typed)) (is_live : List ℕ → Bool) (bound names : List (List ℕ))
    → inner ≡ frames ++ frame ∷ [] → AreNames entries frames is_live bound → ((name : List ℕ) → is_some (bound_in frame name) ≡ is_one_of names name)
    → AreNames entries inner is_live (names ++ bound)
names_push entries frames inner frame is_live bound names e k same =
    subst (λ l. AreNames entries l is_live (names ++ bound)) (sym e) (names_more entries frames frame is_live bound names k same)

-- ---- Numbers within the table

first_within : (ns : List Node) (x y : Option (Option Typed)) → IfSome x (IsBoundWithin ns) → IfSome y (IsBoundWithin ns) → IfSome (first_of x y) (IsBoundWithin ns)
first_within ns None y a b = b
first_within ns (Some x) y a b = a

within_more : (ns : List Node) (entries : List (List ℕ × named.Named)) (frames : List (List (List ℕ × Option Typed))) (frame : List (List ℕ × Option Typed)) → AreWithin ns entries frames
    → ((name : List ℕ) → IfSome (bound_in frame name) (IsBoundWithin ns)) → AreWithin ns entries (frames ++ frame ∷ [])
within_more ns entries frames frame w inside =
    record {
      live = w.live;
      bound = λ name. subst (λ o. IfSome o (IsBoundWithin ns)) (sym (bound_inner frames frame name)) (first_within ns (bound_in frame name) (bound_by frames name) (inside name) (w.bound name));
    }

pub within_push : (ns : List Node) (entries : List (List ℕ × named.Named)) (frames inner : List (List (List ℕ × Option Typed))) (frame : List (List ℕ × Option Typed)) → inner ≡ frames ++ frame ∷ []
    → AreWithin ns entries frames → ((name : List ℕ) → IfSome (bound_in frame name) (IsBoundWithin ns)) → AreWithin ns entries inner
within_push ns entries frames inner frame e w inside = subst (AreWithin ns entries) (sym e) (within_more ns entries frames frame w inside)

bound_kept : (old new : List Node) → Grows old new → (x : Option (Option Typed)) → IfSome x (IsBoundWithin old) → IfSome x (IsBoundWithin new)
bound_kept old new g None h = tt
bound_kept old new g (Some None) h = tt
bound_kept old new g (Some (Some x)) h = omega (arith, h, longer old new g)

live_kept : (old new : List Node) → Grows old new → (n : Option named.Named) → IfSome n (IsNamedWithin old) → IfSome n (IsNamedWithin new)
live_kept old new g None h = tt
live_kept old new g (Some (kinds.Operator o)) h = tt
live_kept old new g (Some (kinds.Constant x)) h = omega (arith, h, longer old new g)
live_kept old new g (Some (kinds.Definition d)) h = omega (arith, h, longer old new g)

pub within_kept : (old new : List Node) → Grows old new → (entries : List (List ℕ × named.Named)) (frames : List (List (List ℕ × Option Typed))) → AreWithin old entries frames → AreWithin new entries frames
within_kept old new g entries frames w =
    record { live = λ name. live_kept old new g (named_by entries name) (w.live name); bound = λ name. bound_kept old new g (bound_by frames name) (w.bound name) }

-- in a table that has grown, with frames that are as they were
pub within_here : (start old : List Node) (entries : List (List ℕ × named.Named)) (frames inner : List (List (List ℕ × Option Typed))) → Grows start old → inner ≡ frames
    → AreWithin start entries frames → AreWithin old entries inner
within_here start old entries frames inner g e w = subst (AreWithin old entries) (sym e) (within_kept start old g entries frames w)

one_within : (ns : List Node) (name other : List ℕ) (x : Option Typed) → IsBoundWithin ns x → IfSome (bound_in ((name, x) ∷ []) other) (IsBoundWithin ns)
one_within ns name other x h = elim (bytes_eq other name) as (λ b. IfSome (cond b (Some x) None) (IsBoundWithin ns)) [ true ↦ h | false ↦ tt ]

pub empty_within : (ns : List Node) (frame : List (List ℕ × Option Typed)) → frame ≡ [] → (name : List ℕ) → IfSome (bound_in frame name) (IsBoundWithin ns)
empty_within ns frame e name = subst (λ l. IfSome (bound_in l name) (IsBoundWithin ns)) (sym e) tt

pub found_bound_within : (ns : List Node) (f : Found) → IsFoundWithin ns f → IsBoundWithin ns (term_in_found f)
found_bound_within ns (found.Term x) h = h
found_bound_within ns (found.Fault f) h = tt

-- one name more in a frame
pub frame_within : (old new : List Node) (before after : List (List ℕ × Option Typed)) (name : List ℕ) (x : Option Typed) → Grows old new
    → ((other : List ℕ) → IfSome (bound_in before other) (IsBoundWithin old)) → IsBoundWithin new x
    → ((other : List ℕ) → bound_in after other ≡ first_of (bound_in before other) (bound_in ((name, x) ∷ []) other))
    → (other : List ℕ) → IfSome (bound_in after other) (IsBoundWithin new)
frame_within old new before after name x g w h inserted other =
    subst (λ o. IfSome o (IsBoundWithin new)) (sym (inserted other))
    (first_within new (bound_in before other) (bound_in ((name, x) ∷ []) other) (bound_kept old new g (bound_in before other) (w other)) (one_within new name other x h))

-- ---- The names of a scope

named_within : (ns : List Node) (n : Option named.Named) (o : Option Operator) (c : Option Constant) (d : Option Definition) → SameNamed ns n o c d → IfSome n (IsNamedWithin ns)
named_within ns None o c d s = tt
named_within ns (Some (kinds.Operator o)) p c d s = tt
named_within ns (Some (kinds.Constant x)) None (Some c) d s = s.within
named_within ns (Some (kinds.Constant x)) None None d s = absurd s
named_within ns (Some (kinds.Constant x)) (Some p) c d s = absurd s
named_within ns (Some (kinds.Definition e)) None None (Some d) s = s.body.within
named_within ns (Some (kinds.Definition e)) None None None s = absurd s
named_within ns (Some (kinds.Definition e)) None (Some c) d s = absurd s
named_within ns (Some (kinds.Definition e)) (Some p) c d s = absurd s

pub within_of_scope : (ns : List Node) (entries : List (List ℕ × named.Named)) (sc : Scope) → IsScope ns entries [] sc → AreWithin ns entries []
within_of_scope ns entries sc s =
    record { live = λ name. named_within ns (named_by entries name) (operator_named name) _ _ (s.live name); bound = λ name. tt }

named_live : (ns : List Node) (n : Option named.Named) (o : Option Operator) (c : Option Constant) (d : Option Definition) → SameNamed ns n o c d → is_some n ≡ (is_some o || is_some c || is_some d)
named_live ns (Some (kinds.Operator o)) (Some p) c d s = refl
named_live ns (Some (kinds.Operator o)) None c d s = absurd s
named_live ns (Some (kinds.Constant x)) None (Some c) d s = refl
named_live ns (Some (kinds.Constant x)) None None d s = absurd s
named_live ns (Some (kinds.Constant x)) (Some p) c d s = absurd s
named_live ns (Some (kinds.Definition e)) None None (Some d) s = refl
named_live ns (Some (kinds.Definition e)) None None None s = absurd s
named_live ns (Some (kinds.Definition e)) None (Some c) d s = absurd s
named_live ns (Some (kinds.Definition e)) (Some p) c d s = absurd s
named_live ns None None None None s = refl
named_live ns None None None (Some d) s = absurd s
named_live ns None None (Some c) d s = absurd s
named_live ns None (Some p) c d s = absurd s

named_operator : (ns : List Node) (n : Option named.Named) (o : Option Operator) (c : Option Constant) (d : Option Definition) → SameNamed ns n o c d → is_operator_entry n ≡ is_some o
named_operator ns (Some (kinds.Operator o)) (Some p) c d s = refl
named_operator ns (Some (kinds.Operator o)) None c d s = absurd s
named_operator ns (Some (kinds.Constant x)) None (Some c) d s = refl
named_operator ns (Some (kinds.Constant x)) None None d s = absurd s
named_operator ns (Some (kinds.Constant x)) (Some p) c d s = absurd s
named_operator ns (Some (kinds.Definition e)) None None (Some d) s = refl
named_operator ns (Some (kinds.Definition e)) None None None s = absurd s
named_operator ns (Some (kinds.Definition e)) None (Some c) d s = absurd s
named_operator ns (Some (kinds.Definition e)) (Some p) c d s = absurd s
named_operator ns None None None None s = refl
named_operator ns None None None (Some d) s = absurd s
named_operator ns None None (Some c) d s = absurd s
named_operator ns None (Some p) c d s = absurd s

pub operators_of_scope : (ns : List Node) (entries : List (List ℕ × named.Named)) (frames : List (List (List ℕ × Option Typed))) (sc : Scope) → IsScope ns entries frames sc → HasOperators entries
operators_of_scope ns entries frames sc s name = named_operator ns (named_by entries name) (operator_named name) _ _ (s.live name)

pub names_of_scope : (ns : List Node) (entries : List (List ℕ × named.Named)) (sc : Scope) → IsScope ns entries [] sc → AreNames entries [] (is_declared sc.constants sc.definitions) []
names_of_scope ns entries sc s =
    record {
      live = λ name. named_live ns (named_by entries name) (operator_named name) (constant_named sc.constants name) (definition_named sc.definitions name) (s.live name);
      operators = operators_of_scope ns entries [] sc s;
      framed = λ name. refl;
    }

-- ---- Names that are bound together

abbrev pub is_bound : List (List ℕ × Option Typed) → List ℕ → Bool
is_bound frame name = is_some (bound_in frame name)

is_bound_one : (name other : List ℕ) (x : Option Typed) → is_some (bound_in ((name, x) ∷ []) other) ≡ bytes_eq other name
is_bound_one name other x = elim (bytes_eq other name) as (λ b. is_some (cond b (Some x) None) ≡ b) [ true ↦ refl | false ↦ refl ]

pub bound_more : (before after : List (List ℕ × Option Typed)) (name : List ℕ) (x : Option Typed)
    → ((other : List ℕ) → bound_in after other ≡ first_of (bound_in before other) (bound_in ((name, x) ∷ []) other))
    → (other : List ℕ) → is_bound after other ≡ (is_bound before other || bytes_eq other name)
bound_more before after name x inserted other =
    ap is_some (inserted other) ∙ first_some (bound_in before other) (bound_in ((name, x) ∷ []) other) ∙ ap (λ b. is_bound before other || b) (is_bound_one name other x)

-- the names of the frame, and those that are left, are all
abbrev pub HasNames : List (List ℕ) → List (List ℕ × Option Typed) → List (List ℕ) → Type 0
HasNames all frame rest = (name : List ℕ) → is_one_of all name ≡ (is_bound frame name || is_one_of rest name)

pub has_none : (all : List (List ℕ)) (frame : List (List ℕ × Option Typed)) → frame ≡ [] → HasNames all frame all
has_none all frame e name = sym (ap (λ f. is_bound f name || is_one_of all name) e)

pub has_next : (all rest more : List (List ℕ)) (before after : List (List ℕ × Option Typed)) (name : List ℕ) (x : Option Typed) → rest ≡ name ∷ more
    → ((other : List ℕ) → bound_in after other ≡ first_of (bound_in before other) (bound_in ((name, x) ∷ []) other)) → HasNames all before rest → HasNames all after more
has_next all rest more before after name x e inserted h other =
    h other ∙ ap (λ ns. is_bound before other || is_one_of ns other) e
    ∙ sym (or_grouped (is_bound before other) (bytes_eq other name) (is_one_of more other)) ∙ ap (λ b. b || is_one_of more other) (sym (bound_more before after name x inserted other))

-- ---- Names that clash

-- one of these names meets the test
abbrev pub meets : (List ℕ → Bool) → List (List ℕ) → Bool
meets test [] = false
meets test (name ∷ names) = test name || meets test names

meets_none : (names : List (List ℕ)) → meets (is_bound []) names ≡ false
meets_none [] = refl
meets_none (name ∷ names) = meets_none names

regroup : (a b c d : Bool) → ((a || b) || (c || d)) ≡ ((a || c) || (b || d))
regroup true b c d = refl
regroup false true true d = refl
regroup false true false d = refl
regroup false false c d = refl

meets_more : (test more : List ℕ → Bool) (name : List ℕ) → ((other : List ℕ) → more other ≡ (test other || bytes_eq other name)) → (names : List (List ℕ))
    → meets more names ≡ (meets test names || is_one_of names name)
meets_more test more name h [] = refl
meets_more test more name h (other ∷ names) =
    ap (λ b. b || meets more names) (h other ∙ ap (λ b. test other || b) (nat_list_eq_equiv.symm other name))
    ∙ ap (λ b. (test other || bytes_eq name other) || b) (meets_more test more name h names)
    ∙ regroup (test other) (bytes_eq name other) (meets test names) (is_one_of names name)

settle : (t met op one clashing here later : Bool)
    → (((t || met) || ((op || one) || clashing)) || (here || later)) ≡ ((op || t) || (here || (((met || one) || clashing) || later)))
settle true met true one clashing here later = refl
settle true met false one clashing here later = refl
settle false true true one clashing here later = refl
settle false true false one clashing true later = refl
settle false true false one clashing false later = refl
settle false false true one clashing here later = refl
settle false false false true clashing true later = refl
settle false false false true clashing false later = refl
settle false false false false true true later = refl
settle false false false false true false later = refl
settle false false false false false here later = refl

-- what is told so far, and what is told of the names and the terms that are left, is the whole
abbrev pub BindLeads : Option Fault → List (List ℕ × Option Typed) → List (List ℕ) → Bool → Bool → Bool → Bool → Type 0
BindLeads f frame names unknown clashing = Leads f unknown ((meets (is_bound frame) names || clash names) || clashing)

pub leads_start : (f : Option Fault) (frame : List (List ℕ × Option Typed)) (names : List (List ℕ)) (unknown clashing : Bool) → f ≡ None → frame ≡ []
    → BindLeads f frame names unknown clashing unknown (clash names || clashing)
leads_start f frame names unknown clashing none e =
    subst (λ g. BindLeads g frame names unknown clashing unknown (clash names || clashing)) (sym none)
    (subst (λ l. BindLeads None l names unknown clashing unknown (clash names || clashing)) (sym e)
    (ap (λ b. first_fault unknown ((b || clash names) || clashing)) (meets_none names)))

pub bind_next : (f g new : Option Fault) (before after : List (List ℕ × Option Typed)) (name : List ℕ) (x : Option Typed) (names : List (List ℕ)) (op u c v d unknown clashing : Bool) → op ≡ is_operator name
    → TellsNames g u c → new ≡ joined (joined f (clash_fault (op || is_bound before name))) g
    → ((other : List ℕ) → bound_in after other ≡ first_of (bound_in before other) (bound_in ((name, x) ∷ []) other))
    → BindLeads f before (name ∷ names) (u || v) (c || d) unknown clashing → BindLeads new after names v d unknown clashing
bind_next f g new before after name x names op u c v d unknown clashing is told made inserted leads =
    let b : Bool = op || is_bound before name in
    let later : Bool = (meets (is_bound after) names || clash names) || d in
    let parts : ((meets (is_bound before) (name ∷ names) || clash (name ∷ names)) || (c || d)) ≡ (b || (c || later)) =
    settle (is_bound before name) (meets (is_bound before) names) (is_operator name) (is_one_of names name) (clash names) c d
    ∙ ap (λ o. (o || is_bound before name) || (c || (((meets (is_bound before) names || is_one_of names name) || clash names) || d))) (sym is)
    ∙ ap (λ m. b || (c || ((m || clash names) || d))) (sym (meets_more (is_bound before) (is_bound after) name (bound_more before after name x inserted) names)) in
    let split : Leads f (u || v) (b || (c || later)) unknown clashing = subst (λ p. Leads f (u || v) p unknown clashing) parts leads in
    leads_next (joined f (clash_fault b)) g new u c v later unknown clashing told made
    (leads_next f (clash_fault b) (joined f (clash_fault b)) false b (u || v) (c || later) unknown clashing (clash_names b) refl split)
