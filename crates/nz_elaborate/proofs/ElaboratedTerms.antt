-- Lemmas of elaboration: terms one after another, bindings one after another, and what stands over them.
use Rattle.std.proofs.Common.{[], ◌≡◌, ℕ, ◌<◌, ◌+◌, Bool, true, false, List, ◌∷◌, ◌++◌, length, map, drop, get_or, Option, None, Some, option_map, option_and_then, bytes_eq, cond, if◌then◌else◌, All, arith, refl, subst, sym, ap, ◌∙◌, append_assoc, append-nil}
use Rattle.std.proofs.lemmas.List.{at_drop_more}
use Rattle.std.proofs.lemmas.List.Elements.{All-nil, All-push, All-weaker}
use Rattle.nz_command.specs.declared.expression.Local as local
use Rattle.nz_command.specs.declared.command.Question as question
use Rattle.nz_command.specs.Requests.{question_view}
use Rattle.nz_script.specs.commands.Script.{asked_expressions}
use Rattle.nz_command.specs.View.{view, local_view, seen_locals, expressions_from, locals_from}
use Rattle.nz_script.specs.commands.Expression.{Numeric, numeric_head, Expression, written_let, Expressions, expressions, Locals, no_locals, locals}
use Rattle.nz_spec.specs.terms.Term.{Head, head_fits, Term, apply, Terms, no_terms, terms}
use Rattle.nz_spec.specs.terms.Table.{Node}
use Rattle.nz_script.specs.commands.Elaboration.{Scope, binding, listed, term_of, terms_of, bindings_of, bound_onto, application, number_term}
use Rattle.nz_spec.specs.terms.Definitions.{terms_onto}
use Rattle.nz_elaborate.specs.declared.typed.Typed.{Typed}
use Rattle.nz_elaborate.specs.declared.names.Named as named
use Rattle.nz_elaborate.specs.declared.faults.Fault.{Fault}
use Rattle.nz_elaborate.specs.declared.faults.Fault.TheVariants as faults
use Rattle.nz_elaborate.specs.declared.faults.Found.{Found}
use Rattle.nz_elaborate.specs.declared.faults.Found.TheVariants as found
use Rattle.nz_elaborate.specs.Typed.{Grows, IsTyped, AreTyped}
use Rattle.nz_elaborate.specs.Names.{bound_in, first_of, SameTerm, AreBoundAs, IsScope, AreNames}
use Rattle.nz_elaborate.specs.Elaborate.{StandsAs, StandAs, Binds, application_of}
use Rattle.nz_elaborate.specs.Faults.{joined, clash_fault, fault_in, term_in_found, terms_with, after, IsFoundWithin, IsFound, Settles}
use Rattle.nz_elaborate.proofs.TableGrowth.{longer}
use Rattle.nz_elaborate.proofs.TypedPreservation.{all_typed_kept}
use Rattle.nz_elaborate.proofs.ScopeTerms.{same_kept, listed_append, same_first, scope_kept, scope_within}
use Rattle.nz_elaborate.proofs.FaultOrder.{settles_next, settles_clash}

-- ---- What is found

pub found_is : (ns : List Node) (f g : Found) (o : Option Term) → f ≡ g → IsFound g o ns → IsFound f o ns
found_is ns f g o e h = subst (λ x. IsFound x o ns) (sym e) h

-- where a fault is behind it, or none is
pub found_after : (ns : List Node) (f : Option Fault) (g : Found) (o : Option Term) → Settles f (IsFound g o ns) (o ≡ None) → IsFound (after f g) o ns
found_after ns None g o s = s
found_after ns (Some faults.Unknown) g o s = tt
found_after ns (Some faults.Clash) (found.Term x) o s = tt
found_after ns (Some faults.Clash) (found.Fault faults.Unknown) o s = tt
found_after ns (Some faults.Clash) (found.Fault faults.Clash) o s = tt
found_after ns (Some faults.Clash) (found.Fault faults.Sort) o s = tt
found_after ns (Some faults.Sort) (found.Term x) o s = s
found_after ns (Some faults.Sort) (found.Fault faults.Unknown) o s = tt
found_after ns (Some faults.Sort) (found.Fault faults.Clash) o s = tt
found_after ns (Some faults.Sort) (found.Fault faults.Sort) o s = s

pub fault_after : (f : Option Fault) (g : Found) → fault_in (after f g) ≡ joined f (fault_in g)
fault_after None g = refl
fault_after (Some f) g = refl

-- a term that is found, where there is no fault
pub found_term : (ns : List Node) (f : Found) (o : Option Term) → IsFound f o ns → fault_in f ≡ None → (P : Type 0) → ((x : Typed) → f ≡ found.Term x → StandsAs o ns x → P) → P
found_term ns (found.Term x) o s e P go = go x refl s
found_term ns (found.Fault f) o s e P go = cc

pub found_no_term : (ns : List Node) (f : Found) (o : Option Term) → IsFound f o ns → fault_in f ≡ Some faults.Sort → o ≡ None
found_no_term ns (found.Term x) o s e = cc
found_no_term ns (found.Fault faults.Sort) o s e = s
found_no_term ns (found.Fault faults.Clash) o s e = cc
found_no_term ns (found.Fault faults.Unknown) o s e = cc

pub none_within : (ns : List Node) (xs : List Typed) → xs ≡ [] → All (λ (x : Typed). x.id < length ns) xs
none_within ns xs e = subst (All (λ (x : Typed). x.id < length ns)) (sym e) (All-nil (λ (x : Typed). x.id < length ns))

-- the names, with frames that are as they were
pub names_here : (names : List (List ℕ × named.Named)) (frames inner : List (List (List ℕ × Option Typed))) (is_live : List ℕ → Bool) (bound : List (List ℕ)) → inner ≡ frames
    → AreNames names frames is_live bound → AreNames names inner is_live bound
names_here names frames inner is_live bound e k = subst (λ l. AreNames names l is_live bound) (sym e) k

-- ---- Numbers

pub number_is : (n : Option Numeric) (h : Head) → Some h ≡ option_map numeric_head n → number_term n ≡ (if head_fits h then Some (apply h no_terms) else None)
number_is None h e = cc
number_is (Some m) h e = (let same : h ≡ numeric_head m = cc in ap (λ g. if head_fits g then Some (apply g no_terms) else None) (sym same))

pub fits_is : (h : Head) → head_fits h ≡ true → (if head_fits h then Some (apply h no_terms) else None) ≡ Some (apply h no_terms)
fits_is h e = ap (λ b. if b then Some (apply h no_terms) else None) e

-- ---- Terms one after another

found_within : (ns : List Node) (xs : List Typed) (f : Found) → All (λ (x : Typed). x.id < length ns) xs → IsFoundWithin ns f → All (λ (x : Typed). x.id < length ns) (terms_with xs f)
found_within ns xs (found.Term x) within here = All-push (λ (y : Typed). y.id < length ns) xs x within here
found_within ns xs (found.Fault f) within here = within

pub all_within : (old new : List Node) (xs items : List Typed) (f : Found) → Grows old new → All (λ (x : Typed). x.id < length old) xs → IsFoundWithin new f → items ≡ terms_with xs f
    → All (λ (x : Typed). x.id < length new) items
all_within old new xs items f g within here e =
    let kept : All (λ (x : Typed). x.id < length new) xs = All-weaker (λ (x : Typed). x.id < length old) (λ (x : Typed). x.id < length new) (λ x below. omega (arith, below, longer old new g)) xs within in
    subst (All (λ (x : Typed). x.id < length new)) (sym e) (found_within new xs f kept here)

abbrev pub terms_append : Terms → Terms → Terms
terms_append no_terms us = us
terms_append (terms t ts) us = terms t (terms_append ts us)

append_none : (ts : Terms) → terms_append ts no_terms ≡ ts
append_none no_terms = refl
append_none (terms t ts) = ap (terms t) (append_none ts)

append_push : (ts : Terms) (t : Term) (us : Terms) → terms_append (terms_append ts (terms t no_terms)) us ≡ terms_append ts (terms t us)
append_push no_terms t us = refl
append_push (terms u ts) t us = ap (terms u) (append_push ts t us)

typed_push : (ns : List Node) (xs : List Typed) (ts : Terms) (x : Typed) (t : Term) → AreTyped ns xs ts → IsTyped ns x t → AreTyped ns (xs ++ x ∷ []) (terms_append ts (terms t no_terms))
typed_push ns [] no_terms x t a p = (p, tt)
typed_push ns [] (terms u us) x t a p = absurd a
typed_push ns (y ∷ ys) no_terms x t a p = absurd a
typed_push ns (y ∷ ys) (terms u us) x t a p = (a.0, typed_push ns ys us x t a.1 p)

-- These are the terms so far, and what is left has the others of the whole.
pub record HasTerms (whole rest : Option Terms) (ns : List Node) (xs : List Typed) : Type 0 where
  pub terms : Terms
  pub typed : AreTyped ns xs terms
  pub all : whole ≡ option_map (terms_append terms) rest

pub terms_start : (o : Option Terms) (ns : List Node) (xs : List Typed) → xs ≡ [] → HasTerms o o ns xs
terms_start None ns xs e = record { terms = no_terms; typed = subst (λ l. AreTyped ns l no_terms) (sym e) tt; all = refl }
terms_start (Some ts) ns xs e = record { terms = no_terms; typed = subst (λ l. AreTyped ns l no_terms) (sym e) tt; all = refl }

onto_more : (o : Option Term) (t : Term) (ts : Terms) (r : Option Terms) → o ≡ Some t → option_map (terms_append ts) (terms_onto o r) ≡ option_map (terms_append (terms_append ts (terms t no_terms))) r
onto_more o t ts None e = ap (λ p. option_map (terms_append ts) (terms_onto p None)) e
onto_more o t ts (Some us) e = ap (λ p. option_map (terms_append ts) (terms_onto p (Some us))) e ∙ ap Some (sym (append_push ts t us))

onto_none : (o : Option Term) (ts : Terms) (r : Option Terms) → o ≡ None → option_map (terms_append ts) (terms_onto o r) ≡ None
onto_none o ts r e = ap (λ p. option_map (terms_append ts) (terms_onto p r)) e

-- what is found of one term more
pub terms_next : (old new : List Node) (f : Option Fault) (g : Found) (after : Option Fault) (xs items : List Typed) (whole rest more : Option Terms) (o : Option Term) → Grows old new
    → after ≡ joined f (fault_in g) → items ≡ terms_with xs g → rest ≡ terms_onto o more → IsFound g o new → Settles f (HasTerms whole rest old xs) (whole ≡ None)
    → Settles after (HasTerms whole more new items) (whole ≡ None)
terms_next old new f g after xs items whole rest more o grown is grew step here before =
    settles_next f (fault_in g) after _ _ _ is before
    (λ fine so. found_term new g o here fine (HasTerms whole more new items) (λ x e s.
    record {
      terms = terms_append so.terms (terms s.term no_terms);
      typed = subst (λ l. AreTyped new l (terms_append so.terms (terms s.term no_terms))) (sym (grew ∙ ap (terms_with xs) e))
          (typed_push new xs so.terms x s.term (all_typed_kept old new grown xs so.terms so.typed) s.typed);
      all = so.all ∙ ap (option_map (terms_append so.terms)) step ∙ onto_more o s.term so.terms more s.is;
    }))
    (λ stopped so. so.all ∙ ap (option_map (terms_append so.terms)) step ∙ onto_none o so.terms more (found_no_term new g o here stopped))

pub terms_end : (ns : List Node) (f : Option Fault) (xs : List Typed) (whole rest : Option Terms) → rest ≡ Some no_terms → Settles f (HasTerms whole rest ns xs) (whole ≡ None)
    → Settles f (StandAs whole ns xs) (whole ≡ None)
terms_end ns None xs whole rest e so =
    record { terms = so.terms; are = so.all ∙ ap (option_map (terms_append so.terms)) e ∙ ap Some (append_none so.terms); typed = so.typed }
terms_end ns (Some faults.Unknown) xs whole rest e so = tt
terms_end ns (Some faults.Clash) xs whole rest e so = tt
terms_end ns (Some faults.Sort) xs whole rest e so = so

-- the terms that are left
pub seen_turn : {X : Type 0} (f : X → Expression) (xs : List X) (i : ℕ) (x : X) → i < length xs → x ≡ get_or xs i x
    → expressions_from (map f (drop i xs)) ≡ expressions (f x) (expressions_from (map f (drop (i + 1) xs)))
seen_turn f xs i x below is =
    at_drop_more (λ l. expressions_from (map f l)) xs i x below ∙ ap (λ y. expressions (f y) (expressions_from (map f (drop (i + 1) xs)))) (sym is)

-- the term that a question asks for
abbrev pub question_term : question.Question → Expression
question_term q = view q.expression

pub asked_are : (qs : List question.Question) → asked_expressions (map question_view qs) ≡ expressions_from (map question_term qs)
asked_are [] = refl
asked_are (q ∷ qs) = ap (expressions (view q.expression)) (asked_are qs)

-- ---- A name over arguments

pub use_found : (old new : List Node) (f : Option Fault) (g : Found) (sc : Scope) (name : List ℕ) (es : Expressions) (xs : List Typed) → Settles f (StandAs (terms_of sc es) old xs) (terms_of sc es ≡ None)
    → ((ts : Terms) → AreTyped old xs ts → IsFound g (application sc name ts) new) → IsFound (after f g) (application_of sc name es) new
use_found old new None g sc name es xs s made = subst (λ o. IsFound g o new) (sym (ap (option_and_then (application sc name)) s.are)) (made s.terms s.typed)
use_found old new (Some faults.Unknown) g sc name es xs s made = found_after new (Some faults.Unknown) g (application_of sc name es) tt
use_found old new (Some faults.Clash) g sc name es xs s made = found_after new (Some faults.Clash) g (application_of sc name es) tt
use_found old new (Some faults.Sort) g sc name es xs s made = found_after new (Some faults.Sort) g (application_of sc name es) (ap (option_and_then (application sc name)) s)

-- ---- Bindings one after another

-- These are the bindings so far, and what is left has the others of the whole.
pub record HasBindings (whole rest : Option (List (List ℕ × Term))) (ns : List Node) (frame : List (List ℕ × Option Typed)) : Type 0 where
  pub pairs : List (List ℕ × Term)
  pub same : AreBoundAs ns frame pairs
  pub all : whole ≡ option_map (λ qs. pairs ++ qs) rest

pub bindings_start : (o : Option (List (List ℕ × Term))) (ns : List Node) (frame : List (List ℕ × Option Typed)) → frame ≡ [] → HasBindings o o ns frame
bindings_start None ns frame e = record { pairs = []; same = subst (λ l. AreBoundAs ns l []) (sym e) (λ name. tt); all = refl }
bindings_start (Some ps) ns frame e = record { pairs = []; same = subst (λ l. AreBoundAs ns l []) (sym e) (λ name. tt); all = refl }

alone : (ns : List Node) (name other : List ℕ) (x : Typed) (t : Term) → IsTyped ns x t → SameTerm ns (bound_in ((name, Some x) ∷ []) other) (listed ((name, t) ∷ []) other)
alone ns name other x t p =
    elim (bytes_eq other name) as (λ b. SameTerm ns (cond b (Some (Some x)) None) (cond b (Some t) None)) [ true ↦ p | false ↦ tt ]

pub bound_next : (old new : List Node) (before after : List (List ℕ × Option Typed)) (name : List ℕ) (x : Typed) (t : Term) (ps : List (List ℕ × Term)) → Grows old new → AreBoundAs old before ps
    → IsTyped new x t → ((other : List ℕ) → bound_in after other ≡ first_of (bound_in before other) (bound_in ((name, Some x) ∷ []) other))
    → AreBoundAs new after (ps ++ (name, t) ∷ [])
bound_next old new before after name x t ps g same typed inserted other =
    subst (λ o. SameTerm new o (listed (ps ++ (name, t) ∷ []) other)) (sym (inserted other))
    (subst (λ o. SameTerm new (first_of (bound_in before other) (bound_in ((name, Some x) ∷ []) other)) o) (sym (listed_append ps ((name, t) ∷ []) other))
    (same_first new (bound_in before other) (bound_in ((name, Some x) ∷ []) other) (listed ps other) (listed ((name, t) ∷ []) other)
    (same_kept old new g (bound_in before other) (listed ps other) (same other))
    (alone new name other x t typed)))

onto_bound : (name : List ℕ) (o : Option Term) (t : Term) (ps : List (List ℕ × Term)) (r : Option (List (List ℕ × Term))) → o ≡ Some t
    → option_map (λ qs. ps ++ qs) (bound_onto name o r) ≡ option_map (λ qs. (ps ++ (name, t) ∷ []) ++ qs) r
onto_bound name o t ps None e = ap (λ p. option_map (λ qs. ps ++ qs) (bound_onto name p None)) e
onto_bound name o t ps (Some qs) e = ap (λ p. option_map (λ rs. ps ++ rs) (bound_onto name p (Some qs))) e ∙ ap Some (sym (append_assoc ps ((name, t) ∷ []) qs))

onto_unbound : (name : List ℕ) (o : Option Term) (ps : List (List ℕ × Term)) (r : Option (List (List ℕ × Term))) → o ≡ None → option_map (λ qs. ps ++ qs) (bound_onto name o r) ≡ None
onto_unbound name o ps r e = ap (λ p. option_map (λ qs. ps ++ qs) (bound_onto name p r)) e

-- a name that is bound to what is found
pub bindings_next : (old new : List Node) (f : Option Fault) (clashes : Bool) (g : Found) (later : Option Fault) (before after : List (List ℕ × Option Typed)) (name : List ℕ)
    (whole rest more : Option (List (List ℕ × Term))) (o : Option Term) → Grows old new → later ≡ joined (joined f (clash_fault clashes)) (fault_in g)
    → ((other : List ℕ) → bound_in after other ≡ first_of (bound_in before other) (bound_in ((name, term_in_found g) ∷ []) other)) → rest ≡ bound_onto name o more → IsFound g o new
    → Settles f (HasBindings whole rest old before) (whole ≡ None) → Settles later (HasBindings whole more new after) (whole ≡ None)
bindings_next old new f clashes g later before after name whole rest more o grown is inserted step here so_far =
    settles_next (joined f (clash_fault clashes)) (fault_in g) later _ _ _ is (settles_clash f clashes _ _ so_far)
    (λ fine so. found_term new g o here fine (HasBindings whole more new after) (λ x e s.
    record {
      pairs = so.pairs ++ (name, s.term) ∷ [];
      same = bound_next old new before after name x s.term so.pairs grown so.same s.typed
          (λ other. inserted other ∙ ap (λ h. first_of (bound_in before other) (bound_in ((name, term_in_found h) ∷ []) other)) e);
      all = so.all ∙ ap (option_map (λ qs. so.pairs ++ qs)) step ∙ onto_bound name o s.term so.pairs more s.is;
    }))
    (λ stopped so. so.all ∙ ap (option_map (λ qs. so.pairs ++ qs)) step ∙ onto_unbound name o so.pairs more (found_no_term new g o here stopped))

pub bindings_end : (ns : List Node) (f : Option Fault) (sc : Scope) (ls rest : Locals) (frame : List (List ℕ × Option Typed)) → rest ≡ no_locals
    → Settles f (HasBindings (bindings_of sc ls) (bindings_of sc rest) ns frame) (bindings_of sc ls ≡ None) → Settles f (Binds sc ls ns frame) (bindings_of sc ls ≡ None)
bindings_end ns None sc ls rest frame e so =
    record { pairs = so.pairs; are = so.all ∙ ap (λ l. option_map (λ qs. so.pairs ++ qs) (bindings_of sc l)) e ∙ ap Some (append-nil so.pairs); same = so.same }
bindings_end ns (Some faults.Unknown) sc ls rest frame e so = tt
bindings_end ns (Some faults.Clash) sc ls rest frame e so = tt
bindings_end ns (Some faults.Sort) sc ls rest frame e so = so

-- the bindings that are left
pub locals_turn : (ls : List local.Local) (i : ℕ) (x : local.Local) (name : List ℕ) (e : Expression) → i < length ls → x ≡ get_or ls i x → local_view x ≡ (name, e)
    → seen_locals (drop i ls) ≡ locals name e (seen_locals (drop (i + 1) ls))
locals_turn ls i x name e below is shape =
    at_drop_more seen_locals ls i x below
    ∙ ap (λ (y : local.Local). locals_from (local_view y ∷ map local_view (drop (i + 1) ls))) (sym is)
    ∙ ap (λ (p : List ℕ × Expression). locals p.0 p.1 (seen_locals (drop (i + 1) ls))) shape

-- ---- `let`

-- the scope, in a table that has grown, with frames that are as they were
pub scope_here : (start old : List Node) (names : List (List ℕ × named.Named)) (frames inner : List (List (List ℕ × Option Typed))) (sc : Scope)
    → Grows start old → inner ≡ frames → IsScope start names frames sc → IsScope old names inner sc
scope_here start old names frames inner sc g e s = subst (λ l. IsScope old names l sc) (sym e) (scope_kept start old g names frames sc s)

pub let_found : (start mid new : List Node) (names : List (List ℕ × named.Named)) (frames inner : List (List (List ℕ × Option Typed))) (frame : List (List ℕ × Option Typed)) (f : Option Fault) (g : Found)
    (ls : Locals) (e : Expression) (sc : Scope) → Grows start mid → inner ≡ frames ++ frame ∷ [] → IsScope start names frames sc
    → Settles f (Binds sc ls mid frame) (bindings_of sc ls ≡ None) → ((body : Scope) → IsScope mid names inner body → IsFound g (term_of body e) new)
    → IsFound (after f g) (term_of sc (written_let ls e)) new
let_found start mid new names frames inner frame None g ls e sc grown pushed s binds found =
    let here : IsScope mid names inner (binding sc binds.pairs) =
    subst (λ l. IsScope mid names l (binding sc binds.pairs)) (sym pushed) (scope_within mid names frames sc frame binds.pairs (scope_kept start mid grown names frames sc s) binds.same) in
    subst (λ o. IsFound g o new) (sym (ap (λ o. elim o [ Some ps ↦ term_of (binding sc ps) e | None ↦ None ]) binds.are)) (found (binding sc binds.pairs) here)
let_found start mid new names frames inner frame (Some faults.Unknown) g ls e sc grown pushed s binds found = found_after new (Some faults.Unknown) g (term_of sc (written_let ls e)) tt
let_found start mid new names frames inner frame (Some faults.Clash) g ls e sc grown pushed s binds found = found_after new (Some faults.Clash) g (term_of sc (written_let ls e)) tt
let_found start mid new names frames inner frame (Some faults.Sort) g ls e sc grown pushed s binds found =
    found_after new (Some faults.Sort) g (term_of sc (written_let ls e)) (ap (λ (o : Option (List (List ℕ × Term))). elim o [ Some ps ↦ term_of (binding sc ps) e | None ↦ None ]) binds)
