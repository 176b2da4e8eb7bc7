-- Lemmas of definitions: their parameters one after another, and their bodies.
use Rattle.std.specs.Prelude.{IfSome}
use Rattle.std.specs.List.{list_any}
use Rattle.std.proofs.Common.{[], ◌≡◌, ℕ, suc, ◌<◌, ◌+◌, ◌||◌, Bool, true, false, List, ◌∷◌, ◌++◌, length, map, drop, get_or, Option, None, Some, option_map, is_some, Result, Ok, Err, IfOk, refl, subst, sym, ap, ◌∙◌, append_assoc, append-nil, add-one}
use Rattle.std.proofs.lemmas.List.{at_drop_more, map-append}
use Rattle.nz_command.specs.declared.command.Parameter as code
use Rattle.nz_command.specs.Requests.{sort_view, parameter_view}
use Rattle.nz_script.specs.commands.Expression.{Expression}
use Rattle.nz_script.specs.commands.Request.{Parameter, WrittenSort}
use Rattle.nz_spec.specs.terms.Term.{Sort, parameter, Term, apply, no_terms}
use Rattle.nz_spec.specs.terms.Table.{Node}
use Rattle.nz_script.specs.commands.Parse.{is_one_of}
use Rattle.nz_script.specs.commands.Scoping.{clash, has_unknown, has_clash}
use Rattle.nz_script.specs.commands.Elaboration.{Scope, is_declared, term_of}
use Rattle.nz_spec.specs.terms.Operators.{placed}
use Rattle.nz_script.specs.commands.Script.{is_unknown_sort, sort_written, sorts_written, sorts_onto, parameter_names, parameter_sorts, parameters_from}
use Rattle.nz_term.specs.declared.heads.Sort as sort
use Rattle.nz_term.specs.Constants.{sort_of}
use Rattle.nz_elaborate.specs.declared.typed.Typed.{Typed}
use Rattle.nz_elaborate.specs.declared.names.Named as named
use Rattle.nz_elaborate.specs.declared.names.Definition as definition
use Rattle.nz_elaborate.specs.declared.faults.ElaborateError.{ElaborateError}
use Rattle.nz_elaborate.specs.declared.faults.Fault.{Fault}
use Rattle.nz_elaborate.specs.declared.faults.Fault.TheVariants as faults
use Rattle.nz_elaborate.specs.declared.faults.Found.{Found}
use Rattle.nz_elaborate.specs.declared.faults.Found.TheVariants as found
use Rattle.nz_elaborate.specs.Typed.{Grows, IsTyped}
use Rattle.nz_elaborate.specs.Names.{bound_in, first_of, AreBoundAs, IsScope, AreNames}
use Rattle.nz_elaborate.specs.Elaborate.{StandsAs, IsWellNamed}
use Rattle.nz_elaborate.specs.Definitions.{under_parameters, definition_unknown, definition_clash, body_term, definition_term, placed_at, parameter_at, sorts_with, HasBody, BindsParameters}
use Rattle.nz_elaborate.specs.Faults.{joined, first_fault, of_names, clash_fault, fault_in, term_in_found, after, TellsNames, Answers, IsFound, Settles}
use Rattle.nz_elaborate.proofs.ScopeTerms.{scope_kept}
use Rattle.nz_elaborate.proofs.FaultOrder.{settles_next, settles_clash, tells_both, well_named}
use Rattle.nz_elaborate.proofs.ScopeNames.{names_of_scope}
use Rattle.nz_elaborate.proofs.ElaboratedTerms.{found_term, found_no_term, found_after, fault_after, found_is, bound_next}

-- ---- Parameters one after another

-- These are the parameters so far, and what is left has the others of all.
pub record HasParameters (all rest : List Parameter) (place : ℕ) (sorts : List Sort) (ns : List Node) (frame : List (List ℕ × Option Typed)) : Type 0 where
  pub pairs : List (List ℕ × Term)
  pub same : AreBoundAs ns frame pairs
  pub sorted : sorts_written (parameter_sorts all) ≡ option_map (λ ss. sorts ++ ss) (sorts_written (parameter_sorts rest))
  pub listed : (ss : List Sort) → parameters_from 0 (parameter_names all) (sorts ++ ss) ≡ pairs ++ parameters_from place (parameter_names rest) ss

same_option : {A : Type 0} (o : Option (List A)) → o ≡ option_map (λ ss. [] ++ ss) o
same_option None = refl
same_option (Some ss) = refl

pub parameters_start : (all : List Parameter) (sorts : List Sort) (ns : List Node) (frame : List (List ℕ × Option Typed)) → sorts ≡ [] → frame ≡ [] → HasParameters all all 0 sorts ns frame
parameters_start all sorts ns frame none e =
    subst (λ ss. HasParameters all all 0 ss ns frame) (sym none)
    (record {
      pairs = [];
      same = subst (λ l. AreBoundAs ns l []) (sym e) (λ name. tt);
      sorted = same_option (sorts_written (parameter_sorts all));
      listed = λ ss. refl;
    })

onto_sort : (sorts : List Sort) (o : Option Sort) (s : Sort) (r : Option (List Sort)) → o ≡ Some s → option_map (λ qs. sorts ++ qs) (sorts_onto o r) ≡ option_map (λ qs. (sorts ++ s ∷ []) ++ qs) r
onto_sort sorts o s None e = ap (λ p. option_map (λ qs. sorts ++ qs) (sorts_onto p None)) e
onto_sort sorts o s (Some qs) e = ap (λ p. option_map (λ rs. sorts ++ rs) (sorts_onto p (Some qs))) e ∙ ap Some (sym (append_assoc sorts (s ∷ []) qs))

onto_no_sort : (sorts : List Sort) (o : Option Sort) (r : Option (List Sort)) → o ≡ None → option_map (λ qs. sorts ++ qs) (sorts_onto o r) ≡ None
onto_no_sort sorts o r e = ap (λ p. option_map (λ qs. sorts ++ qs) (sorts_onto p r)) e

no_parameter : (place : ℕ) (o : Option Sort) → parameter_at place o ≡ None → o ≡ None
no_parameter place None e = refl
no_parameter place (Some s) e = cc

typed_at : (ns : List Node) (place : ℕ) (o : Option Sort) (s : Sort) (x : Typed) → o ≡ Some s → StandsAs (parameter_at place o) ns x → IsTyped ns x (apply (parameter place s) no_terms)
typed_at ns place o s x e stands =
    let shape : Some stands.term ≡ Some (apply (parameter place s) no_terms) = sym stands.is ∙ ap (parameter_at place) e in
    let same : stands.term ≡ apply (parameter place s) no_terms = cc in
    subst (IsTyped ns x) same stands.typed

parameter_next : (old new : List Node) (before after : List (List ℕ × Option Typed)) (name : List ℕ) (all more : List Parameter) (w : WrittenSort) (place : ℕ) (sorts items : List sort.Sort) (x : Typed)
    → Grows old new → sort_written w ≡ Some (sort_of x.sort) → StandsAs (parameter_at place (sort_written w)) new x → items ≡ sorts ++ x.sort ∷ []
    → ((other : List ℕ) → bound_in after other ≡ first_of (bound_in before other) (bound_in ((name, Some x) ∷ []) other))
    → HasParameters all (record { name = name; sort = w } ∷ more) place (map sort_of sorts) old before → HasParameters all more (place + 1) (map sort_of items) new after
parameter_next old new before after name all more w place sorts items x grown is stands grew inserted so =
    let s : Sort = sort_of x.sort in
    let more_sorts : map sort_of items ≡ map sort_of sorts ++ s ∷ [] = ap (map sort_of) grew ∙ map-append sort_of sorts (x.sort ∷ []) in
    let term : Term = apply (parameter place s) no_terms in
    subst (λ ss. HasParameters all more (place + 1) ss new after) (sym more_sorts)
    (record {
      pairs = so.pairs ++ (name, term) ∷ [];
      same = bound_next old new before after name x term so.pairs grown so.same (typed_at new place (sort_written w) s x is stands) inserted;
      sorted = so.sorted ∙ onto_sort (map sort_of sorts) (sort_written w) s (sorts_written (parameter_sorts more)) is;
      listed = λ ss.
          ap (parameters_from 0 (parameter_names all)) (append_assoc (map sort_of sorts) (s ∷ []) ss) ∙ so.listed (s ∷ ss)
          ∙ sym (append_assoc so.pairs ((name, term) ∷ []) (parameters_from (suc place) (parameter_names more) ss))
          ∙ ap (λ n. (so.pairs ++ (name, term) ∷ []) ++ parameters_from n (parameter_names more) ss) (sym (add-one place));
    })

sort_in : (f : Found) (w : WrittenSort) (x : Typed) → f ≡ found.Term x → IfSome (term_in_found f) (λ y. sort_written w ≡ Some (sort_of y.sort)) → sort_written w ≡ Some (sort_of x.sort)
sort_in f w x e h = subst (λ g. IfSome (term_in_found g) (λ y. sort_written w ≡ Some (sort_of y.sort))) e h

-- a parameter more
pub parameters_next : (old new : List Node) (f : Option Fault) (clashes : Bool) (g : Found) (later : Option Fault) (before after : List (List ℕ × Option Typed)) (name : List ℕ) (all rest more : List Parameter)
    (w : WrittenSort) (place : ℕ) (sorts items : List sort.Sort) → Grows old new → later ≡ joined (joined f (clash_fault clashes)) (fault_in g)
    → ((other : List ℕ) → bound_in after other ≡ first_of (bound_in before other) (bound_in ((name, term_in_found g) ∷ []) other)) → items ≡ sorts_with sorts g
    → rest ≡ record { name = name; sort = w } ∷ more → IsFound g (parameter_at place (sort_written w)) new → IfSome (term_in_found g) (λ y. sort_written w ≡ Some (sort_of y.sort))
    → Settles f (HasParameters all rest place (map sort_of sorts) old before) (sorts_written (parameter_sorts all) ≡ None)
    → Settles later (HasParameters all more (place + 1) (map sort_of items) new after) (sorts_written (parameter_sorts all) ≡ None)
parameters_next old new f clashes g later before after name all rest more w place sorts items grown is inserted grew step here sorted so_far =
    settles_next (joined f (clash_fault clashes)) (fault_in g) later _ _ _ is (settles_clash f clashes _ _ so_far)
    (λ fine so. found_term new g (parameter_at place (sort_written w)) here fine (HasParameters all more (place + 1) (map sort_of items) new after) (λ x e s.
    parameter_next old new before after name all more w place sorts items x grown (sort_in g w x e sorted) s (grew ∙ ap (sorts_with sorts) e)
    (λ other. inserted other ∙ ap (λ h. first_of (bound_in before other) (bound_in ((name, term_in_found h) ∷ []) other)) e)
    (subst (λ l. HasParameters all l place (map sort_of sorts) old before) step so)))
    (λ stopped so.
    so.sorted ∙ ap (λ l. option_map (λ qs. map sort_of sorts ++ qs) (sorts_written (parameter_sorts l))) step
    ∙ onto_no_sort (map sort_of sorts) (sort_written w) (sorts_written (parameter_sorts more))
    (no_parameter place (sort_written w) (found_no_term new g (parameter_at place (sort_written w)) here stopped)))

parameters_all : (ns : List Node) (all rest : List Parameter) (place : ℕ) (sorts : List Sort) (frame : List (List ℕ × Option Typed)) → rest ≡ [] → HasParameters all rest place sorts ns frame
    → BindsParameters all sorts ns frame
parameters_all ns all rest place sorts frame e so =
    let pairs : so.pairs ≡ parameters_from 0 (parameter_names all) sorts =
    sym (append-nil so.pairs) ∙ ap (λ l. so.pairs ++ parameters_from place (parameter_names l) []) (sym e) ∙ sym (so.listed []) ∙ ap (parameters_from 0 (parameter_names all)) (append-nil sorts) in
    record {
      sorted = so.sorted ∙ ap (λ l. option_map (λ ss. sorts ++ ss) (sorts_written (parameter_sorts l))) e ∙ ap Some (append-nil sorts);
      bound = subst (AreBoundAs ns frame) pairs so.same;
    }

pub parameters_end : (ns : List Node) (f : Option Fault) (all rest : List Parameter) (place : ℕ) (sorts : List Sort) (frame : List (List ℕ × Option Typed)) → rest ≡ []
    → Settles f (HasParameters all rest place sorts ns frame) (sorts_written (parameter_sorts all) ≡ None)
    → Settles f (BindsParameters all sorts ns frame) (sorts_written (parameter_sorts all) ≡ None)
parameters_end ns None all rest place sorts frame e so = parameters_all ns all rest place sorts frame e so
parameters_end ns (Some faults.Unknown) all rest place sorts frame e so = tt
parameters_end ns (Some faults.Clash) all rest place sorts frame e so = tt
parameters_end ns (Some faults.Sort) all rest place sorts frame e so = so

-- the parameters that are left
pub parameters_turn : (ps : List code.Parameter) (i : ℕ) (x : code.Parameter) → i < length ps → x ≡ get_or ps i x
    → map parameter_view (drop i ps) ≡ record { name = x.name.now; sort = sort_view x.sort } ∷ map parameter_view (drop (i + 1) ps)
parameters_turn ps i x below is =
    at_drop_more (map parameter_view) ps i x below ∙ ap (λ (y : code.Parameter). parameter_view y ∷ map parameter_view (drop (i + 1) ps)) (sym is)

-- ---- Bodies

or_turn : (u w v : Bool) → (w || (u || v)) ≡ ((u || w) || v)
or_turn true true v = refl
or_turn true false v = refl
or_turn false w v = refl

-- the term of a body before it is placed, where the parameters have sorts
abbrev pub under_term : Scope → List (List ℕ) → Option (List Sort) → Expression → Option Term
under_term sc names (Some sorts) body = term_of (under_parameters sc names sorts) body
under_term sc names None body = None

pub body_placed : (sc : Scope) (names : List (List ℕ)) (sorts : Option (List Sort)) (sort : Option Sort) (body : Expression)
    → body_term sc names sorts sort body ≡ placed_at sort (under_term sc names sorts body)
body_placed sc names (Some ss) (Some s) body = refl
body_placed sc names (Some ss) None body = refl
body_placed sc names None (Some s) body = refl
body_placed sc names None None body = refl

parameters_scope : (ns : List Node) (entries : List (List ℕ × named.Named)) (frame : List (List ℕ × Option Typed)) (sc : Scope) (names : List (List ℕ)) (sorts : List Sort) → IsScope ns entries [] sc
    → AreBoundAs ns frame (parameters_from 0 names sorts) → IsScope ns entries (frame ∷ []) (under_parameters sc names sorts)
parameters_scope ns entries frame sc names sorts s bound = record { bound = λ name. bound name; live = s.live; fits = s.fits }

pub body_found : (start mid new : List Node) (entries : List (List ℕ × named.Named)) (frames : List (List (List ℕ × Option Typed))) (frame : List (List ℕ × Option Typed)) (f : Option Fault) (g : Found)
    (ps : List Parameter) (sorts : List Sort) (body : Expression) (sc : Scope) → Grows start mid → frames ≡ frame ∷ [] → IsScope start entries [] sc
    → Settles f (BindsParameters ps sorts mid frame) (sorts_written (parameter_sorts ps) ≡ None) → ((inner : Scope) → IsScope mid entries frames inner → IsFound g (term_of inner body) new)
    → IsFound (after f g) (under_term sc (parameter_names ps) (sorts_written (parameter_sorts ps)) body) new
body_found start mid new entries frames frame None g ps sorts body sc grown pushed s binds found =
    let here : IsScope mid entries frames (under_parameters sc (parameter_names ps) sorts) =
    subst (λ l. IsScope mid entries l (under_parameters sc (parameter_names ps) sorts)) (sym pushed)
    (parameters_scope mid entries frame sc (parameter_names ps) sorts (scope_kept start mid grown entries [] sc s) binds.bound) in
    subst (λ o. IsFound g (under_term sc (parameter_names ps) o body) new) (sym binds.sorted) (found (under_parameters sc (parameter_names ps) sorts) here)
body_found start mid new entries frames frame (Some faults.Unknown) g ps sorts body sc grown pushed s binds found = found_after new (Some faults.Unknown) g (under_term sc (parameter_names ps) (sorts_written (parameter_sorts ps)) body) tt
body_found start mid new entries frames frame (Some faults.Clash) g ps sorts body sc grown pushed s binds found = found_after new (Some faults.Clash) g (under_term sc (parameter_names ps) (sorts_written (parameter_sorts ps)) body) tt
body_found start mid new entries frames frame (Some faults.Sort) g ps sorts body sc grown pushed s binds found =
    found_after new (Some faults.Sort) g (under_term sc (parameter_names ps) (sorts_written (parameter_sorts ps)) body) (ap (λ o. under_term sc (parameter_names ps) o body) binds)

-- what is told of the parameters, the sort and the body
pub body_told : (f : Option Fault) (g k h : Found) (w u c v d : Bool) → TellsNames f u c → TellsNames (fault_in g) v d → k ≡ after f g
    → ((unknown clashing : Bool) → TellsNames (fault_in k) unknown clashing → TellsNames (fault_in h) (w || unknown) clashing) → TellsNames (fault_in h) ((u || w) || v) (c || d)
body_told f g k h w u c v d told inner is placed =
    placed (u || v) (c || d) (ap (λ x. of_names (fault_in x)) is ∙ ap of_names (fault_after f g) ∙ tells_both f (fault_in g) u c v d told inner)
    ∙ ap (λ b. first_fault b (c || d)) (or_turn u w v)

-- the names of the body, in which the parameters alone are bound
pub body_names : (start : List Node) (entries : List (List ℕ × named.Named)) (frames : List (List (List ℕ × Option Typed))) (frame : List (List ℕ × Option Typed)) (names : List (List ℕ)) (sc : Scope)
    → frames ≡ frame ∷ [] → IsScope start entries [] sc → ((name : List ℕ) → is_some (bound_in frame name) ≡ is_one_of names name)
    → AreNames entries frames (is_declared sc.constants sc.definitions) names
body_names start entries frames frame names sc pushed s same =
    let outer : AreNames entries [] (is_declared sc.constants sc.definitions) [] = names_of_scope start entries sc s in
    subst (λ l. AreNames entries l (is_declared sc.constants sc.definitions) names) (sym pushed) (record { live = outer.live; operators = outer.operators; framed = λ name. same name })

fine_names : (f : Option Fault) (u c w v d : Bool) → TellsNames f u c → ((u || w) || v) ≡ false → (c || d) ≡ false → of_names f ≡ None
fine_names f true c w v d told e g = cc
fine_names f false true w v d told e g = cc
fine_names f false false w v d told e g = told

no_body : (sc : Scope) (names : List (List ℕ)) (sorts : Option (List Sort)) (sort : Option Sort) (body : Expression) (t : Term) → sorts ≡ None → body_term sc names sorts sort body ≡ Some t → ⊥
no_body sc names sorts sort body t none e =
    let gone : None ≡ Some t = sym (ap (λ o. body_term sc names o sort body) none) ∙ e in cc

pub definition_told : (start : List Node) (entries : List (List ℕ × named.Named)) (frames : List (List (List ℕ × Option Typed))) (frame : List (List ℕ × Option Typed)) (f : Option Fault) (g k h : Found)
    (ps : List Parameter) (w : WrittenSort) (body : Expression) (sc : Scope) → frames ≡ frame ∷ [] → IsScope start entries [] sc
    → ((name : List ℕ) → is_some (bound_in frame name) ≡ is_one_of (parameter_names ps) name) → TellsNames f (list_any is_unknown_sort (parameter_sorts ps)) (clash (parameter_names ps))
    → ((is_live : List ℕ → Bool) (bound : List (List ℕ)) → AreNames entries frames is_live bound → TellsNames (fault_in g) (has_unknown is_live bound body) (has_clash body)) → k ≡ after f g
    → ((unknown clashing : Bool) → TellsNames (fault_in k) unknown clashing → TellsNames (fault_in h) (is_unknown_sort w || unknown) clashing)
    → TellsNames (fault_in h) (definition_unknown sc ps w body) (definition_clash ps body)
definition_told start entries frames frame f g k h ps w body sc pushed s binds told inner is placed =
    let is_live : List ℕ → Bool = is_declared sc.constants sc.definitions in
    let names : List (List ℕ) = parameter_names ps in
    body_told f g k h (is_unknown_sort w) (list_any is_unknown_sort (parameter_sorts ps)) (clash names) (has_unknown is_live names body) (has_clash body) told
    (inner is_live names (body_names start entries frames frame names sc pushed s binds)) is placed

pub definition_is : (start mid new last : List Node) (entries : List (List ℕ × named.Named)) (frames : List (List (List ℕ × Option Typed))) (frame : List (List ℕ × Option Typed)) (f : Option Fault) (g k h : Found)
    (ps : List Parameter) (sorts : List Sort) (w : WrittenSort) (body : Expression) (sc : Scope) → Grows start mid → frames ≡ frame ∷ [] → IsScope start entries [] sc
    → Settles f (BindsParameters ps sorts mid frame) (sorts_written (parameter_sorts ps) ≡ None) → ((inner : Scope) → IsScope mid entries frames inner → IsFound g (term_of inner body) new) → k ≡ after f g
    → ((o : Option Term) → IsFound k o new → IsFound h (placed_at (sort_written w) o) last) → IsFound h (definition_term sc ps w body) last
definition_is start mid new last entries frames frame f g k h ps sorts w body sc grown pushed s binds found is placed =
    let o : Option Term = under_term sc (parameter_names ps) (sorts_written (parameter_sorts ps)) body in
    subst (λ p. IsFound h p last) (sym (body_placed sc (parameter_names ps) (sorts_written (parameter_sorts ps)) (sort_written w) body))
    (placed o (found_is new k (after f g) o is (body_found start mid new entries frames frame f g ps sorts body sc grown pushed s binds found)))

-- where there is a body, the parameters have these sorts
pub parameters_sorted : (ns : List Node) (f : Option Fault) (sc : Scope) (ps : List Parameter) (sorts : List Sort) (frame : List (List ℕ × Option Typed)) (sort : Option Sort) (body : Expression) (t : Term)
    (u c w v d : Bool) → TellsNames f u c → Settles f (BindsParameters ps sorts ns frame) (sorts_written (parameter_sorts ps) ≡ None) → ((u || w) || v) ≡ false → (c || d) ≡ false
    → body_term sc (parameter_names ps) (sorts_written (parameter_sorts ps)) sort body ≡ Some t → sorts_written (parameter_sorts ps) ≡ Some sorts
parameters_sorted ns None sc ps sorts frame sort body t u c w v d told binds e g is = binds.sorted
parameters_sorted ns (Some faults.Unknown) sc ps sorts frame sort body t u c w v d told binds e g is = (let fine = fine_names (Some faults.Unknown) u c w v d told e g in cc)
parameters_sorted ns (Some faults.Clash) sc ps sorts frame sort body t u c w v d told binds e g is = (let fine = fine_names (Some faults.Clash) u c w v d told e g in cc)
parameters_sorted ns (Some faults.Sort) sc ps sorts frame sort body t u c w v d told binds e g is =
    absurd (no_body sc (parameter_names ps) (sorts_written (parameter_sorts ps)) sort body t binds is)

pub body_answered : (ns : List Node) (h : Found) (r : Result definition.Definition ElaborateError) (u c : Bool) (sc : Scope) (ps : List Parameter) (w : WrittenSort) (body : Expression) (sorts : List sort.Sort)
    → Answers (fault_in h) r → TellsNames (fault_in h) u c → IsFound h (definition_term sc ps w body) ns → IfOk r (λ d. d.parameters.items ≡ sorts) → IfOk r (λ d. term_in_found h ≡ Some d.body)
    → ((t : Term) → u ≡ false → c ≡ false → definition_term sc ps w body ≡ Some t → sorts_written (parameter_sorts ps) ≡ Some (map sort_of sorts))
    → IfOk r (λ d. IsWellNamed u c (HasBody sc ps w body ns d))
body_answered ns h (Err e) u c sc ps w body sorts answer names here same is sorted = tt
body_answered ns (found.Fault f) (Ok d) u c sc ps w body sorts answer names here same is sorted = absurd answer
body_answered ns (found.Term x) (Ok d) u c sc ps w body sorts answer names here same is sorted =
    let fine : IsWellNamed u c (StandsAs (definition_term sc ps w body) ns x) = well_named u c (StandsAs (definition_term sc ps w body) ns x) names here in
    let placed : x ≡ d.body = cc in
    record {
      known = fine.known;
      distinct = fine.distinct;
      holds = record {
        sorted = subst (λ l. sorts_written (parameter_sorts ps) ≡ Some (map sort_of l)) (sym same) (sorted here.term fine.known fine.distinct here.is);
        stands = subst (StandsAs (definition_term sc ps w body) ns) placed here;
      };
    }
