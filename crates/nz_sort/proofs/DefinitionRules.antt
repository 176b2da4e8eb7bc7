-- Definitions: the rules on one, and what it leaves.
use Rattle.std.proofs.Common.{◌||◌, ◌&&◌, ◌+◌, option_and_then, ◌≡◌, ℕ, suc, List, [], ◌∷◌, ◌++◌, length, length-append, map, Option, None, Some, IfSome, Result, Ok, Err, IfOk, Bool, true, false, cond, slice_get, refl, sym, ap, ◌∙◌, append-nil, subst, arith}
use Rattle.std.specs.Prelude.{reverse}
use Rattle.std.specs.List.{AllByRecursion}
use Rattle.nz_spec.specs.terms.Term.{Sort, int_sort, real_sort, to_real, Term, no_terms, terms, apply, are_same_sort}
use Rattle.nz_spec.specs.terms.Normal.{normal_of}
use Rattle.nz_spec.specs.terms.Table.{Node, term_in, TermStays}
use Rattle.nz_spec.specs.terms.Order.{HasCompanions}
use Rattle.nz_spec.specs.terms.Linear.{is_linear}
use Rattle.nz_script.specs.commands.Expression.{Expression}
use Rattle.nz_script.specs.commands.Request.{Parameter, WrittenSort, defines}
use Rattle.nz_spec.specs.terms.Definitions.{Definition, RootFits}
use Rattle.nz_script.specs.commands.Elaboration.{TermFits, term_of}
use Rattle.nz_spec.specs.terms.Operators.{has_sort, placed}
use Rattle.nz_script.specs.live.Live.{State, defined, LiveItem, items_of, items_hold_integers, constants_in, definitions_in, definitions_of, with_item, grown}
use Rattle.nz_script.specs.commands.Script.{is_live_name, scope_of, body_scope, parameters_from, parameter_names, parameter_sorts, sorts_written, sort_written, linear_outcome, definition_by, definition_of}
use Rattle.nz_script.specs.commands.Command.{define, Outcome, refused}
use Rattle.nz_spec.specs.outside.Error.{unknown_symbol, wrong_sort, not_linear, already_declared}
use Rattle.nz_script.specs.commands.Scoping.{clash, has_clash}
use Rattle.nz_term.specs.Constants.{sort_of}
use Rattle.nz_elaborate.specs.declared.names.Definition as code
use Rattle.nz_elaborate.specs.declared.faults.ElaborateError.{ElaborateError}
use Rattle.nz_elaborate.specs.declared.faults.ElaborateError.TheVariants as errors
use Rattle.nz_elaborate.specs.Faults.{refusal_by}
use Rattle.nz_elaborate.specs.Names.{IsDefined}
use Rattle.nz_elaborate.specs.Definitions.{definition_unknown, definition_clash, body_term, definition_term, HasBody}
use Rattle.nz_elaborate.specs.Elaborate.{ClashesFirst, IsWellNamed}
use Rattle.nz_elaborate.specs.Typed.{Grows, IsTyped}
use Rattle.nz_sort.specs.declared.acts.Act.TheVariants as acts
use Rattle.nz_elaborate.specs.declared.names.Named.TheVariants as kinds
use Rattle.nz_sort.specs.Live.{Standing, asserted_by, IsLevel, IsLive, GoesOn}
use Rattle.nz_sort.specs.Acts.{rule_of, redeclared_by}
use Rattle.nz_sort.specs.Changes.{Comes, Defines, with_definition}
use Rattle.nz_sort.proofs.LiveItems.{has_definition, definition_integer}
use Rattle.nz_sort.proofs.LevelChanges.{is_live, level_with, goes_on_same}
use Rattle.nz_sort.proofs.LiveNames.{scope_by, scope_as, scope_stays, scope_with_definition}
use Rattle.nz_sort.proofs.LiveStates.{constants_with, definitions_with, items_of-with_item, kept_where_grown, next_after}
use Rattle.nz_sort.proofs.CommandRules.{unknown_first, clash_next, past_names}

-- ---- What a definition leaves

level_defined : TermStays → (old new : List Node) (more : List Node) (before : Standing) (d : code.Definition) (e : Definition) → new ≡ old ++ more → IsDefined new d e → RootFits e.parameters e.body
    → (number : ℕ) (items : List LiveItem) (older : List (List LiveItem)) → IsLevel old before.names before.top items older
    → IsLevel new (with_definition before e.name d).names before.top (items ++ record { number = number; item = defined e } ∷ []) older
level_defined stays old new more before d e grow is fit number items older h =
    let l : LiveItem = record { number = number; item = defined e } in
    let levels = items ∷ older in
    let cs = constants_in (items_of levels) in
    let ds = definitions_in (items_of levels) in
    let same : constants_in (items_of (with_item levels l)) ≡ cs = constants_with levels l ∙ append-nil cs in
    let later : definitions_in (items_of (with_item levels l)) ≡ ds ++ e ∷ [] = definitions_with levels l in
    record {
      named = scope_as new (with_definition before e.name d).names same later
          (scope_with_definition new before.names cs ds e d (scope_stays stays old new more before.names (scope_by cs ds) grow h.named) is fit);
      before = (let far = length-append before.names ((e.name, kinds.Definition d) ∷ []) in let near = h.before in omega (arith, far, near));
      has = has_definition stays old new more before.top items number e grow h.has;
      count = h.count ∙ ap length (sym same);
      integers = ap items_hold_integers (items_of-with_item levels l) ∙ definition_integer (items_of levels) e before.top.holds_integers h.integers;
    }

live_defined : TermStays → (old new : List Node) (before : Standing) (s : State) (d : code.Definition) (e : Definition) → IsLive old before s → Grows old new
    → HasCompanions new → IsDefined new d e → RootFits e.parameters e.body → IsLive new (with_definition before e.name d) (grown s (defined e))
live_defined stays old new before s d e live g companions is fit =
    let l : LiveItem = record { number = s.next; item = defined e } in
    is_live new (with_definition before e.name d) (grown s (defined e))
    (level_with stays old new g.more before.names (with_definition before e.name d).names ((e.name, kinds.Definition d) ∷ []) before.top before.top (reverse before.below) l g.all refl refl
    (λ items older k. level_defined stays old new g.more before d e g.all is fit s.next items older k) s.levels live.levels)
    companions (next_after before.next s.next live.next)

pub comes_defined : TermStays → (old new : List Node) (before after : Standing) (name : List ℕ) (parameters : List Parameter) (sort : WrittenSort) (body : Expression) (d : code.Definition)
    → Grows old new → HasCompanions new → ((s : State) → IsLive old before s → Defines name (definition_of s name parameters sort body) new d) → after ≡ with_definition before name d
    → Comes old new before after (defines name parameters sort body) (λ s. definition_of s name parameters sort body) (Ok acts.Changed)
comes_defined stays old new before after name parameters sort body d g companions may more =
    record {
      accepted = λ s live.
          let h = may s live in
          record {
            command = define h.definition;
            is = h.is;
            asks = tt;
            live = λ reply. subst (λ st. IsLive new st (grown s (defined h.definition))) (sym more)
                (subst (λ w. IsLive new (with_definition before w d) (grown s (defined h.definition))) h.named
                (live_defined stays old new before s d h.definition live g companions h.defined h.fits));
          };
      refused = tt;
      kept = kept_where_grown old new g;
      unchanged = tt;
      skipped_terms = tt;
      skipped = tt;
      moves = subst (λ st. GoesOn (asserted_by before) (asserted_by st)) (sym more) (goes_on_same (asserted_by before));
    }

-- ---- Roots of bodies

-- the parameters of a definition fit its sorts
parameters_fit : (total : List Sort) (i : ℕ) (names : List (List ℕ)) (sorts : List Sort) → ((j : ℕ) (s : Sort) → slice_get sorts j ≡ Some s → slice_get total (i + j) ≡ Some s)
    → AllByRecursion (λ (p : List ℕ × Term). RootFits total p.1) (parameters_from i names sorts)
parameters_fit total i [] sorts h = tt
parameters_fit total i (name ∷ names) [] h = tt
parameters_fit total i (name ∷ names) (s ∷ sorts) h =
    let here : i + 0 ≡ i = omega arith in (
      subst (λ j. slice_get total j ≡ Some s) here (h 0 s refl),
      parameters_fit total (suc i) names sorts (λ j t at. let next : i + suc j ≡ suc i + j = omega arith in subst (λ k. slice_get total k ≡ Some t) next (h (suc j) t at)),
    )

-- a term that is placed at a sort is itself or a number read as Real
placed_fits : (total : List Sort) (s : Sort) (t u : Term) (same real int : Bool) → cond same (Some t) (cond (real && int) (Some (cond int (apply to_real (terms t no_terms)) t)) None) ≡ Some u
    → RootFits total t → RootFits total u
placed_fits total s t u true real int e h = let is : t ≡ u = cc in subst (RootFits total) is h
placed_fits total s t u false true true e h = let is : apply to_real (terms t no_terms) ≡ u = cc in subst (RootFits total) is tt
placed_fits total s t u false true false e h = cc
placed_fits total s t u false false int e h = cc

body_fits : TermFits → (s : State) (names : List (List ℕ)) (written : Option (List Sort)) (sort : Option Sort) (body : Expression) (sorts : List Sort) (t : Term)
    → AllByRecursion (λ (d : Definition). RootFits d.parameters d.body) (definitions_of s) → written ≡ Some sorts → body_term (scope_of s) names written sort body ≡ Some t → RootFits sorts t
body_fits fit s names None sort body sorts t definitions same is = cc
body_fits fit s names (Some others) None body sorts t definitions same is = cc
body_fits fit s names (Some others) (Some sort) body sorts t definitions same is =
    let alike : others ≡ sorts = cc in
    subst (λ l. RootFits l t) alike
    ((elim (term_of (body_scope s names others) body) as (λ (o : Option Term). term_of (body_scope s names others) body ≡ o → option_and_then (placed sort) o ≡ Some t → RootFits others t) [
      | Some u ↦ λ e found.
          placed_fits others sort u t (has_sort sort u) (are_same_sort sort real_sort) (has_sort int_sort u) found
          (fit others (body_scope s names others)
          (record { bound = parameters_fit others 0 names others (λ j k at. let zero_more : 0 + j ≡ j = omega arith in subst (λ i. slice_get others i ≡ Some k) (sym zero_more) at); definitions = definitions }) body u e)
      | None ↦ λ e found. cc
    ]) refl is)

-- ---- The rules on a definition

either : (b x y : Bool) → (x || y) ≡ true → (b || x || y) ≡ true
either true x y e = refl
either false x y e = e

-- what comes behind the rules on names
abbrev by_sorts : State → List ℕ → List Parameter → WrittenSort → Expression → Outcome
by_sorts s name parameters sort body = definition_by s name (parameter_names parameters) (sorts_written (parameter_sorts parameters)) (sort_written sort) body

unknown_definition : (s : State) (name : List ℕ) (parameters : List Parameter) (sort : WrittenSort) (body : Expression) → definition_unknown (scope_of s) parameters sort body ≡ true
    → definition_of s name parameters sort body ≡ refused unknown_symbol
unknown_definition s name parameters sort body e =
    unknown_first (definition_unknown (scope_of s) parameters sort body) (is_live_name s name || clash (parameter_names parameters) || has_clash body) (by_sorts s name parameters sort body) e

declared_definition : (s : State) (name : List ℕ) (parameters : List Parameter) (sort : WrittenSort) (body : Expression) → definition_unknown (scope_of s) parameters sort body ≡ false
    → is_live_name s name ≡ true → definition_of s name parameters sort body ≡ refused already_declared
declared_definition s name parameters sort body known live =
    clash_next (definition_unknown (scope_of s) parameters sort body) (is_live_name s name || clash (parameter_names parameters) || has_clash body) (by_sorts s name parameters sort body) known
    (ap (λ b. b || clash (parameter_names parameters) || has_clash body) live)

clashing_definition : (s : State) (name : List ℕ) (parameters : List Parameter) (sort : WrittenSort) (body : Expression)
    → ClashesFirst (definition_unknown (scope_of s) parameters sort body) (definition_clash parameters body) → definition_of s name parameters sort body ≡ refused already_declared
clashing_definition s name parameters sort body h =
    clash_next (definition_unknown (scope_of s) parameters sort body) (is_live_name s name || clash (parameter_names parameters) || has_clash body) (by_sorts s name parameters sort body) h.known
    (either (is_live_name s name) (clash (parameter_names parameters)) (has_clash body) h.clashes)

-- a definition whose names are well, by its sorts and its body
past : (s : State) (name : List ℕ) (parameters : List Parameter) (sort : WrittenSort) (body : Expression)
    → definition_unknown (scope_of s) parameters sort body ≡ false → is_live_name s name ≡ false → definition_clash parameters body ≡ false
    → definition_of s name parameters sort body ≡ by_sorts s name parameters sort body
past s name parameters sort body known fresh distinct =
    past_names (definition_unknown (scope_of s) parameters sort body) (is_live_name s name || clash (parameter_names parameters) || has_clash body) (by_sorts s name parameters sort body) known
    (ap (λ b. b || clash (parameter_names parameters) || has_clash body) fresh ∙ distinct)

-- what becomes of a body
abbrev body_outcome : List ℕ → List Sort → Option Term → Outcome
body_outcome name sorts o = elim o [ Some t ↦ linear_outcome (is_linear (normal_of t)) (define (record { name = name; parameters = sorts; body = t })) | None ↦ refused wrong_sort ]

no_body : (s : State) (name : List ℕ) (names : List (List ℕ)) (sorts : Option (List Sort)) (sort : Option Sort) (body : Expression) → body_term (scope_of s) names sorts sort body ≡ None
    → definition_by s name names sorts sort body ≡ refused wrong_sort
no_body s name names None sort body e = refl
no_body s name names (Some sorts) None body e = refl
no_body s name names (Some sorts) (Some sort) body e = ap (body_outcome name sorts) e

by_body : (s : State) (name : List ℕ) (names : List (List ℕ)) (written : Option (List Sort)) (sort : Option Sort) (body : Expression) (sorts : List Sort) (t : Term)
    → written ≡ Some sorts → body_term (scope_of s) names written sort body ≡ Some t
    → definition_by s name names written sort body ≡ linear_outcome (is_linear (normal_of t)) (define (record { name = name; parameters = sorts; body = t }))
by_body s name names None sort body sorts t same e = cc
by_body s name names (Some others) None body sorts t same e = cc
by_body s name names (Some others) (Some sort) body sorts t same e =
    let alike : others ≡ sorts = cc in
    ap (body_outcome name others) e ∙ ap (λ l. linear_outcome (is_linear (normal_of t)) (define (record { name = name; parameters = l; body = t }))) alike

unsorted_definition : (s : State) (name : List ℕ) (parameters : List Parameter) (sort : WrittenSort) (body : Expression) → is_live_name s name ≡ false
    → IsWellNamed (definition_unknown (scope_of s) parameters sort body) (definition_clash parameters body) (definition_term (scope_of s) parameters sort body ≡ None)
    → definition_of s name parameters sort body ≡ refused wrong_sort
unsorted_definition s name parameters sort body fresh h =
    past s name parameters sort body h.known fresh h.distinct
    ∙ no_body s name (parameter_names parameters) (sorts_written (parameter_sorts parameters)) (sort_written sort) body h.holds

-- what is refused where nothing is made of a definition whose name is new
pub unmade_definition : (s : State) (name : List ℕ) (parameters : List Parameter) (sort : WrittenSort) (body : Expression) (error : ElaborateError) → is_live_name s name ≡ false
    → (error ≡ errors.Unknown → definition_unknown (scope_of s) parameters sort body ≡ true)
    → (error ≡ errors.Clash → ClashesFirst (definition_unknown (scope_of s) parameters sort body) (definition_clash parameters body))
    → (error ≡ errors.Sort → IsWellNamed (definition_unknown (scope_of s) parameters sort body) (definition_clash parameters body) (definition_term (scope_of s) parameters sort body ≡ None))
    → IfSome (rule_of (refusal_by error)) (λ e. definition_of s name parameters sort body ≡ refused e)
unmade_definition s name parameters sort body errors.Unknown fresh unknown clashes unfit = unknown_definition s name parameters sort body (unknown refl)
unmade_definition s name parameters sort body errors.Clash fresh unknown clashes unfit = clashing_definition s name parameters sort body (clashes refl)
unmade_definition s name parameters sort body errors.Sort fresh unknown clashes unfit = unsorted_definition s name parameters sort body fresh (unfit refl)
unmade_definition s name parameters sort body errors.Memory fresh unknown clashes unfit = tt

-- what is refused where a name is defined that is declared already, whatever was made of it
pub redeclared_definition : (s : State) (name : List ℕ) (parameters : List Parameter) (sort : WrittenSort) (body : Expression) (ns : List Node) (made : Result code.Definition ElaborateError)
    → is_live_name s name ≡ true
    → (made ≡ Err errors.Unknown → definition_unknown (scope_of s) parameters sort body ≡ true)
    → (made ≡ Err errors.Clash → ClashesFirst (definition_unknown (scope_of s) parameters sort body) (definition_clash parameters body))
    → IfOk made (λ d. IsWellNamed (definition_unknown (scope_of s) parameters sort body) (definition_clash parameters body) (HasBody (scope_of s) parameters sort body ns d))
    → (made ≡ Err errors.Sort → IsWellNamed (definition_unknown (scope_of s) parameters sort body) (definition_clash parameters body) (definition_term (scope_of s) parameters sort body ≡ None))
    → IfSome (rule_of (redeclared_by made)) (λ e. definition_of s name parameters sort body ≡ refused e)
redeclared_definition s name parameters sort body ns (Ok d) live unknown clashes fits unfit = declared_definition s name parameters sort body fits.known live
redeclared_definition s name parameters sort body ns (Err errors.Unknown) live unknown clashes fits unfit = unknown_definition s name parameters sort body (unknown refl)
redeclared_definition s name parameters sort body ns (Err errors.Clash) live unknown clashes fits unfit = clashing_definition s name parameters sort body (clashes refl)
redeclared_definition s name parameters sort body ns (Err errors.Sort) live unknown clashes fits unfit = declared_definition s name parameters sort body (unfit refl).known live
redeclared_definition s name parameters sort body ns (Err errors.Memory) live unknown clashes fits unfit = tt

of_linear : (s : State) (name : List ℕ) (parameters : List Parameter) (sort : WrittenSort) (body : Expression) (ns : List Node) (d : code.Definition) (linear : Bool) → is_live_name s name ≡ false
    → (h : IsWellNamed (definition_unknown (scope_of s) parameters sort body) (definition_clash parameters body) (HasBody (scope_of s) parameters sort body ns d))
    → is_linear (term_in ns d.body.id) ≡ linear
    → definition_of s name parameters sort body ≡ linear_outcome linear (define (record { name = name; parameters = map sort_of d.parameters.items; body = h.holds.stands.term }))
of_linear s name parameters sort body ns d linear fresh h is =
    past s name parameters sort body h.known fresh h.distinct
    ∙ by_body s name (parameter_names parameters) (sorts_written (parameter_sorts parameters)) (sort_written sort) body (map sort_of d.parameters.items) h.holds.stands.term h.holds.sorted h.holds.stands.is
    ∙ ap (λ b. linear_outcome b (define (record { name = name; parameters = map sort_of d.parameters.items; body = h.holds.stands.term }))) (ap is_linear (sym h.holds.stands.typed.normal) ∙ is)

pub nonlinear_definition : (s : State) (name : List ℕ) (parameters : List Parameter) (sort : WrittenSort) (body : Expression) (ns : List Node) (d : code.Definition) → is_live_name s name ≡ false
    → IsWellNamed (definition_unknown (scope_of s) parameters sort body) (definition_clash parameters body) (HasBody (scope_of s) parameters sort body ns d)
    → is_linear (term_in ns d.body.id) ≡ false → definition_of s name parameters sort body ≡ refused not_linear
nonlinear_definition s name parameters sort body ns d fresh h crooked = of_linear s name parameters sort body ns d false fresh h crooked

-- the table may have grown by companions since
pub linear_definition : TermFits → (s : State) (name : List ℕ) (parameters : List Parameter) (sort : WrittenSort) (body : Expression) (mid new : List Node) (d : code.Definition)
    → AllByRecursion (λ (e : Definition). RootFits e.parameters e.body) (definitions_of s) → is_live_name s name ≡ false
    → IsWellNamed (definition_unknown (scope_of s) parameters sort body) (definition_clash parameters body) (HasBody (scope_of s) parameters sort body mid d)
    → is_linear (term_in mid d.body.id) ≡ true → ((t : Term) → IsTyped mid d.body t → IsTyped new d.body t) → Defines name (definition_of s name parameters sort body) new d
linear_definition fit s name parameters sort body mid new d definitions fresh h straight stays =
    record {
      definition = record { name = name; parameters = map sort_of d.parameters.items; body = h.holds.stands.term };
      is = of_linear s name parameters sort body mid d true fresh h straight;
      named = refl;
      defined = record { parameters = refl; body = stays h.holds.stands.term h.holds.stands.typed };
      fits = body_fits fit s (parameter_names parameters) (sorts_written (parameter_sorts parameters)) (sort_written sort) body (map sort_of d.parameters.items) h.holds.stands.term definitions
          h.holds.sorted h.holds.stands.is;
    }
