-- The model of the live constants that is made of the values that a search gave.
use Rattle.std.proofs.Common.{◌≡◌, ℕ, zero, suc, ◌+◌, ◌<◌, ◌≤◌, Bool, true, false, ◌||◌, IsTrue, List, [], ◌∷◌, ◌++◌, length, map, drop, Option, Some, None, option_map, refl, sym, ap, ◌∙◌, subst, arith, get_or, true≢false, add-one, append-nil, append_assoc}
use Rattle.std.specs.Prelude.{Contains, flat_map, slice_get, bytes_eq, pos, unwrap_or, if◌then◌else◌}
use Rattle.std.specs.List.{AllByRecursion, list_any}
use Rattle.std.specs.Cmp.Lexicographic.{nat_list_eq_equiv}
use Rattle.std.proofs.lemmas.Grind.{flat_map-append}
use Rattle.std.proofs.lemmas.Slice.Eq.{bytes_eq-Decides}
use Rattle.std.proofs.lemmas.List.Folds.{list_any_at}
use Rattle.std.proofs.lemmas.List.Elements.{recursion_from_All}
use Rattle.std.proofs.Math.Path.{fun_ext}
use Rattle.std.proofs.Math.Seq.{drop-cons}
use Rattle.std.proofs.lemmas.Option.{slice_get-get_or, slice_get_past}
use Rattle.std.proofs.lemmas.Bool.{and_from, and_parts}
use Rattle.nz_fractions.specs.Fraction.{IsNumber, whole}
use Rattle.nz_spec.specs.terms.Term.{Sort, bool_sort, int_sort, real_sort, are_same_sort, Constant, are_same_constant, Head, constant, falsum, constant_of, Term, apply, no_terms, Value, Assignment, default_value, IsOfSort, ValueFits, DecimalsAreNumbers, IsTrueUnder, is_true}
use Rattle.nz_spec.specs.laws.Numerals.{NumeralsAreWhole}
use Rattle.nz_spec.specs.clauses.Literal.{Literal, term_literal, is_at_most, is_below, are_same_sign, is_literal_true, AreTrueLiterals}
use Rattle.nz_spec.specs.terms.Table.{Node, IsTable, TermOfNode, AssignsByNumber, term_in, is_node_of, listed_value, assignment_by}
use Rattle.nz_spec.specs.search.Decide.{constants_of_head, asserted_terms, IsValueOf, AreModelValues}
use Rattle.nz_spec.specs.terms.Normal.{normal_of, NormalKeepsValue}
use Rattle.nz_spec.specs.terms.OverConstants.{IsOver, AgreeOn, ConstantsTellValues}
use Rattle.nz_spec.specs.terms.Model.{Binding, assignment_of, ValuesFit, IsAssignment, IsModel, AreModel, IsUnsatisfiable}
use Rattle.nz_script.specs.live.Live.{State, constants_of, assertions_of}
use Rattle.nz_script.specs.laws.Sorts.{IsAssumable}
use Rattle.nz_term.specs.declared.term_lits.TermLit.{TermLit}
use Rattle.nz_term.specs.TermLits.{literal_of}
use Rattle.nz_sort.specs.declared.items.Accepted.{Accepted}
use Rattle.nz_sort.specs.declared.levels.Level.{Level}
use Rattle.nz_sort.specs.Items.{table_numbers}
use Rattle.nz_sort.specs.Layers.{Layer, layer_of}
use Rattle.nz_sort.specs.Live.{Standing, asserted_by, constants_by, IsLive}
use Rattle.nz_session.specs.Completed.{bound_at, completed, valued_at, completed_values}

-- ---- Tests

same_sorts : (s t : Sort) → are_same_sort s t ≡ true → s ≡ t
same_sorts bool_sort bool_sort e = refl
same_sorts int_sort int_sort e = refl
same_sorts real_sort real_sort e = refl
same_sorts s t e = cc

sort_itself : (s : Sort) → are_same_sort s s ≡ true
sort_itself bool_sort = refl
sort_itself int_sort = refl
sort_itself real_sort = refl

same_constant : (c d : Constant) → are_same_constant c d ≡ true → c ≡ d
same_constant c d e =
    let both = and_parts (bytes_eq c.name d.name) (are_same_sort c.sort d.sort) e in
    let named : c.name ≡ d.name = (bytes_eq-Decides c.name d.name).0 both.0 in
    let sorted : c.sort ≡ d.sort = same_sorts c.sort d.sort both.1 in
    ap (λ x. let r : Constant = record { name = x; sort = c.sort } in r) named ∙ ap (λ x. let r : Constant = record { name = d.name; sort = x } in r) sorted

-- ---- A model by an assignment

-- a constant with what the assignment gives it
abbrev pub bound_by : Assignment → Constant → Binding
bound_by a c = record { constant = c; value = a c }

bound_first : (a : Assignment) (d c : Constant) (b : Bool) (v : Value) → are_same_constant d c ≡ b → (b ≡ false → v ≡ a c) → (if b then a d else v) ≡ a c
bound_first a d c true v e h = ap a (same_constant d c e)
bound_first a d c false v e h = h refl

-- an assignment that gives every other constant the default is that of its bindings
bound_value : (a : Assignment) (cs : List Constant) (c : Constant) → (list_any (λ d. are_same_constant d c) cs ≡ false → a c ≡ default_value c.sort)
    → assignment_of (map (bound_by a) cs) c ≡ a c
bound_value a [] c h = sym (h refl)
bound_value a (d ∷ cs) c h =
    bound_first a d c (are_same_constant d c) (assignment_of (map (bound_by a) cs) c) refl
    (λ other. bound_value a cs c (λ none. h (ap (λ b. b || list_any (λ d. are_same_constant d c) cs) other ∙ none)))

-- ---- A model of some constants alone

same_itself : (c : Constant) → are_same_constant c c ≡ true
same_itself c = and_from (bytes_eq c.name c.name) (are_same_sort c.sort c.sort) (nat_list_eq_equiv.refl c.name) (sort_itself c.sort)

contained_any : (cs : List Constant) (c : Constant) → Contains cs c → list_any (λ d. are_same_constant d c) cs ≡ true
contained_any cs c h = list_any_at (λ d. are_same_constant d c) cs h.0 c h.1 (ap (λ d. are_same_constant d c) h.2 ∙ same_itself c)

-- what is bound agrees with what it is bound by
bound_agrees : (a : Assignment) (cs : List Constant) → AgreeOn cs (assignment_of (map (bound_by a) cs)) a
bound_agrees a cs c h = bound_value a cs c (λ none. absurd (true≢false (sym (contained_any cs c h) ∙ none)))

default_is : (t : Sort) → IsOfSort t (default_value t)
default_is bool_sort = tt
default_is int_sort = refl
default_is real_sort = tt

either_is : (d c : Constant) (b : Bool) (v w : Value) → are_same_constant d c ≡ b → IsOfSort d.sort v → IsOfSort c.sort w → IsOfSort c.sort (if b then v else w)
either_is d c true v w e h k = subst (λ (x : Constant). IsOfSort x.sort v) (same_constant d c e) h
either_is d c false v w e h k = k

bound_assigns : (a : Assignment) → IsAssignment a → (cs : List Constant) → IsAssignment (assignment_of (map (bound_by a) cs))
bound_assigns a given [] c = default_is c.sort
bound_assigns a given (d ∷ cs) c =
    either_is d c (are_same_constant d c) (a d) (assignment_of (map (bound_by a) cs) c) refl (given d) (bound_assigns a given cs c)

-- ---- Values that fit

zero_fits : DecimalsAreNumbers → NumeralsAreWhole → IsNumber (whole (pos 0))
zero_fits decimals numerals = subst IsNumber (numerals 0) (decimals 0 0 refl)

default_fits : DecimalsAreNumbers → NumeralsAreWhole → (s : Sort) → ValueFits (default_value s)
default_fits decimals numerals bool_sort = tt
default_fits decimals numerals int_sort = zero_fits decimals numerals
default_fits decimals numerals real_sort = zero_fits decimals numerals

chosen : (b : Bool) (v w : Value) → ValueFits v → ValueFits w → ValueFits (if b then v else w)
chosen true v w f g = f
chosen false v w f g = g

value_fits : DecimalsAreNumbers → NumeralsAreWhole → (ns : List Node) (ps : List (ℕ × Value)) (c : Constant) → AllByRecursion (IsValueOf ns) ps
    → ValueFits (assignment_by ns ps c)
value_fits decimals numerals ns [] c h = default_fits decimals numerals c.sort
value_fits decimals numerals ns (p ∷ ps) c h =
    chosen (is_node_of (slice_get ns p.0) c) p.1 (assignment_by ns ps c) h.0.fits (value_fits decimals numerals ns ps c h.1)

bound_fit : (a : Assignment) (cs : List Constant) → ((c : Constant) → ValueFits (a c)) → ValuesFit (map (bound_by a) cs)
bound_fit a [] h = tt
bound_fit a (c ∷ cs) h = (h c, bound_fit a cs h)

bound_constants : (a : Assignment) (cs : List Constant) → map (λ (b : Binding). b.constant) (map (bound_by a) cs) ≡ cs
bound_constants a [] = refl
bound_constants a (c ∷ cs) = ap (λ ds. c ∷ ds) (bound_constants a cs)

-- ---- The live constants

abbrev head_in : Term → Head
head_in (apply h ts) = h

-- the number of a constant's term is that of its node
constant_node : (ns : List Node) → TermOfNode → IsTable ns → (i : ℕ) (c : Constant) → i < length ns → term_in ns i ≡ apply (constant c) no_terms
    → (n : Node) × (slice_get ns i ≡ Some n) × (n.head ≡ constant c)
constant_node ns law table i c below e =
    let n : Node = get_or ns i (record { head = falsum; kids = [] }) in
    let at : slice_get ns i ≡ Some n = slice_get-get_or ns i (record { head = falsum; kids = [] }) below in
    (n, at, ap head_in (sym (law ns table i n at) ∙ e))

bound_node : (ns : List Node) (ps : List (ℕ × Value)) → TermOfNode → IsTable ns → (i : ℕ) (c : Constant) → i < length ns → term_in ns i ≡ apply (constant c) no_terms
    → bound_at ns ps (slice_get ns i) ≡ bound_by (assignment_by ns ps) c ∷ []
bound_node ns ps law table i c below e =
    let n = constant_node ns law table i c below e in
    ap (bound_at ns ps) n.1 ∙ ap (λ h. map (bound_by (assignment_by ns ps)) (constants_of_head h)) n.2

-- what numbers of constants are completed to
completed_constants : (ns : List Node) (ps : List (ℕ × Value)) → TermOfNode → IsTable ns → (is : List ℕ) (cs : List Constant) → AllByRecursion (λ i. i < length ns) is
    → map (term_in ns) is ≡ map (λ (c : Constant). apply (constant c) no_terms) cs → completed ns ps is ≡ map (bound_by (assignment_by ns ps)) cs
completed_constants ns ps law table [] [] within e = refl
completed_constants ns ps law table [] (c ∷ cs) within e = absurd cc
completed_constants ns ps law table (i ∷ is) [] within e = absurd cc
completed_constants ns ps law table (i ∷ is) (c ∷ cs) within e =
    let first : term_in ns i ≡ apply (constant c) no_terms = cc in
    let rest : map (term_in ns) is ≡ map (λ (c : Constant). apply (constant c) no_terms) cs = cc in
    ap (λ bs. bs ++ completed ns ps is) (bound_node ns ps law table i c within.0 first)
    ∙ ap (λ bs. bound_by (assignment_by ns ps) c ∷ bs) (completed_constants ns ps law table is cs within.1 rest)

-- ---- Normal terms

true_normals : NormalKeepsValue → (a : Assignment) (ts : List Term) → AllByRecursion (IsTrueUnder a) (map normal_of ts) → AllByRecursion (IsTrueUnder a) ts
true_normals law a [] h = tt
true_normals law a (t ∷ ts) h = (subst (λ v. IsTrue (is_true v)) (law a t) h.0, true_normals law a ts h.1)

normals_true : NormalKeepsValue → (a : Assignment) (ts : List Term) → AllByRecursion (IsTrueUnder a) ts → AllByRecursion (IsTrueUnder a) (map normal_of ts)
normals_true law a [] h = tt
normals_true law a (t ∷ ts) h = (subst (λ v. IsTrue (is_true v)) (sym (law a t)) h.0, normals_true law a ts h.1)

-- what makes the normal terms true makes the terms true
model_of_normals : NormalKeepsValue → (a : Assignment) (ts : List Term) (assumed : List Literal) → IsModel (map normal_of ts) assumed a → IsModel ts assumed a
model_of_normals law a ts assumed m = record { sorts = m.sorts; asserted_hold = true_normals law a ts m.asserted_hold; assumed_hold = m.assumed_hold }

pub normals_of_model : NormalKeepsValue → (a : Assignment) (ts : List Term) (assumed : List Literal) → IsModel ts assumed a → IsModel (map normal_of ts) assumed a
normals_of_model law a ts assumed m = record { sorts = m.sorts; asserted_hold = normals_true law a ts m.asserted_hold; assumed_hold = m.assumed_hold }

-- ---- Truths under assignments that agree

module _ (tell : ConstantsTellValues) (cs : List Constant) (a b : Assignment) (agree : AgreeOn cs b a) where
  terms_agree : (ts : List Term) → AllByRecursion (IsOver cs) ts → AllByRecursion (IsTrueUnder a) ts → AllByRecursion (IsTrueUnder b) ts
  terms_agree [] over h = tt
  terms_agree (t ∷ ts) over h = (subst (λ v. IsTrue (is_true v)) (sym (tell cs b a t agree over.0)) h.0, terms_agree ts over.1 h.1)

  literal_holds : (s : State) (m : Literal) → constants_of s ≡ cs → IsAssumable s m → IsTrue (is_literal_true a m) → IsTrue (is_literal_true b m)
  literal_holds s (term_literal t sign) e k h = subst (λ v. IsTrue (are_same_sign sign (is_true v))) (sym (tell cs b a t agree (subst (λ ds. IsOver ds t) e k.0))) h
  literal_holds s (is_at_most ps c) e k h = absurd k
  literal_holds s (is_below ps c) e k h = absurd k

  literals_hold : (s : State) (ms : List Literal) → constants_of s ≡ cs → AllByRecursion (IsAssumable s) ms → AreTrueLiterals a ms → AreTrueLiterals b ms
  literals_hold s [] e k h = tt
  literals_hold s (m ∷ ms) e k h = (literal_holds s m e k.0 h.0, literals_hold s ms e k.1 h.1)

-- ---- Models of the live state

-- what a search gave for the table makes a model of the live constants
pub live_model : DecimalsAreNumbers → NumeralsAreWhole → NormalKeepsValue → ConstantsTellValues → TermOfNode → (ns : List Node) → IsTable ns → (l : Standing) (s : State) (ps : List (ℕ × Value)) (ms : List Literal)
    → IsLive ns l s → AllByRecursion (IsOver (constants_of s)) (assertions_of s) → AllByRecursion (IsAssumable s) ms → AreModelValues ns (asserted_terms ns (asserted_by l)) [] ps
    → AreTrueLiterals (assignment_by ns ps) ms → AreModel (constants_of s) (assertions_of s) ms (completed ns ps (constants_by l))
live_model decimals numerals keeps tell law ns table l s ps ms h over assumable v holds =
    let a : Assignment = assignment_by ns ps in
    let cs = constants_of s in
    let within : AllByRecursion (λ i. i < length ns) (constants_by l) = recursion_from_All (λ i. i < length ns) (constants_by l) h.constants.within in
    let bound = completed_constants ns ps law table (constants_by l) cs within h.constants.terms in
    let b : Assignment = assignment_of (map (bound_by a) cs) in
    let model = model_of_normals keeps a (assertions_of s) [] (subst (λ ts. IsModel ts [] a) h.terms v.makes) in
    record {
      constants = ap (map (λ (x : Binding). x.constant)) bound ∙ bound_constants a cs;
      numbers = subst ValuesFit (sym bound) (bound_fit a cs (λ c. value_fits decimals numerals ns ps c v.values));
      makes = subst (IsModel (assertions_of s) ms) (sym (ap assignment_of bound)) (record {
        sorts = bound_assigns a model.sorts cs;
        asserted_hold = terms_agree tell cs a b (bound_agrees a cs) (assertions_of s) over model.asserted_hold;
        assumed_hold = literals_hold tell cs a b (bound_agrees a cs) s ms refl assumable holds;
      });
    }

-- ---- The values that are kept

node_of_constant : (h : Head) (c x : Constant) → h ≡ constant c → elim (constant_of h) [ Some d ↦ are_same_constant d x | None ↦ false ] ≡ are_same_constant c x
node_of_constant h c x e = ap (λ (g : Head). elim (constant_of g) [ Some d ↦ are_same_constant d x | None ↦ false ]) e

valued_node : (ns : List Node) (ps : List (ℕ × Value)) → TermOfNode → IsTable ns → (i : ℕ) (c : Constant) → i < length ns → term_in ns i ≡ apply (constant c) no_terms
    → valued_at ns ps i (slice_get ns i) ≡ (i, assignment_by ns ps c) ∷ []
valued_node ns ps law table i c below e =
    let n = constant_node ns law table i c below e in
    ap (valued_at ns ps i) n.1 ∙ ap (λ h. map (λ (d : Constant). (i, assignment_by ns ps d)) (constants_of_head h)) n.2

-- by numbers they give each constant what the bindings give it
values_bound : (ns : List Node) (ps : List (ℕ × Value)) → TermOfNode → IsTable ns → (is : List ℕ) (cs : List Constant) → AllByRecursion (λ i. i < length ns) is
    → map (term_in ns) is ≡ map (λ (c : Constant). apply (constant c) no_terms) cs → (x : Constant)
    → assignment_by ns (completed_values ns ps is) x ≡ assignment_of (map (bound_by (assignment_by ns ps)) cs) x
values_bound ns ps law table [] [] within e x = refl
values_bound ns ps law table [] (c ∷ cs) within e x = absurd cc
values_bound ns ps law table (i ∷ is) [] within e x = absurd cc
values_bound ns ps law table (i ∷ is) (c ∷ cs) within e x =
    let first : term_in ns i ≡ apply (constant c) no_terms = cc in
    let rest : map (term_in ns) is ≡ map (λ (d : Constant). apply (constant d) no_terms) cs = cc in
    let n = constant_node ns law table i c within.0 first in
    let test : is_node_of (slice_get ns i) x ≡ are_same_constant c x = ap (λ o. is_node_of o x) n.1 ∙ node_of_constant n.0.head c x n.2 in
    ap (λ qs. assignment_by ns (qs ++ completed_values ns ps is) x) (valued_node ns ps law table i c within.0 first)
    ∙ ap (λ b. if b then assignment_by ns ps c else assignment_by ns (completed_values ns ps is) x) test
    ∙ ap (λ v. if are_same_constant c x then assignment_by ns ps c else v) (values_bound ns ps law table is cs within.1 rest x)

pub live_values : TermOfNode → (ns : List Node) → IsTable ns → (l : Standing) (s : State) (ps : List (ℕ × Value)) → IsLive ns l s
    → assignment_by ns (completed_values ns ps (constants_by l)) ≡ assignment_of (completed ns ps (constants_by l))
live_values law ns table l s ps h =
    let within : AllByRecursion (λ i. i < length ns) (constants_by l) = recursion_from_All (λ i. i < length ns) (constants_by l) h.constants.within in
    fun_ext (λ x. values_bound ns ps law table (constants_by l) (constants_of s) within h.constants.terms x)
    ∙ sym (ap assignment_of (completed_constants ns ps law table (constants_by l) (constants_of s) within h.constants.terms))

-- their numbers are of the table
pairs_within : (ns : List Node) (a : Assignment) (i : ℕ) → i < length ns → (cs : List Constant) → AllByRecursion (λ (p : ℕ × Value). p.0 < length ns) (map (λ (c : Constant). (i, a c)) cs)
pairs_within ns a i below [] = tt
pairs_within ns a i below (c ∷ cs) = (below, pairs_within ns a i below cs)

valued_within : (ns : List Node) (ps : List (ℕ × Value)) (i : ℕ) (o : Option Node) → i < length ns → AllByRecursion (λ (p : ℕ × Value). p.0 < length ns) (valued_at ns ps i o)
valued_within ns ps i None below = tt
valued_within ns ps i (Some n) below = pairs_within ns (assignment_by ns ps) i below (constants_of_head n.head)

within_append : (ns : List Node) (ps qs : List (ℕ × Value)) → AllByRecursion (λ (p : ℕ × Value). p.0 < length ns) ps → AllByRecursion (λ (p : ℕ × Value). p.0 < length ns) qs
    → AllByRecursion (λ (p : ℕ × Value). p.0 < length ns) (ps ++ qs)
within_append ns [] qs h k = k
within_append ns (p ∷ ps) qs h k = (h.0, within_append ns ps qs h.1 k)

pub values_in : (ns : List Node) (ps : List (ℕ × Value)) (is : List ℕ) → AllByRecursion (λ i. i < length ns) is → AllByRecursion (λ (p : ℕ × Value). p.0 < length ns) (completed_values ns ps is)
values_in ns ps [] h = tt
values_in ns ps (i ∷ is) h =
    within_append ns (valued_at ns ps i (slice_get ns i)) (completed_values ns ps is) (valued_within ns ps i (slice_get ns i) h.0) (values_in ns ps is h.1)

-- what the terms of the table can't be true of, the live assertions can't, under what is assumed
pub no_live_model : NormalKeepsValue → (ns : List Node) (l : Standing) (s : State) (ls : List TermLit) (ms : List Literal) → IsLive ns l s → ((a : Assignment) → AreTrueLiterals a ms → AreTrueLiterals a (map (literal_of ns) ls))
    → IsUnsatisfiable (asserted_terms ns (asserted_by l)) (map (literal_of ns) ls) → IsUnsatisfiable (assertions_of s) ms
no_live_model keeps ns l s ls ms h told dead a m =
    let plain = subst (λ ts. IsModel ts [] a) (sym h.terms) (normals_of_model keeps a (assertions_of s) [] (record { sorts = m.sorts; asserted_hold = m.asserted_hold; assumed_hold = tt })) in
    dead a (record { sorts = plain.sorts; asserted_hold = plain.asserted_hold; assumed_hold = told a m.assumed_hold })

-- ---- Bindings, one after another

-- those of one number more
pub completed_more : (ns : List Node) (ps : List (ℕ × Value)) (items : List Accepted) (k : ℕ) (d : Accepted) (old new total : List Binding) → k < length items
    → new ≡ old ++ bound_at ns ps (slice_get ns (get_or items k d).term) → old ++ completed ns ps (table_numbers (drop k items)) ≡ total
    → new ++ completed ns ps (table_numbers (drop (k + 1) items)) ≡ total
completed_more ns ps items k d old new total below grown h =
    let first = bound_at ns ps (slice_get ns (get_or items k d).term) in
    let rest = completed ns ps (table_numbers (drop (suc k) items)) in
    let step : completed ns ps (table_numbers (drop k items)) ≡ first ++ rest = ap (λ l. completed ns ps (table_numbers l)) (drop-cons items k d below) in
    ap (λ m. new ++ completed ns ps (table_numbers (drop m items))) (add-one k) ∙ ap (λ bs. bs ++ rest) grown ∙ append_assoc old first rest ∙ ap (λ bs. old ++ bs) (sym step) ∙ h

-- a number past the table binds nothing
pub bound_past : (ns : List Node) (ps : List (ℕ × Value)) (i : ℕ) (bs : List Binding) → length ns ≤ i → bs ≡ bs ++ bound_at ns ps (slice_get ns i)
bound_past ns ps i bs past = sym (ap (λ o. bs ++ bound_at ns ps o) (slice_get_past ns i past) ∙ append-nil bs)

-- what a number binds, by the head of its term
bound_by_head : (ns : List Node) (ps : List (ℕ × Value)) (o : Option Node) (h : Head) → option_map (λ (n : Node). n.head) o ≡ Some h
    → bound_at ns ps o ≡ map (bound_by (assignment_by ns ps)) (constants_of_head h)
bound_by_head ns ps None h e = cc
bound_by_head ns ps (Some n) h e =
    let same : n.head ≡ h = cc in
    ap (λ x. map (bound_by (assignment_by ns ps)) (constants_of_head x)) same

head_node : (h : Head) (o : Option Node) → option_map (λ (n : Node). n.head) o ≡ Some h → (n : Node) × (o ≡ Some n) × (n.head ≡ h)
head_node h None e = absurd cc
head_node h (Some n) e = (n, refl, cc)

-- the value of a constant that has one by its number, or else the default of its sort
given_value : AssignsByNumber → (ns : List Node) → IsTable ns → (ps : List (ℕ × Value)) (id : ℕ) (k : Constant) (v : Value) → option_map (λ (n : Node). n.head) (slice_get ns id) ≡ Some (constant k)
    → v ≡ unwrap_or (listed_value ps id) (default_value k.sort) → v ≡ assignment_by ns ps k
given_value law ns table ps id k v head is =
    let n = head_node (constant k) (slice_get ns id) head in
    is ∙ sym (law ns table ps id n.0 k n.1 n.2)

valued_by_head : (ns : List Node) (ps : List (ℕ × Value)) (id : ℕ) (o : Option Node) (h : Head) → option_map (λ (n : Node). n.head) o ≡ Some h
    → valued_at ns ps id o ≡ map (λ (c : Constant). (id, assignment_by ns ps c)) (constants_of_head h)
valued_by_head ns ps id None h e = cc
valued_by_head ns ps id (Some n) h e =
    let same : n.head ≡ h = cc in
    ap (λ x. map (λ (c : Constant). (id, assignment_by ns ps c)) (constants_of_head x)) same

-- one value more by number
pub given_pair : AssignsByNumber → (ns : List Node) → IsTable ns → (ps : List (ℕ × Value)) (id : ℕ) (k : Constant) (v : Value) (old new : List (ℕ × Value))
    → option_map (λ (n : Node). n.head) (slice_get ns id) ≡ Some (constant k) → v ≡ unwrap_or (listed_value ps id) (default_value k.sort) → new ≡ old ++ (id, v) ∷ []
    → new ≡ old ++ valued_at ns ps id (slice_get ns id)
given_pair law ns table ps id k v old new head is grown =
    grown
    ∙ ap (λ w. old ++ (id, w) ∷ []) (given_value law ns table ps id k v head is)
    ∙ ap (λ bs. old ++ bs) (sym (valued_by_head ns ps id (slice_get ns id) (constant k) head))

-- a number past the table has no value
pub valued_past : (ns : List Node) (ps : List (ℕ × Value)) (i : ℕ) (qs : List (ℕ × Value)) → length ns ≤ i → qs ≡ qs ++ valued_at ns ps i (slice_get ns i)
valued_past ns ps i qs past = sym (ap (λ o. qs ++ valued_at ns ps i o) (slice_get_past ns i past) ∙ append-nil qs)

-- those of one number more
pub valued_more : (ns : List Node) (ps : List (ℕ × Value)) (items : List Accepted) (k : ℕ) (d : Accepted) (old new total : List (ℕ × Value)) → k < length items
    → new ≡ old ++ valued_at ns ps (get_or items k d).term (slice_get ns (get_or items k d).term) → old ++ completed_values ns ps (table_numbers (drop k items)) ≡ total
    → new ++ completed_values ns ps (table_numbers (drop (k + 1) items)) ≡ total
valued_more ns ps items k d old new total below grown h =
    let first = valued_at ns ps (get_or items k d).term (slice_get ns (get_or items k d).term) in
    let rest = completed_values ns ps (table_numbers (drop (suc k) items)) in
    let step : completed_values ns ps (table_numbers (drop k items)) ≡ first ++ rest = ap (λ l. completed_values ns ps (table_numbers l)) (drop-cons items k d below) in
    ap (λ m. new ++ completed_values ns ps (table_numbers (drop m items))) (add-one k) ∙ ap (λ bs. bs ++ rest) grown ∙ append_assoc old first rest ∙ ap (λ bs. old ++ bs) (sym step) ∙ h

-- one binding more, of a constant that has a value or else the default of its sort
pub given_binding : AssignsByNumber → (ns : List Node) → IsTable ns → (ps : List (ℕ × Value)) (id : ℕ) (k : Constant) (v : Value) (old new : List Binding)
    → option_map (λ (n : Node). n.head) (slice_get ns id) ≡ Some (constant k) → v ≡ unwrap_or (listed_value ps id) (default_value k.sort) → new ≡ old ++ record { constant = k; value = v } ∷ []
    → new ≡ old ++ bound_at ns ps (slice_get ns id)
given_binding law ns table ps id k v old new head is grown =
    grown
    ∙ ap (λ w. let b : Binding = record { constant = k; value = w } in old ++ b ∷ []) (given_value law ns table ps id k v head is)
    ∙ ap (λ bs. old ++ bs) (sym (bound_by_head ns ps (slice_get ns id) (constant k) head))

-- ---- Level by level

-- the terms of the constants of a level
abbrev constants_at : Layer → List ℕ
constants_at k = table_numbers k.constants

level_first : (ks : List Level) (i : ℕ) (x : Level) → i < length ks → x ≡ get_or ks i x → drop i (map layer_of ks) ≡ layer_of x ∷ drop (suc i) (map layer_of ks)
level_first [] i x below is = absurd (omega (arith, below))
level_first (k ∷ ks) zero x below is = ap (λ (y : Level). layer_of y ∷ map layer_of ks) (sym is)
level_first (k ∷ ks) (suc i) x below is = level_first ks i x (omega (arith, below)) is

-- what each of their numbers adds, of one level more
pub level_more : {B : Type 0} (f : ℕ → List B) (ks : List Level) (layers : List Layer) (i : ℕ) (x : Level) (items : List Accepted) (old new total : List B) → map layer_of ks ≡ layers → i < length ks
    → x ≡ get_or ks i x → items ≡ (layer_of x).constants → new ≡ old ++ flat_map f (table_numbers items) → old ++ flat_map f (flat_map constants_at (drop i layers)) ≡ total
    → new ++ flat_map f (flat_map constants_at (drop (i + 1) layers)) ≡ total
level_more f ks layers i x items old new total e below is are grown h =
    let first = flat_map f (table_numbers items) in
    let rest = flat_map f (flat_map constants_at (drop (suc i) layers)) in
    let dropped : drop i layers ≡ layer_of x ∷ drop (suc i) layers = subst (λ ls. drop i ls ≡ layer_of x ∷ drop (suc i) ls) e (level_first ks i x below is) in
    let step : flat_map f (flat_map constants_at (drop i layers)) ≡ first ++ rest =
    ap (λ ls. flat_map f (flat_map constants_at ls)) dropped
    ∙ ap (λ ys. flat_map f (table_numbers ys ++ flat_map constants_at (drop (suc i) layers))) (sym are)
    ∙ flat_map-append f (table_numbers items) (flat_map constants_at (drop (suc i) layers)) in
    ap (λ m. new ++ flat_map f (flat_map constants_at (drop m layers))) (add-one i) ∙ ap (λ bs. bs ++ rest) grown ∙ append_assoc old first rest ∙ ap (λ bs. old ++ bs) (sym step) ∙ h
