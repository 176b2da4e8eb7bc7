-- What a search found makes true what is asserted and assumed, by the laws of the tables.
use Rattle.std.proofs.Common.{◌≡◌, ℕ, zero, suc, ◌<◌, Bool, true, false, true≢false, List, [], ◌∷◌, ◌++◌, length, map, get_or, Option, Some, None, option_map, refl, sym, ap, subst, ◌∙◌, arith}
use Rattle.std.specs.Prelude.{All, Contains, IsSome, flat_map, slice_get, unwrap_or, if◌then◌else◌}
use Rattle.std.specs.List.{AllByRecursion}
use Rattle.std.proofs.lemmas.Option.{slice_get-get_or}
use Rattle.std.proofs.lemmas.List.Elements.{All-contains, All-from_recursion, All-weaker, recursion_from_All}
use Rattle.nz_lists.proofs.Elements.{AllByRecursion-append, AllByRecursion-weaker}
use Rattle.nz_fractions.specs.Fraction.{◌=ℚ◌}
use Rattle.nz_spec.specs.simplex.Basis.{Valuation}
use Rattle.nz_spec.specs.search.Decide.{IsValueOf, AreModelValues, asserted_numbers}
use Rattle.nz_spec.specs.clauses.Met.{IsMet}
use Rattle.nz_spec.specs.laws.Deciding.{MeetsTables, TablesDecide}
use Rattle.nz_spec.specs.terms.Form.{unit_value}
use Rattle.nz_spec.specs.terms.FormOf.{number_in, TermHasItsNumber}
use Rattle.nz_spec.specs.clauses.Gates.{is_boolean_term}
use Rattle.nz_spec.specs.clauses.Literal.{are_same_sign, AreTrueLiterals}
use Rattle.nz_spec.specs.terms.Model.{IsAssignment}
use Rattle.nz_spec.specs.terms.Order.{companions, companions_of, listing_order, listing_orders}
use Rattle.nz_spec.specs.terms.Table.{Node, IsTable, term_in, terms_at, listed_value, assignment_by, TermOfNode, AssignsByNumber}
use Rattle.nz_spec.specs.terms.Taken.{IsTaken}
use Rattle.nz_spec.specs.terms.Term.{Sort, bool_sort, int_sort, real_sort, is_int_sort, Constant, constant, falsum, Term, apply, no_terms, Assignment, Value, truth, number_of, value_of, is_true, is_bool, default_value, IsTrueUnder}
use Rattle.nz_lin.specs.declared.bound.Bound.{Bound}
use Rattle.nz_log.specs.declared.atoms.Atom.TheVariants as atoms
use Rattle.nz_log.specs.declared.lits.Lit.{Lit}
use Rattle.nz_term.specs.declared.term_lits.TermLit.{TermLit}
use Rattle.nz_log.specs.Atoms.{AtomsOfTerms, literal_in}
use Rattle.nz_term.specs.TermLits.{literal_of}
use Rattle.nz_cform.specs.Covering.{HasCovered, kids_at}
use Rattle.nz_cform.specs.Forms.{IsCoveredWithin, covered_at}
use Rattle.nz_cform.specs.Laws.{RowsMeetTables}
use Rattle.nz_reals.specs.Chosen.{HasWorths}
use Rattle.nz_reals.specs.State.{told_lits}
use Rattle.nz_sat.specs.Sats.{IsTrueLit}
use Rattle.nz_search.specs.Levels.{Level, added_by_level, asserted_by_level}
use Rattle.nz_engine.specs.Checking.{HasCoveredWorths, HasFound, IsPosed, truth_in, value_at}
use Rattle.nz_engine.specs.Preparing.{PreparedState, IsPrepared}
use Rattle.nz_engine.proofs.LevelPreservation.{some_of, some_within}
use Rattle.nz_engine.proofs.ConstantValues.{constant_values, is_assignment, listed_behind, listed_first, listed_truth, no_truth}
use Rattle.nz_engine.proofs.FoundClauses.{asserted_truth, assumed_truth, clauses_met, covered_within, truth_is, truths_found}

-- ---- Parts

-- what holds of what is listed with each argument holds of what is listed with all
each_argument : (P : Term → Type 0) (f : ℕ → Term) (ks : List ℕ) → AllByRecursion (λ k. AllByRecursion P (listing_order (f k))) ks → AllByRecursion P (listing_orders (terms_at f ks))
each_argument P f [] h = tt
each_argument P f (k ∷ ks) h = AllByRecursion-append P (listing_order (f k)) (listing_orders (terms_at f ks)) h.0 (each_argument P f ks h.1)

-- what holds of each term of some numbers, of which arguments are among them, and of its companions, holds of all that is listed with these
module _ (of_node : TermOfNode) (ns : List Node) (table : IsTable ns) (Has : ℕ → Type 0) (P : Term → Type 0) (inside : (t : ℕ) → Has t → t < length ns)
    (arguments : (t : ℕ) → Has t → All Has (kids_at ns t)) (beside : (t : ℕ) → Has t → AllByRecursion P (companions_of (term_in ns t))) (own : (t : ℕ) → Has t → P (term_in ns t)) where
  parts_up_to : (fuel t : ℕ) → t < fuel → Has t → AllByRecursion P (listing_order (term_in ns t))
  parts_up_to zero t below has = absurd (omega arith)
  parts_up_to (suc fuel) t below has =
      let n : Node = get_or ns t (record { head = falsum; kids = [] }) in
      let at : slice_get ns t ≡ Some n = slice_get-get_or ns t (record { head = falsum; kids = [] }) (inside t has) in
      let whole : term_in ns t ≡ apply n.head (terms_at (term_in ns) n.kids) = of_node ns table t n at in
      let kids : All Has n.kids = subst (All Has) (ap (λ o. elim o [ None ↦ [] | Some m ↦ m.kids ]) at) (arguments t has) in
      let each : All (λ k. AllByRecursion P (listing_order (term_in ns k))) n.kids =
      λ k d below_kids. parts_up_to fuel (get_or n.kids k d) (let lower : get_or n.kids k d < t = table.before t n at k d below_kids in omega (arith, lower, below)) (kids k d below_kids) in
      let ts = terms_at (term_in ns) n.kids in
      let last : P (apply n.head ts) = subst P whole (own t has) in
      subst (λ u. AllByRecursion P (listing_order u)) (sym whole)
      (AllByRecursion-append P (listing_orders ts ++ companions n.head ts) (apply n.head ts ∷ [])
      (AllByRecursion-append P (listing_orders ts) (companions n.head ts)
      (each_argument P (term_in ns) n.kids (recursion_from_All (λ k. AllByRecursion P (listing_order (term_in ns k))) n.kids each))
      (subst (λ u. AllByRecursion P (companions_of u)) whole (beside t has))) (last, tt))

  pub all_parts : (t : ℕ) → Has t → AllByRecursion P (listing_order (term_in ns t))
  all_parts t has = parts_up_to (suc t) t (omega arith) has

-- ---- Answers

itself : (s : Bool) → are_same_sign s s ≡ true
itself true = refl
itself false = refl

each_true : (ns : List Node) (a : Assignment) (ts : List ℕ) → AllByRecursion (λ t. value_of a (term_in ns t) ≡ truth true) ts → AllByRecursion (IsTrueUnder a) (map (term_in ns) ts)
each_true ns a [] h = tt
each_true ns a (t ∷ ts) h = (ap is_true h.0, each_true ns a ts h.1)

signs_true : (ns : List Node) (a : Assignment) (ls : List TermLit) → AllByRecursion (λ (l : TermLit). value_of a (term_in ns l.term) ≡ truth l.sign) ls → AreTrueLiterals a (map (literal_of ns) ls)
signs_true ns a [] h = tt
signs_true ns a (l ∷ ls) h = (ap (λ v. are_same_sign l.sign (is_true v)) h.0 ∙ itself l.sign, signs_true ns a ls h.1)

-- a sort that is neither Bool nor Int
real_of : (s : Sort) → is_bool s ≡ false → is_int_sort s ≡ false → s ≡ real_sort
real_of bool_sort a b = absurd (true≢false a)
real_of int_sort a b = absurd (true≢false b)
real_of real_sort a b = refl

-- ---- What was found

module _ (rows_meet : RowsMeetTables) (decides : TablesDecide) (numbers : TermHasItsNumber) (of_node : TermOfNode) (assigns : AssignsByNumber) (own : AtomsOfTerms) (ns : List Node)
    (levels : List Level) (assumed : List TermLit) (p : PreparedState) (posed : IsPosed ns levels assumed p) (found : HasFound ns assumed p) (ps : List (ℕ × Value))
    (covered : HasCoveredWorths ns p ps) where
  abbrev adds : HasWorths p.sat.theory ns covered.marks (flat_map (value_at ns p) p.form.terms.ids) ps
  adds = covered.worths

  ready : IsPrepared ns levels (added_by_level levels ++ posed.more ∷ []) p
  ready = posed.standing.raised

  abbrev values : Assignment
  values = assignment_by ns ps

  -- the truths of Boolean terms, and what units are worth
  abbrev truths : Term → Option Bool
  truths = truths_found ns p

  abbrev worths : Valuation
  worths = adds.worths

  inside : (t : ℕ) → IsSome (covered_at p.form t) → t < length ns
  inside = covered_within rows_meet numbers own ns levels assumed p posed found

  -- the worths meet each bound that is true
  bounds_met : (l : Lit) (b : Bound) → Contains p.noted l.atom → slice_get p.log.atoms l.atom ≡ Some (atoms.AtMost b) → IsTrueLit p.sat l → IsMet truths worths (literal_in ns p.log.atoms l)
  bounds_met l b has at holds =
      let told : Contains (told_lits p.sat.theory) l = subst (λ (ls : List Lit). Contains ls l) (sym found.bounds.told) (found.bounds.all l has (b, at) holds) in
      adds.met truths p.log.atoms p.noted found.forms found.told found.point found.of found.at l told has b at

  -- ---- Constants

  -- a part of a covered term is a covered term
  abbrev IsCovered : Term → Type 0
  IsCovered u = (i : ℕ) × IsSome (covered_at p.form i) × (term_in ns i ≡ u)

  covered_parts : (t : ℕ) → IsSome (covered_at p.form t) → AllByRecursion IsCovered (listing_order (term_in ns t))
  covered_parts =
      all_parts of_node ns posed.table (λ t. IsSome (covered_at p.form t)) IsCovered inside
      (λ t some.
      let n = some_of (covered_at p.form t) some in
      All-weaker (IsCoveredWithin p.form n.0) (λ k. IsSome (covered_at p.form k)) (λ k within. some_within (covered_at p.form k) n.0 within) (kids_at ns t) (ready.covers.arguments t n.0 n.1))
      (λ t some.
      let n = some_of (covered_at p.form t) some in
      AllByRecursion-weaker (HasCovered ns p.form n.0) IsCovered (λ u c. (c.number, some_within (covered_at p.form c.number) n.0 c.covered, c.term)) (companions_of (term_in ns t))
      (ready.covers.companions t n.0 n.1))
      (λ t some. (t, some, refl))

  part_covered : (t : ℕ) → IsSome (covered_at p.form t) → (u : Term) → Contains (listing_order (term_in ns t)) u → IsCovered u
  part_covered t some u has = All-contains IsCovered (listing_order (term_in ns t)) u (All-from_recursion IsCovered (listing_order (term_in ns t)) (covered_parts t some)) has

  -- the node of a covered constant
  record IsNodeOf (i : ℕ) (c : Constant) : Type 0 where
    node : Node
    at : slice_get ns i ≡ Some node
    head : node.head ≡ constant c

  node_of : (i : ℕ) (c : Constant) → i < length ns → term_in ns i ≡ apply (constant c) no_terms → IsNodeOf i c
  node_of i c below is =
      let n : Node = get_or ns i (record { head = falsum; kids = [] }) in
      let at : slice_get ns i ≡ Some n = slice_get-get_or ns i (record { head = falsum; kids = [] }) below in
      let whole : apply n.head (terms_at (term_in ns) n.kids) ≡ apply (constant c) no_terms = sym (of_node ns posed.table i n at) ∙ is in
      let head : n.head ≡ constant c = cc in
      record { node = n; at = at; head = head }

  -- what the values give a constant of the table
  given : (i : ℕ) (c : Constant) → IsNodeOf i c → values c ≡ unwrap_or (listed_value (flat_map (value_at ns p) p.form.terms.ids ++ adds.added) i) (default_value c.sort)
  given i c n = assigns ns posed.table ps i n.node c n.at n.head ∙ ap (λ (qs : List (ℕ × Value)). unwrap_or (listed_value qs i) (default_value c.sort)) adds.joined

  head_at : (i : ℕ) (c : Constant) → IsNodeOf i c → option_map (λ (m : Node). m.head) (slice_get ns i) ≡ Some (constant c)
  head_at i c n = ap (option_map (λ (m : Node). m.head)) n.at ∙ ap Some n.head

  constant_truth : (c : Constant) (sign : Bool) → IsCovered (apply (constant c) no_terms) → truths (apply (constant c) no_terms) ≡ Some sign → values c ≡ truth sign
  constant_truth c sign has e = by_test (is_bool c.sort) refl e
    where
      by_test : (b : Bool) → is_bool c.sort ≡ b → (if b then truth_in p (number_in ns (apply (constant c) no_terms)) else None) ≡ Some sign → values c ≡ truth sign
      by_test false bool f = absurd cc
      by_test true bool f =
          let i = has.0 in
          let below = inside i has.1 in
          let n = node_of i c below has.2 in
          let number_is : number_in ns (apply (constant c) no_terms) ≡ i = ap (number_in ns) (sym has.2) ∙ numbers ns posed.table i below in
          let own_truth : truth_in p i ≡ Some sign = ap (truth_in p) (sym number_is) ∙ f in
          let listed = listed_truth ns p p.form.terms.ids i c sign ((found.handed.terms.listed i).1 has.1) (head_at i c n) bool own_truth in
          given i c n
          ∙ ap (λ (o : Option Value). unwrap_or o (default_value c.sort)) (listed_first (flat_map (value_at ns p) p.form.terms.ids) adds.added i (truth sign) listed)

  constant_number : (c : Constant) → IsCovered (apply (constant c) no_terms) → is_bool c.sort ≡ false → unit_value values (apply (constant c) no_terms) =ℚ worths (apply (constant c) no_terms)
  constant_number c has other =
      let i = has.0 in
      let below = inside i has.1 in
      let n = node_of i c below has.2 in
      let taken : IsTaken (apply (constant c) no_terms) = subst IsTaken has.2 (ready.taken i has.1) in
      let real : c.sort ≡ real_sort = real_of c.sort other taken.heads.0 in
      let value : values c ≡ unwrap_or (listed_value adds.added i) (default_value c.sort) =
      given i c n
      ∙ ap (λ (o : Option Value). unwrap_or o (default_value c.sort)) (listed_behind (flat_map (value_at ns p) p.form.terms.ids) adds.added i (no_truth ns p p.form.terms.ids i c (head_at i c n) other)) in
      subst (λ (u : Term). unit_value values (apply (constant c) no_terms) =ℚ worths u) has.2
      (subst (λ (v : Value). number_of v =ℚ worths (term_in ns i)) (sym value)
      (adds.constants i n.node c (covered.marked.all i ((found.handed.terms.listed i).1 has.1)) n.at n.head real))

  -- ---- Terms

  tables_met : (t : ℕ) → IsSome (covered_at p.form t) → MeetsTables truths worths (number_in ns) values (listing_order (term_in ns t))
  tables_met t some =
      let taken : IsTaken (term_in ns t) = ready.taken t some in
      record {
        clauses = clauses_met rows_meet numbers own ns levels assumed p posed found worths bounds_met t some;
        constants = λ c sign has e. constant_truth c sign (part_covered t some (apply (constant c) no_terms) has) e;
        numbers = λ c has other. constant_number c (part_covered t some (apply (constant c) no_terms) has) other;
        integral = λ u integer. absurd (decides.integers (term_in ns t) u taken integer);
      }

  each_value : AllByRecursion (IsValueOf ns) ps
  each_value =
      subst (AllByRecursion (IsValueOf ns)) (sym adds.joined)
      (AllByRecursion-append (IsValueOf ns) (flat_map (value_at ns p) p.form.terms.ids) adds.added (constant_values ns p p.form.terms.ids) adds.values)

  sorted : IsAssignment values
  sorted = is_assignment ns ps each_value

  -- a covered Boolean term has the value that its truth says
  decided : (t : ℕ) (sign : Bool) → IsSome (covered_at p.form t) → is_boolean_term (term_in ns t) ≡ true → truth_in p t ≡ Some sign → value_of values (term_in ns t) ≡ truth sign
  decided t sign some boolean known =
      decides.truths (number_in ns) values truths worths (term_in ns t) sign (ready.taken t some) sorted (tables_met t some) boolean (truth_is rows_meet numbers own ns levels assumed p posed found t (inside t some) boolean ∙ known)

  -- ---- What is asserted

  asserted_true : All (λ t. value_of values (term_in ns t) ≡ truth true) (asserted_numbers (asserted_by_level levels))
  asserted_true k d below =
      let t : ℕ = get_or (asserted_numbers (asserted_by_level levels)) k d in
      let of = asserted_truth rows_meet numbers own ns levels assumed p posed found k t (slice_get-get_or (asserted_numbers (asserted_by_level levels)) k d below) in
      decided t true of.0 of.1 of.2

  assumed_true : All (λ (l : TermLit). value_of values (term_in ns l.term) ≡ truth l.sign) assumed
  assumed_true k d below =
      let m = get_or assumed k d in
      let of = assumed_truth rows_meet numbers own ns levels assumed p posed found k d below in
      decided m.term m.sign of.0 of.1 of.2

  pub made_true : AreModelValues ns (map (term_in ns) (asserted_numbers (asserted_by_level levels))) [] ps × AreTrueLiterals values (map (literal_of ns) assumed)
  made_true = (
    record {
      values = each_value;
      makes = record {
        sorts = sorted;
        asserted_hold = each_true ns values (asserted_numbers (asserted_by_level levels)) (recursion_from_All (λ t. value_of values (term_in ns t) ≡ truth true) (asserted_numbers (asserted_by_level levels)) asserted_true);
        assumed_hold = tt;
      };
    },
    signs_true ns values assumed (recursion_from_All (λ (l : TermLit). value_of values (term_in ns l.term) ≡ truth l.sign) assumed assumed_true),
  )
