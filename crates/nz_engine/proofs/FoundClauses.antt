-- What a search found meets the clauses of the tables with any worths that meet the bounds that are true.
use Rattle.std.proofs.Common.{◌≡◌, ℕ, ◌<◌, Bool, true, false, List, [], ◌∷◌, ◌++◌, length, get_or, Option, Some, None, inl, inr, refl, sym, ap, subst, ◌∙◌, arith}
use Rattle.std.specs.Prelude.{All, Contains, IsSome, slice_get, if◌then◌else◌}
use Rattle.std.proofs.lemmas.Option.{slice_get_within}
use Rattle.std.proofs.lemmas.List.{get_or-map, length-map}
use Rattle.std.proofs.lemmas.List.Elements.{All-contains, All-from_recursion}
use Rattle.nz_spec.specs.simplex.Basis.{Valuation}
use Rattle.nz_spec.specs.search.Decide.{asserted_numbers}
use Rattle.nz_spec.specs.clauses.Met.{IsMet, MeetsClauses}
use Rattle.nz_spec.specs.terms.FormOf.{number_in, TermHasItsNumber}
use Rattle.nz_spec.specs.clauses.Gates.{is_boolean_term}
use Rattle.nz_spec.specs.clauses.Literal.{term_literal}
use Rattle.nz_spec.specs.terms.Order.{listing_order}
use Rattle.nz_spec.specs.terms.Table.{Node, term_in}
use Rattle.nz_spec.specs.terms.Taken.{IsTakenBoolean}
use Rattle.nz_spec.specs.terms.Term.{Term, truth}
use Rattle.nz_lin.specs.declared.bound.Bound.{Bound}
use Rattle.nz_log.specs.declared.atoms.Atom.{Atom}
use Rattle.nz_log.specs.declared.atoms.Atom.TheVariants as atoms
use Rattle.nz_log.specs.declared.lits.Lit.{Lit}
use Rattle.nz_log.specs.declared.origins.Subject.TheVariants.{Itself, Truth}
use Rattle.nz_term.specs.declared.term_lits.TermLit.{TermLit}
use Rattle.nz_log.specs.Atoms.{AtomsOfTerms, HasTerm, literal_in, lit_of, lits_of, term_place, with_sign}
use Rattle.nz_log.specs.Logs.{literals_at}
use Rattle.nz_cform.specs.Covering.{IsRowAt}
use Rattle.nz_cform.specs.Forms.{covered_at}
use Rattle.nz_cform.specs.Laws.{IsAsked, MeetsRows, RowsMeetTables}
use Rattle.nz_sat.specs.declared.clauses.Held.{Held}
use Rattle.nz_sat.specs.declared.clauses.Need.{Need}
use Rattle.nz_sat.specs.declared.clauses.Need.TheVariants.{Always, Never, Of}
use Rattle.nz_sat.specs.Sats.{IsNeeded, IsTrueClause, IsTrueLit, added_as, truth_of}
use Rattle.nz_search.specs.Levels.{Level, added_by_level, asserted_by_level}
use Rattle.nz_engine.specs.Checking.{HasFound, IsPosed, truth_in}
use Rattle.nz_engine.specs.Preparing.{PreparedState, HoldsUnit, IsOfForm, IsPrepared, IsSearched, MayNeed, atoms_of, boolean_terms, unit_of}
use Rattle.nz_engine.proofs.LevelPreservation.{some_of}
use Rattle.nz_engine.proofs.Onces.{boolean_there}
use Rattle.nz_engine.proofs.NeededRows.{about_term, subject_is}
use Rattle.nz_engine.proofs.NamedTerms.{all_named}
use Rattle.nz_engine.proofs.PartsNamed.{unit_covered}
use Rattle.nz_engine.proofs.ClausePreservation.{literal_at_atom}
use Rattle.nz_engine.proofs.SearchAtoms.{searched_in, truth_there}

-- the truths of Boolean terms
abbrev pub truths_found : List Node → PreparedState → Term → Option Bool
truths_found ns p u = if is_boolean_term u then truth_in p (number_in ns u) else None

module _ (rows_meet : RowsMeetTables) (numbers : TermHasItsNumber) (own : AtomsOfTerms) (ns : List Node) (levels : List Level) (assumed : List TermLit) (p : PreparedState)
    (posed : IsPosed ns levels assumed p) (found : HasFound ns assumed p) where
  ready : IsPrepared ns levels (added_by_level levels ++ posed.more ∷ []) p
  ready = posed.standing.raised

  abbrev truths : Term → Option Bool
  truths = truths_found ns p

  pub covered_within : (t : ℕ) → IsSome (covered_at p.form t) → t < length ns
  covered_within t some = let n = some_of (covered_at p.form t) some in ready.covers.within t n.0 n.1

  pub truth_is : (t : ℕ) → t < length ns → is_boolean_term (term_in ns t) ≡ true → truths (term_in ns t) ≡ truth_in p t
  truth_is t below boolean =
      ap (λ (b : Bool). if b then truth_in p (number_in ns (term_in ns t)) else None) boolean ∙ ap (truth_in p) (numbers ns posed.table t below)

  -- ---- Atoms

  among : (i : ℕ) → IsSearched ns p.log p.form i → Contains p.noted i
  among i s =
      All-contains (Contains p.noted) (atoms_of ns p) i found.handed.numbers.each
      (searched_in ns p own ready.order.atoms found.handed.terms found.handed.bounds found.handed.there.covered i s)

  boolean_here : (t : ℕ) → IsSome (covered_at p.form t) → is_boolean_term (term_in ns t) ≡ true → HasTerm p.log.atoms t
  boolean_here t some boolean =
      All-contains (HasTerm p.log.atoms) (boolean_terms ns p.form.terms.ids) t found.handed.there.covered
      (boolean_there ns p.form.terms.ids t ((found.handed.terms.listed t).1 some) boolean)

  -- ---- Rows

  true_clause : (h : Held) → Contains p.sat.clauses h → IsNeeded (truth_of p.sat) h.need → IsTrueClause p.sat (literals_at p.log h.id)
  true_clause h has needed = All-contains (λ (x : Held). IsNeeded (truth_of p.sat) x.need → IsTrueClause p.sat (literals_at p.log x.id)) p.sat.clauses h found.truths.clauses has needed

  -- where a term has a truth, so has its atom
  truth_of_atom : (t a : ℕ) (sign : Bool) → IsSome (covered_at p.form t) → slice_get p.log.atoms a ≡ Some (atoms.Term t) → truths (term_in ns t) ≡ Some sign → IsSome (truth_of p.sat a)
  truth_of_atom t a sign some at has = by_sort (is_boolean_term (term_in ns t)) refl
    where
      by_sort : (b : Bool) → is_boolean_term (term_in ns t) ≡ b → IsSome (truth_of p.sat a)
      by_sort false boolean = let none : None ≡ Some sign = sym (ap (λ (b : Bool). if b then truth_in p (number_in ns (term_in ns t)) else None) boolean) ∙ has in absurd cc
      by_sort true boolean =
          let here : HasTerm p.log.atoms t = own.there p.log.atoms a t at in
          let known : truth_in p t ≡ Some sign = sym (truth_is t (covered_within t some) boolean) ∙ has in
          let place : a ≡ term_place p.log.atoms t = own.one p.log.atoms ready.order.atoms a t at in
          subst (λ (o : Option Bool). IsSome o) (sym (ap (truth_of p.sat) place ∙ sym (truth_there p t here) ∙ known)) refl

  -- a row that has to be met needs a true literal
  row_needed : (i t : ℕ) (row : IsRowAt p.log i t) → IsAsked truths (term_in ns t) row.0 → (need : Need) → MayNeed p.log i need → IsNeeded (truth_of p.sat) need
  row_needed i t row asked Always may = tt
  row_needed i t row (inl itself) (Of a) may = let both : Itself ≡ Truth may.0 = sym itself ∙ sym (subject_is p.log i row.0 row.1) ∙ may.1 in absurd cc
  row_needed i t row (inr has) (Of a) may =
      let some : IsSome (covered_at p.form t) = subst (λ (o : Option ℕ). IsSome o) (sym (ready.covers.rows.of_covered i t row)) refl in
      let about : t ≡ may.0 = about_term row.0 t may.0 row.2 (sym (subject_is p.log i row.0 row.1) ∙ may.1) in
      truth_of_atom t a has.0 some (may.2 ∙ ap (λ (u : ℕ). Some (atoms.Term u)) (sym about)) has.1
  row_needed i t row asked Never may = absurd may

  module _ (worths : Valuation) (bounds : (l : Lit) (b : Bound) → Contains p.noted l.atom → slice_get p.log.atoms l.atom ≡ Some (atoms.AtMost b) → IsTrueLit p.sat l → IsMet truths worths (literal_in ns p.log.atoms l)) where
    signed_term : (u : Term) (sign : Bool) → truths u ≡ Some sign → IsMet truths worths (with_sign sign (term_literal u true))
    signed_term u true h = h
    signed_term u false h = h

    -- a true literal that is searched for is met
    pub lit_met : (l : Lit) → IsSearched ns p.log p.form l.atom → IsTrueLit p.sat l → IsMet truths worths (literal_in ns p.log.atoms l)
    lit_met l s holds = by_atom s.atom s.at s
      where
        by_atom : (a : Atom) → slice_get p.log.atoms l.atom ≡ Some a → IsSearched ns p.log p.form l.atom → IsMet truths worths (literal_in ns p.log.atoms l)
        by_atom (atoms.Term t) at x =
            let both : Some x.atom ≡ Some (atoms.Term t) = sym x.at ∙ at in
            let is : x.atom ≡ atoms.Term t = cc in
            let of = subst (IsOfForm ns p.form l.atom) is x.of in
            let place : l.atom ≡ term_place p.log.atoms t = own.one p.log.atoms ready.order.atoms l.atom t at in
            let here : HasTerm p.log.atoms t = boolean_here t of.0 of.1 in
            let truth_t : truth_in p t ≡ Some l.sign = truth_there p t here ∙ ap (truth_of p.sat) (sym place) ∙ holds in
            subst (IsMet truths worths) (sym (literal_at_atom ns p.log.atoms l (atoms.Term t) at))
            (signed_term (term_in ns t) l.sign (truth_is t (covered_within t of.0) of.1 ∙ truth_t))
        by_atom (atoms.AtMost b) at x = bounds l b (among l.atom x) at holds

    rows_met : MeetsRows ns p.log truths worths
    rows_met i t row asked =
        let held = ready.rows i t row in
        let one_true = true_clause (added_as held.need p.log i) held.has (row_needed i t row asked held.need held.may) in
        let each = All-contains (λ (x : Held). All (λ (l : Lit). IsSearched ns p.log p.form l.atom) (literals_at p.log x.id)) p.sat.clauses (added_as held.need p.log i) ready.searched held.has in
        let s = All-contains (λ (l : Lit). IsSearched ns p.log p.form l.atom) (literals_at p.log i) one_true.0 each one_true.1 in
        (one_true.0, one_true.1, lit_met one_true.0 s one_true.2)

    -- what is listed with a covered term meets the clauses of the tables
    pub clauses_met : (t : ℕ) → IsSome (covered_at p.form t) → MeetsClauses truths worths (number_in ns) (listing_order (term_in ns t))
    clauses_met = rows_meet ns (asserted_by_level levels) p.log p.form posed.table ready.order ready.covers truths worths rows_met

  -- ---- What is asserted and assumed

  -- an asserted term is covered, Boolean and true
  pub asserted_truth : (k t : ℕ) → slice_get (asserted_numbers (asserted_by_level levels)) k ≡ Some t → IsSome (covered_at p.form t) × (is_boolean_term (term_in ns t) ≡ true) × (truth_in p t ≡ Some true)
  asserted_truth k t at =
      let below = slice_get_within (asserted_numbers (asserted_by_level levels)) k t at in
      let all = posed.all.given in
      let u : HoldsUnit (asserted_by_level levels) p k t = ready.units k t (omega (arith, below, all)) at in
      let one_true = subst (IsTrueClause p.sat) u.literals (true_clause u.held u.there (subst (IsNeeded (truth_of p.sat)) (sym u.need) tt)) in
      let P = λ (x : Lit). IsTrueLit p.sat x → truth_of p.sat (term_place p.log.atoms t) ≡ Some true in
      let holds : truth_of p.sat (term_place p.log.atoms t) ≡ Some true = All-contains P (unit_of p.log t) one_true.0 (All-from_recursion P (unit_of p.log t) ((λ e. e), tt)) one_true.1 one_true.2 in
      let of = unit_covered ready k t u in
      (of.0, of.1, truth_there p t u.named ∙ holds)

  -- an assumed one is so, with its sign
  pub assumed_truth : (k : ℕ) (d : TermLit) → k < length assumed
      → IsSome (covered_at p.form (get_or assumed k d).term) × (is_boolean_term (term_in ns (get_or assumed k d).term) ≡ true) × (truth_in p (get_or assumed k d).term ≡ Some (get_or assumed k d).sign)
  assumed_truth k d below =
      let m = get_or assumed k d in
      let lits = lits_of p.log.atoms assumed in
      let long = length-map assumed (lit_of p.log.atoms) in
      let here : get_or lits k (lit_of p.log.atoms d) ≡ lit_of p.log.atoms m = get_or-map (lit_of p.log.atoms) assumed k d (lit_of p.log.atoms d) below in
      let holds : IsTrueLit p.sat (lit_of p.log.atoms m) = subst (IsTrueLit p.sat) here (found.truths.assumed_hold k (lit_of p.log.atoms d) (omega (arith, below, long))) in
      let taken = all_named (λ t. IsTakenBoolean (term_in ns t)) assumed posed.assumed_taken k d below in
      (posed.assumed_covered k d below, taken.boolean, truth_there p m.term (found.handed.there.named k d below) ∙ holds)
