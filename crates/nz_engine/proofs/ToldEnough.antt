-- What the theory was told where values were found is enough: worths that meet it meet the clauses of the tables.
use Rattle.std.proofs.Common.{◌≡◌, ℕ, Bool, true, List, [], ◌∷◌, map, get_or, Option, Some, inl, inr, sym, ap, subst, ◌∙◌}
use Rattle.std.specs.Prelude.{All, Contains, IsSome, flat_map, slice_get}
use Rattle.std.proofs.lemmas.Option.{slice_get-get_or}
use Rattle.std.proofs.lemmas.List.Elements.{All-append, All-contains, All-map, All-weaker, Contains-append_cases}
use Rattle.nz_spec.specs.simplex.Basis.{Valuation}
use Rattle.nz_spec.specs.search.Decide.{asserted_numbers}
use Rattle.nz_spec.specs.clauses.Met.{IsMet}
use Rattle.nz_spec.specs.terms.FormOf.{number_in, TermHasItsNumber}
use Rattle.nz_spec.specs.clauses.Gates.{is_boolean_term}
use Rattle.nz_spec.specs.terms.Order.{listing_order}
use Rattle.nz_spec.specs.terms.Table.{Node, term_in}
use Rattle.nz_spec.specs.terms.Term.{Term, truth}
use Rattle.nz_log.specs.declared.atoms.Atom.TheVariants as atoms
use Rattle.nz_log.specs.declared.lits.Lit.{Lit}
use Rattle.nz_term.specs.declared.term_lits.TermLit.{TermLit}
use Rattle.nz_log.specs.Atoms.{AtomsOfTerms, literal_in}
use Rattle.nz_term.specs.TermLits.{literal_of}
use Rattle.nz_cform.specs.Forms.{covered_at}
use Rattle.nz_cform.specs.Laws.{RowsMeetTables}
use Rattle.nz_sat.specs.Sats.{IsTrueLit}
use Rattle.nz_search.specs.Levels.{Level, asserted_by_level}
use Rattle.nz_engine.specs.Checking.{HasFound, IsPosed, truth_in}
use Rattle.nz_engine.specs.Preparing.{PreparedState, IsSearched}
use Rattle.nz_lists.proofs.Members.{has_first, has_more, has_none}
use Rattle.nz_spec.specs.search.Places.{IsAllMet, IsToldEnough}
use Rattle.nz_spec.specs.search.Search.{Task, Search, literals_by, told_literals}
use Rattle.nz_spec.specs.search.Decide.{asserted_terms}
use Rattle.nz_spec.specs.clauses.Gates.{holds}
use Rattle.nz_spec.specs.clauses.Literal.{Literal}
use Rattle.nz_spec.specs.clauses.Met.{MeetsClauses}
use Rattle.nz_lin.specs.declared.bound.Bound.{Bound}
use Rattle.nz_engine.specs.Checking.{IsAllTold}
use Rattle.nz_engine.proofs.FoundClauses.{asserted_truth, assumed_truth, clauses_met, covered_within, lit_met, truth_is, truths_found}

module _ (rows_meet : RowsMeetTables) (numbers : TermHasItsNumber) (own : AtomsOfTerms) (ns : List Node) (levels : List Level) (assumed : List TermLit) (p : PreparedState)
    (posed : IsPosed ns levels assumed p) (found : HasFound ns assumed p) (q : Task) (asserted : q.asserted ≡ asserted_terms ns (asserted_by_level levels)) (numbering : q.numbering ≡ number_in ns)
    (searched : All (IsSearched ns p.log p.form) p.noted) (s : Search) (told : IsAllTold ns assumed p s) where
  abbrev truths : Term → Option Bool
  truths = truths_found ns p

  -- a covered Boolean term has its truth
  known : (t : ℕ) (sign : Bool) → IsSome (covered_at p.form t) × (is_boolean_term (term_in ns t) ≡ true) × (truth_in p t ≡ Some sign) → truths (term_in ns t) ≡ Some sign
  known t sign h =
      truth_is rows_meet numbers own ns levels assumed p posed found t (covered_within rows_meet numbers own ns levels assumed p posed found t h.0) h.1 ∙ h.2

  abbrev roots : List ℕ
  roots = asserted_numbers (asserted_by_level levels)

  root_of : (u : Term) (ts : List ℕ) → Contains (flat_map listing_order (map (term_in ns) ts)) u → (t : ℕ) × Contains ts t × Contains (listing_order (term_in ns t)) u
  root_of u [] has = absurd (has_none u has)
  root_of u (t ∷ ts) has =
      elim (Contains-append_cases (listing_order (term_in ns t)) (flat_map listing_order (map (term_in ns) ts)) u has) [
        | inl here ↦ (t, has_first t ts, here)
        | inr later ↦ let r = root_of u ts later in (r.0, has_more t r.0 ts r.1, r.2)
      ]

  module _ (v : Valuation) (met : All (IsMet truths v) (told_literals s)) where
    bounds : (l : Lit) (b : Bound) → Contains p.noted l.atom → slice_get p.log.atoms l.atom ≡ Some (atoms.AtMost b) → IsTrueLit p.sat l → IsMet truths v (literal_in ns p.log.atoms l)
    bounds l b has at true_l = All-contains (IsMet truths v) (told_literals s) (literal_in ns p.log.atoms l) met (told.tells.told l (b, at) true_l)

    asserted_met : All (IsMet truths v) (map holds q.asserted)
    asserted_met =
        subst (λ (ts : List Term). All (IsMet truths v) (map holds ts)) (sym asserted)
        (All-map (IsMet truths v) holds (map (term_in ns) roots)
        (All-map (λ (t : Term). IsMet truths v (holds t)) (term_in ns) roots
        (λ k d below. let t = get_or roots k d in known t true (asserted_truth rows_meet numbers own ns levels assumed p posed found k t (slice_get-get_or roots k d below)))))

    under_met : All (IsMet truths v) s.under
    under_met =
        subst (All (IsMet truths v)) (sym told.under)
        (All-map (IsMet truths v) (literal_of ns) assumed
        (λ k d below. let m = get_or assumed k d in known m.term m.sign (assumed_truth rows_meet numbers own ns levels assumed p posed found k d below)))

    decided_met : All (IsMet truths v) (literals_by s.atoms s.decided)
    decided_met =
        All-weaker (λ (m : Literal). (l : Lit) × Contains p.noted l.atom × IsTrueLit p.sat l × (m ≡ literal_in ns p.log.atoms l)) (IsMet truths v)
        (λ m (l, has, true_l, is).
        subst (IsMet truths v) (sym is)
        (lit_met rows_meet numbers own ns levels assumed p posed found v bounds l (All-contains (IsSearched ns p.log p.form) p.noted l.atom searched has) true_l))
        (literals_by s.atoms s.decided) told.tells.decided

    -- what an asserted term is made of is what is listed with a covered one
    record IsOfRoot (u : Term) : Type 0 where
      root : ℕ
      covered : IsSome (covered_at p.form root)
      part : Contains (listing_order (term_in ns root)) u

    of_root : (u : Term) → Contains (flat_map listing_order q.asserted) u → IsOfRoot u
    of_root u has =
        let r = root_of u roots (subst (λ (ts : List Term). Contains (flat_map listing_order ts) u) asserted has) in
        let of = asserted_truth rows_meet numbers own ns levels assumed p posed found r.1.0 r.0 (slice_get-get_or roots r.1.0 r.0 r.1.1 ∙ ap Some r.1.2) in
        record { root = r.0; covered = of.0; part = r.2 }

    tables : (u : Term) → (o : IsOfRoot u) → MeetsClauses truths v (number_in ns) (listing_order (term_in ns o.root))
    tables u o = clauses_met rows_meet numbers own ns levels assumed p posed found v bounds o.root o.covered

    all_met : IsAllMet q s truths v
    all_met = record {
      held = All-append (IsMet truths v) (map holds q.asserted) s.under asserted_met under_met;
      decided = decided_met;
      clauses = subst (λ number. MeetsClauses truths v number (flat_map listing_order q.asserted)) (sym numbering) (record {
        gates = λ u sign has e. let o = of_root u has in (tables u o).gates u sign o.part e;
        links = λ u sign has e. let o = of_root u has in (tables u o).links u sign o.part e;
        units = λ u has. let o = of_root u has in (tables u o).units u o.part;
      });
    }

  pub told_enough : IsToldEnough q s
  told_enough = (truths, λ v met. all_met v met)
