-- Atoms keep their numbers where others join.
use Rattle.std.proofs.Common.{◌≡◌, ◌≢◌, ◌<◌, ◌++◌, ℕ, List, length, map, take, refl, sym, ap, subst, ◌∙◌}
use Rattle.std.specs.List.{AllPairs}
use Rattle.std.specs.Prelude.{◌↔◌, All, Contains, IsSome}
use Rattle.std.proofs.lemmas.List.Elements.{All-contains_itself, All-map, All-weaker}
use Rattle.std.proofs.lemmas.Option.{slice_get_within}
use Rattle.nz_log.specs.declared.atoms.Atom.TheVariants.{Term}
use Rattle.nz_log.specs.Atoms.{HasTerm, Stay, term_place}
use Rattle.nz_cform.specs.Covering.{Covers}
use Rattle.nz_cform.specs.Forms.{covered_at}
use Rattle.nz_cform.specs.Listings.{IsListing, listed_at}
use Rattle.nz_engine.specs.Checking.{MayBeNamed}
use Rattle.nz_engine.specs.Preparing.{IsSearched, Names, PreparedState, atoms_of, boolean_terms}
use Rattle.nz_engine.proofs.ExclusionClauses.{prepared_in}
use Rattle.nz_engine.proofs.LevelPreservation.{some_of}
use Rattle.nz_engine.proofs.SearchAtoms.{named_numbers, places_stay, terms_stay}
use Rattle.nz_engine.proofs.prepared.Prepared.named.Goals as goal

pub returns-clause-handed : goal.returns-clause-handed
returns-clause-handed c =
    let ns = c.args.terms.now in
    let mid = c.term_atoms.new.self.atoms in
    let new = c.lits_of.new.self.atoms in
    let own = c.atoms_of_terms.ensures.atoms in
    let is = c.terms.ensures.terms in
    let bs = c.bounds.ensures.bounds in
    let ts = boolean_terms ns c.self.inside.form.terms.ids in
    let booleans : c.deref.result.now ≡ ts = c.deref.ensures.value ∙ c.in_ok-booleans.ensures.booleans ∙ ap (boolean_terms ns) is in
    let there : All (HasTerm mid) ts = subst (All (HasTerm mid)) booleans c.in_ok-atoms.ensures.there in
    let has = terms_stay own mid new c.lits_of.ensures.joins.atoms ts there in
    let terms : IsListing c.self.inside.form.terms =
    record {
      once = subst (AllPairs (λ (t u : ℕ). t ≢ u)) is c.terms.ensures.once;
      listed = subst (λ us. (t : ℕ) → Contains us t ↔ IsSome (covered_at c.self.inside.form t)) is c.terms.ensures.covered;
    } in
    let bounds : IsListing c.self.inside.form.bounds =
    record {
      once = subst (AllPairs (λ (t u : ℕ). t ≢ u)) bs c.bounds.ensures.once;
      listed = subst (λ us. (i : ℕ) → Contains us i ↔ IsSome (listed_at c.self.inside.form.bounds i)) bs c.bounds.ensures.listed;
    } in
    let old = prepared_in c.self.inside in
    let p : PreparedState = record old { log = c.lits_of.new.self; noted = c.name_atoms.new.atoms.items } in
    let stay : Stay old.log.atoms new = λ i a at. c.lits_of.ensures.joins.atoms i a (c.term_atoms.ensures.joins.atoms i a at) in
    let covers = subst (λ (s : PreparedState). Covers ns s.log s.form) (sym c.self.view_is) c.requires.covers in
    let both : c.deref-2.result.now ++ c.bounds.result.now ≡ atoms_of ns p =
    ap (λ (xs : List ℕ). xs ++ c.bounds.result.now)
    (c.deref-2.ensures.value ∙ c.in_ok-atoms.ensures.numbers ∙ ap (map (term_place mid)) booleans ∙ sym (places_stay own mid new c.lits_of.ensures.joins.atoms ts there))
    ∙ ap (λ (xs : List ℕ). map (term_place new) ts ++ xs) bs in
    let front = c.truncate.new.self.items in
    let may = subst (MayBeNamed ns old) (sym c.truncate.ensures.items) (subst (λ (s : PreparedState). MayBeNamed ns s (take c.args.first s.noted)) (sym c.self.view_is) c.requires.named) in
    record {
      terms = terms;
      bounds = bounds;
      noted = refl;
      numbers = named_numbers own ns old p c.lits_of.ensures.atoms terms bounds has
          (λ i some. let k = some_of (listed_at old.form.bounds i) some in let of = covers.bounds.tabled i k.0 k.1 in (of.1.bound, stay i _ of.1.is_bound)) refl stay front may
          (subst (λ (xs : List ℕ). Names front xs p.noted) both c.in_ok-name_atoms.ensures.names);
      on_atoms = c.in_ok-literals.ensures.literals;
      there = record {
        covered = terms_stay own mid new c.lits_of.ensures.joins.atoms ts there;
        named = c.in_ok-literals.ensures.there;
      };
    }

pub booleans_of-requires : goal.booleans_of-requires
booleans_of-requires c =
    let atoms = c.terms.result.now in
    record {
      within = All-weaker (Contains atoms) (λ t. t < length c.args.terms.now)
          (λ t has.
          let n = some_of (covered_at c.self.inside.form t) ((c.terms.ensures.covered t).0 has) in
          c.requires.covers.within t n.0 (ap (λ (p : PreparedState). covered_at p.form t) (sym c.self.view_is) ∙ n.1))
          atoms (All-contains_itself atoms);
    }

pub name_atoms-requires-clause-old_within : goal.name_atoms-requires-clause-old_within
name_atoms-requires-clause-old_within c =
    let ns = c.args.terms.now in
    let new = c.lits_of.new.self.atoms in
    let old = prepared_in c.self.inside in
    let may = subst (MayBeNamed ns old) (sym c.truncate.ensures.items) (subst (λ (s : PreparedState). MayBeNamed ns s (take c.args.first s.noted)) (sym c.self.view_is) c.requires.named) in
    All-weaker (IsSearched ns old.log old.form) (λ i. i < c.atom_count-count.result)
    (λ i s.
    let at = c.lits_of.ensures.joins.atoms i s.atom (c.term_atoms.ensures.joins.atoms i s.atom s.at) in
    subst (λ n. i < n) (sym c.atom_count-count.ensures.count) (slice_get_within new i s.atom at)) c.truncate.new.self.items may.searched

pub name_atoms-requires-clause-within : goal.name_atoms-requires-clause-within
name_atoms-requires-clause-within c =
    let ns = c.args.terms.now in
    let mid = c.term_atoms.new.self.atoms in
    let new = c.lits_of.new.self.atoms in
    let ts = c.deref.result.now in
    let P : ℕ → Type 0 = λ i. i < c.atom_count-count.result in
    let each : All (λ t. P (term_place mid t)) ts =
    All-weaker (HasTerm mid) (λ t. P (term_place mid t))
    (λ t there. subst (λ n. term_place mid t < n) (sym c.atom_count-count.ensures.count) (slice_get_within new (term_place mid t) (Term t) (c.lits_of.ensures.joins.atoms (term_place mid t) (Term t) there)))
    ts c.in_ok-atoms.ensures.there in
    subst (All P) (sym (c.deref-2.ensures.value ∙ c.in_ok-atoms.ensures.numbers)) (All-map P (term_place mid) ts each)

pub name_atoms-requires-clause-others_within : goal.name_atoms-requires-clause-others_within
name_atoms-requires-clause-others_within c =
    let ns = c.args.terms.now in
    let new = c.lits_of.new.self.atoms in
    let old = prepared_in c.self.inside in
    let covers = subst (λ (s : PreparedState). Covers ns s.log s.form) (sym c.self.view_is) c.requires.covers in
    let P : ℕ → Type 0 = λ i. i < c.atom_count-count.result in
    let ids = c.bounds.result.now in
    All-weaker (Contains ids) P
    (λ i has.
    let k = some_of (listed_at old.form.bounds i) ((c.bounds.ensures.listed i).0 has) in
    let of = covers.bounds.tabled i k.0 k.1 in
    let at = c.lits_of.ensures.joins.atoms i _ (c.term_atoms.ensures.joins.atoms i _ of.1.is_bound) in
    subst (λ n. i < n) (sym c.atom_count-count.ensures.count) (slice_get_within new i _ at)) ids (All-contains_itself ids)
