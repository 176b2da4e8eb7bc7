-- What is known of what is prepared, from where its atoms are named to where a search runs.
use Rattle.std.proofs.Common.{◌≡◌, ℕ, Bool, ◌<◌, List, [], ◌∷◌, length, map, Result, Ok, Err, refl, sym, ap, subst, ◌∙◌, arith}
use Rattle.std.specs.Prelude.{All, Contains, IsSome}
use Rattle.std.proofs.lemmas.List.Elements.{All-head, All-tail}
use Rattle.nz_spec.specs.search.Search.{Search, Task, ToldLiteral, at_first, no_point, told_literals}
use Rattle.nz_spec.specs.clauses.Literal.{Literal}
use Rattle.nz_spec.specs.search.Legal.{Lead}
use Rattle.nz_spec.specs.simplex.Bland.{Point}
use Rattle.nz_spec.specs.terms.Table.{Node}
use Rattle.nz_spec.specs.terms.Term.{Term}
use Rattle.nz_spec.specs.search.Work.{WorkList}
use Rattle.nz_log.specs.declared.atoms.Atom.{Atom}
use Rattle.nz_log.specs.declared.lits.Lit.{Lit}
use Rattle.nz_search.specs.declared.note.Note.{Note}
use Rattle.nz_search.specs.declared.stop.Stop.{Stop}
use Rattle.nz_term.specs.declared.term_lits.TermLit.{TermLit}
use Rattle.nz_term.specs.TermLits.{AreOfTerms}
use Rattle.nz_log.specs.Logs.{LogState, literals_at}
use Rattle.nz_search.specs.Notes.{noted_list}
use Rattle.nz_search.specs.Standing.{Stands, search_after}
use Rattle.nz_cform.specs.Forms.{FormState, covered_at}
use Rattle.nz_reals.specs.Stands.{HasTold, IsAt, IsOf}
use Rattle.nz_reals.specs.Starts.{MayRestart}
use Rattle.nz_reals.specs.State.{Theory}
use Rattle.nz_sat.specs.Numbers.{AreNotedIn, numbered}
use Rattle.nz_sat.specs.Sats as sats
use Rattle.nz_sat.specs.Sats.{SatState}
use Rattle.nz_search.specs.Levels.{Level}
use Rattle.nz_engine.specs.Checking.{AreCoveredAmong, AreLearnable, BeginsAnew, EndsWith, IsBegun, IsFrom, IsPlain, IsReady, MayBegin, MaySearch, NotesUnder, Works, at_start, on_way, terms_named}
use Rattle.nz_engine.specs.Preparing.{Excludes, PreparedState}
use Rattle.nz_engine.specs.SearchLaws.{SearchLaws}
use Rattle.nz_engine.proofs.AtomNotes.{goes_under, learned_under, plain_under, stands_under}
use Rattle.nz_engine.proofs.CheckEnds.{first_none, works_begun, works_under}
use Rattle.nz_engine.proofs.ExclusionClauses.{ready_excluded}
use Rattle.nz_engine.proofs.SearchAtoms.{ids_learnable, ids_within, may_begin, ready_with}

pub of_terms : (ns : List Node) (assumed : List TermLit) → All (λ t. t < length ns) (terms_named assumed) → AreOfTerms ns assumed
of_terms ns [] h = tt
of_terms ns (l ∷ ls) h = (All-head (λ t. t < length ns) l.term (terms_named ls) h, of_terms ns ls (All-tail (λ t. t < length ns) l.term (terms_named ls) h))

-- where a search may begin with the theory, where the list has no line
pub rest_of : {ns : List Node} {levels : List Level} {q : Task} {work : WorkList Note} {p : PreparedState} → work.lines ≡ [] → IsFrom ns levels q work p → MayRestart p.sat.theory ns q.earlier
rest_of none (at_start empty rest) = rest
rest_of {ns} {levels} {q} {work} {p} none (on_way u) =
    let count = ap (λ (s : Search). s.begun) (first_none ns work none) in
    let begun = u.begun in
    absurd (omega (arith, count, begun))

module _ (laws : SearchLaws) {ns : List Node} {assumed : List TermLit} {first : ℕ} {old : PreparedState} (p : PreparedState) {ids : List ℕ} {lits : List Lit} (r : IsReady ns assumed first old p ids lits) where
  pub learnable : AreLearnable p.sat.theory p.log.atoms ids
  learnable = ids_learnable laws.rows laws.atoms r.some.1 r.handed

  -- what is covered is so still
  pub covered_still : (ts : List Term) → AreCoveredAmong ns old ts → AreCoveredAmong ns p ts
  covered_still ts among i some = among i (subst (λ (f : FormState). IsSome (covered_at f i)) r.form some)

  module _ (same : p.sat.theory ≡ old.sat.theory) (sat : SatState Theory) (before after : WorkList Note) (none : before.lines ≡ []) where
    -- where a search may begin, it may over these atoms
    may_begin_at : (levels : List Level) (q : Task) → MaySearch ns levels assumed q before old → MayBegin p.sat.theory ns q p.log.atoms ids
    may_begin_at levels q may =
        may_begin laws.rows laws.atoms (r.posed levels may.posed) r.handed laws.restart q may.numbering (covered_still q.listed may.covered)
        (subst (λ (t : Theory). MayRestart t ns q.earlier) (sym same) (rest_of none may.from))

    pub works_anew : (x : Result (Unit {0}) Stop) → BeginsAnew p.log.atoms ids p.sat.theory sat.theory before after x → Works ns before after
    works_anew x b = works_begun ns p.sat.theory p.log.atoms ids before after r.some.1.over (ids_within laws.rows laws.atoms r.some.1 r.handed) b.begun

    -- and with the note of what it goes under
    pub works_gone : (mid : WorkList Note) (x : Result (Unit {0}) Stop) → BeginsAnew p.log.atoms ids p.sat.theory sat.theory before mid x → NotesUnder assumed mid after → Works ns before after
    works_gone mid x b n =
        works_under ns p.sat.theory p.log.atoms ids assumed before mid after r.some.1.over (ids_within laws.rows laws.atoms r.some.1 r.handed) b.begun n
        (of_terms ns assumed r.some.1.assumed_within)

    pub plain_anew : (x : Result (Unit {0}) Stop) → BeginsAnew p.log.atoms ids p.sat.theory sat.theory before after x → (levels : List Level) (q : Task) → MaySearch ns levels assumed q before old
        → IsPlain q (search_after ns before) (search_after ns after)
    plain_anew x b levels q may = subst (λ (s : Search). IsPlain q s (search_after ns after)) (sym (first_none ns before none)) (b.plain ns q (may_begin_at levels q may))

    pub stops_anew : (e : Stop) → BeginsAnew p.log.atoms ids p.sat.theory sat.theory before after (Err e) → (levels : List Level) (q : Task) → MaySearch ns levels assumed q before old
        → EndsWith ns q after e
    stops_anew e b levels q may = b.stopped ns q (may_begin_at levels q may)

    module _ (b : BeginsAnew p.log.atoms ids p.sat.theory sat.theory before after (Ok tt)) where
      stands_anew : (levels : List Level) (q : Task) → MaySearch ns levels assumed q before old → Stands (IsAt sat.theory ns) ns q after
      stands_anew levels q may = b.stands ns q (may_begin_at levels q may)

      pub lead_anew : (levels : List Level) (q : Task) → MaySearch ns levels assumed q before old → (point : Point) × Lead q at_first no_point (noted_list ns after).lines point
      lead_anew levels q may = let h = stands_anew levels q may in (h.point, h.legal)

      pub plain_gone : (gone : WorkList Note) → NotesUnder assumed after gone → (levels : List Level) (q : Task) → MaySearch ns levels assumed q before old
          → IsPlain q (search_after ns before) (search_after ns gone)
      plain_gone gone n levels q may =
          plain_under assumed after gone n ns q (search_after ns before) ((b.noted.unbegun ns).begun ∙ ap (λ (s : Search). s.begun) (sym (first_none ns before none))) (plain_anew (Ok tt) b levels q may)

      -- neighbouring bounds have their clauses, and a search may run that goes under what is assumed
      pub begun_search : sat.clauses ≡ p.sat.clauses → sat.seen ≡ p.sat.seen → (log : LogState) (new : SatState Theory) → Excludes p.log sat ids log new → (gone : WorkList Note) → NotesUnder assumed after gone
          → IsBegun ns assumed first old (record p { log = log; sat = new }) ids lits before gone
      begun_search clauses seen log new x gone n =
          let mid : PreparedState = record p { sat = sat } in
          let q : PreparedState = record p { log = log; sat = new } in
          let theory : new.theory ≡ sat.theory = x.theory in
          let here : IsReady ns assumed first old mid ids lits =
          ready_with r mid refl refl clauses seen refl refl refl refl (λ over within. b.over ns over within) (λ levels h. ids_within laws.rows laws.atoms h r.handed) in
          record {
            laws = laws;
            ready = ready_excluded laws here q x refl refl refl refl refl;
            of = subst (λ (t : Theory). IsOf t log.atoms ids) (sym theory) (subst (λ (xs : List Atom). IsOf sat.theory xs ids) (sym x.adds.keeps.atoms) b.of);
            untold = subst (λ (t : Theory). HasTold t []) (sym theory) b.untold;
            notes = goes_under assumed after gone n log.atoms ids (subst (λ (xs : List Atom). AreNotedIn xs after.lines ids) (sym x.adds.keeps.atoms) b.noted.noted);
            learned = learned_under assumed after gone n log ids new.clauses
                (λ ns.
                subst (All (λ (c : List (ℕ × Bool)). (i : ℕ) × Contains (sats.ids new.clauses) i × (map (numbered ids) (literals_at log i) ≡ c))) (sym (b.noted.unbegun ns).learned)
                (λ k d below. absurd (omega (arith, below))));
            neighbours = x.neighbours;
            stands = λ levels q may.
                let h = stands_anew levels q may in
                let u = b.noted.unbegun ns in
                let told : told_literals (search_after ns after) ≡ [] = ap (λ (xs : List ToldLiteral). map (λ (x : ToldLiteral). x.literal) xs) u.told in
                stands_under assumed after gone n laws.goes_on ns q new.theory may.under (λ none. (u.decided, u.learned, u.told)) h.point h.legal
                (subst (λ (t : Theory). IsAt t ns (search_after ns after).forms [] h.point) (sym theory)
                (subst (λ (ms : List Literal). IsAt sat.theory ns (search_after ns after).forms ms h.point) told h.at));
            plain = plain_gone gone n;
          }
