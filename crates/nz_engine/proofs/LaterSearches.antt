-- A later search of a list, from where its atoms are named to where it runs.
use Rattle.std.proofs.Common.{◌≡◌, ℕ, Bool, List, [], ◌∷◌, ◌++◌, length, map, take, Result, Ok, Err, refl, sym, ap, subst, ◌∙◌, arith}
use Rattle.std.specs.Prelude.{All, Contains, IfErr, if◌then◌else◌}
use Rattle.std.proofs.lemmas.List.{take_all, take_at}
use Rattle.std.proofs.lemmas.List.Sums.{sum_by-append}
use Rattle.nz_spec.specs.clauses.Literal.{Literal}
use Rattle.nz_spec.specs.search.Legal.{Lead}
use Rattle.nz_spec.specs.search.Search.{Search, Task, at_first, no_point, told_literals}
use Rattle.nz_spec.specs.search.Work.{NoteLine, WorkLine, WorkList, is_unit, unit_count}
use Rattle.nz_spec.specs.simplex.Bland.{Point}
use Rattle.nz_spec.specs.terms.Form.{Part}
use Rattle.nz_spec.specs.terms.Table.{Node}
use Rattle.nz_log.specs.declared.atoms.Atom.{Atom}
use Rattle.nz_log.specs.declared.lits.Lit.{Lit}
use Rattle.nz_log.specs.Logs.{LogState, literals_at}
use Rattle.nz_term.specs.declared.term_lits.TermLit.{TermLit}
use Rattle.nz_term.specs.TermLits.{AreOfTerms, literal_of}
use Rattle.nz_search.specs.declared.note.Note.{Note}
use Rattle.nz_search.specs.declared.note.Note.TheVariants as notes
use Rattle.nz_search.specs.declared.stop.Stop.{Stop}
use Rattle.nz_search.specs.Notes.{AreNotedWithin, noted_list}
use Rattle.nz_search.specs.Standing.{Stands, search_after}
use Rattle.nz_reals.specs.Knowing.{of_stays}
use Rattle.nz_reals.specs.Stands.{HasTold, IsAt, IsOf, IsOver}
use Rattle.nz_reals.specs.State.{Theory}
use Rattle.nz_sat.specs.Numbers.{AreNotedIn, numbered}
use Rattle.nz_sat.specs.Sats.{SatState}
use Rattle.nz_search.specs.Levels.{Level}
use Rattle.nz_engine.specs.Checking.{EndsWith, HasGoneUnder, HoldsNamed, IsBegun, IsFrom, IsPlain, IsReady, IsSameBut, IsUnderWay, LearnsMore, MayBeNamed, MayLearnMore, MaySearch, NotesUnder, Works, at_start, on_way}
use Rattle.nz_engine.specs.Preparing.{Excludes, PreparedState, ids_held}
use Rattle.nz_engine.specs.SearchLaws.{SearchLaws}
use Rattle.nz_engine.proofs.AtomNotes.{has_gone, learned_under, noted_still, stands_under, under_after, within_append}
use Rattle.nz_engine.proofs.ExclusionClauses.{ready_excluded}
use Rattle.nz_engine.proofs.HeldClauses.{held_still, learned_of, noted_stay}
use Rattle.nz_engine.proofs.SearchAtoms.{ids_within, may_learn_more, ready_with}
use Rattle.nz_engine.proofs.SearchEntry.{covered_still, of_terms}

pub way_of : {ns : List Node} {levels : List Level} {q : Task} {work : WorkList Note} {p : PreparedState} → (work.lines ≡ [] → ⊥) → IsFrom ns levels q work p → IsUnderWay ns levels q work p
way_of some (at_start none rest) = absurd (some none)
way_of some (on_way u) = u

pub ready_first : {ns : List Node} {assumed : List TermLit} {m n : ℕ} {old p : PreparedState} {ids : List ℕ} {lits : List Lit} → m ≡ n → IsReady ns assumed m old p ids lits → IsReady ns assumed n old p ids lits
ready_first {ns} {assumed} {m} {n} {old} {p} {ids} {lits} same r = subst (λ (k : ℕ). IsReady ns assumed k old p ids lits) same r

-- where nothing more is noted
pub way_lead : {ns : List Node} {levels : List Level} {q : Task} {work : WorkList Note} {p : PreparedState} → IsUnderWay ns levels q work p → (x : Point) × Lead q at_first no_point (noted_list ns work).lines x
way_lead u = (u.leads.point, u.leads.legal)

pub way_plain : {ns : List Node} {levels : List Level} {q : Task} {work : WorkList Note} {p : PreparedState} → IsUnderWay ns levels q work p → IsPlain q (search_after ns work) (search_after ns work)
way_plain u = record { atoms = u.atoms; begun = omega arith; found = refl; branches = refl }

pub way_works : {ns : List Node} {levels : List Level} {q : Task} {work : WorkList Note} {p : PreparedState} → IsUnderWay ns levels q work p → Works ns work work
way_works u = record { named = u.within; limit = refl; within = u.units }

-- what is noted may be named before other atoms
pub way_named : {ns : List Node} {levels : List Level} {q : Task} {work : WorkList Note} (p : PreparedState) → IsUnderWay ns levels q work p → MayBeNamed ns p (take (length p.noted) p.noted)
way_named {ns} p u =
    subst (MayBeNamed ns p) (sym (take_all (length p.noted) p.noted (omega arith))) (record { searched = u.named; once = u.once })

module _ (laws : SearchLaws) {ns : List Node} {assumed : List TermLit} {old : PreparedState} (p : PreparedState) {ids : List ℕ} {lits : List Lit} (r : IsReady ns assumed (length old.noted) old p ids lits)
    (same : p.sat.theory ≡ old.sat.theory) (work : WorkList Note) (some : work.lines ≡ [] → ⊥) where
  abbrev from : ℕ
  from = length old.noted

  all_noted : take from old.noted ≡ old.noted
  all_noted = take_all from old.noted (omega arith)

  ids_are : ids ≡ old.noted ++ r.joined
  ids_are = r.behind ∙ ap (λ (xs : List ℕ). xs ++ r.joined) all_noted

  front_is : take from ids ≡ old.noted
  front_is = ap (take from) ids_are ∙ take_at old.noted r.joined from refl

  -- the theory knows the atoms that the list names
  pub front_known : {levels : List Level} {q : Task} → IsUnderWay ns levels q work old → (t : Theory) → ((atoms : List Atom) (is : List ℕ) → IsOf p.sat.theory atoms is → IsOf t atoms is) → IsOf t p.log.atoms (take from ids)
  front_known u t of =
      of p.log.atoms (take from ids)
      (subst (λ (x : Theory). IsOf x p.log.atoms (take from ids)) (sym same)
      (subst (IsOf old.sat.theory p.log.atoms) (sym front_is) (of_stays old.sat.theory old.log.atoms p.log.atoms old.noted u.of r.kept.atoms)))

  -- the theory is told nothing again
  module _ (t : Theory) (untold : HasTold t []) (over : (ns : List Node) → IsOver p.sat.theory ns → IsOver t ns) (of : (atoms : List Atom) (is : List ℕ) → IsOf p.sat.theory atoms is → IsOf t atoms is)
      (at : (ns : List Node) (fs : List (List Part)) (ls : List Literal) (x : Point) → IsAt p.sat.theory ns fs ls x → IsAt t ns fs [] x) (gone : WorkList Note) (n : NotesUnder assumed work gone) where
    stands_gone : (levels : List Level) (q : Task) → MaySearch ns levels assumed q work old → Stands (IsAt t ns) ns q gone
    stands_gone levels q may =
        let u = way_of some may.from in
        let h = u.leads in
        let s = search_after ns work in
        let begun = u.begun in
        stands_under assumed work gone n laws.goes_on ns q t may.under (λ none. absurd (omega (arith, none, begun))) h.point h.legal
        (at ns s.forms (told_literals s) h.point (subst (λ (x : Theory). IsAt x ns s.forms (told_literals s) h.point) (sym same) h.at))

    noted_gone : (levels : List Level) (q : Task) → MaySearch ns levels assumed q work old → AreNotedIn p.log.atoms gone.lines (take from ids)
    noted_gone levels q may =
        let u = way_of some may.from in
        noted_still assumed work gone n p.log.atoms (take from ids)
        (subst (AreNotedIn p.log.atoms work.lines) (sym front_is) (noted_stay old.log.atoms p.log.atoms r.kept.atoms old.noted _ u.noted))

    learns_at : (levels : List Level) (q : Task) → MaySearch ns levels assumed q work old → MayLearnMore ns q p.log.atoms ids from gone
    learns_at levels q may =
        may_learn_more laws.rows laws.atoms (r.posed levels may.posed) r.handed q may.numbering (covered_still laws p r q.listed may.covered) from gone (noted_gone levels q may)

    -- where no more than the note of what it goes under was made
    plain_gone : (levels : List Level) (q : Task) → MaySearch ns levels assumed q work old → IsPlain q (search_after ns work) (search_after ns gone)
    plain_gone levels q may =
        subst (IsPlain q (search_after ns work)) (sym (under_after ns assumed work gone n))
        (record { atoms = (way_of some may.from).atoms; begun = omega arith; found = refl; branches = refl })

    module _ (new : Theory) (after : WorkList Note) (x : Result (Unit {0}) Stop) (l : LearnsMore p.log.atoms ids from t new gone after x) where
      pub plain_more : (levels : List Level) (q : Task) → MaySearch ns levels assumed q work old → IsPlain q (search_after ns work) (search_after ns after)
      plain_more levels q may =
          let h = plain_gone levels q may in
          let s = l.same ns in
          let more = h.begun in
          let count = s.begun in
          record {
            atoms = l.plain ns q (learns_at levels q may) h.atoms;
            begun = omega (arith, more, count);
            found = s.found ∙ h.found;
            branches = s.branches ∙ h.branches;
          }

      pub stops_more : (e : Stop) → x ≡ Err e → (levels : List Level) (q : Task) → MaySearch ns levels assumed q work old → EndsWith ns q after e
      stops_more e is levels q may =
          let f = subst (λ (y : Result (Unit {0}) Stop). IfErr y (λ e. (ns : List Node) (q : Task) → MayLearnMore ns q p.log.atoms ids from gone → Stands (IsAt t ns) ns q gone → EndsWith ns q after e)) is l.stopped in
          f ns q (learns_at levels q may) (stands_gone levels q may)

      pub works_more : (levels : List Level) (q : Task) → MaySearch ns levels assumed q work old → Works ns work after
      works_more levels q may =
          let u = way_of some may.from in
          let line : WorkLine Note = NoteLine (notes.Under n.literals) in
          let counted = λ (y : WorkLine Note). if is_unit y then 1 else 0 in
          let both = sum_by-append counted work.lines (line ∷ []) in
          let first : unit_count gone.lines ≡ unit_count (work.lines ++ line ∷ []) = ap (λ (w : WorkList Note). unit_count w.lines) n.line in
          let second = l.units in
          let limit : after.limit ≡ work.limit = l.limit ∙ ap (λ (w : WorkList Note). w.limit) n.line in
          let few = u.units in
          let posed = r.posed levels may.posed in
          record {
            named = l.within ns (ids_within laws.rows laws.atoms posed r.handed)
                (subst (λ (w : WorkList Note). AreNotedWithin ns w.lines) (sym n.line)
                (within_append ns work.lines (line ∷ []) u.within (subst (AreOfTerms ns) (sym n.items) (of_terms ns assumed posed.assumed_within), tt)));
            limit = limit;
            within = omega (arith, both, first, second, limit, few);
          }

    -- where all are named, the list leads somewhere
    pub lead_more : (new : Theory) (after : WorkList Note) → LearnsMore p.log.atoms ids from t new gone after (Ok tt) → (levels : List Level) (q : Task) → MaySearch ns levels assumed q work old
        → (x : Point) × Lead q at_first no_point (noted_list ns after).lines x
    lead_more new after l levels q may = let h = l.stands ns q (learns_at levels q may) (stands_gone levels q may) in (h.point, h.legal)

    -- the other atoms are named, and neighbouring bounds have their clauses
    module _ (sat : SatState Theory) (after : WorkList Note) (l : LearnsMore p.log.atoms ids from t sat.theory gone after (Ok tt)) (clauses : sat.clauses ≡ p.sat.clauses) (seen : sat.seen ≡ p.sat.seen) (log : LogState) (new : SatState Theory)
        (x : Excludes p.log sat ids log new) (some_way : (levels : List Level) × (q : Task) × MaySearch ns levels assumed q work old) where
      pub begun_later : IsBegun ns assumed from old (record p { log = log; sat = new }) ids lits work after
      begun_later =
          let mid : PreparedState = record p { sat = sat } in
          let q : PreparedState = record p { log = log; sat = new } in
          let theory : new.theory ≡ sat.theory = x.theory in
          let here : IsReady ns assumed from old mid ids lits =
          ready_with r mid refl refl clauses seen refl refl refl refl (λ was within. l.over ns (over ns was) within) (λ levels h. ids_within laws.rows laws.atoms h r.handed) in
          let ready = ready_excluded laws here q x refl refl refl refl refl in
          let way = way_of some some_way.2.from in
          let atoms : log.atoms ≡ p.log.atoms = x.adds.keeps.atoms in
          record {
            laws = laws;
            ready = ready;
            of = subst (λ (u : Theory). IsOf u log.atoms ids) (sym theory) (subst (λ (xs : List Atom). IsOf sat.theory xs ids) (sym atoms) l.of);
            untold = subst (λ (u : Theory). HasTold u []) (sym theory) l.untold;
            notes = record {
              noted = subst (λ (xs : List Atom). AreNotedIn xs after.lines ids) (sym atoms) (l.noted (noted_gone some_way.0 some_way.1 some_way.2));
              under = λ ms. gone_still ms (search_after ms gone) (search_after ms after) (l.same ms) (has_gone assumed work gone n ms);
            };
            learned = λ ms.
                subst (λ (cs : List (List (ℕ × Bool))). All (λ (c : List (ℕ × Bool)). (i : ℕ) × Contains (ids_held new.clauses) i × (map (numbered ids) (literals_at log i) ≡ c)) cs) (sym (l.same ms).learned)
                (learned_under assumed work gone n log ids new.clauses
                (learned_of log ids new.clauses work (subst (λ (is : List ℕ). HoldsNamed log is new.clauses work) (sym ids_are) (held_still old.log log old.noted r.joined old.sat.clauses new.clauses work ready.kept ready.held way.learned))) ms);
            neighbours = x.neighbours;
            stands = λ levels q may.
                subst (λ (u : Theory). Stands (IsAt u ns) ns q after) (sym theory) (l.stands ns q (learns_at levels q may) (stands_gone levels q may));
            plain = plain_more sat.theory after (Ok tt) l;
          }
        where
          gone_still : (ms : List Node) (s u : Search) → IsSameBut s u → HasGoneUnder (map (literal_of ms) assumed) s → HasGoneUnder (map (literal_of ms) assumed) u
          gone_still ms s u same h =
              let count = same.begun in
              let begun = h.begun in
              record { begun = omega (arith, count, begun); under = same.under ∙ h.under; decided = same.decided ∙ h.decided; told = same.told ∙ h.told }
