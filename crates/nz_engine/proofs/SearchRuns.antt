-- A search that has begun runs: what it is handed, and what comes of it.
use Rattle.std.proofs.Common.{◌≡◌, ℕ, List, Option, Some, None, Result, IfOk, OnOk, refl, sym, ap, subst, ◌∙◌, Ok, Err, IfErr, arith, map}
use Rattle.std.specs.Prelude.{All, IfSome}
use Rattle.std.proofs.lemmas.Result.{IfOk-weaker}
use Rattle.nz_lists.proofs.Results.{on_ok}
use Rattle.nz_spec.specs.terms.Table.{Node}
use Rattle.nz_spec.specs.search.Work.{WorkList}
use Rattle.nz_spec.specs.search.Search.{Task}
use Rattle.nz_log.specs.declared.lits.Lit.{Lit}
use Rattle.nz_search.specs.declared.note.Note.{Note}
use Rattle.nz_search.specs.declared.stop.Stop.{Stop}
use Rattle.nz_search.specs.declared.stop.Stop.TheVariants.{Wide, Spent, Memory}
use Rattle.nz_term.specs.declared.term_lits.TermLit.{TermLit}
use Rattle.nz_log.specs.Leveled.{AreToldAtoms}
use Rattle.nz_log.specs.Logs.{IsLive, LogState, literals_at}
use Rattle.nz_log.specs.Sound.{IsLog}
use Rattle.nz_search.specs.Standing.{Ends, Stands, search_after}
use Rattle.nz_search.specs.Verdicts.{OnSpent}
use Rattle.nz_term.specs.TermLits.{AreConsistent, AreNegations, literal_of}
use Rattle.nz_log.specs.Growth.{Grows}
use Rattle.nz_reals.specs.Exclusions.{HasNeighbours}
use Rattle.nz_reals.specs.Stands.{HasTold, IsAt, IsFeasible, IsOf, IsOver}
use Rattle.nz_reals.specs.State.{Theory}
use Rattle.nz_sat.specs.Conflicts.{Refutes}
use Rattle.nz_sat.specs.Numbers.{AreNotedIn, IsAtomAt, noted_atoms}
use Rattle.nz_sat.specs.Sats as sat
use Rattle.nz_sat.specs.Sats.{AreNamed, AreOn, AreSameSince, HoldsLearned, HoldsMore, IsAsked, IsSameSearch, IsSatisfied, IsTheoryMet, SatState, TellsTrue}
use Rattle.nz_search.specs.Asked.{NamesParts}
use Rattle.nz_search.specs.Levels.{Level, asserted_by_level}
use Rattle.nz_engine.specs.Checking.{HasFound, HoldsNamed, IsAllTold, IsBegun, IsPosed, IsUnderWay, MaySearch, EndsWith, IsPlain, IsPlainAtom, Works}
use Rattle.nz_engine.specs.Engines.{literals_in}
use Rattle.nz_engine.specs.Preparing.{BeganExcluded, IsSearched, IsSeen, PreparedState, ids_held}
use Rattle.nz_engine.proofs.RefutedAssumptions.{refuted_by}
use Rattle.nz_engine.proofs.SearchAtoms.{are_consistent, are_named, found_of, ids_still, ids_told, ids_within, is_asked, named_have, named_ids, named_lits, named_searched, posed_after}
use Rattle.nz_engine.proofs.AtomNotes.{ends_stopped}
use Rattle.nz_engine.proofs.HeldClauses.{named_learned, noted_stay}
use Rattle.nz_engine.proofs.MoreAtoms.{named_as}
use Rattle.nz_engine.proofs.PartsNamed.{parts_named}
use Rattle.nz_engine.proofs.SearchEntry.{covered_still}
use Rattle.nz_engine.proofs.SeenClauses.{seen_held}
use Rattle.nz_reals.specs.Knowing.{of_stays}
use Rattle.nz_spec.specs.clauses.Literal.{StandOnce}
use Rattle.nz_log.specs.declared.atoms.Atom.{Atom}

-- the same of what the names stand for
pub begun_as : {ns : List Node} {assumed : List TermLit} {first : ℕ} {old p q : PreparedState} {ids xs : List ℕ} {lits ls : List Lit} {before work : WorkList Note} → p ≡ q → ids ≡ xs → lits ≡ ls
    → IsBegun ns assumed first old q xs ls before work → IsBegun ns assumed first old p ids lits before work
begun_as {ns} {assumed} {first} {old} {p} {q} {ids} {xs} {lits} {ls} {before} {work} view same_ids same_lits begun =
    subst (λ (s : PreparedState). IsBegun ns assumed first old s ids lits before work) (sym view)
    (subst (λ (is : List ℕ). IsBegun ns assumed first old q is lits before work) (sym same_ids)
    (subst (λ (ms : List Lit). IsBegun ns assumed first old q xs ms before work) (sym same_lits) begun))

each_stands : (ns : List Node) (May : List Level → Task → Type 0) (Is : List Level → Task → Type 0) (work : WorkList Note) (t : Theory) (r : Result (Option ℕ) Stop)
    → ((levels : List Level) (q : Task) → May levels q → Ends (IsAt t ns) ns q work r) → ((levels : List Level) (q : Task) → May levels q → Stands (IsAt t ns) ns q work → Is levels q)
    → OnOk r ((levels : List Level) (q : Task) → May levels q → Is levels q)
each_stands ns May Is work t (Ok o) f g = λ levels q may. g levels q may (f levels q may)
each_stands ns May Is work t (Err e) f g = tt

on_spent : (P : Type 0) (r : Result (Option ℕ) Stop) → P → IfErr r (λ e. OnSpent e P)
on_spent P (Ok o) h = tt
on_spent P (Err (Wide place)) h = tt
on_spent P (Err Spent) h = h
on_spent P (Err Memory) h = tt

each_stopped : (ns : List Node) (May : List Level → Task → Type 0) (work : WorkList Note) (t : Theory) (r : Result (Option ℕ) Stop)
    → ((levels : List Level) (q : Task) → May levels q → Ends (IsAt t ns) ns q work r) → IfErr r (λ e. (levels : List Level) (q : Task) → May levels q → EndsWith ns q work e)
each_stopped ns May work t (Ok o) f = tt
each_stopped ns May work t (Err e) f = λ levels q may. ends_stopped (Option ℕ) (IsAt t ns) ns q work e (f levels q may)

module _ {ns : List Node} {assumed : List TermLit} {first : ℕ} {old p : PreparedState} {ids : List ℕ} {lits : List Lit} {before work : WorkList Note} (b : IsBegun ns assumed first old p ids lits before work) where
  pub search_named : AreNamed p.log p.sat.clauses lits ids
  search_named = are_named b.laws.rows b.laws.atoms b.ready.some.1 b.ready.handed

  pub search_told_terms : AreToldAtoms p.log ids
  search_told_terms = ids_told b.laws.rows b.laws.atoms b.ready.some.1 b.ready.handed

  pub search_since : IsSeen p
  search_since = b.ready.some.1.standing.raised.seen

  pub search_consistent : AreConsistent assumed → sat.AreConsistent lits
  search_consistent apart = are_consistent b.laws.rows b.laws.atoms b.ready.some.1 b.ready.handed apart

  -- nothing is decided or told, and what was learned before is held
  pub search_begun : sat.HasBegun p.log ids p.sat.clauses work
  search_begun = record { decided = λ ms. (b.notes.under ms).decided; told = λ ms. (b.notes.under ms).told; learned = b.learned }

  -- what comes of it
  module _ (log : LogState) (new : SatState Theory) (after : WorkList Note) (result : Result (Option ℕ) Stop) (grows : Grows p.log log) where
    abbrev q : PreparedState
    q = record p { log = log; sat = new }

    own : ids ≡ q.noted
    own = named_ids b.laws.rows b.laws.atoms b.ready.some.1 b.ready.handed q grows refl refl

    posed_then : HoldsMore log p.sat.clauses new.clauses → new.seen ≡ Some log → AreOn log ids new.clauses
        → ((ns : List Node) (levels : List (List ℕ)) → IsOver p.sat.theory ns → All (IsAtomAt ns p.log.atoms) ids → IsLog ns levels p.log → IsLog ns levels log)
        → ((ns : List Node) → IsOver p.sat.theory ns → IsOver new.theory ns) → (levels : List Level) → IsPosed ns levels assumed old → IsPosed ns levels assumed q
    posed_then held sees on sound over levels posed =
        let begun = b.ready.posed levels posed in
        let seen : IsSeen q = subst (λ (s : Option LogState). AreSameSince s log new.clauses) (sym sees) (seen_held log new.clauses held.held) in
        posed_after b.laws.atoms b.laws.covers b.ready q refl refl refl refl levels grows (record { also = held.learned; joined = held.joined; held = held.held }) seen (named_searched b.laws.rows b.laws.atoms begun b.ready.handed q grows refl refl on)
        (sound ns (asserted_by_level levels) begun.over (ids_within b.laws.rows b.laws.atoms begun b.ready.handed)) (over ns) begun

    pub search_posed : HoldsMore log p.sat.clauses new.clauses → new.seen ≡ Some log → AreOn log ids new.clauses
        → ((ns : List Node) (levels : List (List ℕ)) → IsOver p.sat.theory ns → All (IsAtomAt ns p.log.atoms) ids → IsLog ns levels p.log → IsLog ns levels log)
        → ((ns : List Node) → IsOver p.sat.theory ns → IsOver new.theory ns) → OnOk result ((levels : List Level) → IsPosed ns levels assumed old → IsPosed ns levels assumed q)
    search_posed held sees on sound over = on_ok result (posed_then held sees on sound over)

    pub search_refuted : IfOk result (λ o. IfSome o (λ id. IsLive log id × Refutes lits (literals_at log id))) → IfOk result (λ o. IfSome o (λ id. AreNegations assumed (literals_in log id)))
    search_refuted h =
        refuted_by log assumed (named_have b.laws.rows b.laws.atoms b.ready.some.1 b.ready.handed q grows refl refl).named result
        (subst (λ (ls : List Lit). IfOk result (λ o. IfSome o (λ id. IsLive log id × Refutes ls (literals_at log id)))) (named_lits b.laws.rows b.laws.atoms b.ready.some.1 b.ready.handed q grows refl refl) h)

    pub search_excluded : HoldsMore log p.sat.clauses new.clauses → OnOk result (BeganExcluded ns q)
    search_excluded held =
        on_ok result
        (record {
          theory = p.sat.theory;
          untold = b.untold;
          log = p.log;
          of = subst (λ (is : List ℕ). IsOf p.sat.theory p.log.atoms is) own b.of;
          held = p.sat.clauses;
          neighbours = subst (λ (is : List ℕ). HasNeighbours p.sat.theory p.log is (ids_held p.sat.clauses)) own b.neighbours;
          grown = grows;
          learned = held;
        })

    -- where one more unit was wanted, it goes under the assumed literals
    pub search_under : ((ns : List Node) → IsSameSearch (search_after ns work) (search_after ns after))
        → IfErr result (λ e. OnSpent e ((search_after ns after).under ≡ map (literal_of ns) assumed))
    search_under stays = on_spent ((search_after ns after).under ≡ map (literal_of ns) assumed) result ((stays ns).under ∙ (b.notes.under ns).under)

    -- no atom more, and no search more
    pub search_plain : ((ns : List Node) → IsSameSearch (search_after ns work) (search_after ns after)) → (levels : List Level) (t : Task) → MaySearch ns levels assumed t before old
        → IsPlain t (search_after ns before) (search_after ns after)
    search_plain stays levels t may =
        let h = b.plain levels t may in
        let s = stays ns in
        let count = s.begun in
        let more = h.begun in
        record { atoms = subst (All (IsPlainAtom t)) (sym s.atoms) h.atoms; begun = omega (arith, count, more); found = s.found ∙ h.found; branches = s.branches ∙ h.branches }

    -- what was added is named
    pub search_parts : ((ns : List Node) → IsSameSearch (search_after ns work) (search_after ns after)) → OnOk result ((levels : List Level) → IsPosed ns levels assumed old → NamesParts ns levels (search_after ns after))
    search_parts stays =
        on_ok result
        (λ levels posed.
        parts_named b.laws.node (b.ready.posed levels posed) b.ready.handed (search_after ns after) ((stays ns).atoms ∙ named_as ns p.log.atoms work ids b.notes.noted))

    module _ (ends : (levels : List (List ℕ)) (t : Task) → IsOver p.sat.theory ns → IsAsked ns levels p.log p.sat.clauses ids lits work t → Stands (IsAt p.sat.theory ns) ns t work → Ends (IsAt new.theory ns) ns t after result) where
      search_ends : (levels : List Level) (t : Task) → MaySearch ns levels assumed t before old → Ends (IsAt new.theory ns) ns t after result
      search_ends levels t may =
          let begun = b.ready.posed levels may.posed in
          ends (asserted_by_level levels) t begun.over (is_asked b.laws.rows b.laws.atoms begun b.ready.handed b.laws.tells t work may.asserted (b.notes.under ns).under) (b.stands levels t may)

      pub search_stopped : IfErr result (λ e. (levels : List Level) (t : Task) → MaySearch ns levels assumed t before old → EndsWith ns t after e)
      search_stopped = each_stopped ns (λ levels t. MaySearch ns levels assumed t before old) after new.theory result search_ends

      -- the list is under way
      pub search_under_way : HoldsMore log p.sat.clauses new.clauses → AreOn log ids new.clauses → HoldsLearned log ids new.clauses after → ((all : List Atom) (is : List ℕ) → IsOf p.sat.theory all is → IsOf new.theory all is)
          → noted_atoms after.lines ≡ noted_atoms work.lines → ((ns : List Node) → IsSameSearch (search_after ns work) (search_after ns after)) → Works ns before after
          → OnOk result ((levels : List Level) (t : Task) → MaySearch ns levels assumed t before old → IsUnderWay ns levels t after q)
      search_under_way held on learned of same stays works =
          each_stands ns (λ levels t. MaySearch ns levels assumed t before old) (λ levels t. IsUnderWay ns levels t after q) after new.theory result search_ends
          (λ levels t may stands.
          let begun = b.ready.posed levels may.posed in
          let n = b.ready.handed in
          let noted : AreNotedIn log.atoms after.lines ids = noted_stay p.log.atoms log.atoms grows.atoms ids _ b.notes.noted ∙ ap (map Some) (sym same) in
          let way : HoldsNamed log ids new.clauses after = named_learned log ids new.clauses after held.held on learned in
          record {
            noted = subst (λ (is : List ℕ). AreNotedIn log.atoms after.lines is) own noted;
            learned = subst (λ (is : List ℕ). HoldsNamed log is new.clauses after) own way;
            of = subst (λ (is : List ℕ). IsOf new.theory log.atoms is) own (of_stays new.theory p.log.atoms log.atoms ids (of p.log.atoms ids b.of) grows.atoms);
            named = subst (All (IsSearched ns log p.form)) own (ids_still b.laws.rows b.laws.atoms begun n q grows refl refl);
            once = subst StandOnce own n.numbers.once;
            all = record { given = begun.all.given; numbered = begun.all.numbered };
            within = works.named;
            units = works.within;
            covered = covered_still b.laws p b.ready t.listed may.covered;
            atoms = (search_plain stays levels t may).atoms;
            begun = let some = (b.notes.under ns).begun in let count = (stays ns).begun in omega (arith, some, count);
            leads = stands;
          })

      pub search_found : (levels : List Level) (t : Task) → MaySearch ns levels assumed t before old → IsOf new.theory p.log.atoms ids
          → IfOk result (λ o. o ≡ None → IsSatisfied log new lits) → IfOk result (λ o. o ≡ None → IsTheoryMet log (HasTold new.theory) (IsFeasible new.theory) new ids)
          → IfOk result (λ o. o ≡ None → HasFound ns assumed q)
      search_found levels t may of satisfied feasible =
          found_of b.laws.rows b.laws.atoms b.ready.some.1 b.ready.handed q grows refl refl of t after result satisfied feasible (search_ends levels t may)

    -- each bound that is true was told
    pub search_told : ((ns : List Node) → IsSameSearch (search_after ns work) (search_after ns after)) → IfOk result (λ o. o ≡ None → (ns : List Node) → TellsTrue ns log new ids (search_after ns after))
        → IfOk result (λ o. o ≡ None → IsAllTold ns assumed q (search_after ns after))
    search_told stays told =
        IfOk-weaker result _ _
        (λ o tells none. record { under = (stays ns).under ∙ (b.notes.under ns).under; tells = subst (λ (is : List ℕ). TellsTrue ns log new is (search_after ns after)) own (tells none ns) }) told
