-- Clauses that stay from one state to another.
use Rattle.std.proofs.Common.{◌≡◌, ℕ, List, ◌++◌, Option, Some, None, map, refl, sym, ap, subst, ◌∙◌}
use Rattle.std.specs.Prelude.{Contains, IsSome, slice_get, unwrap_or}
use Rattle.std.proofs.lemmas.List.Elements.{Contains-append_left}
use Rattle.nz_spec.specs.search.Work.{WorkList}
use Rattle.nz_log.specs.declared.atoms.Atom.{Atom}
use Rattle.nz_log.specs.Logs.{Entry, JoinsAtoms}
use Rattle.nz_cform.specs.Covering.{Keeps}
use Rattle.nz_reals.specs.State.{Theory}
use Rattle.nz_sat.specs.declared.clauses.Held.{Held}
use Rattle.nz_sat.specs.Sats.{SatState, held_of}
use Rattle.nz_search.specs.declared.note.Note.{Note}
use Rattle.nz_search.specs.Levels.{Level}
use Rattle.nz_engine.specs.declared.check.Retained.{Retained}
use Rattle.nz_engine.specs.Keeping.{KeepsClauses, KeepsLowered, Retains}
use Rattle.nz_engine.specs.Preparing.{Excludes, PreparedState}

pub keeps_itself : (p : PreparedState) → KeepsClauses p p
keeps_itself p = record { log = record { clauses = λ i live. refl; atoms = λ i a at. at }; held = λ h has lasts. has }

pub keeps_both : {p q r : PreparedState} → KeepsClauses p q → KeepsClauses q r → KeepsClauses p r
keeps_both x y =
    record {
      log = record {
        clauses = λ i live. y.log.clauses i (subst (λ (o : Option Entry). IsSome o) (sym (x.log.clauses i live)) live) ∙ x.log.clauses i live;
        atoms = λ i a at. y.log.atoms i a (x.log.atoms i a at);
      };
      held = λ h has lasts. y.held h (x.held h has lasts) lasts;
    }

-- where clauses are held behind those that were
pub keeps_joined : {p q : PreparedState} → Keeps p.log q.log → (more : List Held) → q.sat.clauses ≡ p.sat.clauses ++ more → KeepsClauses p q
keeps_joined {p} {q} kept more joined = record { log = kept; held = λ h has lasts. subst (λ (hs : List Held). Contains hs h) (sym joined) (Contains-append_left p.sat.clauses more h has) }

-- where atoms join
pub keeps_named : {p q : PreparedState} → JoinsAtoms p.log q.log → q ≡ record p { log = q.log; noted = q.noted } → KeepsClauses p q
keeps_named {p} {q} joins rest =
    record {
      log = record { clauses = λ i live. ap (λ (es : List (Option Entry)). unwrap_or (slice_get es i) None) joins.entries; atoms = joins.atoms };
      held = λ h has lasts. subst (λ (s : PreparedState). Contains s.sat.clauses h) (sym rest) has;
    }

-- where clauses for neighbouring bounds are held too
pub keeps_excluded : {p q : PreparedState} (sat : SatState Theory) (ids : List ℕ) → sat.clauses ≡ p.sat.clauses → Excludes p.log sat ids q.log q.sat → KeepsClauses p q
keeps_excluded {p} {q} sat ids same x =
    let kept = x.adds.keeps in
    keeps_joined (record { clauses = kept.kept; atoms = λ i a at. subst (λ (xs : List Atom). slice_get xs i ≡ Some a) (sym kept.atoms) at }) (map (held_of q.log) x.ids)
    (x.joined ∙ ap (λ hs. hs ++ map (held_of q.log) x.ids) same)

-- ---- Of what is kept

pub lowered_then : {levels : List Level} {k : Retained} {p q : PreparedState} → KeepsLowered levels k p → KeepsClauses p q → KeepsLowered levels k q
lowered_then x y = record { low = x.low; lowered = x.lowered; keeps = keeps_both x.keeps y }

pub retains_then : {levels : List Level} {work : WorkList Note} {k : Retained} {p q : PreparedState} → Retains levels work k p → KeepsClauses p q → Retains levels work k q
retains_then x y = record { anew = λ none. lowered_then (x.anew none) y; on = λ some. keeps_both (x.on some) y }
