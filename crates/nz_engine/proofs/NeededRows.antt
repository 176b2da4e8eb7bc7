-- Rows that are held stay held, and each needs a true literal always, or where the term has a truth that it is about.
use Rattle.std.proofs.Common.{◌≡◌, ℕ, List, ◌++◌, Option, Some, None, refl, sym, ap, subst, ◌∙◌}
use Rattle.std.specs.Prelude.{Contains, option_map, slice_get}
use Rattle.std.proofs.lemmas.List.Elements.{Contains-append_left}
use Rattle.nz_log.specs.declared.atoms.Atom.{Atom}
use Rattle.nz_log.specs.declared.atoms.Atom.TheVariants.{Term}
use Rattle.nz_log.specs.declared.origins.Subject.{Subject}
use Rattle.nz_log.specs.declared.origins.Subject.TheVariants.{Itself, Truth}
use Rattle.nz_log.specs.Atoms.{AtomsOfTerms, term_place}
use Rattle.nz_log.specs.Axioms.{link_of, unit_of, farkas_of, branch_of, cut_of}
use Rattle.nz_log.specs.Logs.{Entry, LogState, Origin, assertion_of, gate_of, axiom_of, chain_of, entry_at, row_term, subject_at, subject_of}
use Rattle.nz_cform.specs.Covering.{IsRowAt, origin_at}
use Rattle.nz_sat.specs.declared.clauses.Held.{Held}
use Rattle.nz_sat.specs.declared.clauses.Need.{Need}
use Rattle.nz_sat.specs.declared.clauses.Need.TheVariants.{Always, Never, Of}
use Rattle.nz_sat.specs.Sats.{added_as, need_at, need_by}
use Rattle.nz_engine.specs.Preparing.{HoldsRow, MayNeed}

-- what a clause is about comes of how it was made
pub subject_is : (log : LogState) (i : ℕ) (o : Origin) → origin_at log i ≡ Some o → subject_at log i ≡ subject_of o
subject_is log i o made = of_entry (entry_at log i) made
  where
    of_entry : (e : Option Entry) → option_map (λ (x : Entry). x.origin) e ≡ Some o → elim e [ None ↦ Itself | Some x ↦ subject_of x.origin ] ≡ subject_of o
    of_entry None h = cc
    of_entry (Some x) h = let same : x.origin ≡ o = cc in ap subject_of same

-- a row needs a true literal as it may
pub row_may : AtomsOfTerms → (log : LogState) (i t : ℕ) → IsRowAt log i t → MayNeed log i (need_at log i)
row_may own log i t row = by_origin row.0 (subject_is log i row.0 row.1) row.2
  where
    of_atom : (u : ℕ) → subject_at log i ≡ Truth u → (o : Option Atom) → slice_get log.atoms (term_place log.atoms u) ≡ o
        → MayNeed log i (elim o [ None ↦ Always | Some a ↦ Of (term_place log.atoms u) ])
    of_atom u about None at = tt
    of_atom u about (Some a) at = (u, about, at ∙ ap Some (own.only log.atoms u a at))

    by_subject : (s : Subject) → subject_at log i ≡ s → MayNeed log i (need_by log s) → MayNeed log i (need_at log i)
    by_subject s is may = subst (λ (x : Subject). MayNeed log i (need_by log x)) (sym is) may

    by_origin : (o : Origin) → subject_at log i ≡ subject_of o → row_term o ≡ Some t → MayNeed log i (need_at log i)
    by_origin (assertion_of k) is r = cc
    by_origin (gate_of u j) is r = by_subject Itself is tt
    by_origin (axiom_of (link_of u j)) is r = by_subject (Truth u) is (of_atom u is (slice_get log.atoms (term_place log.atoms u)) refl)
    by_origin (axiom_of (unit_of u j)) is r = by_subject Itself is tt
    by_origin (axiom_of (farkas_of ms)) is r = cc
    by_origin (axiom_of (branch_of l)) is r = cc
    by_origin (axiom_of (cut_of ms)) is r = cc
    by_origin (chain_of first ks) is r = cc

-- where a clause stays as it is, and atoms keep their numbers
module _ (old new : LogState) (i : ℕ) (entry : entry_at new i ≡ entry_at old i) (atoms : (a : ℕ) (x : Atom) → slice_get old.atoms a ≡ Some x → slice_get new.atoms a ≡ Some x) where
  pub added_still : (need : Need) → added_as need new i ≡ added_as need old i
  added_still need = ap (λ (o : Option Entry). let x : Held = record { id = i; level = elim o [ None ↦ 0 | Some e ↦ e.level ]; need = need; glue = 0 } in x) entry

  pub may_still : (need : Need) → MayNeed old i need → MayNeed new i need
  may_still Always may = tt
  may_still (Of a) may =
      (may.0, ap (λ (o : Option Entry). elim o [ None ↦ Itself | Some e ↦ subject_of e.origin ]) entry ∙ may.1, atoms a (Term may.0) may.2)
  may_still Never may = may

  -- its row is held among more clauses
  pub row_still : (hs more : List Held) → HoldsRow old hs i → HoldsRow new (hs ++ more) i
  row_still hs more r =
      record {
        need = r.need;
        may = may_still r.need r.may;
        has = Contains-append_left hs more (added_as r.need new i) (subst (Contains hs) (sym (added_still r.need)) r.has);
      }

-- a row that is about the truth of a term is one of that
pub about_term : (o : Origin) (t u : ℕ) → row_term o ≡ Some t → subject_of o ≡ Truth u → t ≡ u
about_term (assertion_of k) t u r is = cc
about_term (gate_of w j) t u r is = cc
about_term (axiom_of (link_of w j)) t u r is = cc
about_term (axiom_of (unit_of w j)) t u r is = cc
about_term (axiom_of (farkas_of ms)) t u r is = cc
about_term (axiom_of (branch_of l)) t u r is = cc
about_term (axiom_of (cut_of ms)) t u r is = cc
about_term (chain_of first ks) t u r is = cc
