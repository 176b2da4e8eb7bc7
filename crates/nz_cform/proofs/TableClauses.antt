-- Clauses of the tables of a term are put, one after another.
use Rattle.std.proofs.Common.{◌≡◌, ℕ, ◌<◌, inl, inr, List, [], ◌∷◌, ◌++◌, length, Some, sym, ap, subst, ◌∙◌, arith}
use Rattle.std.proofs.lemmas.List.{length-map}
use Rattle.nz_spec.specs.clauses.Gates.{HasBooleanArguments}
use Rattle.nz_spec.specs.terms.Table.{Node, IsTable, term_in}
use Rattle.nz_spec.specs.terms.Taken.{IsTaken, TakenTermsAreInOrder}
use Rattle.nz_log.specs.Logs.{Entry, JoinsAtoms, LogState, Puts, row_term}
use Rattle.nz_log.specs.Sound.{GatesAreNamed, IsLog}
use Rattle.nz_rows.specs.GateRows.{gates_at}
use Rattle.nz_term.specs.TermLits.{clause_of_terms}
use Rattle.nz_cform.specs.Covering.{AddsRows, GoesOn}
use Rattle.nz_cform.proofs.Added.{adds_none, adds_one, adds_twice, goes_joined, goes_nowhere, goes_put, goes_twice}

-- a taken term that has gates is over Boolean terms
pub has_booleans : TakenTermsAreInOrder → GatesAreNamed → (ns : List Node) → IsTable ns → (t j : ℕ) → t < length ns → IsTaken (term_in ns t) → j < length (gates_at ns t)
    → HasBooleanArguments (term_in ns t)
has_booleans law named ns table t j within taken inside =
    elim (law.gates (term_in ns t) taken) [
      | inl none ↦
          let long : length (gates_at ns t) ≡ 0 = sym (length-map (gates_at ns t) (clause_of_terms ns)) ∙ ap length (named ns table t within ∙ none) in
          absurd (omega (arith, inside))
      | inr boolean ↦ boolean
    ]

-- The clauses so far were put, and their numbers are told.
pub record IsAdding (ns : List Node) (term : ℕ) (first : LogState) (before : List ℕ) (log : LogState) (ids : List ℕ) : Type 0 where
  pub goes : GoesOn ns first log
  pub adds : AddsRows term first before log ids

pub none_adding : (ns : List Node) (term : ℕ) (log : LogState) (ids : List ℕ) → IsAdding ns term log ids log ids
none_adding ns term log ids = record { goes = goes_nowhere ns log; adds = adds_none term log ids }

module _ (ns : List Node) (term : ℕ) (first : LogState) (before : List ℕ) (old : LogState) (ids : List ℕ) (adding : IsAdding ns term first before old ids) (new : LogState)
    (sound : (levels : List (List ℕ)) → IsLog ns levels old → IsLog ns levels new) where
  -- where a clause wasn't put
  pub not_put : JoinsAtoms old new → GoesOn ns first new
  not_put joins = goes_twice ns first old new adding.goes (goes_joined ns old new joins sound)

  module _ (id : ℕ) (e : Entry) (puts : Puts old id e new) where
    -- and where it was
    pub was_put : GoesOn ns first new
    was_put = goes_twice ns first old new adding.goes (goes_put ns old new id e puts sound)

    -- and its number is told
    pub one_adding : row_term e.origin ≡ Some term → (after : List ℕ) → after ≡ ids ++ id ∷ [] → IsAdding ns term first before new after
    one_adding row after told =
        record {
          goes = was_put;
          adds = subst (AddsRows term first before new) (sym told)
              (adds_twice first old new (goes_put ns old new id e puts sound).keeps term before ids (ids ++ id ∷ []) adding.adds (adds_one old new id e puts term row ids));
        }
