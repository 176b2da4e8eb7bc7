-- The four clauses over two Boolean constants: they list eight terms, so a check of them has at most 52496 units.
use Rattle.std.specs.Prelude.{◌≡◌, ℕ, ◌≤◌, Bool, List, [], ◌∷◌, flat_map}
use Rattle.nz_spec.specs.terms.Term.{disjunction, Term}
use Rattle.nz_spec.specs.terms.Normal.{negated, paired}
use Rattle.nz_spec.specs.terms.Order.{listing_order}
use Rattle.nz_spec.specs.clauses.Gates.{holds}
use Rattle.nz_spec.specs.simplex.Bland.{Point}
use Rattle.nz_spec.specs.search.Work.{DecisionEntry, WorkLine, UnitLine, WorkList, unit_count}
use Rattle.nz_spec.specs.search.Notes.{Note}
use Rattle.nz_spec.specs.search.Search.{Task, Search, literal_by}
use Rattle.nz_spec.specs.search.Legal.{MayFollow, AreLegal, IsSpentLegally}
use Rattle.nz_spec.specs.laws.BooleanWork.{IsBooleanTask, AreAllListed}
use Rattle.nz_spec.specs.worked.TermSamples.{a_term}
use Rattle.nz_spec.specs.worked.TruthTables.{b_term}
use Rattle.nz_spec.specs.worked.WorkedWork.{task_of}

abbrev pub either : Term → Term → Term
either t u = paired disjunction t u

-- one of them is false, whatever `a` and `b` are
abbrev pub four_clauses : List Term
four_clauses = either a_term b_term ∷ either (negated a_term) b_term ∷ either a_term (negated b_term) ∷ either (negated a_term) (negated b_term) ∷ []

abbrev pub eight_terms : List Term
eight_terms =
    a_term ∷ b_term ∷ either a_term b_term ∷ negated a_term ∷ either (negated a_term) b_term ∷ negated b_term ∷ either a_term (negated b_term)
    ∷ either (negated a_term) (negated b_term) ∷ []

abbrev pub clauses_task : Task
clauses_task = task_of four_clauses (flat_map listing_order four_clauses)

-- No search decides one of them.
pub record HasFourClauses : Type 0 where
  pub boolean : IsBooleanTask clauses_task
  pub eight : AreAllListed clauses_task eight_terms
  pub units : (lines : List (WorkLine Note)) → AreLegal clauses_task lines → unit_count lines ≤ 52496
  pub asserted : (s : Search) (x y : Point) (atom : ℕ) (sign side : Bool) → literal_by s.atoms (atom, side) ≡ holds (either a_term b_term)
      → MayFollow clauses_task s x (UnitLine (DecisionEntry atom sign)) y → ⊥
  pub spent : (work : WorkList Note) → IsSpentLegally clauses_task work → work.limit ≤ 52496
