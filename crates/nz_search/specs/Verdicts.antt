-- The answers to a check, by cases, and what a check is about.
use Rattle.std.specs.Prelude.{⊤, ℕ, List, [], ◌++◌, map, flat_map}
use Rattle.nz_spec.specs.terms.Term as spec
use Rattle.nz_spec.specs.terms.Table.{Node, term_in}
use Rattle.nz_spec.specs.terms.Order.{listing_order}
use Rattle.nz_spec.specs.search.Decide.{asserted_terms}
use Rattle.nz_spec.specs.terms.FormOf.{number_in}
use Rattle.nz_spec.specs.search.Search.{Task}
use Rattle.nz_search.specs.declared.decide.Verdict.{Verdict}
use Rattle.nz_search.specs.declared.decide.Verdict.TheVariants.{Sat, Unsat}
use Rattle.nz_search.specs.declared.stop.Stop.{Stop}
use Rattle.nz_search.specs.declared.stop.Stop.TheVariants.{Wide, Spent, Memory}
use Rattle.nz_search.specs.Levels.{Level, added_by_level, asserted_by_level}
use Rattle.nz_term.specs.declared.term_lits.TermLit.{TermLit}
use Rattle.nz_term.specs.TermLits.{literal_of}

-- the fact of the assignment that was found
abbrev pub IfSat : Verdict → (List (ℕ × spec.Value) → Type 0) → Type 0
IfSat (Sat assign) P = P assign
IfSat (Unsat id) P = ⊤

-- the fact of the clause that was derived
abbrev pub IfUnsat : Verdict → (ℕ → Type 0) → Type 0
IfUnsat (Sat assign) P = ⊤
IfUnsat (Unsat id) P = P id

-- the fact where there is no assignment
abbrev pub OnUnsat : Verdict → Type 0 → Type 0
OnUnsat (Sat assign) P = ⊤
OnUnsat (Unsat id) P = P

-- the fact where every unit was used
abbrev pub OnSpent : Stop → Type 0 → Type 0
OnSpent Spent P = P
OnSpent (Wide place) P = ⊤
OnSpent Memory P = ⊤

-- What a search is asked: of the asserted terms and the assumed literals, and of all that these and the other terms that were added are made of. The searches
-- before were asked of the earlier terms.
abbrev pub task_in : List Node → List Level → List TermLit → List spec.Term → Task
task_in ns levels assumed earlier = record {
  asserted = asserted_terms ns (asserted_by_level levels);
  assumed = map (literal_of ns) assumed;
  goals = [];
  groups = [];
  listed = flat_map listing_order (asserted_terms ns (added_by_level levels) ++ map (λ (l : TermLit). term_in ns l.term) assumed);
  numbering = number_in ns;
  earlier = earlier;
  earlier_goals = [];
}
